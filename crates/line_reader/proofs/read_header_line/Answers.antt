use Rattle.spelling.specs.LineReading.{header_numbers, read_header_line}
use mathlib.Core.Path.{sym, ◌∙◌}
use native.Mathlib.Omega.{arith}
use Rattle.text.specs.Text.{text}
use Rattle.scan.specs.laws.ReadBack.{word_inside, named_spelt}
use Rattle.line_reader.proofs.read_header_line.Goals as goal

pub returns-in_err-n : goal.returns-in_err-n
unfolding text read_header_line
returns-in_err-n c = simp (sym c.read_named.ensures ∙ c.in_err-n.was) c.from_residual.ensures

pub read_named-requires-2 : goal.read_named-requires-2
read_named-requires-2 c = (named_spelt _ _ _ _ _ (sym c.read_named.ensures ∙ c.in_ok-n.was)).inside

pub returns-in_err-c : goal.returns-in_err-c
unfolding text read_header_line
returns-in_err-c c = simp (sym c.read_named.ensures ∙ c.in_ok-n.was, sym c.read_named-2.ensures ∙ c.in_err-c.was) c.from_residual-in_err-c.ensures

pub read_named-requires-3 : goal.read_named-requires-3
read_named-requires-3 c = (named_spelt _ _ _ _ _ (sym c.read_named-2.ensures ∙ c.in_ok-c.was)).inside

pub returns-in_err-a : goal.returns-in_err-a
unfolding text read_header_line
returns-in_err-a c = simp (sym c.read_named.ensures ∙ c.in_ok-n.was, sym c.read_named-2.ensures ∙ c.in_ok-c.was, sym c.read_named-3.ensures ∙ c.in_err-a.was) c.from_residual-in_err-a.ensures

pub read_named-requires-4 : goal.read_named-requires-4
read_named-requires-4 c = (named_spelt _ _ _ _ _ (sym c.read_named-3.ensures ∙ c.in_ok-a.was)).inside

pub returns-in_err-w : goal.returns-in_err-w
unfolding text read_header_line
returns-in_err-w c = simp (sym c.read_named.ensures ∙ c.in_ok-n.was, sym c.read_named-2.ensures ∙ c.in_ok-c.was, sym c.read_named-3.ensures ∙ c.in_ok-a.was, sym c.read_named-4.ensures ∙ c.in_err-w.was) c.from_residual-in_err-w.ensures

pub word_at-requires : goal.word_at-requires
word_at-requires c = (named_spelt _ _ _ _ _ (sym c.read_named-4.ensures ∙ c.in_ok-w.was)).inside

pub returns-then-not-word_at : goal.returns-then-not-word_at
unfolding text read_header_line
returns-then-not-word_at c = simp (sym c.read_named.ensures ∙ c.in_ok-n.was, sym c.read_named-2.ensures ∙ c.in_ok-c.was, sym c.read_named-3.ensures ∙ c.in_ok-a.was, sym c.read_named-4.ensures ∙ c.in_ok-w.was, sym c.word_at.ensures ∙ c.if-not-word_at.true)

pub overflow_add-result : goal.overflow_add-result
overflow_add-result c = let h = word_inside _ c.args.text.now _ (named_spelt _ _ _ _ _ (sym c.read_named-4.ensures ∙ c.in_ok-w.was)).inside (sym c.word_at.ensures ∙ c.if-not-word_at.false) in omega (arith, c.well_formed)

pub returns : goal.returns
unfolding text read_header_line header_numbers
returns c = simp (sym c.read_named.ensures ∙ c.in_ok-n.was, sym c.read_named-2.ensures ∙ c.in_ok-c.was, sym c.read_named-3.ensures ∙ c.in_ok-a.was, sym c.read_named-4.ensures ∙ c.in_ok-w.was, sym c.word_at.ensures ∙ c.if-not-word_at.false)
