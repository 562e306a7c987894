use native.Mathlib.Omega.{arith}
use mathlib.Core.Path.{◌≡◌, ap, sym, ◌∙◌}
use mir.Val.{bool_byte}
use Rattle.std.proofs.Common.{le-leb}
use Rattle.std.proofs.lemmas.Bool.{lt-leb}
use Rattle.text.specs.laws.DecimalLaws.{by_unit, no_digit, a_digit}
use Rattle.text.proofs.digit_length.Goals as goal

pub returns : goal.returns
returns c =
    by_unit c.args.unit c.args.x
    (λ h. let e : c.from.result ≡ 1 = c.from.ensures ∙ ap bool_byte (le-leb c.args.unit c.args.x h) in
    (e ∙ sym (a_digit c.args.unit c.args.x h), omega arith))
    (λ h. let e : c.from.result ≡ 0 = c.from.ensures ∙ ap bool_byte (lt-leb c.args.unit c.args.x h) in
    (e ∙ sym (no_digit c.args.unit c.args.x h), omega arith))
