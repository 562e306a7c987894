use native.Mathlib.Omega.{arith}
use Rattle.std.proofs.Common.{◌≡◌, ◌+◌, refl, ◌∙◌}
use Rattle.command.specs.declared.Command.TheVariants as Command·
use Rattle.spelling.specs.Spelling.{command_bytes}
use Rattle.spelling.specs.Ranges.{InRange}
use Rattle.spelling.specs.Script.{spelled_by}
use Rattle.text.specs.laws.PageLaws.{nothing}
use Rattle.quiet.specs.laws.QuietLaws.{each, each-more}
use Rattle.quiet.proofs.exchange.put_each.Goals as goal

pub loop-k-init : goal.loop-k-init
unfolding spelled_by each
loop-k-init g c = record { value = omega arith; length_kept = refl; put = λ rule follows. nothing _ }

pub put_command-requires : goal.put_command-requires
unfolding InRange command_bytes
put_command-requires g c = (c.requires.in_range (c.loop-k.k + 1) c.delivery.result (omega arith) c.delivery.ensures, omega arith)

pub loop-k-preserved : goal.loop-k-preserved
unfolding command_bytes
loop-k-preserved g c =
    let w = c.put_command.ensures in
    record {
      value = omega (arith, w.written.ends);
      length_kept = w.length-is ∙ c.loop-k.invariant.length_kept;
      put = λ rule follows. each-more rule _ (Command·.Deliver c.delivery.result) (follows (c.loop-k.k + 1) c.delivery.result c.delivery.ensures) (c.loop-k.invariant.put rule follows) w;
    }

pub returns-clause-put : goal.returns-clause-put
returns-clause-put g c = let e : c.loop-k.k ≡ c.args.others = omega arith in λ rule follows. rw (← e) (c.loop-k.invariant.put rule follows)
