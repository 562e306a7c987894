use native.Mathlib.Omega.{arith}
use Rattle.std.proofs.Common.{rules}
use Rattle.text.specs.laws.Written.{Written}
use Rattle.text.specs.laws.PageLaws.{put_whole}
use Rattle.player.proofs.show.show_refusal.Goals as goal

pub returns : goal.returns
returns c =
    let w : Written _ _ _ _ _ = put_whole (rw c.from.ensures at c.put_last.ensures.put) c.new-page.ensures.bytes c.new-page.ensures.place in
    record {
      written = record { holds = rw (← w.holds) (search rules); ends = w.ends };
      upper_bound = omega (arith, c.put_last.ensures.upper_bound, c.new-page.ensures.place);
    }
