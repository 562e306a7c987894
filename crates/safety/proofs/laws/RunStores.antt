-- Theorem 6: over a run the store keeps its bytes beyond the last row.
use Rattle.std.specs.Prelude.{ℕ, ◌≤◌, List, [], ◌∷◌, ◌≡◌, refl, length, get_or}
use Rattle.std.proofs.Common.{ap, ◌∙◌, arith}
use Rattle.choice.specs.laws.Cases.{by_equal}
use Rattle.row.specs.Rows.{row_place}
use Rattle.world.specs.declared.World.{World}
use Rattle.play.specs.Calls.{Call}
use Rattle.play.specs.Commands.{one_command}
use Rattle.play.specs.Run.{Ask, run, call_of, after_call}
use Rattle.safety.specs.Claims.{Unchanged, Kept, Beyond, RunsKeepBeyond}
use Rattle.safety.proofs.laws.Unchanging.{refused_changes_nothing, accepted_keeps_the_rest}

-- one call, as a run of one
record Step (w : World) (store : List ℕ) (c : Call) : Type 0 where
  rows_grow : w.rows ≤ c.world.rows
  same_length : length c.store ≡ length store
  same_bytes : (b : ℕ) → row_place c.world.rows ≤ b → get_or c.store b 0 ≡ get_or store b 0

kept_step : (w : World) (store : List ℕ) (c : Call) → Kept w store c → Step w store c
kept_step w store c k = record { rows_grow = k.rows_grow; same_length = k.same_length; same_bytes = k.bytes-beyond }

unchanged_step : (w : World) (store : List ℕ) (c : Call) → Unchanged w store c → Step w store c
unchanged_step w store c u =
    record {
      rows_grow = omega (arith, ap (λ x. x.rows) u.world_same);
      same_length = ap length u.store_same;
      same_bytes = λ b _. ap (λ s. get_or s b 0) u.store_same;
    }

call_step : (w : World) (store : List ℕ) (a : Ask) → Step w store (call_of w store a)
unfolding call_of
call_step w store a =
    by_equal (one_command w store a.list a.place).number 0
    (λ e. kept_step w store (call_of w store a) (accepted_keeps_the_rest w store a.list a.place e))
    (λ e. unchanged_step w store (call_of w store a) (refused_changes_nothing w store a.list a.place e))

pub runs_keep_beyond : RunsKeepBeyond
unfolding run after_call row_place
runs_keep_beyond w store [] = record { rows_grow = omega arith; same_length = refl; same_bytes = λ b h. refl }
runs_keep_beyond w store (a ∷ asks) =
    let first : Step w store (call_of w store a) = call_step w store a in
    let rest : Beyond (call_of w store a).world (call_of w store a).store
    (run (call_of w store a).world (call_of w store a).store asks) =
    runs_keep_beyond (call_of w store a).world (call_of w store a).store asks in
    record {
      rows_grow = omega (arith, first.rows_grow, rest.rows_grow);
      same_length = rest.same_length ∙ first.same_length;
      same_bytes = λ b h. rest.same_bytes b h ∙ first.same_bytes b (omega (arith, rest.rows_grow, h));
    }
