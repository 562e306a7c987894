-- Theorem 5: every world of a run from a fresh world passes 17.
use Rattle.std.specs.Prelude.{ℕ, ◌<◌, true, List, [], ◌∷◌, ◌≡◌}
use Rattle.std.proofs.Common.{arith}
use Rattle.choice.specs.laws.Cases.{by_equal}
use Rattle.site.specs.declared.CommitQuorum.{CommitQuorum}
use Rattle.site.specs.declared.AbortQuorum.{AbortQuorum}
use Rattle.world.specs.declared.World.{World}
use Rattle.world.specs.Sizes.{sizes_number}
use Rattle.world.specs.Worlds.{fresh_world, site_of}
use Rattle.world.specs.Valid.{valid_world}
use Rattle.world.specs.laws.WorldLaws.{valid_parts, valid-sized}
use Rattle.play.specs.Commands.{one_command}
use Rattle.play.specs.Run.{Ask, run, call_of, after_call}
use Rattle.safety.specs.Claims.{Shaped, Passes, RunsPass}
use Rattle.safety.proofs.laws.Unchanging.{refused_changes_nothing}
use Rattle.safety.proofs.laws.Shape.{long_of, shaped_fresh, shaped-kept}
use Rattle.member.specs.laws.SoundSites.{SoundSite, site-sound}
use Rattle.safety.proofs.laws.Validity.{valid-stays-valid}
use Rattle.safety.proofs.laws.FreshValid.{fresh-valid}

-- a world of sixteen sites that passes 17
pub record Whole (w : World) : Type 0 where
  pub shaped : Shaped w
  pub valid : valid_world w ≡ true

call-whole : (w : World) (store : List ℕ) (a : Ask) → Whole w → Whole (call_of w store a).world
unfolding call_of
call-whole w store a whole =
    record {
      shaped = shaped-kept w store a.list a.place whole.shaped;
      valid =
          by_equal (one_command w store a.list a.place).number 0
          (valid-stays-valid w store a.list a.place whole.shaped whole.valid)
          (λ e. rw (refused_changes_nothing w store a.list a.place e).world_same whole.valid);
    }

run-whole : (w : World) (store : List ℕ) (asks : List Ask) → Whole w → Whole (run w store asks).world
unfolding run after_call
run-whole w store [] whole = whole
run-whole w store (a ∷ asks) whole =
    run-whole (call_of w store a).world (call_of w store a).store asks (call-whole w store a whole)

whole_passes : (w : World) → Whole w → Passes w
whole_passes w whole =
    let sound : (j : ℕ) → j < w.n → SoundSite j w.n (site_of w j) =
    λ j h. site-sound j w.n (site_of w j) (long_of w whole.shaped j (omega (arith, valid-sized w whole.valid)))
    ((valid_parts w whole.valid).sites j h) in
    record {
      valid = whole.valid;
      own-is-state = λ j h. (sound j h).own_code;
      none-beyond = λ j k h past few. ((sound j h).codes.at k few).none past;
    }

pub fresh-whole :
    (n : ℕ) (weights : List ℕ) (c : CommitQuorum) (a : AbortQuorum) (willing : ℕ) (store : List ℕ) (asks : List Ask) →
    sizes_number n weights c a willing ≡ 0 → Whole (run (fresh_world n weights c a willing) store asks).world
fresh-whole n weights c a willing store asks e =
    run-whole (fresh_world n weights c a willing) store asks
    (record { shaped = shaped_fresh n weights c a willing; valid = fresh-valid n weights c a willing e })

pub runs-pass : RunsPass
runs-pass n weights c a willing store asks e =
    whole_passes (run (fresh_world n weights c a willing) store asks).world (fresh-whole n weights c a willing store asks e)
