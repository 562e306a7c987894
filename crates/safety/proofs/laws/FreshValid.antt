-- The maker's world passes 17.
use Rattle.std.specs.Prelude.{ℕ, ◌<◌, Bool, true, false, List, ◌≡◌, refl, get_or}
use Rattle.std.proofs.Common.{arith}
use Rattle.std.proofs.lemmas.List.{get_or-replicate}
use Rattle.choice.specs.Choice.{pick}
use Rattle.vector.specs.Vector.{valid_entry, valid_entries, valid_vector}
use Rattle.site.specs.Fields.{zero_vector, blank_site}
use Rattle.site.specs.State.{state_by, state_of, code_of}
use Rattle.site.specs.declared.CommitQuorum.{CommitQuorum}
use Rattle.site.specs.declared.AbortQuorum.{AbortQuorum}
use Rattle.world.specs.Sizes.{sizes_number}
use Rattle.world.specs.Worlds.{fresh_world, site_of}
use Rattle.world.specs.Valid.{valid_group, valid_site, valid_world}
use Rattle.world.specs.laws.SizesLaws.{Sized, sized}
use Rattle.world.specs.laws.WorldLaws.{valid-whole}
use Rattle.safety.proofs.laws.Fresh.{new_world, fresh-new, fresh-blank}

pick_same : (t x : Bool) → pick t x x ≡ x
pick_same true x = refl
pick_same false x = refl

zero-valid : (n : ℕ) → valid_vector n zero_vector ≡ true
unfolding valid_vector valid_entries valid_entry zero_vector
zero-valid n = simp pick_same

zero-at : (i : ℕ) → i < 16 → get_or zero_vector i 0 ≡ 0
unfolding zero_vector
zero-at i h = get_or-replicate 16 i 0 0 h

blank-valid : (own n : ℕ) (up : Bool) → own < 16 → valid_site own n (blank_site up) ≡ true
unfolding valid_site valid_group blank_site state_of state_by code_of
blank-valid own n up h = simp (zero-valid, zero-at own h)

pub fresh-valid : (n : ℕ) (weights : List ℕ) (c : CommitQuorum) (a : AbortQuorum) (willing : ℕ) → sizes_number n weights c a willing ≡ 0 → valid_world (fresh_world n weights c a willing) ≡ true
unfolding new_world site_of
fresh-valid n weights c a willing e =
    let s : Sized n weights c a willing = sized n weights c a willing e in
    rw (fresh-new n weights c a willing e)
    (valid-whole (new_world n weights c a willing)
    (record {
      sizes = e;
      rows = omega arith;
      news = omega arith;
      sites = λ k h.
          fresh-blank (λ x. valid_site k n x ≡ true) (blank-valid k n true (omega arith)) (blank-valid k n false (omega arith))
          n k s.high (omega arith);
    }))
