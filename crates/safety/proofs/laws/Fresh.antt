-- The maker's world: as a network it is fresh, so the invariant holds of it with no record; or it is the world of zeros, which every call refuses.
use Rattle.std.specs.Prelude.{ℕ, zero, suc, ◌≤◌, ◌<◌, true, false, List, [], ◌≡◌, refl, ltb, length, get_or, set}
use Rattle.std.proofs.Common.{ap, sym, subst, ◌∙◌, arith, length-set, get_or-set_same, get_or-set_other, lt-ltb, le-ltb, ltb-true, ltb-false, eq-eqb, ne_eqb}
use Rattle.std.proofs.lemmas.List.{get_or-replicate, length-replicate}
use Rattle.choice.specs.Choice.{pick}
use Rattle.choice.specs.laws.ChoiceLaws.{pick_ind, pick-on}
use Rattle.choice.specs.laws.Cases.{by_test, by_equal}
use Rattle.site.specs.declared.Site.{Site}
use Rattle.site.specs.Fields.{blank_site}
use Rattle.site.specs.declared.CommitQuorum.{CommitQuorum}
use Rattle.site.specs.declared.AbortQuorum.{AbortQuorum}
use Rattle.world.specs.declared.World.{World}
use Rattle.world.specs.Sizes.{sites_fit, sizes_number}
use Rattle.world.specs.Worlds.{down_sites, zero_world, fresh_sites, fresh_world, site_of}
use Rattle.world.specs.Valid.{valid_world}
use Rattle.history.specs.Network.{fresh_network}
use Rattle.history.proofs.laws.TrueNetwork.{fresh_true}
use Rattle.history.proofs.laws.Alike.{Alike, alike_true}
use Rattle.safety.proofs.laws.AsNetwork.{competition_of, rows_of, network_of}
use Rattle.safety.proofs.laws.Invariant.{Invariant, of_network}

-- the world of sizes that are not refused
unfoldable pub new_world : ℕ → List ℕ → CommitQuorum → AbortQuorum → ℕ → World
new_world n weights c a willing =
    record {
      sites = fresh_sites n;
      n = n;
      commit = c;
      abort = a;
      willing = willing;
      weights = weights;
      rows = 0;
      news = 0;
    }

pub fresh-new : (n : ℕ) (weights : List ℕ) (c : CommitQuorum) (a : AbortQuorum) (willing : ℕ) → sizes_number n weights c a willing ≡ 0 → fresh_world n weights c a willing ≡ new_world n weights c a willing
unfolding fresh_world new_world
fresh-new n weights c a willing e = rw (eq-eqb (sizes_number n weights c a willing) 0 e)

pub fresh-zero : (n : ℕ) (weights : List ℕ) (c : CommitQuorum) (a : AbortQuorum) (willing : ℕ) → (sizes_number n weights c a willing ≡ 0 → ⊥) → fresh_world n weights c a willing ≡ zero_world
unfolding fresh_world
fresh-zero n weights c a willing e = rw (ne_eqb (sizes_number n weights c a willing) 0 e)

-- the world of zeros does not pass 17
pub zero_invalid : valid_world zero_world ≡ false
unfolding valid_world zero_world sizes_number sites_fit
zero_invalid = refl

-- sixteen blank sites
pub fresh-length : (k : ℕ) → length (fresh_sites k) ≡ 16
unfolding fresh_sites down_sites
fresh-length zero = length-replicate 16 (blank_site false)
fresh-length (suc k) = length-set (fresh_sites k) k (blank_site true) ∙ fresh-length k

-- those below k are up
pub fresh_at : (k j : ℕ) → k ≤ 16 → j < 16 → get_or (fresh_sites k) j (blank_site false) ≡ pick (ltb j k) (blank_site true) (blank_site false)
unfolding fresh_sites down_sites
fresh_at zero j few less = get_or-replicate 16 j (blank_site false) (blank_site false) less ∙ sym (rw (le-ltb j 0 (omega arith)))
fresh_at (suc k) j few less =
    by_equal j k
    (λ e. ap (λ x. get_or (set (fresh_sites k) k (blank_site true)) x (blank_site false)) e
    ∙ get_or-set_same (fresh_sites k) k (blank_site true) (blank_site false) (omega (arith, fresh-length k))
    ∙ sym (rw (lt-ltb j (suc k) (omega arith))))
    (λ e. get_or-set_other (fresh_sites k) k j (blank_site true) (blank_site false) e ∙ fresh_at k j (omega arith) less
    ∙ by_test (ltb j k)
    (λ t. rw (t, lt-ltb j (suc k) (omega (arith, ltb-true j k t))))
    (λ t. rw (t, le-ltb j (suc k) (omega (arith, ltb-false j k t)))))

pub fresh-blank : (P : Site → Type 0) → P (blank_site true) → P (blank_site false) → (k j : ℕ) → k ≤ 16 → j < 16 →
    P (get_or (fresh_sites k) j (blank_site false))
fresh-blank P up down k j few less =
    subst P (sym (fresh_at k j few less)) (pick_ind P (ltb j k) (blank_site true) (blank_site false) (λ _. up) (λ _. down))

-- the maker's world is the fresh network
pub fresh-alike : (n : ℕ) (weights : List ℕ) (c : CommitQuorum) (a : AbortQuorum) (willing : ℕ) (store : List ℕ) → n ≤ 16 →
    Alike n fresh_network (network_of (new_world n weights c a willing) store)
unfolding fresh_network new_world site_of rows_of
fresh-alike n weights c a willing store few =
    record {
      sites = λ j less.
          sym (fresh_at n j few (omega arith) ∙ pick-on (ltb j n) (blank_site true) (blank_site false) (lt-ltb j n less));
      sent = refl;
    }

-- the invariant at the start
pub new_invariant : (n : ℕ) (weights : List ℕ) (c : CommitQuorum) (a : AbortQuorum) (willing : ℕ) (store : List ℕ) → n ≤ 16 → Invariant (new_world n weights c a willing) store []
unfolding new_world
new_invariant n weights c a willing store few =
    let w : World = new_world n weights c a willing in
    of_network w store []
    (alike_true (competition_of w) fresh_network (network_of w store) (fresh-alike n weights c a willing store few)
    (fresh_true (competition_of w) few))
    (fresh-length n)
