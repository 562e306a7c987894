-- Demand 3 over every history of a network: the core.
use Rattle.std.specs.Prelude.{ℕ, ◌+◌, ◌≤◌, ◌<◌, List, [], ◌∷◌, ◌++◌, ◌≡◌, refl, ltb}
use Rattle.std.proofs.Common.{append_assoc, append-nil, ap, ◌∙◌, arith}
use borrow.Author.Tests.{ltb-true, ltb-false, ne_eqb}
use Rattle.choice.specs.Places.{sum_to}
use Rattle.choice.specs.laws.Cases.{by_test, by_equal}
use Rattle.site.specs.Records.{Written}
use Rattle.world.specs.Sizes.{sizes_number}
use Rattle.world.specs.laws.SizesLaws.{Sized, sized, quorums-above}
use Rattle.member.specs.Steps.{refuse, valid_member, site_step}
use Rattle.history.specs.Safe.{written, written_at, outcomes, Safe}
use Rattle.history.specs.Network.{Competition, member_of, Network, fresh_network, Told, answer_of, after_step, IsHistory, after_answer, pass}
use Rattle.history.specs.Claims.{NetworkSafe}
use Rattle.history.proofs.laws.HistoryLaws.{some-site, written_at-sites, one_each}
use Rattle.history.proofs.laws.Truth.{Terms, AllPrepared, TrueHistory}
use Rattle.history.proofs.laws.TruthLaws.{commit-prepared, not_both}
use Rattle.history.proofs.laws.TrueNetwork.{terms_of, TrueNetwork, step_true, fresh_true}

-- a true history is safe, where a commit needs a site and the quorums together weigh more than all sites
module _ (t : Terms) (H : List Written) (true_of : TrueHistory t H) (some : 1 ≤ t.commit)
    (more : sum_to t.weight t.n < t.commit + t.abort) where
  committed-prepared : 1 ≤ written 4 H → AllPrepared t.n H
  committed-prepared h = from (some-site 4 H h)
    where
      from : (j : ℕ) × (1 ≤ written_at j 4 H) → AllPrepared t.n H
      from (j, c) = commit-prepared t H true_of some j c

  each-prepared : 1 ≤ written 4 H → (j : ℕ) → j < t.n → written_at j 1 H ≡ 1
  each-prepared h j less = omega (arith, (committed-prepared h).prepared j less, (true_of.each j).one-prepare)

  never_both : 1 ≤ written 4 H → 1 ≤ written 5 H → ⊥
  never_both c a = clash (some-site 4 H c) (some-site 5 H a)
    where
      clash : (i : ℕ) × (1 ≤ written_at i 4 H) → (j : ℕ) × (1 ≤ written_at j 5 H) → ⊥
      clash (i, at_i) (j, at_j) = not_both t H true_of some more i j at_i at_j

  pub true_safe : Safe t.n t.willing H
  unfolding outcomes
  true_safe =
      record {
        one-outcome =
            by_test (ltb 0 (written 4 H))
            (λ c. by_test (ltb 0 (written 5 H))
            (λ a. absurd (never_both (ltb-true 0 (written 4 H) c) (ltb-true 0 (written 5 H) a)))
            (λ a. omega (arith, ltb-false 0 (written 5 H) a)))
            (λ c. omega (arith, ltb-false 0 (written 4 H) c));
        all-prepared = λ h.
            written_at-sites t.n 1 H (λ j. (true_of.each j).below 1) ∙ one_each t.n 1 H (each-prepared h);
        prepared-once = each-prepared;
        all-willing = λ h j less. (true_of.each j).is_willing_lem ((committed-prepared h).prepared j less);
        one-group = λ j. (true_of.each j).one-group;
        one-outcome-at = λ j. (true_of.each j).one-outcome;
      }

-- no record at all is safe
pub empty_safe : (n willing : ℕ) → Safe n willing []
unfolding outcomes written written_at
empty_safe n willing =
    record {
      one-outcome = omega arith;
      all-prepared = λ h. absurd (omega arith);
      prepared-once = λ h. absurd (omega arith);
      all-willing = λ h. absurd (omega arith);
      one-group = λ j. omega arith;
      one-outcome-at = λ j. omega arith;
    }

-- steps keep all true
pub pass_true :
    (z : Competition) (net : Network) (steps : List Told) (H : List Written) → TrueNetwork z net H → IsHistory z net steps →
    TrueNetwork z (pass z net steps).network (H ++ (pass z net steps).records)
unfolding pass after_answer IsHistory
pass_true z net [] H true_of genuine = rw append-nil true_of
pass_true z net (x ∷ steps) H true_of genuine =
    rw (← append_assoc H (answer_of z net x).records (pass z (after_step z net x) steps).records)
    (pass_true z (after_step z net x) steps (H ++ (answer_of z net x).records) (step_true z net H true_of x genuine.0) genuine.1)

-- sizes that are refused write no record at all

refused-answer : (z : Competition) (net : Network) (x : Told) → (sizes_number z.n z.weights z.commit z.abort 0 ≡ 0 → ⊥) →
    answer_of z net x ≡ refuse 17 (net.site x.at)
unfolding answer_of site_step valid_member member_of
refused-answer z net x e = rw (ne_eqb (sizes_number z.n z.weights z.commit z.abort 0) 0 e)

refused-pass : (z : Competition) (net : Network) (steps : List Told) →
    (sizes_number z.n z.weights z.commit z.abort 0 ≡ 0 → ⊥) → (pass z net steps).records ≡ []
unfolding pass after_answer refuse
refused-pass z net [] e = refl
refused-pass z net (x ∷ steps) e =
    ap (λ a. a.records ++ (pass z (after_step z net x) steps).records) (refused-answer z net x e) ∙ refused-pass z (after_step z net x) steps e

sized_safe : (z : Competition) (steps : List Told) → IsHistory z fresh_network steps →
    sizes_number z.n z.weights z.commit z.abort 0 ≡ 0 → Safe z.n z.willing (pass z fresh_network steps).records
sized_safe z steps genuine e =
    let s : Sized z.n z.weights z.commit z.abort 0 = sized z.n z.weights z.commit z.abort 0 e in
    true_safe (terms_of z) (pass z fresh_network steps).records
    (pass_true z fresh_network steps [] (fresh_true z s.high) genuine).history
    (omega arith) (quorums-above z.n z.weights z.commit z.abort 0 s)

pub network_safe : NetworkSafe
network_safe z steps genuine =
    by_equal (sizes_number z.n z.weights z.commit z.abort 0) 0
    (λ e. sized_safe z steps genuine e)
    (λ e. rw (refused-pass z fresh_network steps e) (empty_safe z.n z.willing))
