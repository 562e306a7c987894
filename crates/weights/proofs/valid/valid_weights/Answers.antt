use Rattle.std.proofs.Common.{rules, ◌≡◌, ◌∙◌, ◌<◌, ℕ, Bool, true, get_or}
use Rattle.std.specs.Prelude.{if◌then◌else◌, nat_lt, nat_eq, IsTrue, ◌↔◌}
use Rattle.choice.specs.laws.Chains.{all-when}
use Rattle.choice.specs.laws.Stores.{all_same}
use Rattle.weights.specs.Weights.{weight_of, valid_weights}
use Rattle.weights.specs.laws.WeightLaws.{byte-valid}
use Rattle.weights.proofs.valid.valid_weights.Goals as goal

pub returns : goal.returns
unfolding valid_weights weight_of
returns c =
    let few : (i : ℕ) → get_or c.args.weights i 0 < 256 = let bytes = c.well_formed.1 in search rules in
    let test : ℕ → Bool = λ i. if nat_lt i c.args.n then nat_lt 0 (get_or c.args.weights i 0) else nat_eq (get_or c.args.weights i 0) 0 in
    let e : IsTrue c.all.result ↔ ((i : ℕ) → i < 16 → test i ≡ true) = search rules in
    all-when test 16 c.all.result e ∙ all_same test _ 16 (λ i h. byte-valid c.args.n i (get_or c.args.weights i 0) (few i))
