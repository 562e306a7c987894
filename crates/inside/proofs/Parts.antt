-- Bytes at most a limit: a chain over a part of a slice asks what the definition asks.
use Rattle.std.specs.Prelude.{ℕ, ◌+◌, ◌≤◌, ◌<◌, List, Bool, ◌≡◌, refl, leb, length, drop, take}
use Rattle.std.specs.List.{list_all, slice_range}
use Rattle.std.proofs.Common.{arith, length-drop, length-take-le}
use Rattle.std.proofs.Math.Nat.{add-sub_cancel_left}
use Rattle.std.proofs.lemmas.List.{get_or-drop, get_or-take}
use Rattle.choice.specs.laws.EachPlace.{all_placed}
use Rattle.layout.specs.Layout.{at_most}

pub all_at_most :
    (count : ℕ) (b : List ℕ) (at limit : ℕ) (r : Bool) → at + count ≤ length b → r ≡ list_all (λ x. leb x limit) (slice_range b at (at + count)) →
    r ≡ at_most count b at limit
unfolding at_most
all_at_most count b at limit r room e =
    let far : count ≤ length (drop at b) = rw length-drop (omega arith) in
    let long : length (take count (drop at b)) ≡ count = length-take-le count (drop at b) far in
    rw long at (all_placed (λ x. leb x limit) (take count (drop at b)) 0 (λ k. at_most k b at limit) refl
    (λ k h. let low : k < count = rw long at h in rw (get_or-take, get_or-drop) refl) r (rw add-sub_cancel_left at e))
