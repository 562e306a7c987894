-- Laws of merging, entry by entry: in every order that takes each other site once, the same.
use Rattle.std.specs.Prelude.{ℕ, ◌≤◌, ◌<◌, true, false, List, [], ◌∷◌, ◌≡◌, refl, ltb, length, get_or, set}
use Rattle.std.proofs.lemmas.Bool.{false≢true}
use Rattle.std.proofs.Common.{ap, sym, ◌∙◌, arith, length-set, get_or-set_same, get_or-set_other, le-ltb, ltb-true, ltb-false}
use Rattle.std.proofs.lemmas.List.{set-get_or}
use Rattle.choice.specs.Choice.{pick}
use Rattle.choice.specs.laws.ChoiceLaws.{pick_ind, pick-on, pick_off}
use Rattle.choice.specs.laws.Cases.{by_test, by_equal}
use Rattle.vector.specs.Codes.{level}
use Rattle.merging.specs.declared.Merged.{Merged}
use Rattle.merging.specs.Merging.{
  rises,
  merge_entry,
  take_entry,
  take_entries,
  merging_in_order,
  is_other,
  sender_first,
  merging,
  takes,
  TakesOthersOnce,
}
use Rattle.merging.proofs.Orders.{other-on, other-below, other_unlike, takes-here, takes-there, sender_first-once}

-- an entry that rises has another code then, and any other the same

pub entry-changed : (held said : ℕ) → rises held said ≡ true → held ≡ merge_entry held said → ⊥
unfolding rises merge_entry
entry-changed held said e same =
    omega (arith, ltb-true (level held) (level said) e, ap level (same ∙ pick-on (rises held said) said held e))

pub entry_kept : (held said : ℕ) → rises held said ≡ false → held ≡ merge_entry held said
unfolding merge_entry
entry_kept held said e = sym (pick_off (rises held said) said held e)

-- an entry cannot rise twice
rises-once : (held said : ℕ) → rises (merge_entry held said) said ≡ false
unfolding merge_entry rises
rises-once held said =
    pick_ind (λ x. rises x said ≡ false) (rises held said) said held
    (λ _. le-ltb (level said) (level said) (omega arith)) (λ e. e)

-- the same vector and the same news
pub merged_same : (a b : Merged) → a.codes ≡ b.codes → a.news ≡ b.news → a ≡ b
merged_same a b p q = λ i. record { codes = p i; news = q i }

taken-length : (order said : List ℕ) (m : Merged) → length (take_entries said order m).codes ≡ length m.codes
unfolding take_entries take_entry
taken-length [] said m = refl
taken-length (k ∷ order) said m =
    taken-length order said (take_entry said k m)
    ∙ length-set m.codes k (merge_entry (get_or m.codes k 0) (get_or said k 0))

-- one entry taken leaves the others
pub taken-other :
    (said : List ℕ) (j : ℕ) (m : Merged) (k : ℕ) → (k ≡ j → ⊥) → get_or (take_entry said j m).codes k 0 ≡ get_or m.codes k 0
unfolding take_entry
taken-other said j m k e = get_or-set_other m.codes j k (merge_entry (get_or m.codes j 0) (get_or said j 0)) 0 e

-- an entry that an order does not take stays
taken_else :
    (order said : List ℕ) (m : Merged) (k : ℕ) → takes k order ≡ 0 →
    get_or (take_entries said order m).codes k 0 ≡ get_or m.codes k 0
unfolding take_entries
taken_else [] said m k none = refl
taken_else (j ∷ order) said m k none =
    by_equal k j
    (λ e. absurd (omega (arith, takes-here k j order e)))
    (λ e. taken_else order said (take_entry said j m) k (sym (takes-there k j order e) ∙ none) ∙ taken-other said j m k e)

-- the entry taken is merged
taken_here :
    (said : List ℕ) (m : Merged) (k : ℕ) → k < length m.codes →
    get_or (take_entry said k m).codes k 0 ≡ merge_entry (get_or m.codes k 0) (get_or said k 0)
unfolding take_entry
taken_here said m k room = get_or-set_same m.codes k (merge_entry (get_or m.codes k 0) (get_or said k 0)) 0 room

-- an entry that does not rise is left, and adds nothing
taken-idle :
    (said : List ℕ) (k : ℕ) (m : Merged) → rises (get_or m.codes k 0) (get_or said k 0) ≡ false → take_entry said k m ≡ m
unfolding take_entry
taken-idle said k m e =
    merged_same (take_entry said k m) m
    (ap (set m.codes k) (sym (entry_kept (get_or m.codes k 0) (get_or said k 0) e)) ∙ set-get_or m.codes k 0)
    (rw e (omega arith))

-- one that cannot rise never does
idle-on :
    (order said : List ℕ) (m : Merged) (k : ℕ) → k < length m.codes → rises (get_or m.codes k 0) (get_or said k 0) ≡ false →
    rises (get_or (take_entries said order m).codes k 0) (get_or said k 0) ≡ false
unfolding take_entries
idle-on [] said m k room idle = idle
idle-on (j ∷ order) said m k room idle =
    idle-on order said (take_entry said j m) k (rw (taken-length (j ∷ []) said m) room)
    (by_equal k j
    (λ e. ap (λ x. rises (get_or (take_entry said x m).codes k 0) (get_or said k 0)) (sym e)
    ∙ ap (λ x. rises (get_or x.codes k 0) (get_or said k 0)) (taken-idle said k m idle) ∙ idle)
    (λ e. ap (λ x. rises x (get_or said k 0)) (taken-other said j m k e) ∙ idle))

-- once taken, it cannot rise again
taken_idles :
    (order said : List ℕ) (m : Merged) (k : ℕ) → k < length m.codes → 1 ≤ takes k order →
    rises (get_or (take_entries said order m).codes k 0) (get_or said k 0) ≡ false
unfolding take_entries takes
taken_idles [] said m k room some = absurd (omega arith)
taken_idles (j ∷ order) said m k room some =
    by_equal k j
    (λ e. idle-on order said (take_entry said j m) k (rw (taken-length (j ∷ []) said m) room)
    (ap (λ x. rises (get_or (take_entry said x m).codes k 0) (get_or said k 0)) (sym e)
    ∙ ap (λ x. rises x (get_or said k 0)) (taken_here said m k room) ∙ rises-once (get_or m.codes k 0) (get_or said k 0)))
    (λ e. taken_idles order said (take_entry said j m) k (rw (taken-length (j ∷ []) said m) room)
    (rw (← takes-there k j order e) some))

-- so an entry that was taken before changes nothing
pub taken-again :
    (order said : List ℕ) (m : Merged) (k : ℕ) → k < length m.codes → 1 ≤ takes k order →
    take_entry said k (take_entries said order m) ≡ take_entries said order m
taken-again order said m k room some = taken-idle said k (take_entries said order m) (taken_idles order said m k room some)

-- one that an order takes once is merged
taken-once :
    (order said : List ℕ) (m : Merged) (k : ℕ) → k < length m.codes → takes k order ≡ 1 →
    get_or (take_entries said order m).codes k 0 ≡ merge_entry (get_or m.codes k 0) (get_or said k 0)
unfolding take_entries takes
taken-once [] said m k room once = absurd (omega arith)
taken-once (j ∷ order) said m k room once =
    by_equal k j
    (λ e. taken_else order said (take_entry said j m) k (omega (arith, takes-here k j order e))
    ∙ ap (λ x. get_or (take_entry said x m).codes k 0) (sym e) ∙ taken_here said m k room)
    (λ e. taken-once order said (take_entry said j m) k (rw (taken-length (j ∷ []) said m) room)
    (sym (takes-there k j order e) ∙ once)
    ∙ ap (λ x. merge_entry x (get_or said k 0)) (taken-other said j m k e))

-- a site that is no other is not taken
pub none-taken : {n own : ℕ} {order : List ℕ} → TakesOthersOnce n own order → (k : ℕ) → is_other n own k ≡ false → takes k order ≡ 0
none-taken {n} {own} {order} once k e =
    by_equal k own
    (λ same. ap (λ x. takes x order) same ∙ once.not_own)
    (λ unlike. once.none-beyond k (ltb-false k n (by_test (ltb k n)
    (λ below. absurd (false≢true (sym e ∙ other-on n own k (ltb-true k n below) unlike))) (λ above. above))))

pub merged_length : (order said v : List ℕ) → length (merging_in_order order said v).codes ≡ length v
unfolding merging_in_order
merged_length order said v = taken-length order said (record { codes = v; news = 0 })

-- MERGED, entry by entry, in any order that takes each other site once
pub merged_entry :
    {n own : ℕ} {order : List ℕ} → TakesOthersOnce n own order → (said v : List ℕ) (k : ℕ) → k < length v →
    get_or (merging_in_order order said v).codes k 0 ≡ pick (is_other n own k) (merge_entry (get_or v k 0) (get_or said k 0)) (get_or v k 0)
unfolding merging_in_order
merged_entry {n} {own} {order} once said v k room =
    pick_ind (λ x. get_or (merging_in_order order said v).codes k 0 ≡ x) (is_other n own k)
    (merge_entry (get_or v k 0) (get_or said k 0)) (get_or v k 0)
    (λ e. taken-once order said (record { codes = v; news = 0 }) k room
    (omega (arith, once.others k (other-below n own k e) (other_unlike n own k e))))
    (λ e. taken_else order said (record { codes = v; news = 0 }) k (none-taken once k e))

-- and in the definition's

pub merging-length : (n own sender : ℕ) (said v : List ℕ) → length (merging n own sender said v).codes ≡ length v
unfolding merging
merging-length n own sender said v = merged_length (sender_first n own sender) said v

pub merging-entry :
    (n own sender : ℕ) (said v : List ℕ) (k : ℕ) → k < length v →
    get_or (merging n own sender said v).codes k 0
    ≡ pick (is_other n own k) (merge_entry (get_or v k 0) (get_or said k 0)) (get_or v k 0)
unfolding merging
merging-entry n own sender said v k room = merged_entry (sender_first-once n own sender) said v k room

pub merging-at :
    (n own sender : ℕ) (said v : List ℕ) (k : ℕ) → k < length v → k < n → (k ≡ own → ⊥) →
    get_or (merging n own sender said v).codes k 0 ≡ merge_entry (get_or v k 0) (get_or said k 0)
merging-at n own sender said v k room below unlike =
    merging-entry n own sender said v k room
    ∙ pick-on (is_other n own k) (merge_entry (get_or v k 0) (get_or said k 0)) (get_or v k 0) (other-on n own k below unlike)

-- what is not taken stays, whatever the vector's length
pub merging_else :
    (n own sender : ℕ) (said v : List ℕ) (k : ℕ) → is_other n own k ≡ false →
    get_or (merging n own sender said v).codes k 0 ≡ get_or v k 0
unfolding merging merging_in_order
merging_else n own sender said v k e =
    taken_else (sender_first n own sender) said (record { codes = v; news = 0 }) k (none-taken (sender_first-once n own sender) k e)
