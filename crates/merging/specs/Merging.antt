-- Merging: what a row says of the other sites, taken into the vector held, one entry after the other.
use Rattle.std.specs.Prelude.{ℕ, zero, suc, ◌+◌, ◌≤◌, ◌<◌, Bool, false, List, [], ◌∷◌, ◌++◌, ◌≡◌, ltb, eqb, get_or, set}
use Rattle.choice.specs.Choice.{pick, either}
use Rattle.vector.specs.Codes.{level}
use Rattle.merging.specs.declared.Merged.{Merged}

-- an entry rises: the row's code has a higher level than the one held
unfoldable pub rises : ℕ → ℕ → Bool
rises held said = ltb (level held) (level said)

-- what the entry becomes: the row's code if it rises
unfoldable pub merge_entry : ℕ → ℕ → ℕ
merge_entry held said = pick (rises held said) said held

-- the entry of site k is taken, and counted if it rises
unfoldable pub take_entry : List ℕ → ℕ → Merged → Merged
take_entry said k m =
    record {
      codes = set m.codes k (merge_entry (get_or m.codes k 0) (get_or said k 0));
      news = m.news + pick (rises (get_or m.codes k 0) (get_or said k 0)) 1 0;
    }

-- the entries of some sites are taken, in that order
unfoldable pub take_entries : List ℕ → List ℕ → Merged → Merged
take_entries said [] m = m
take_entries said (k ∷ order) m = take_entries said order (take_entry said k m)

-- MERGING IN AN ORDER, a list of sites: the vector, and how many of its entries rose
unfoldable pub merging_in_order : List ℕ → List ℕ → List ℕ → Merged
merging_in_order order said v = take_entries said order (record { codes = v; news = 0 })

-- site k is another site than the receiver: below n, and not `own`
unfoldable pub is_other : ℕ → ℕ → ℕ → Bool
is_other n own k = pick (eqb k own) false (ltb k n)

-- the sites below k in number order, but for the receiver and the sender
unfoldable pub sites_but : ℕ → ℕ → ℕ → List ℕ
sites_but own sender zero = []
sites_but own sender (suc k) = sites_but own sender k ++ pick (either (eqb k own) (eqb k sender)) [] (k ∷ [])

-- the sender, if it is another site; a store can say that it is the receiver itself
unfoldable pub sender_if_other : ℕ → ℕ → ℕ → List ℕ
sender_if_other n own sender = pick (is_other n own sender) (sender ∷ []) []

-- the sender first, and the others below n afterwards
unfoldable pub sender_first : ℕ → ℕ → ℕ → List ℕ
sender_first n own sender = sender_if_other n own sender ++ sites_but own sender n

-- MERGING what a sender's row says at site `own`: the sender's entry first, and the others' afterwards
unfoldable pub merging : ℕ → ℕ → ℕ → List ℕ → List ℕ → Merged
merging n own sender said v = merging_in_order (sender_first n own sender) said v

-- how often an order takes site k
unfoldable pub takes : ℕ → List ℕ → ℕ
takes k [] = 0
takes k (j ∷ order) = pick (eqb k j) 1 0 + takes k order

-- an order takes each other site below n exactly once, and no site else: not the receiver, and none from n up
pub record TakesOthersOnce (n own : ℕ) (order : List ℕ) : Type 0 where
  pub others : (k : ℕ) → k < n → (k ≡ own → ⊥) → takes k order ≡ 1
  pub not_own : takes own order ≡ 0
  pub none-beyond : (k : ℕ) → n ≤ k → takes k order ≡ 0
