-- What is claimed of the order in which a delivery takes the other sites' entries: it does not matter.
use Rattle.std.specs.Prelude.{ℕ, ◌≤◌, ◌<◌, Bool, List, ◌≡◌, length}
use Rattle.vector.specs.Vector.{lowest_outcome}
use Rattle.merging.specs.declared.Merged.{Merged}
use Rattle.merging.specs.Merging.{take_entry, take_entries, sender_first, takes, TakesOthersOnce}
use Rattle.row.specs.declared.Row.{Row}
use Rattle.site.specs.declared.Site.{Site}
use Rattle.rules.specs.Rules.{hear, deliver}
use Rattle.orders.specs.InOrder.{hear_in_order, deliver_in_order}

-- a delivery with its entries taken in an order is the rule's: the site's whole record after merge, adoption and answer; the row that it
-- sends; its news; the records written; and, between, the outcome that the lowest site shows
pub record SameDelivery (order : List ℕ) (own n : ℕ) (willing : Bool) (row : Row) (s : Site) : Type 0 where
  pub same-site : (deliver_in_order order own n willing row s).step.site ≡ (deliver own n willing row s).step.site
  pub same_row : (deliver_in_order order own n willing row s).step.row ≡ (deliver own n willing row s).step.row
  pub same-news : (deliver_in_order order own n willing row s).step.news ≡ (deliver own n willing row s).step.news
  pub same-records : (deliver_in_order order own n willing row s).records ≡ (deliver own n willing row s).records
  pub same_choice :
      lowest_outcome n (hear_in_order order row s).codes ≡ lowest_outcome n (hear own n row s).codes

-- THEOREM 1: for every order that takes each other site below n exactly once, any row and any site
abbrev pub AnyOrder : Type 0
AnyOrder =
    (n own : ℕ) (order : List ℕ) → TakesOthersOnce n own order →
    (willing : Bool) (row : Row) (s : Site) → SameDelivery order own n willing row s

-- THEOREM 2: the definition's own order is such an order, whoever the sender is
abbrev pub SenderFirstIsSuch : Type 0
SenderFirstIsSuch = (n own sender : ℕ) → TakesOthersOnce n own (sender_first n own sender)

-- THEOREM 3: no entry rises twice: one that an order has taken, taken again, leaves vector and news as they are
abbrev pub NoneRisesTwice : Type 0
NoneRisesTwice =
    (order said : List ℕ) (m : Merged) (k : ℕ) → k < length m.codes → 1 ≤ takes k order →
    take_entry said k (take_entries said order m) ≡ take_entries said order m
