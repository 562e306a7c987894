-- Laws of the loop that merges: the sender's entry, then every entry below n, and the receiver's own put back.
use Rattle.std.specs.Prelude.{ℕ, ◌≤◌, ◌<◌, List, ◌≡◌, ltb, length, set, replicate}
use Rattle.std.proofs.Math.Path.{refl, ap, sym}
use Rattle.std.proofs.Common.{◌∙◌, arith}
use Rattle.std.proofs.Math.ListN.{get_or, length-set}
use Rattle.std.proofs.lemmas.List.{length-replicate, get_or-replicate}
use Rattle.std.proofs.Math.Seq.{get_or-set_other, ext_get_or}
use borrow.Author.Tests.{ltb-true, ltb-false}
use Rattle.choice.specs.Choice.{pick}
use Rattle.choice.specs.laws.ChoiceLaws.{pick-on, pick_off, set_ind}
use Rattle.choice.specs.laws.Cases.{by_test}
use Rattle.choice.specs.Places.{sum_to, stored_to}
use Rattle.choice.specs.laws.Stores.{stored_length, stored_else, stored_at, sum_same}
use Rattle.merging.specs.Merging.{merge_entry, is_other, merging}
use Rattle.merging.proofs.Orders.{other-on, other-own, other-beyond}
use Rattle.merging.proofs.MergeLaws.{merged_same, merging-length, merging-entry}
use Rattle.merging.specs.laws.News.{gain, share, risen}
use Rattle.merging.proofs.NewsLaws.{share-small, merging-news}

-- WHAT THE CODE LEAVES of a list: f's value at the sender's place, then at those below n, and at last x at the receiver's
unfoldable pub leaves : (ℕ → ℕ) → ℕ → ℕ → ℕ → ℕ → List ℕ → List ℕ
leaves f n own sender x l = set (stored_to f n (set l sender (f sender))) own x

pub leaves-on :
    (f : ℕ → ℕ) (n own sender x : ℕ) (l : List ℕ) (k y : ℕ) (now : List ℕ) → now ≡ stored_to f k (set l sender y) → k ≡ n →
    y ≡ f sender → set now own x ≡ leaves f n own sender x l
unfolding leaves
leaves-on f n own sender x l k y now e q r = rw (e, q, r)

module _ (f : ℕ → ℕ) (n own sender x : ℕ) (l : List ℕ) where
  leaves-length : length (leaves f n own sender x l) ≡ length l
  unfolding leaves
  leaves-length =
      length-set (stored_to f n (set l sender (f sender))) own x
      ∙ stored_length f n (set l sender (f sender)) ∙ length-set l sender (f sender)

  -- entry by entry: f's value for another site, and what was there for any else
  leaves-entry :
      n ≤ length l → own < n → sender < n → x ≡ get_or l own 0 → (i : ℕ) →
      get_or (leaves f n own sender x l) i 0 ≡ pick (is_other n own i) (f i) (get_or l i 0)
  unfolding leaves
  leaves-entry room below from back i =
      set_ind (λ y. y ≡ pick (is_other n own i) (f i) (get_or l i 0)) (stored_to f n (set l sender (f sender))) own i x 0
      (rw (stored_length, length-set) (omega arith))
      (λ e. rw (e, other-own n own) back)
      (λ e. by_test (ltb i n)
      (λ h. stored_at f n (set l sender (f sender)) i (ltb-true i n h) (rw length-set (omega (arith, ltb-true i n h)))
      ∙ sym (pick-on (is_other n own i) (f i) (get_or l i 0) (other-on n own i (ltb-true i n h) e)))
      (λ h. let high : n ≤ i = ltb-false i n h in
      stored_else f n (set l sender (f sender)) i high
      ∙ get_or-set_other l sender i (f sender) 0 (λ q. omega arith)
      ∙ sym (pick_off (is_other n own i) (f i) (get_or l i 0) (other-beyond n own i high))))

-- what the entry of site k becomes
unfoldable pub entry_of : List ℕ → List ℕ → ℕ → ℕ
entry_of said v k = merge_entry (get_or v k 0) (get_or said k 0)

-- the marks that the code leaves
unfoldable pub marks : ℕ → ℕ → ℕ → List ℕ → List ℕ → List ℕ
marks n own sender said v = leaves (gain said v) n own sender 0 (replicate 16 0)

module _ (n own sender : ℕ) (said v : List ℕ) (few : n ≤ 16) (below : own < n) (from : sender < n) where
  -- a mark is what the entry adds to the news
  mark : (i : ℕ) → i < 16 → get_or (marks n own sender said v) i 0 ≡ share n own said v i
  unfolding marks share
  mark i h =
      leaves-entry (gain said v) n own sender 0 (replicate 16 0) (rw (length-replicate {A = ℕ} 16 0) few) below from
      (sym (get_or-replicate {A = ℕ} 16 own 0 0 (omega arith))) i
      ∙ ap (pick (is_other n own i) (gain said v i)) (get_or-replicate {A = ℕ} 16 i 0 0 h)

  -- THE CODE MERGES as the definition says
  pub left-is-merging :
      length v ≡ 16 → (codes rose : List ℕ) (news : ℕ) → codes ≡ leaves (entry_of said v) n own sender (get_or v own 0) v →
      rose ≡ marks n own sender said v → news ≡ sum_to (λ i. get_or rose i 0) 16 →
      record { codes = codes; news = news } ≡ merging n own sender said v
  unfolding entry_of risen
  left-is-merging long codes rose news e r q =
      merged_same (record { codes = codes; news = news }) (merging n own sender said v)
      (e ∙ ext_get_or 0 (leaves (entry_of said v) n own sender (get_or v own 0) v) (merging n own sender said v).codes
      (leaves-length (entry_of said v) n own sender (get_or v own 0) v ∙ sym (merging-length n own sender said v))
      (λ i h. leaves-entry (entry_of said v) n own sender (get_or v own 0) v (omega arith) below from refl i
      ∙ sym (merging-entry n own sender said v i (rw leaves-length at h))))
      (q ∙ sum_same (λ i. get_or rose i 0) (share n own said v) 16 (λ i h. rw r (mark i h))
      ∙ sym (merging-news n own sender said v 16 few))
