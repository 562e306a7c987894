-- The proofs of the three claims.
use Rattle.std.specs.Prelude.{ℕ, ◌<◌, Bool, List, ◌≡◌, length}
use Rattle.std.proofs.Common.{ap, sym, ◌∙◌, arith, ext_get_or}
use Rattle.vector.specs.Vector.{lowest_outcome}
use Rattle.merging.specs.declared.Merged.{Merged}
use Rattle.merging.specs.Merging.{merging_in_order, merging, TakesOthersOnce}
use Rattle.merging.proofs.Orders.{sender_first-once}
use Rattle.merging.proofs.MergeLaws.{merged_same, merged_length, merged_entry, taken-again}
use Rattle.merging.proofs.NewsLaws.{merged_news}
use Rattle.row.specs.declared.Row.{Row}
use Rattle.site.specs.declared.Site.{Site}
use Rattle.site.specs.Fields.{with_codes}
use Rattle.rules.specs.Rules.{Move, hear, after_hearing, deliver}
use Rattle.orders.specs.InOrder.{hear_in_order, deliver_in_order}
use Rattle.orders.specs.Claims.{AnyOrder, SenderFirstIsSuch, NoneRisesTwice}

-- TWO ORDERS that take each other site once merge alike
orders_alike :
    {n own : ℕ} {a b : List ℕ} → TakesOthersOnce n own a → TakesOthersOnce n own b → (said v : List ℕ) →
    merging_in_order a said v ≡ merging_in_order b said v
orders_alike {n} {own} {a} {b} once once' said v =
    merged_same (merging_in_order a said v) (merging_in_order b said v)
    (ext_get_or 0 (merging_in_order a said v).codes (merging_in_order b said v).codes
    (merged_length a said v ∙ sym (merged_length b said v))
    (λ k h. let room : k < length v = rw merged_length at h in
    merged_entry once said v k room ∙ sym (merged_entry once' said v k room)))
    (merged_news once said v n (omega arith) ∙ sym (merged_news once' said v n (omega arith)))

-- all that follows the merge is a function of what merging gives
after_merging : ℕ → ℕ → Bool → Row → Site → Merged → Move
after_merging own n willing row s m = after_hearing m.news own n willing row (with_codes m.codes s)

pub any_order : AnyOrder
unfolding merging deliver deliver_in_order hear hear_in_order after_merging
any_order n own order once willing row s =
    let same : merging_in_order order row.codes s.codes ≡ merging n own row.sender row.codes s.codes =
    orders_alike once (sender_first-once n own row.sender) row.codes s.codes in
    let whole : deliver_in_order order own n willing row s ≡ deliver own n willing row s =
    ap (after_merging own n willing row s) same in
    record {
      same-site = ap (λ m. m.step.site) whole;
      same_row = ap (λ m. m.step.row) whole;
      same-news = ap (λ m. m.step.news) whole;
      same-records = ap (λ m. m.records) whole;
      same_choice = ap (λ m. lowest_outcome n (with_codes m.codes s).codes) same;
    }

pub sender_first-is_such : SenderFirstIsSuch
sender_first-is_such = sender_first-once

pub none-rises-twice : NoneRisesTwice
none-rises-twice = taken-again
