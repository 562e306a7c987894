-- A quiet day as a list, header and all: theorems 4 to 8.
use Rattle.std.specs.Prelude.{ℕ, ◌+◌, ◌-◌, ◌*◌, ◌≤◌, ◌<◌, true, List, ◌≡◌}
use Rattle.std.proofs.Math.Path.{refl, ap, subst}
use Rattle.std.proofs.Common.{sym, ◌∙◌, arith, length-drop}
use Rattle.std.proofs.Math.ListN.{length, drop}
use Rattle.std.proofs.Math.Pow.{suc_ones}
use borrow.Author.Tests.{le-ltb, eq-eqb}
use Rattle.weights.specs.Weights.{total_weight, largest_weight, even_weights}
use Rattle.weights.specs.laws.WeightLaws.{Weighed, weighing, even_weighed, even_total, even_largest}
use Rattle.bits.specs.Bits.{has_bit, every_site}
use Rattle.bits.specs.laws.Sets.{every_has}
use Rattle.site.specs.declared.CommitQuorum.{CommitQuorum}
use Rattle.site.specs.declared.AbortQuorum.{AbortQuorum}
use Rattle.world.specs.Sizes.{list_bytes, store_bytes, sizes_number}
use Rattle.world.specs.laws.SizesLaws.{Sized, fitting}
use Rattle.header.specs.Headers.{first_header, header_of, header_weights, header_length, header_sizes, header_number, header_world, first_sizes, first_number}
use Rattle.header.specs.laws.HeaderLaws.{headed, header-sized}
use Rattle.header.specs.laws.Editions.{FirstPlayed, first-played}
use Rattle.play.specs.Run.{Ask, Ran, run}
use Rattle.list.specs.Play.{stopped, play_list}
use Rattle.list.specs.Claims.{list_records}
use Rattle.spelling.specs.Spelling.{header_bytes, command_bytes}
use Rattle.spelling.specs.Ranges.{AllInRange}
use Rattle.spelling.specs.Script.{spelled_by}
use Rattle.spelling.specs.WriteRead.{put_out, bytes_of}
use Rattle.spelling.specs.laws.BytesBack.{header-reads, list_length}
use Rattle.round_trip.specs.Claims.{output}
use Rattle.round_trip.proofs.laws.Outputs.{passed, put-room, put-gives}
use Rattle.quiet.specs.Quiet.{replies_after, quiet}
use Rattle.quiet.specs.QuietList.{quiet_header, quiet_list, write_quiet}
use Rattle.quiet.specs.laws.QuietLaws.{quiet_list-length, quiet_in-range}
use Rattle.quiet_run.specs.Claims.{
  Wanted,
  Quietly,
  LegalWeights,
  LegalIsWanted,
  Legal,
  EvenIsLegal,
  QuietlyPlayed,
  QuietAfterHeader,
  QuietListPlayed,
  WrittenIsPlayed,
}
use Rattle.quiet_run.proofs.laws.Commands.{after_ordered, quiet-range, quiet-events}
use Rattle.quiet_run.proofs.laws.Leads.{Leads}
use Rattle.quiet_run.proofs.laws.Whole.{quiet_records, quiet_end}
use Rattle.quiet_run.proofs.laws.Ends.{ends_quietly}
use Rattle.quiet_run.proofs.laws.Transport.{Fit, leads-run, asks_from, list-reads, leads_play}
use Rattle.quiet_run.proofs.laws.Runs.{fits, agreed, fresh-fit, end, from-fresh, after-rounds}

-- the day's commands take so many bytes
commands-length : (n : ℕ) → 1 ≤ n → length (spelled_by command_bytes (quiet n)) ≡ 5 + 24 * (n - 1)
unfolding quiet_list
commands-length n some =
    let c : CommitQuorum = record { 0 = 0 } in
    let a : AbortQuorum = record { 0 = 0 } in
    omega (arith, list_length (quiet_header n c a) (quiet n), quiet_list-length n c a some)

-- A LIST OF EITHER EDITION: its header is accepted, every site is willing, and the day's commands follow
module _ (list : List ℕ) (accepted : header_number list ≡ 0)
    (will : (j : ℕ) → j < (header_of list).n → has_bit (header_of list).willing j ≡ true)
    (left : drop (header_length list) list ≡ spelled_by command_bytes (quiet (header_of list).n)) (store : List ℕ)
    (room : store_bytes ≤ length store) where
  abbrev n : ℕ
  n = (header_of list).n

  wanted : Wanted n (header_weights list) (header_of list).commit (header_of list).abort (header_of list).willing store
  unfolding header_sizes
  wanted = record { sizes = (headed list accepted).sizes; all-willing = will; room = room }

  sizes-fit : Sized n (header_weights list) (header_of list).commit (header_of list).abort (header_of list).willing
  sizes-fit = fits n (header_weights list) (header_of list).commit (header_of list).abort (header_of list).willing store wanted

  in_range : AllInRange (quiet n)
  unfolding quiet
  in_range = quiet-range replies_after after_ordered n (omega (arith, sizes-fit)) sizes-fit.high

  whole_length : length list ≡ header_length list + 5 + 24 * (n - 1)
  whole_length =
      omega (
        arith,
        sym (length-drop (header_length list) list) ∙ ap length left,
        commands-length n (omega (arith, sizes-fit)),
        (headed list accepted).whole,
      )

  abbrev last : Ran
  last = end n (header_weights list) (header_of list).commit (header_of list).abort (header_of list).willing store wanted

  leads : Leads (quiet n) (header_world list) store last
  unfolding quiet header_world
  leads =
      from-fresh n (header_weights list) (header_of list).commit (header_of list).abort (header_of list).willing store wanted replies_after after_ordered
      (after-rounds n (header_weights list) (header_of list).commit (header_of list).abort (header_of list).willing store wanted)

  fit : Fit (header_world list) store
  unfolding header_world
  fit = fresh-fit n (header_weights list) (header_of list).commit (header_of list).abort (header_of list).willing store wanted

  abbrev asks : List Ask
  asks = asks_from list (header_length list) (quiet n)

  -- its play
  played : play_list store list ≡ stopped 0 last.world last.store (length list) (0 + length (quiet n)) asks
  unfolding play_list
  played =
      rw (le-ltb (length store) store_bytes room, eq-eqb (header_number list) 0 accepted)
      (leads_play leads fit in_range list (header_length list) 0 (length list) left (headed list accepted).whole (omega arith))

  all-records : list_records store list ≡ quiet_records n
  unfolding quiet_end stopped
  all-records =
      ap (λ p. (run (header_world list) store p.asks).records) played
      ∙ ap (λ r. r.records) (leads-run leads asks (list-reads list (header_length list) (quiet n) in_range left) fit).same

  list-ends : Quietly n (play_list store list).played.world (play_list store list).store (list_records store list)
  unfolding quiet_end stopped
  list-ends =
      subst (Quietly n (play_list store list).played.world (play_list store list).store) (sym all-records)
      (subst (λ p. Quietly n p.played.world p.store (quiet_records n)) (sym played)
      (ends_quietly n (n - 1) (header_weights list) (header_of list).commit (header_of list).abort (header_of list).willing
      (agreed n (header_weights list) (header_of list).commit (header_of list).abort (header_of list).willing store wanted) store room))

  after_header_lem : QuietlyPlayed n (header_length list) store list
  unfolding stopped quiet
  after_header_lem =
      record {
        number = ap (λ p. p.played.number) played;
        events =
            ap (λ p. p.played.events) played
            ∙ omega (arith, quiet-events replies_after after_ordered n (omega (arith, sizes-fit)) sizes-fit.high);
        place = ap (λ p. p.played.place) played;
        bytes = whole_length;
        comes_to_lem = list-ends;
      }

-- THE FIRST EDITION'S LIST, of sizes that are not refused
module _ (n : ℕ) (c : CommitQuorum) (a : AbortQuorum) (sizes : first_sizes (quiet_header n c a) ≡ 0) where
  abbrev list_of : List ℕ
  list_of = quiet_list n c a

  z : Sized n (even_weights n) c a (every_site n)
  unfolding first_sizes quiet_header
  z = header-sized (quiet_header n c a) (even_weights n) sizes

  header_is : first_header list_of ≡ quiet_header n c a
  unfolding quiet_list bytes_of
  header_is = header-reads (quiet_header n c a) (spelled_by command_bytes (quiet n)) (quiet_in-range n c a sizes)

  first-accepted : first_number list_of ≡ 0
  unfolding first_number
  first-accepted =
      let long : length list_of ≡ 10 + 24 * (n - 1) = quiet_list-length n c a (omega (arith, z)) in
      rw (le-ltb list_bytes (length list_of) (omega (arith, long, z)), le-ltb (length list_of) 5 (omega (arith, long))) (ap first_sizes header_is ∙ sizes)

  first : FirstPlayed list_of
  first = first-played list_of first-accepted

  numbers_are : header_of list_of ≡ quiet_header n c a
  numbers_are = first.header_is ∙ header_is

  commands-left : drop 5 list_of ≡ spelled_by command_bytes (quiet n)
  unfolding quiet_list bytes_of header_bytes
  commands-left = refl

  first_quietly : (store : List ℕ) → store_bytes ≤ length store → QuietlyPlayed n 5 store list_of
  unfolding quiet_header
  first_quietly store room =
      subst (λ x. QuietlyPlayed n x store list_of) first.length-is
      (subst (λ h. QuietlyPlayed h.n (header_length list_of) store list_of) numbers_are
      (after_header_lem list_of first.accepted
      (λ j h. ap (λ x. has_bit x.willing j) numbers_are ∙ every_has n j z.high (subst (λ x. j < x.n) numbers_are h))
      (ap (λ x. drop x list_of) first.length-is ∙ commands-left ∙ ap (λ x. spelled_by command_bytes (quiet x.n)) (sym numbers_are)) store room))

-- document 01's sizes are legal, and legal sizes are accepted

even_legal : (n : ℕ) (c : CommitQuorum) (a : AbortQuorum) → Legal n c a → LegalWeights n (even_weights n) c a
even_legal n c a legal =
    let total : total_weight (even_weights n) ≡ n = even_total n legal.high in
    let largest : largest_weight (even_weights n) ≡ 1 = even_largest n (omega arith) in
    let w : Weighed n (even_weights n) = even_weighed n in
    record {
      low = legal.low;
      high = legal.high;
      some = λ i h. w.some i h (omega arith);
      most = λ i h. w.few i h (omega arith);
      none = w.none;
      commit = omega (arith, total, largest);
      abort = omega (arith, total, largest);
      together = omega (arith, total);
    }

legal_sizes :
    (n : ℕ) (weights : List ℕ) (c : CommitQuorum) (a : AbortQuorum) → LegalWeights n weights c a →
    sizes_number n weights c a (every_site n) ≡ 0
unfolding every_site
legal_sizes n weights c a legal =
    fitting n weights c a (every_site n)
    (record {
      low = legal.low;
      high = legal.high;
      weighed = weighing n weights (record { some = λ i h _. legal.some i h; few = λ i h _. legal.most i h; none = legal.none });
      commit-most = legal.commit;
      abort-most = legal.abort;
      quorums_meet = omega arith;
      willing-below = omega (arith, suc_ones n);
    })

-- the claims

pub legal_is-wanted : LegalIsWanted
legal_is-wanted n weights c a store legal room =
    record { sizes = legal_sizes n weights c a legal; all-willing = λ j h. every_has n j legal.high h; room = room }

pub even_is_legal : EvenIsLegal
even_is_legal = even_legal

pub quiet-after_header : QuietAfterHeader
quiet-after_header store list accepted will left room = after_header_lem list accepted will left store room

pub quiet_list-played : QuietListPlayed
unfolding first_sizes header_sizes quiet_header
quiet_list-played n c a store legal room =
    first_quietly n c a (legal_sizes n (even_weights n) c a (even_legal n c a legal)) store room

pub written-is-played : WrittenIsPlayed
unfolding write_quiet
written-is-played n c a buffer store e room =
    let ok : (first_sizes (quiet_header n c a) ≡ 0) × (write_quiet n c a buffer ≡ put_out 0 (quiet_list n c a) buffer) =
    passed (first_sizes (quiet_header n c a)) 0 buffer (put_out 0 (quiet_list n c a) buffer) e in
    let put : output (write_quiet n c a buffer) ≡ quiet_list n c a =
    ap output ok.1
    ∙ (put-gives 0 (quiet_list n c a) buffer (put-room 0 (quiet_list n c a) buffer (sym (ap (λ o. o.answer.number) ok.1) ∙ e))).put in
    subst (QuietlyPlayed n 5 store) (sym put) (first_quietly n c a ok.0 store room)
