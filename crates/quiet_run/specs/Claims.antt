-- What is claimed of a quiet day (request (v)): every call is accepted, all sites commit, and how much it costs.
use Rattle.std.specs.Prelude.{ℕ, ◌+◌, ◌-◌, ◌*◌, ◌≤◌, ◌<◌, true, List, [], ◌∷◌, ◌≡◌, length, drop}
use Rattle.weights.specs.Weights.{weight_of, total_weight, largest_weight, even_weights}
use Rattle.bits.specs.Bits.{has_bit, every_site}
use Rattle.row.specs.Rows.{get_row}
use Rattle.site.specs.declared.Group.TheVariants as Group·
use Rattle.site.specs.declared.Outcome.TheVariants as Outcome·
use Rattle.site.specs.declared.Site.{Site}
use Rattle.site.specs.declared.CommitQuorum.{CommitQuorum}
use Rattle.site.specs.declared.AbortQuorum.{AbortQuorum}
use Rattle.site.specs.Records.{Written}
use Rattle.command.specs.declared.Command.{Command}
use Rattle.world.specs.declared.World.{World}
use Rattle.world.specs.Sizes.{store_bytes, sizes_number}
use Rattle.world.specs.Worlds.{fresh_world, site_of}
use Rattle.header.specs.Headers.{header_of, header_length, header_number}
use Rattle.play.specs.Run.{Ask, run, call_of}
use Rattle.history.specs.Safe.{written_at}
use Rattle.safety.specs.Claims.{fresh_run}
use Rattle.list.specs.Play.{play_list}
use Rattle.list.specs.Claims.{list_records}
use Rattle.spelling.specs.Spelling.{command_bytes}
use Rattle.spelling.specs.Script.{spelled_by}
use Rattle.round_trip.specs.Claims.{output}
use Rattle.quiet.specs.Quiet.{replies_after, replies_at_once, quiet_in, quiet}
use Rattle.quiet.specs.QuietList.{quiet_list, write_quiet}

-- what a quiet day wants: sizes that the maker accepts, every site willing, a store of enough bytes
pub record Wanted (n : ℕ) (weights : List ℕ) (c : CommitQuorum) (a : AbortQuorum) (willing : ℕ) (store : List ℕ) : Type 0 where
  pub sizes : sizes_number n weights c a willing ≡ 0
  pub all-willing : (j : ℕ) → j < n → has_bit willing j ≡ true
  pub room : store_bytes ≤ length store

-- a command as a call: in a list of its own, at its first byte
abbrev pub ask_of : Command → Ask
ask_of c = record { list = command_bytes c; place = 0 }

-- commands as calls, one each
unfoldable pub asks_of : List Command → List Ask
asks_of [] = []
asks_of (c ∷ commands) = ask_of c ∷ asks_of commands

-- each of some calls is accepted
unfoldable pub AllAccepted : World → List ℕ → List Ask → Type 0
AllAccepted w store [] = Unit
AllAccepted w store (a ∷ asks) =
    ((call_of w store a).number ≡ 0) × AllAccepted (call_of w store a).world (call_of w store a).store asks

-- how many records of a history were written at site j, whichever code they lead to
unfoldable pub records_at : ℕ → List Written → ℕ
records_at j H = written_at j 1 H + written_at j 2 H + written_at j 3 H + written_at j 4 H + written_at j 5 H

-- a log with all three records: P, commit group, commit outcome
pub record WholeLog (s : Site) : Type 0 where
  pub prepared : s.prepared ≡ true
  pub group : s.group ≡ Group·.Commit
  pub outcome : s.outcome ≡ Outcome·.Commit

-- row k of a store is of this kind, and from this site
pub record RowIs (store : List ℕ) (k kind sender : ℕ) : Type 0 where
  pub kind-is : (get_row store k).kind ≡ kind
  pub sender-is : (get_row store k).sender ≡ sender

-- a round's rows: site 0's command, row k, and after it one reply from each other site, in the order of the sites
pub record RoundRows (n : ℕ) (store : List ℕ) (k command reply : ℕ) : Type 0 where
  pub command-is : RowIs store k command 0
  pub replies_are : (j : ℕ) → 0 < j → j < n → RowIs store (k + j) reply j

-- WHAT A QUIET DAY COMES TO among n sites, in its world, its store and the history H of its records: at each site a whole log, by one prepare record,
-- one commit group record and one commit outcome record, three in all; 3n records; 3n rows, which are prepare and votes, join commit and in-group
-- replies, outcome and acks; and the news
pub record Quietly (n : ℕ) (w : World) (store : List ℕ) (H : List Written) : Type 0 where
  pub log : (j : ℕ) → j < n → WholeLog (site_of w j)
  pub prepares : (j : ℕ) → j < n → written_at j 1 H ≡ 1
  pub groups : (j : ℕ) → j < n → written_at j 2 H ≡ 1
  pub outcomes : (j : ℕ) → j < n → written_at j 4 H ≡ 1
  pub three-each : (j : ℕ) → j < n → records_at j H ≡ 3
  pub in_all : length H ≡ 3 * n
  pub rows : w.rows ≡ 3 * n
  pub vote-rows : RoundRows n store 0 1 2
  pub join-rows : RoundRows n store n 3 5
  pub outcome-rows : RoundRows n store (2 * n) 6 7
  pub news : w.news ≡ 4 * (n - 1) + 2 * ((n - 1) * (n - 1))

-- calls that make a quiet day, from a world and a store
pub record QuietCalls (n : ℕ) (w : World) (store : List ℕ) (asks : List Ask) : Type 0 where
  pub accepted : AllAccepted w store asks
  pub events : length asks ≡ 3 + 6 * (n - 1)
  pub comes_to_lem : Quietly n (run w store asks).world (run w store asks).store (run w store asks).records

-- the quiet day's calls from the maker's world, in an order of deliveries and replies
abbrev pub QuietIn : (ℕ → ℕ → List Command) → Type 0
QuietIn order =
    (n : ℕ) (weights : List ℕ) (c : CommitQuorum) (a : AbortQuorum) (willing : ℕ) (store : List ℕ) → Wanted n weights c a willing store →
    QuietCalls n (fresh_world n weights c a willing) store (asks_of (quiet_in order n))

-- THEOREM 1: with the replies after all deliveries
abbrev pub QuietRun : Type 0
QuietRun = QuietIn replies_after

-- THEOREM 2: and with each reply at once
abbrev pub QuietAtOnce : Type 0
QuietAtOnce = QuietIn replies_at_once

-- THEOREM 3: which leaves the same world and store, the same history and the same news
abbrev pub OrdersAgree : Type 0
OrdersAgree =
    (n : ℕ) (weights : List ℕ) (c : CommitQuorum) (a : AbortQuorum) (willing : ℕ) (store : List ℕ) → Wanted n weights c a willing store →
    fresh_run n weights c a willing store (asks_of (quiet_in replies_after n))
    ≡ fresh_run n weights c a willing store (asks_of (quiet_in replies_at_once n))

-- sizes as request (vi) of document 02 wants them: n from 3 to 16; weights of 1 to 255, and 0 from n up; with W their sum and h the largest, C and A each
-- at most W - h, and together at least W + 1
pub record LegalWeights (n : ℕ) (weights : List ℕ) (c : CommitQuorum) (a : AbortQuorum) : Type 0 where
  pub low : 3 ≤ n
  pub high : n ≤ 16
  pub some : (i : ℕ) → i < n → 1 ≤ weight_of weights i
  pub most : (i : ℕ) → i < n → weight_of weights i ≤ 255
  pub none : (i : ℕ) → n ≤ i → i < 16 → weight_of weights i ≡ 0
  pub commit : c.0 ≤ total_weight weights - largest_weight weights
  pub abort : a.0 ≤ total_weight weights - largest_weight weights
  pub together : total_weight weights + 1 ≤ c.0 + a.0

-- THEOREM 4: every n from 3 to 16, all legal weights and all legal C and A are wanted so, where the willing sites are all sites
abbrev pub LegalIsWanted : Type 0
LegalIsWanted =
    (n : ℕ) (weights : List ℕ) (c : CommitQuorum) (a : AbortQuorum) (store : List ℕ) → LegalWeights n weights c a →
    store_bytes ≤ length store → Wanted n weights c a (every_site n) store

-- sizes as document 01 wants them, where each site weighs 1: n from 3 to 16; C and A each at most n - 1, and together at least n + 1
pub record Legal (n : ℕ) (c : CommitQuorum) (a : AbortQuorum) : Type 0 where
  pub low : 3 ≤ n
  pub high : n ≤ 16
  pub commit : c.0 ≤ n - 1
  pub abort : a.0 ≤ n - 1
  pub together : n + 1 ≤ c.0 + a.0

-- THEOREM 5: so are document 01's sizes
abbrev pub EvenIsLegal : Type 0
EvenIsLegal = (n : ℕ) (c : CommitQuorum) (a : AbortQuorum) → Legal n c a → LegalWeights n (even_weights n) c a

-- a list with a header of so many bytes, played as a quiet day: to its end, with every command accepted
pub record QuietlyPlayed (n header : ℕ) (store list : List ℕ) : Type 0 where
  pub number : (play_list store list).played.number ≡ 0
  pub events : (play_list store list).played.events ≡ 3 + 6 * (n - 1)
  pub place : (play_list store list).played.place ≡ length list
  pub bytes : length list ≡ header + 5 + 24 * (n - 1)
  pub comes_to_lem : Quietly n (play_list store list).played.world (play_list store list).store (list_records store list)

-- THEOREM 6: every list, of either edition, whose length and header are accepted, in which every site is willing and the quiet day's commands follow
-- the header
abbrev pub QuietAfterHeader : Type 0
QuietAfterHeader =
    (store list : List ℕ) → header_number list ≡ 0 → ((j : ℕ) → j < (header_of list).n → has_bit (header_of list).willing j ≡ true) →
    drop (header_length list) list ≡ spelled_by command_bytes (quiet (header_of list).n) → store_bytes ≤ length store →
    QuietlyPlayed (header_of list).n (header_length list) store list

-- THEOREM 7: the quiet day's list, of the first edition, for every n from 3 to 16 and all legal C and A
abbrev pub QuietListPlayed : Type 0
QuietListPlayed =
    (n : ℕ) (c : CommitQuorum) (a : AbortQuorum) (store : List ℕ) → Legal n c a → store_bytes ≤ length store →
    QuietlyPlayed n 5 store (quiet_list n c a)

-- THEOREM 8: and so is whatever an accepted call has written as a quiet day's list
abbrev pub WrittenIsPlayed : Type 0
WrittenIsPlayed =
    (n : ℕ) (c : CommitQuorum) (a : AbortQuorum) (buffer store : List ℕ) → (write_quiet n c a buffer).answer.number ≡ 0 →
    store_bytes ≤ length store → QuietlyPlayed n 5 store (output (write_quiet n c a buffer))
