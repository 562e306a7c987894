-- The site rules: START, TIMEOUT, DELIVER, CRASH and RECOVER. Each gives the next site, the row it sends (kind 0: none), its news (how
-- many entries its merge raised) and the records it writes. `own` is the site's number, n the number of sites; the weights are all sites'.
use Rattle.std.specs.Prelude.{ℕ, Bool, true, false, List, [], ◌∷◌, ◌++◌, ltb, eqb, set}
use Rattle.choice.specs.Choice.{pick, either}
use Rattle.vector.specs.Vector.{count, lowest_outcome}
use Rattle.merging.specs.Merging.{merging}
use Rattle.row.specs.declared.Row.{Row}
use Rattle.bits.specs.Bits.{only_site, other_sites}
use Rattle.row.specs.Rows.{no_row}
use Rattle.site.specs.declared.Group.{Group}
use Rattle.site.specs.declared.Group.TheVariants as Group·
use Rattle.site.specs.declared.State.{State}
use Rattle.site.specs.declared.State.TheVariants as State·
use Rattle.site.specs.declared.Site.{Site}
use Rattle.site.specs.declared.CommitQuorum.{CommitQuorum}
use Rattle.site.specs.declared.AbortQuorum.{AbortQuorum}
use Rattle.site.specs.State.{state_of, code_of, is_terminated, is_active, commit_reached, abort_reached}
use Rattle.site.specs.Fields.{zero_vector, with_up, with_coordinator, with_codes}
use Rattle.site.specs.Records.{Written, wrote, prepare_record, group_record, outcome_record, commit, abort, write_prepare, join_group, write_outcome}

-- what a rule gives: the next site, the row it sends (kind 0: none), and its news
pub record Stepped : Type 0 where
  pub site : Site
  pub row : Row
  pub news : ℕ

-- what a rule does: the next site with the row it sends and its news, and the records written
pub record Move : Type 0 where
  pub step : Stepped
  pub records : List Written

-- a site with the records that led to it
pub record Noted : Type 0 where
  pub site : Site
  pub records : List Written

-- nothing is sent. No news: only DELIVER merges, and it adds its own (`bringing`)
unfoldable pub silent : Site → List Written → Move
silent s records = record { step = record { site = s; row = no_row; news = 0 }; records = records }

-- a command (kinds 1, 3, 4 and 6) goes to all sites but the sender, with the sender's vector after the step
unfoldable pub command_row : ℕ → ℕ → ℕ → Site → Row
command_row kind own n s =
    record { kind = kind; sender = own; destinations = other_sites n own; codes = s.codes }

unfoldable pub commanding : ℕ → ℕ → ℕ → Site → List Written → Move
commanding kind own n s records =
    record { step = record { site = s; row = command_row kind own n s; news = 0 }; records = records }

-- a reply (kinds 2, 5 and 7) goes to the command's sender alone
unfoldable pub reply_row : ℕ → ℕ → ℕ → Site → Row
reply_row kind own to s = record { kind = kind; sender = own; destinations = only_site to; codes = s.codes }

unfoldable pub replying : ℕ → ℕ → ℕ → Noted → Move
replying kind own to m =
    record { step = record { site = m.site; row = reply_row kind own to m.site; news = 0 }; records = m.records }

-- START at site 0: if willing, write P, become coordinator, send prepare; if unwilling, write abort, become coordinator, send outcome
unfoldable pub start : ℕ → Bool → Site → Move
start n willing s =
    pick willing (commanding 1 0 n (with_coordinator true (write_prepare 0 s)) (wrote 0 prepare_record ∷ []))
    (commanding 6 0 n (with_coordinator true (write_outcome abort 0 s)) (wrote 0 (outcome_record abort) ∷ []))

-- become coordinator and send the command of the state, deciding nothing
unfoldable pub take_over : ℕ → ℕ → ℕ → Site → Move
take_over kind own n s = commanding kind own n (with_coordinator true s) []

-- a prepared coordinator joins the commit group if all n entries are 1 or any entry is 2, and otherwise the abort group
unfoldable pub choose_group : ℕ → ℕ → Site → Move
choose_group own n s =
    pick (either (eqb (count n s.codes 1) n) (ltb 0 (count n s.codes 2)))
    (commanding 3 own n (join_group commit own s) (wrote own (group_record commit) ∷ []))
    (commanding 4 own n (join_group abort own s) (wrote own (group_record abort) ∷ []))

-- a coordinator in the commit group: if the entries 2 weigh at least C, write commit and send outcome; else send the join again
unfoldable pub decide_commit : ℕ → ℕ → List ℕ → CommitQuorum → Site → Move
decide_commit own n weights c s =
    pick (commit_reached c weights n s.codes)
    (commanding 6 own n (write_outcome commit own s) (wrote own (outcome_record commit) ∷ []))
    (commanding 3 own n s [])

-- a coordinator in the abort group: the same with A, entries 3 and abort
unfoldable pub decide_abort : ℕ → ℕ → List ℕ → AbortQuorum → Site → Move
decide_abort own n weights a s =
    pick (abort_reached a weights n s.codes)
    (commanding 6 own n (write_outcome abort own s) (wrote own (outcome_record abort) ∷ []))
    (commanding 4 own n s [])

-- TIMEOUT by state. Active: write abort, send nothing, role unchanged. Terminated: send outcome
unfoldable pub timeout_in : State → ℕ → ℕ → List ℕ → CommitQuorum → AbortQuorum → Site → Move
timeout_in State·.Active own n weights c a s = silent (write_outcome abort own s) (wrote own (outcome_record abort) ∷ [])
timeout_in State·.Prepared own n weights c a s = pick s.coordinator (choose_group own n s) (take_over 1 own n s)
timeout_in State·.CommitGroup own n weights c a s = pick s.coordinator (decide_commit own n weights c s) (take_over 3 own n s)
timeout_in State·.AbortGroup own n weights c a s = pick s.coordinator (decide_abort own n weights a s) (take_over 4 own n s)
timeout_in State·.Committed own n weights c a s = take_over 6 own n s
timeout_in State·.Aborted own n weights c a s = take_over 6 own n s

-- TIMEOUT
unfoldable pub timeout : ℕ → ℕ → List ℕ → CommitQuorum → AbortQuorum → Site → Move
timeout own n weights c a s = timeout_in (state_of s) own n weights c a s

-- DELIVER, first: merge, the sender's entry first; this is the vector that merging gives
unfoldable pub hear : ℕ → ℕ → Row → Site → Site
hear own n row s = with_codes (merging n own row.sender row.codes s.codes).codes s

-- the outcome of a code 4 or 5, written; any other code writes nothing
unfoldable pub adopt_code : ℕ → ℕ → Site → Noted
adopt_code code own s =
    pick (eqb code 4) (record { site = write_outcome commit own s; records = wrote own (outcome_record commit) ∷ [] })
    (pick (eqb code 5) (record { site = write_outcome abort own s; records = wrote own (outcome_record abort) ∷ [] })
    (record { site = s; records = [] }))

-- DELIVER, then: if the site is not terminated and some entry is 4 or 5, write that outcome; the lowest site number decides
unfoldable pub adopt : ℕ → ℕ → Site → Noted
adopt own n s =
    pick (is_terminated (state_of s)) (record { site = s; records = [] }) (adopt_code (lowest_outcome n s.codes) own s)

-- prepare, still active: willing writes P; unwilling writes abort
unfoldable pub vote_in : State → ℕ → Bool → Site → Noted
vote_in State·.Active own willing s =
    pick willing (record { site = write_prepare own s; records = wrote own prepare_record ∷ [] })
    (record { site = write_outcome abort own s; records = wrote own (outcome_record abort) ∷ [] })
vote_in State·.Prepared own willing s = record { site = s; records = [] }
vote_in State·.CommitGroup own willing s = record { site = s; records = [] }
vote_in State·.AbortGroup own willing s = record { site = s; records = [] }
vote_in State·.Committed own willing s = record { site = s; records = [] }
vote_in State·.Aborted own willing s = record { site = s; records = [] }

-- join commit, prepared: write that group; active: no change of state (shown never to occur)
unfoldable pub join_commit_in : State → ℕ → Site → Noted
join_commit_in State·.Active own s = record { site = s; records = [] }
join_commit_in State·.Prepared own s = record { site = join_group commit own s; records = wrote own (group_record commit) ∷ [] }
join_commit_in State·.CommitGroup own s = record { site = s; records = [] }
join_commit_in State·.AbortGroup own s = record { site = s; records = [] }
join_commit_in State·.Committed own s = record { site = s; records = [] }
join_commit_in State·.Aborted own s = record { site = s; records = [] }

-- join abort, prepared: write that group; active: write the abort group without P
unfoldable pub join_abort_in : State → ℕ → Site → Noted
join_abort_in State·.Active own s = record { site = join_group abort own s; records = wrote own (group_record abort) ∷ [] }
join_abort_in State·.Prepared own s = record { site = join_group abort own s; records = wrote own (group_record abort) ∷ [] }
join_abort_in State·.CommitGroup own s = record { site = s; records = [] }
join_abort_in State·.AbortGroup own s = record { site = s; records = [] }
join_abort_in State·.Committed own s = record { site = s; records = [] }
join_abort_in State·.Aborted own s = record { site = s; records = [] }

-- the records written before, then those of the second
unfoldable pub after : List Written → Noted → Noted
after earlier m = record { site = m.site; records = earlier ++ m.records }

-- DELIVER, then by kind: prepare replies vote, a join replies in-group, an outcome replies ack, in every state; replies merge only
unfoldable pub answer : ℕ → ℕ → ℕ → Bool → Noted → Move
answer kind own sender willing m =
    pick (eqb kind 1) (replying 2 own sender (after m.records (vote_in (state_of m.site) own willing m.site)))
    (pick (eqb kind 3) (replying 5 own sender (after m.records (join_commit_in (state_of m.site) own m.site)))
    (pick (eqb kind 4) (replying 5 own sender (after m.records (join_abort_in (state_of m.site) own m.site)))
    (pick (eqb kind 6) (replying 7 own sender m)
    (silent m.site m.records))))

-- a move with the news of the merge before it
unfoldable pub bringing : ℕ → Move → Move
bringing news m = record { step = record { site = m.step.site; row = m.step.row; news = news }; records = m.records }

-- DELIVER, after a merge with so much news: adopt an outcome, answer by kind
unfoldable pub after_hearing : ℕ → ℕ → ℕ → Bool → Row → Site → Move
after_hearing news own n willing row heard = bringing news (answer row.kind own row.sender willing (adopt own n heard))

-- DELIVER; its news: how many entries merging raised
unfoldable pub deliver : ℕ → ℕ → Bool → Row → Site → Move
deliver own n willing row s =
    after_hearing (merging n own row.sender row.codes s.codes).news own n willing row (hear own n row s)

-- what a crash leaves of the vector: the one in the group record, or all 0
unfoldable pub kept_vector : Group → List ℕ → List ℕ
kept_vector Group·.None v = zero_vector
kept_vector Group·.Commit v = v
kept_vector Group·.Abort v = v

-- CRASH: down, subordinate; the vector that is kept, with the own entry set to the state
unfoldable pub crash : ℕ → Site → Move
crash own s =
    silent
    (with_up false (with_coordinator false
    (with_codes (set (kept_vector s.group s.joined) own (code_of (state_of s))) s)))
    []

-- RECOVER with an empty log: up, subordinate; write abort, send nothing
unfoldable pub restart : ℕ → Site → Move
restart own s =
    silent (with_up true (with_coordinator false (write_outcome abort own s))) (wrote own (outcome_record abort) ∷ [])

-- RECOVER. The log is empty exactly if the site is active: then as above (document 02, request (i), which corrects document 01's
-- "With an empty log it is active as at the start"). With any record: up; nothing else changes
unfoldable pub recover : ℕ → Site → Move
recover own s = pick (is_active (state_of s)) (restart own s) (silent (with_up true s) [])
