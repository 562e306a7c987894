-- What is claimed of every list of one-command calls. The proofs are elsewhere; this file and the definitions below it are to be believed.
use Rattle.std.specs.Prelude.{ℕ, zero, suc, ◌+◌, ◌≤◌, ◌<◌, true, false, List, [], ◌≡◌, eqb, length, get_or}
use Rattle.choice.specs.Choice.{pick, either}
use Rattle.row.specs.Rows.{no_row, get_row, row_place}
use Rattle.site.specs.State.{state_of, code_of, is_active}
use Rattle.site.specs.Records.{Written}
use Rattle.site.specs.declared.CommitQuorum.{CommitQuorum}
use Rattle.site.specs.declared.AbortQuorum.{AbortQuorum}
use Rattle.rules.specs.Rules.{hear, adopt}
use Rattle.command.specs.declared.Command.TheVariants as Command·
use Rattle.command.specs.declared.Delivery.{Delivery}
use Rattle.command.specs.Commands.{read_command, found}
use Rattle.world.specs.declared.World.{World}
use Rattle.world.specs.Sizes.{max_news, sizes_number}
use Rattle.world.specs.Worlds.{fresh_world, site_of}
use Rattle.world.specs.Valid.{valid_world}
use Rattle.play.specs.Calls.{Call}
use Rattle.play.specs.Commands.{one_command}
use Rattle.play.specs.Run.{Ask, Ran, run, call_of}
use Rattle.history.specs.Safe.{written_at, Safe}
use Rattle.history.specs.Network.{Competition, Told, fresh_network, IsHistory, pass}

-- the run from the maker's world
abbrev pub fresh_run : ℕ → List ℕ → CommitQuorum → AbortQuorum → ℕ → List ℕ → List Ask → Ran
fresh_run n weights c a willing store asks = run (fresh_world n weights c a willing) store asks

-- THEOREM 1: over every list of calls, each with any list bytes and any place, from the maker's world and any store
abbrev pub Demand3 : Type 0
Demand3 = (n : ℕ) (weights : List ℕ) (c : CommitQuorum) (a : AbortQuorum) (willing : ℕ) (store : List ℕ) (asks : List Ask) → Safe n willing (fresh_run n weights c a willing store asks).records

-- a run as a history of a network: steps that write the same records, leave the same n sites and have sent the same rows
pub record HistoryOf (z : Competition) (r : Ran) : Type 0 where
  pub steps : List Told
  pub genuine : IsHistory z fresh_network steps
  pub same-records : (pass z fresh_network steps).records ≡ r.records
  pub same-sites : (j : ℕ) → j < z.n → (pass z fresh_network steps).network.site j ≡ site_of r.world j
  pub same_count : length (pass z fresh_network steps).network.sent ≡ r.world.rows
  pub same_rows :
      (k : ℕ) → k < r.world.rows → get_or (pass z fresh_network steps).network.sent k no_row ≡ get_row r.store k

-- of which theorem 1 is made: every run from the maker's world, of sizes that the maker accepts, is such a history
abbrev pub RunsAreHistories : Type 0
RunsAreHistories =
    (n : ℕ) (weights : List ℕ) (c : CommitQuorum) (a : AbortQuorum) (willing : ℕ) (store : List ℕ) (asks : List Ask) →
    sizes_number n weights c a willing ≡ 0 →
    HistoryOf (record { n = n; weights = weights; commit = c; abort = a; willing = willing })
    (fresh_run n weights c a willing store asks)

-- sizes that the maker refuses write no record at all
abbrev pub RefusedSizes : Type 0
RefusedSizes =
    (n : ℕ) (weights : List ℕ) (c : CommitQuorum) (a : AbortQuorum) (willing : ℕ) (store : List ℕ) (asks : List Ask) →
    (sizes_number n weights c a willing ≡ 0 → ⊥) → (fresh_run n weights c a willing store asks).records ≡ []

-- no 4 beside 5 below n
pub record NoConflict (n : ℕ) (v : List ℕ) : Type 0 where
  pub none : (i j : ℕ) → i < n → j < n → get_or v i 0 ≡ 4 → get_or v j 0 ≡ 5 → ⊥

-- what a delivery of row k to site i finds in a world of n sites: no conflict in the row nor in the merged vector; a join commit
-- finds no active site, neither as it comes nor after the merge
pub record Delivered (w : World) (store : List ℕ) (k i : ℕ) : Type 0 where
  pub row_agrees : NoConflict w.n (get_row store k).codes
  pub merged_agrees : NoConflict w.n (hear i w.n (get_row store k) (site_of w i)).codes
  pub not_active : (get_row store k).kind ≡ 3 → is_active (state_of (site_of w i)) ≡ false
  pub not_active_then :
      (get_row store k).kind ≡ 3 →
      is_active (state_of (adopt i w.n (hear i w.n (get_row store k) (site_of w i))).site) ≡ false

-- THEOREM 2: after any list of calls, an accepted delivery finds no conflict, and its join commit no active site
abbrev pub NeverOccurs : Type 0
NeverOccurs =
    (n : ℕ) (weights : List ℕ) (c : CommitQuorum) (a : AbortQuorum) (willing : ℕ) (store : List ℕ) (asks : List Ask) (ask : Ask) (d : Delivery) (next : ℕ) →
    read_command ask.list ask.place ≡ found (Command·.Deliver d) next →
    (call_of (fresh_run n weights c a willing store asks).world (fresh_run n weights c a willing store asks).store ask).number ≡ 0 →
    Delivered (fresh_run n weights c a willing store asks).world (fresh_run n weights c a willing store asks).store d.row d.site

-- THEOREM 3: a refused call, of whatever number, changes neither world nor store, writes no record and has no news
pub record Unchanged (w : World) (store : List ℕ) (r : Call) : Type 0 where
  pub world_same : r.world ≡ w
  pub store_same : r.store ≡ store
  pub no_record : r.records ≡ []
  pub no_news : r.news ≡ 0

abbrev pub RefusedChangesNothing : Type 0
RefusedChangesNothing =
    (w : World) (store list : List ℕ) (at : ℕ) →
    ((one_command w store list at).number ≡ 0 → ⊥) → Unchanged w store (one_command w store list at)

-- an accepted call changes one site at most, adds one row at most and its own news, and leaves all else: sizes, other sites, the rows
-- below the count and the bytes beyond the last row
pub record Kept (w : World) (store : List ℕ) (r : Call) : Type 0 where
  pub own : ℕ
  pub own_below : own < w.n
  pub other_sites_lem : (j : ℕ) → (j ≡ own → ⊥) → site_of r.world j ≡ site_of w j
  pub same-n : r.world.n ≡ w.n
  pub same-commit : r.world.commit ≡ w.commit
  pub same-abort : r.world.abort ≡ w.abort
  pub same-willing : r.world.willing ≡ w.willing
  pub same_weights_lem : r.world.weights ≡ w.weights
  pub rows_grow : w.rows ≤ r.world.rows
  pub rows-by_one : r.world.rows ≤ w.rows + 1
  pub news-added : r.world.news ≡ w.news + r.news
  pub same_length : length r.store ≡ length store
  pub bytes_below : (b : ℕ) → b < row_place w.rows → get_or r.store b 0 ≡ get_or store b 0
  pub bytes-beyond : (b : ℕ) → row_place r.world.rows ≤ b → get_or r.store b 0 ≡ get_or store b 0
  pub rows-below : (k : ℕ) → k < w.rows → get_row r.store k ≡ get_row store k
  pub own-records : (j code : ℕ) → (j ≡ own → ⊥) → written_at j code r.records ≡ 0

abbrev pub AcceptedKeepsTheRest : Type 0
AcceptedKeepsTheRest =
    (w : World) (store list : List ℕ) (at : ℕ) →
    (one_command w store list at).number ≡ 0 → Kept w store (one_command w store list at)

-- what the world's type says of every world that the code holds: sixteen sites with two vectors of sixteen codes
pub record Shaped (w : World) : Type 0 where
  pub sites : length w.sites ≡ 16
  pub codes : (j : ℕ) → j < 16 → length (site_of w j).codes ≡ 16
  pub joined : (j : ℕ) → j < 16 → length (site_of w j).joined ≡ 16

-- THEOREM 4: from any world that passes 17 and any store, an accepted command leaves a world that passes 17
abbrev pub ValidStaysValid : Type 0
ValidStaysValid =
    (w : World) (store list : List ℕ) (at : ℕ) → Shaped w → valid_world w ≡ true →
    (one_command w store list at).number ≡ 0 → valid_world (one_command w store list at).world ≡ true

-- what a world that passes 17 is known to be: at each of the n sites the own entry is the state, and the entries from n up are 0
pub record Passes (w : World) : Type 0 where
  pub valid : valid_world w ≡ true
  pub own-is-state : (j : ℕ) → j < w.n → get_or (site_of w j).codes j 0 ≡ code_of (state_of (site_of w j))
  pub none-beyond : (j k : ℕ) → j < w.n → w.n ≤ k → k < 16 → get_or (site_of w j).codes k 0 ≡ 0

-- THEOREM 5: every world of a run from a fresh world, of sizes that the maker accepts, passes 17
abbrev pub RunsPass : Type 0
RunsPass =
    (n : ℕ) (weights : List ℕ) (c : CommitQuorum) (a : AbortQuorum) (willing : ℕ) (store : List ℕ) (asks : List Ask) →
    sizes_number n weights c a willing ≡ 0 → Passes (fresh_run n weights c a willing store asks).world

-- over a run the rows grow, and the store keeps its length and its bytes beyond the last row
pub record Beyond (w : World) (store : List ℕ) (r : Ran) : Type 0 where
  pub rows_grow : w.rows ≤ r.world.rows
  pub same_length : length r.store ≡ length store
  pub same_bytes : (b : ℕ) → row_place r.world.rows ≤ b → get_or r.store b 0 ≡ get_or store b 0

-- THEOREM 6: over every list of calls, from any world and store
abbrev pub RunsKeepBeyond : Type 0
RunsKeepBeyond = (w : World) (store : List ℕ) (asks : List Ask) → Beyond w store (run w store asks)

-- site j is down, and its log is empty
pub record DownEmpty (w : World) (j : ℕ) : Type 0 where
  pub down : (site_of w j).up ≡ false
  pub empty : is_active (state_of (site_of w j)) ≡ true

-- of site j a history holds at most an abort record: no prepare, no group, no commit
pub record OnlyAborts (j : ℕ) (H : List Written) : Type 0 where
  pub no_prepare : written_at j 1 H ≡ 0
  pub no_group : written_at j 2 H + written_at j 3 H ≡ 0
  pub no_commit : written_at j 4 H ≡ 0
  pub one-abort : written_at j 5 H ≤ 1

-- THEOREM 7: what a site that is down with an empty log writes over every list of calls, from any world of the type's shape and any store
abbrev pub RestartOnlyAborts : Type 0
RestartOnlyAborts =
    (w : World) (store : List ℕ) (asks : List Ask) (j : ℕ) → Shaped w → DownEmpty w j → OnlyAborts j (run w store asks).records

-- a vector shows site j neither prepared nor in a group nor committed
pub record NoYes (j : ℕ) (v : List ℕ) : Type 0 where
  pub none : 1 ≤ get_or v j 0 → get_or v j 0 ≤ 4 → ⊥

-- the calls that follow a run
abbrev pub run_on : Ran → List Ask → Ran
run_on r asks = run r.world r.store asks

-- THEOREM 8: a site that was down with an empty log after any list of calls from the maker's world has never said yes, and never will: after
-- any calls that follow, no row, whoever sent it and whenever, shows it prepared
abbrev pub NeverSaysYes : Type 0
NeverSaysYes =
    (n : ℕ) (weights : List ℕ) (c : CommitQuorum) (a : AbortQuorum) (willing : ℕ) (store : List ℕ) (first rest : List Ask) (j k : ℕ) → j < n →
    DownEmpty (fresh_run n weights c a willing store first).world j →
    k < (run_on (fresh_run n weights c a willing store first) rest).world.rows →
    NoYes j (get_row (run_on (fresh_run n weights c a willing store first) rest).store k).codes

-- THEOREM 9: over every list of calls from the maker's world, the world's news is the sum of the calls' news
abbrev pub NewsIsSum : Type 0
NewsIsSum =
    (n : ℕ) (weights : List ℕ) (c : CommitQuorum) (a : AbortQuorum) (willing : ℕ) (store : List ℕ) (asks : List Ask) →
    (fresh_run n weights c a willing store asks).world.news ≡ (fresh_run n weights c a willing store asks).news

-- how many entries below n, but for site `own`'s, differ between two vectors
unfoldable pub entries_changed : ℕ → ℕ → List ℕ → List ℕ → ℕ
entries_changed zero own v u = 0
entries_changed (suc k) own v u = entries_changed k own v u + pick (either (eqb k own) (eqb (get_or v k 0) (get_or u k 0))) 0 1

-- a call's news: of an accepted delivery, how many entries of other sites it changed at the site that it names; of any other command, none.
-- And a delivery in a world that passes 17 meets 17 only where those that its merge would change bring the world's news over 491,520
pub record Tells (w : World) (store list : List ℕ) (at : ℕ) : Type 0 where
  pub delivery :
      (d : Delivery) (next : ℕ) → read_command list at ≡ found (Command·.Deliver d) next → (one_command w store list at).number ≡ 0 →
      (one_command w store list at).news
      ≡ entries_changed w.n d.site (site_of w d.site).codes (site_of (one_command w store list at).world d.site).codes
  pub other : ((d : Delivery) (next : ℕ) → read_command list at ≡ found (Command·.Deliver d) next → ⊥) → (one_command w store list at).news ≡ 0
  pub past :
      (d : Delivery) (next : ℕ) → read_command list at ≡ found (Command·.Deliver d) next → valid_world w ≡ true →
      (one_command w store list at).number ≡ 17 →
      max_news
      < w.news
      + entries_changed w.n d.site (site_of w d.site).codes
      (hear d.site w.n (get_row store d.row) (site_of w d.site)).codes

-- THEOREM 10: of every call, from any world of the type's shape and any store
abbrev pub CallTells : Type 0
CallTells = (w : World) (store list : List ℕ) (at : ℕ) → Shaped w → Tells w store list at
