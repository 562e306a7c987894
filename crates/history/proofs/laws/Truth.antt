-- What is true of a history, and of a site and a row beside it.
use Rattle.std.specs.Prelude.{ℕ, ◌+◌, ◌≤◌, ◌<◌, Bool, true, List, ◌≡◌, length, get_or}
use Rattle.choice.specs.Choice.{pick}
use Rattle.row.specs.declared.Row.{Row}
use Rattle.bits.specs.Bits.{has_bit}
use Rattle.weights.specs.Weights.{weight_of}
use Rattle.site.specs.declared.CommitQuorum.{CommitQuorum}
use Rattle.site.specs.declared.AbortQuorum.{AbortQuorum}
use Rattle.site.specs.declared.Group.{Group}
use Rattle.site.specs.declared.Group.TheVariants as Group·
use Rattle.site.specs.declared.Outcome.{Outcome}
use Rattle.site.specs.declared.Outcome.TheVariants as Outcome·
use Rattle.site.specs.declared.State.{State}
use Rattle.site.specs.declared.State.TheVariants as State·
use Rattle.site.specs.declared.Site.{Site}
use Rattle.site.specs.Records.{Written}
use Rattle.history.specs.Safe.{written_at}
use Rattle.history.proofs.laws.Weights.{weigh_records}

-- what a competition is held to: its sites, what each weighs, both quorums, the willing sites
pub record Terms : Type 0 where
  pub n : ℕ
  pub weight : ℕ → ℕ
  pub commit : ℕ
  pub abort : ℕ
  pub willing : ℕ

-- the terms of a competition
abbrev pub site_terms : ℕ → List ℕ → CommitQuorum → AbortQuorum → ℕ → Terms
site_terms n weights c a willing = record { n = n; weight = weight_of weights; commit = c.0; abort = a.0; willing = willing }

-- every site below n has written P
pub record AllPrepared (n : ℕ) (H : List Written) : Type 0 where
  pub prepared : (i : ℕ) → i < n → 1 ≤ written_at i 1 H

-- why an abort may stand: the abort group weighs enough, or a site aborted that never prepared
pub data AbortGround (t : Terms) (H : List Written) : Type 0 where
  by-quorum : t.abort ≤ weigh_records t.weight t.n 3 H → AbortGround t H
  by-unprepared : (i : ℕ) → i < t.n → 1 ≤ written_at i 5 H → written_at i 1 H ≡ 0 → AbortGround t H

-- what is true at one site of a history: it is below n, each place of its log is written once, and P says it is willing
pub record TrueAt (t : Terms) (H : List Written) (j : ℕ) : Type 0 where
  pub below : (code : ℕ) → 1 ≤ written_at j code H → j < t.n
  pub one-prepare : written_at j 1 H ≤ 1
  pub one-group : written_at j 2 H + written_at j 3 H ≤ 1
  pub one-outcome : written_at j 4 H + written_at j 5 H ≤ 1
  pub is_willing_lem : 1 ≤ written_at j 1 H → has_bit t.willing j ≡ true

-- a history that the rules can write
pub record TrueHistory (t : Terms) (H : List Written) : Type 0 where
  pub each : (j : ℕ) → TrueAt t H j
  pub commit-group : (j : ℕ) → 1 ≤ written_at j 2 H → AllPrepared t.n H
  pub commit-outcome : (j : ℕ) → 1 ≤ written_at j 4 H → t.commit ≤ weigh_records t.weight t.n 2 H
  pub abort-outcome : (j : ℕ) → 1 ≤ written_at j 5 H → AbortGround t H

-- a code held of site i is 0, or a record of site i led to it
abbrev pub TrueCode : List Written → ℕ → ℕ → Type 0
TrueCode H i code = 1 ≤ code → 1 ≤ written_at i code H

-- sixteen codes, those below n true
pub record TrueVector (n : ℕ) (H : List Written) (v : List ℕ) : Type 0 where
  pub codes : (i : ℕ) → i < n → TrueCode H i (get_or v i 0)
  pub long : length v ≡ 16

-- how often a log of this content was written to, at each place
abbrev pub commit_groups : Group → ℕ
commit_groups Group·.None = 0
commit_groups Group·.Commit = 1
commit_groups Group·.Abort = 0

abbrev pub abort_groups : Group → ℕ
abort_groups Group·.None = 0
abort_groups Group·.Commit = 0
abort_groups Group·.Abort = 1

abbrev pub commits : Outcome → ℕ
commits Outcome·.None = 0
commits Outcome·.Commit = 1
commits Outcome·.Abort = 0

abbrev pub aborts : Outcome → ℕ
aborts Outcome·.None = 0
aborts Outcome·.Commit = 0
aborts Outcome·.Abort = 1

-- a site's log is what the history says
pub record TrueLog (own : ℕ) (H : List Written) (p : Bool) (g : Group) (o : Outcome) : Type 0 where
  pub prepares : written_at own 1 H ≡ pick p 1 0
  pub commit_groups_lem : written_at own 2 H ≡ commit_groups g
  pub abort_groups_lem : written_at own 3 H ≡ abort_groups g
  pub commit-outcomes : written_at own 4 H ≡ commits o
  pub abort-outcomes : written_at own 5 H ≡ aborts o

-- a site's log, its vector and the vector in its group record are true
pub record TrueSite (n own : ℕ) (H : List Written) (s : Site) : Type 0 where
  pub log : TrueLog own H s.prepared s.group s.outcome
  pub codes : TrueVector n H s.codes
  pub joined : TrueVector n H s.joined

-- a row's codes are true, and a join commit tells that every site has prepared
pub record TrueRow (n : ℕ) (H : List Written) (r : Row) : Type 0 where
  pub codes : (i : ℕ) → i < n → TrueCode H i (get_or r.codes i 0)
  pub join : r.kind ≡ 3 → AllPrepared n H

-- what a site's state says of its records
abbrev pub Says : State → ℕ → List Written → Type 0
Says State·.Active own H =
    (written_at own 1 H ≡ 0) × (written_at own 2 H + written_at own 3 H ≡ 0) × (written_at own 4 H + written_at own 5 H ≡ 0)
Says State·.Prepared own H =
    (written_at own 1 H ≡ 1) × (written_at own 2 H + written_at own 3 H ≡ 0) × (written_at own 4 H + written_at own 5 H ≡ 0)
Says State·.CommitGroup own H = (written_at own 2 H ≡ 1) × (written_at own 4 H + written_at own 5 H ≡ 0)
Says State·.AbortGroup own H = (written_at own 3 H ≡ 1) × (written_at own 4 H + written_at own 5 H ≡ 0)
Says State·.Committed own H = written_at own 4 H ≡ 1
Says State·.Aborted own H = written_at own 5 H ≡ 1
