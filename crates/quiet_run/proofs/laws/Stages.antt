-- Where a quiet day's sites stand: what each knows and has written, in closed form.
use Rattle.std.specs.Prelude.{ℕ, zero, suc, ◌≤◌, ◌<◌, Bool, true, false, List, ◌≡◌, refl, leb, eqb}
use Rattle.std.proofs.Common.{arith, le-leb, eq-eqb, ne_eqb}
use Rattle.std.proofs.lemmas.Bool.{lt-leb}
use Rattle.choice.specs.Choice.{pick, either}
use Rattle.choice.specs.laws.ChoiceLaws.{pick_ind}
use Rattle.vector.specs.Codes.{level}
use Rattle.merging.specs.Merging.{rises, merge_entry}
use Rattle.site.specs.declared.Group.{Group}
use Rattle.site.specs.declared.Group.TheVariants as Group·
use Rattle.site.specs.declared.Outcome.{Outcome}
use Rattle.site.specs.declared.Outcome.TheVariants as Outcome·
use Rattle.site.specs.declared.Site.{Site}
use Rattle.site.specs.Fields.{zero_vector}
use Rattle.site.specs.Records.{LogRecord, prepare_record, group_record, outcome_record, commit}
use Rattle.quiet_run.proofs.laws.Vectors.{codes_of}

-- x of site 0 and of site j, y of the others: what site j knows
unfoldable pub knows : ℕ → ℕ → ℕ → ℕ → ℕ
knows j x y k = pick (either (eqb k 0) (eqb k j)) x y

-- x of the sites up to q, y of the others: what site 0 knows after q replies
unfoldable pub heard : ℕ → ℕ → ℕ → ℕ → ℕ
heard q x y k = pick (leb k q) x y

pub knows-first : (j x y : ℕ) → knows j x y 0 ≡ x
unfolding knows
knows-first j x y = refl

pub knows-own : (j x y k : ℕ) → k ≡ j → knows j x y k ≡ x
unfolding knows
knows-own j x y zero e = refl
knows-own j x y (suc k) e = rw (ne_eqb (suc k) 0 (λ z. omega arith), eq-eqb (suc k) j e)

pub knows-other : (j x y k : ℕ) → (k ≡ 0 → ⊥) → (k ≡ j → ⊥) → knows j x y k ≡ y
unfolding knows
knows-other j x y k a b = rw (ne_eqb k 0 a, ne_eqb k j b)

pub heard-low : (q x y k : ℕ) → k ≤ q → heard q x y k ≡ x
unfolding heard
heard-low q x y k h = rw (le-leb k q h)

pub heard-high : (q x y k : ℕ) → q < k → heard q x y k ≡ y
unfolding heard
heard-high q x y k h = rw (lt-leb k q h)

-- where both codes are the same
pub knows_same : (j x k : ℕ) → knows j x x k ≡ x
unfolding knows
knows_same j x k = pick_ind (λ z. z ≡ x) (either (eqb k 0) (eqb k j)) x x (λ _. refl) (λ _. refl)

pub heard-same : (q x k : ℕ) → heard q x x k ≡ x
unfolding heard
heard-same q x k = pick_ind (λ z. z ≡ x) (leb k q) x x (λ _. refl) (λ _. refl)

-- a code above another: the older ones are known everywhere when the new one is sent
pub record Climbs (older old new : ℕ) : Type 0 where
  pub rises-new : rises old new ≡ true
  pub new_over_old : merge_entry old new ≡ new
  pub old_over_older : merge_entry older old ≡ old
  pub old_over_old : merge_entry old old ≡ old
  pub new-stays : merge_entry new old ≡ new
  pub old_is_old : rises old old ≡ false
  pub new-is_new : rises new old ≡ false

-- where a site stands: before the day, with its vote, in the commit group, committed
pub data Stage : Type 0 where
  fresh voted grouped ended : Stage

-- what it says of itself and of site 0; and of the other sites
unfoldable pub own_code : Stage → ℕ
own_code fresh = 0
own_code voted = 1
own_code grouped = 2
own_code ended = 4

unfoldable pub rest_code : Stage → ℕ
rest_code fresh = 0
rest_code voted = 0
rest_code grouped = 1
rest_code ended = 2

-- its log
unfoldable pub prepared_in : Stage → Bool
prepared_in fresh = false
prepared_in voted = true
prepared_in grouped = true
prepared_in ended = true

unfoldable pub group_in : Stage → Group
group_in fresh = Group·.None
group_in voted = Group·.None
group_in grouped = Group·.Commit
group_in ended = Group·.Commit

unfoldable pub joined_in : Stage → List ℕ → List ℕ
joined_in fresh v = zero_vector
joined_in voted v = zero_vector
joined_in grouped v = v
joined_in ended v = v

unfoldable pub outcome_in : Stage → Outcome
outcome_in fresh = Outcome·.None
outcome_in voted = Outcome·.None
outcome_in grouped = Outcome·.None
outcome_in ended = Outcome·.Commit

-- site 0 leads from START on
unfoldable pub leads_in : Stage → Bool
leads_in fresh = false
leads_in voted = true
leads_in grouped = true
leads_in ended = true

-- a site at a stage; `v` is the vector of its group record
unfoldable pub site_in : Stage → Bool → List ℕ → List ℕ → Site
site_in stage leads v codes =
    record {
      up = true;
      coordinator = leads;
      prepared = prepared_in stage;
      group = group_in stage;
      joined = joined_in stage v;
      outcome = outcome_in stage;
      codes = codes;
    }

-- site 0 at a stage, after q replies
unfoldable pub coordinator_at : ℕ → Stage → ℕ → Site
coordinator_at n stage q = site_in stage (leads_in stage) (codes_of n (heard 0 2 1)) (codes_of n (heard q (own_code stage) (rest_code stage)))

-- site j at a stage
unfoldable pub subordinate_at : ℕ → Stage → ℕ → Site
subordinate_at n stage j = site_in stage false (codes_of n (knows j 2 1)) (codes_of n (knows j (own_code stage) (rest_code stage)))

-- the three rounds: from which stage, to which
pub data Round : Type 0 where
  votes joins outcomes : Round

unfoldable pub from : Round → Stage
from votes = fresh
from joins = voted
from outcomes = grouped

unfoldable pub to : Round → Stage
to votes = voted
to joins = grouped
to outcomes = ended

-- the command's kind, its replies' kind, and the record that each site writes
unfoldable pub kind_of : Round → ℕ
kind_of votes = 1
kind_of joins = 3
kind_of outcomes = 6

unfoldable pub reply_of : Round → ℕ
reply_of votes = 2
reply_of joins = 5
reply_of outcomes = 7

unfoldable pub record_of : Round → LogRecord
record_of votes = prepare_record
record_of joins = group_record commit
record_of outcomes = outcome_record commit

-- the codes climb in each round
pub climbs : (r : Round) → Climbs (rest_code (from r)) (own_code (from r)) (own_code (to r))
unfolding from to rest_code own_code rises merge_entry level
climbs votes = record { rises-new = refl; new_over_old = refl; old_over_older = refl; old_over_old = refl; new-stays = refl; old_is_old = refl; new-is_new = refl }
climbs joins = record { rises-new = refl; new_over_old = refl; old_over_older = refl; old_over_old = refl; new-stays = refl; old_is_old = refl; new-is_new = refl }
climbs outcomes = record { rises-new = refl; new_over_old = refl; old_over_older = refl; old_over_old = refl; new-stays = refl; old_is_old = refl; new-is_new = refl }
