-- What 17 asks of a site, as statements about its codes, and that every rule keeps it.
use Prim.Native.Nat.{ℕ, zero, suc, ◌≤◌, ◌<◌}
use Rattle.std.specs.Prelude.{Bool, true, ◌≡◌, refl, ltb, leb, eqb, set}
use mathlib.Core.List.{List, []}
use Rattle.std.proofs.Common.{sym, subst, ◌∙◌, arith, ltb-true, ltb-false, le-leb, leb-true, eq-eqb, eqb-true}
use Rattle.std.proofs.Math.ListN.{length, get_or}
use Rattle.std.proofs.lemmas.List.{get_or-replicate}
use Rattle.std.proofs.Math.Seq.{get_or-set_same}
use Rattle.choice.specs.Choice.{pick, both}
use Rattle.choice.specs.laws.ChoiceLaws.{pick_ind, both-on, both_first, both-second, set_ind}
use Rattle.vector.specs.Vector.{valid_entry, valid_entries, valid_vector}
use Rattle.merging.specs.Merging.{rises, merge_entry, is_other, merging}
use Rattle.merging.proofs.Orders.{other-own, other-beyond}
use Rattle.merging.proofs.MergeLaws.{merging-entry, merging_else}
use Rattle.row.specs.declared.Row.{Row}
use Rattle.row.specs.Rows.{codes_known}
use Rattle.site.specs.declared.Group.{Group}
use Rattle.site.specs.declared.Group.TheVariants as Group·
use Rattle.site.specs.declared.Outcome.{Outcome}
use Rattle.site.specs.declared.Outcome.TheVariants as Outcome·
use Rattle.site.specs.declared.State.{State}
use Rattle.site.specs.declared.State.TheVariants as State·
use Rattle.site.specs.declared.Site.{Site}
use Rattle.site.specs.State.{state_by, state_of, code_of}
use Rattle.site.specs.Fields.{zero_vector, with_up, with_coordinator, with_prepared, with_group, with_outcome, with_codes}
use Rattle.site.specs.Records.{Kind, commit, abort, group_record, outcome_record, group_of, outcome_of, record_code}
use Rattle.site.specs.Records.{with_own, write_prepare, join_group, write_outcome}
use Rattle.rules.specs.Rules.{hear, kept_vector}
use Rattle.world.specs.Valid.{valid_group, valid_site}
use Rattle.choice.specs.laws.Cases.{by_equal}
use Rattle.member.specs.Claims.{Long}
use Rattle.member.specs.laws.Long.{kept-length, long_steady}
use Rattle.member.specs.laws.Steady.{Steady}

-- an entry of a vector among n sites
pub record SoundEntry (n i code : ℕ) : Type 0 where
  pub small : i < n → code ≤ 5
  pub none : n ≤ i → code ≡ 0

-- sixteen such entries
pub record SoundVector (n : ℕ) (v : List ℕ) : Type 0 where
  pub at : (i : ℕ) → i < 16 → SoundEntry n i (get_or v i 0)

-- from the tests and back

entry-sound : (n i code : ℕ) → valid_entry n i code ≡ true → SoundEntry n i code
unfolding valid_entry
entry-sound n i code =
    pick_ind (λ t. t ≡ true → SoundEntry n i code) (ltb i n) (leb code 5) (eqb code 0)
    (λ l e. record { small = λ _. leb-true code 5 e; none = λ h. absurd (omega (arith, ltb-true i n l)) })
    (λ l e. record { small = λ h. absurd (omega (arith, ltb-false i n l)); none = λ _. eqb-true code 0 e })

entry-valid : (n i code : ℕ) → SoundEntry n i code → valid_entry n i code ≡ true
unfolding valid_entry
entry-valid n i code s =
    pick_ind (λ t. t ≡ true) (ltb i n) (leb code 5) (eqb code 0)
    (λ l. le-leb code 5 (s.small (ltb-true i n l)))
    (λ l. eq-eqb code 0 (s.none (ltb-false i n l)))

entries-sound : (n k : ℕ) (v : List ℕ) → valid_entries n k v ≡ true → (i : ℕ) → i < k → SoundEntry n i (get_or v i 0)
unfolding valid_entries
entries-sound n zero v e i h = absurd (omega arith)
entries-sound n (suc k) v e i h =
    by_equal i k
    (λ q. rw q (entry-sound n k (get_or v k 0) (both-second (valid_entries n k v) (valid_entry n k (get_or v k 0)) e)))
    (λ q. entries-sound n k v (both_first (valid_entries n k v) (valid_entry n k (get_or v k 0)) e) i (omega arith))

entries-valid : (n k : ℕ) (v : List ℕ) → ((i : ℕ) → i < k → SoundEntry n i (get_or v i 0)) → valid_entries n k v ≡ true
unfolding valid_entries
entries-valid n zero v h = refl
entries-valid n (suc k) v h =
    both-on (valid_entries n k v) (valid_entry n k (get_or v k 0)) (entries-valid n k v (λ i l. h i (omega arith)))
    (entry-valid n k (get_or v k 0) (h k (omega arith)))

pub vector_sound : (n : ℕ) (v : List ℕ) → valid_vector n v ≡ true → SoundVector n v
unfolding valid_vector
vector_sound n v e = record { at = entries-sound n 16 v e }

pub vector_valid : (n : ℕ) (v : List ℕ) → SoundVector n v → valid_vector n v ≡ true
unfolding valid_vector
vector_valid n v s = entries-valid n 16 v s.at

-- codes that 10 lets pass
pub known_small : (n : ℕ) (said : List ℕ) → codes_known n said ≡ true → (i : ℕ) → i < n → get_or said i 0 ≤ 5
unfolding codes_known
known_small zero said e i h = absurd (omega arith)
known_small (suc k) said e i h =
    by_equal i k (λ q. rw q (leb-true (get_or said k 0) 5 (both-second (codes_known k said) (leb (get_or said k 0) 5) e)))
    (λ q. known_small k said (both_first (codes_known k said) (leb (get_or said k 0) 5) e) i (omega arith))

-- what keeps a vector sound

set-sound :
    (n own code : ℕ) (v : List ℕ) → own < n → own < length v → code ≤ 5 → SoundVector n v → SoundVector n (set v own code)
set-sound n own code v below room h s =
    record {
      at = λ i l. set_ind (SoundEntry n i) v own i code 0 room
          (λ e. record { small = λ _. h; none = λ k. absurd (omega arith) }) (λ _. s.at i l);
    }

pub merged_small : (held said : ℕ) → held ≤ 5 → said ≤ 5 → merge_entry held said ≤ 5
unfolding merge_entry
merged_small held said h k = pick_ind (λ x. x ≤ 5) (rises held said) said held (λ _. k) (λ _. h)

merge-sound :
    (n own sender : ℕ) (said v : List ℕ) → n ≤ length v → codes_known n said ≡ true → SoundVector n v →
    SoundVector n (merging n own sender said v).codes
merge-sound n own sender said v room known s =
    record {
      at = λ i l. record {
        small = λ h. rw (merging-entry n own sender said v i (omega arith)) (entry i h ((s.at i l).small h));
        none = λ h. merging_else n own sender said v i (other-beyond n own i h) ∙ (s.at i l).none h;
      };
    }
  where
    entry :
        (i : ℕ) → i < n → get_or v i 0 ≤ 5 → pick (is_other n own i) (merge_entry (get_or v i 0) (get_or said i 0)) (get_or v i 0) ≤ 5
    entry i h k =
        pick_ind (λ x. x ≤ 5) (is_other n own i) (merge_entry (get_or v i 0) (get_or said i 0)) (get_or v i 0)
        (λ _. merged_small (get_or v i 0) (get_or said i 0) k (known_small n said known i h)) (λ _. k)

zero-sound : (n : ℕ) → SoundVector n zero_vector
unfolding zero_vector
zero-sound n =
    record {
      at = λ i l. subst (SoundEntry n i) (sym (get_or-replicate 16 i 0 0 l))
          (record { small = λ _. omega arith; none = λ _. refl });
    }

-- a site as 17 wants it, with vectors of sixteen
pub record SoundSite (own n : ℕ) (s : Site) : Type 0 where
  pub long : Long s
  pub codes : SoundVector n s.codes
  pub own_code : get_or s.codes own 0 ≡ code_of (state_of s)
  pub group : valid_group s.group own n s.joined ≡ true

pub site-sound : (own n : ℕ) (s : Site) → Long s → valid_site own n s ≡ true → SoundSite own n s
unfolding valid_site
site-sound own n s long e =
    let rest : both (eqb (get_or s.codes own 0) (code_of (state_of s))) (valid_group s.group own n s.joined) ≡ true =
    both-second (valid_vector n s.codes)
    (both (eqb (get_or s.codes own 0) (code_of (state_of s))) (valid_group s.group own n s.joined)) e in
    record {
      long = long;
      codes =
          vector_sound n s.codes
          (both_first (valid_vector n s.codes)
          (both (eqb (get_or s.codes own 0) (code_of (state_of s))) (valid_group s.group own n s.joined)) e);
      own_code =
          eqb-true (get_or s.codes own 0) (code_of (state_of s))
          (both_first (eqb (get_or s.codes own 0) (code_of (state_of s))) (valid_group s.group own n s.joined) rest);
      group = both-second (eqb (get_or s.codes own 0) (code_of (state_of s))) (valid_group s.group own n s.joined) rest;
    }

pub site-valid : (own n : ℕ) (s : Site) → SoundSite own n s → valid_site own n s ≡ true
unfolding valid_site
site-valid own n s q =
    both-on (valid_vector n s.codes)
    (both (eqb (get_or s.codes own 0) (code_of (state_of s))) (valid_group s.group own n s.joined))
    (vector_valid n s.codes q.codes)
    (both-on (eqb (get_or s.codes own 0) (code_of (state_of s))) (valid_group s.group own n s.joined)
    (eq-eqb (get_or s.codes own 0) (code_of (state_of s)) q.own_code) q.group)

-- the states that records lead to

pub state-small : (st : State) → code_of st ≤ 5
unfolding code_of
state-small State·.Active = omega arith
state-small State·.Prepared = omega arith
state-small State·.CommitGroup = omega arith
state-small State·.AbortGroup = omega arith
state-small State·.Committed = omega arith
state-small State·.Aborted = omega arith

prepared_code : (o : Outcome) (g : Group) (p : Bool) → state_by o g p ≡ State·.Active → 1 ≡ code_of (state_by o g true)
unfolding state_by code_of
prepared_code Outcome·.None Group·.None p e = refl
prepared_code Outcome·.None Group·.Commit p e = cc
prepared_code Outcome·.None Group·.Abort p e = cc
prepared_code Outcome·.Commit g p e = cc
prepared_code Outcome·.Abort g p e = cc

pub group_code_lem :
    (k : Kind) (o : Outcome) (p : Bool) → o ≡ Outcome·.None →
    record_code (group_record k) ≡ code_of (state_by o (group_of k) p)
unfolding state_by code_of record_code group_of
group_code_lem commit Outcome·.None p e = refl
group_code_lem abort Outcome·.None p e = refl
group_code_lem commit Outcome·.Commit p e = cc
group_code_lem abort Outcome·.Commit p e = cc
group_code_lem commit Outcome·.Abort p e = cc
group_code_lem abort Outcome·.Abort p e = cc

pub outcome_code : (k : Kind) (g : Group) (p : Bool) → record_code (outcome_record k) ≡ code_of (state_by (outcome_of k) g p)
unfolding state_by code_of record_code outcome_of
outcome_code commit g p = refl
outcome_code abort g p = refl

group-small : (k : Kind) → record_code (group_record k) ≤ 5
unfolding record_code
group-small commit = omega arith
group-small abort = omega arith

outcome-small : (k : Kind) → record_code (outcome_record k) ≤ 5
unfolding record_code
outcome-small commit = omega arith
outcome-small abort = omega arith

joined-valid :
    (k : Kind) (own n : ℕ) (v : List ℕ) → SoundVector n v → get_or v own 0 ≡ record_code (group_record k) →
    valid_group (group_of k) own n v ≡ true
unfolding valid_group group_of record_code
joined-valid commit own n v s e =
    both-on (valid_vector n v) (eqb (get_or v own 0) 2) (vector_valid n v s) (eq-eqb (get_or v own 0) 2 e)
joined-valid abort own n v s e =
    both-on (valid_vector n v) (eqb (get_or v own 0) 3) (vector_valid n v s) (eq-eqb (get_or v own 0) 3 e)

kept-sound : (g : Group) (own n : ℕ) (v : List ℕ) → valid_group g own n v ≡ true → SoundVector n (kept_vector g v)
unfolding valid_group kept_vector
kept-sound Group·.None own n v e = zero-sound n
kept-sound Group·.Commit own n v e = vector_sound n v (both_first (valid_vector n v) (eqb (get_or v own 0) 2) e)
kept-sound Group·.Abort own n v e = vector_sound n v (both_first (valid_vector n v) (eqb (get_or v own 0) 3) e)

-- every small step keeps it
module _ (own n : ℕ) (below : own < n) (most : n ≤ 16) where
  sound-prepares : (s : Site) → state_of s ≡ State·.Active → SoundSite own n s → SoundSite own n (write_prepare own s)
  unfolding state_of with_prepared with_codes with_own write_prepare
  sound-prepares s e q =
      record {
        long = (long_steady own n).writes.prepares s [] e q.long;
        codes = set-sound n own 1 s.codes below (omega arith) (omega arith) q.codes;
        own_code =
            get_or-set_same s.codes own 1 0 (omega arith) ∙ prepared_code s.outcome s.group s.prepared e;
        group = q.group;
      }

  sound-joins :
      (k : Kind) (s : Site) → s.outcome ≡ Outcome·.None → s.group ≡ Group·.None → SoundSite own n s → SoundSite own n (join_group k own s)
  unfolding state_of with_group with_codes with_own join_group
  sound-joins k s e g q =
      let c : ℕ = record_code (group_record k) in
      let v : SoundVector n (set s.codes own c) = set-sound n own c s.codes below (omega arith) (group-small k) q.codes in
      let own_is : get_or (set s.codes own c) own 0 ≡ c = get_or-set_same s.codes own c 0 (omega arith) in
      record {
        long = (long_steady own n).writes.joins k s [] e g q.long;
        codes = v;
        own_code = own_is ∙ group_code_lem k s.outcome s.prepared e;
        group = joined-valid k own n (set s.codes own c) v own_is;
      }

  sound-decides : (k : Kind) (s : Site) → s.outcome ≡ Outcome·.None → SoundSite own n s → SoundSite own n (write_outcome k own s)
  unfolding state_of with_outcome with_codes with_own write_outcome
  sound-decides k s e q =
      let c : ℕ = record_code (outcome_record k) in
      record {
        long = (long_steady own n).writes.decides k s [] e q.long;
        codes = set-sound n own c s.codes below (omega arith) (outcome-small k) q.codes;
        own_code = get_or-set_same s.codes own c 0 (omega arith) ∙ outcome_code k s.group s.prepared;
        group = q.group;
      }

  sound-hears :
      (row : Row) (s : Site) → codes_known n row.codes ≡ true → SoundSite own n s → SoundSite own n (hear own n row s)
  unfolding state_of with_codes hear
  sound-hears row s known q =
      record {
        long = (long_steady own n).hears row s [] known q.long;
        codes = merge-sound n own row.sender row.codes s.codes (omega arith) known q.codes;
        own_code = merging_else n own row.sender row.codes s.codes own (other-own n own) ∙ q.own_code;
        group = q.group;
      }

  sound-forgets :
      (s : Site) → SoundSite own n s →
      SoundSite own n (with_codes (set (kept_vector s.group s.joined) own (code_of (state_of s))) s)
  unfolding state_of with_codes
  sound-forgets s q =
      let v : List ℕ = kept_vector s.group s.joined in
      let room : own < length v = omega (arith, kept-length s.group s.joined q.long.joined) in
      record {
        long = (long_steady own n).forgets s [] q.long;
        codes =
            set-sound n own (code_of (state_of s)) v below room (state-small (state_of s))
            (kept-sound s.group own n s.joined q.group);
        own_code = get_or-set_same v own (code_of (state_of s)) 0 room;
        group = q.group;
      }

  pub sound_steady : Steady own n (λ s H. SoundSite own n s)
  unfolding state_of with_up with_coordinator
  sound_steady =
      record {
        up = λ b s H q.
            record { long = (long_steady own n).up b s [] q.long; codes = q.codes; own_code = q.own_code; group = q.group };
        role = λ b s H q.
            record { long = (long_steady own n).role b s [] q.long; codes = q.codes; own_code = q.own_code; group = q.group };
        writes =
            record {
              prepares = λ s H e q. sound-prepares s e q;
              joins = λ k s H e g q. sound-joins k s e g q;
              decides = λ k s H e q. sound-decides k s e q;
            };
        hears = λ said s H e q. sound-hears said s e q;
        forgets = λ s H q. sound-forgets s q;
      }
