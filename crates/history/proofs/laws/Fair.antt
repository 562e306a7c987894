-- A rule is fair if, where history and site are true, it leaves them true and sends only true rows.
use Rattle.std.specs.Prelude.{ℕ, ◌≤◌, ◌<◌, Bool, ◌≡◌}
use mathlib.Core.List.{List, [], ◌∷◌, ◌++◌, append_assoc, append-nil}
use Rattle.std.proofs.Math.Path.{refl}
use Rattle.std.proofs.Common.{arith}
use Rattle.row.specs.Rows.{no_row}
use Rattle.site.specs.declared.Site.{Site}
use Rattle.site.specs.Fields.{with_up, with_coordinator, with_codes}
use Rattle.site.specs.Records.{Written, LogRecord, wrote}
use Rattle.rules.specs.Rules.{Move, Noted, silent, command_row, commanding, reply_row, replying, after}
use Rattle.history.specs.Safe.{written_at}
use Rattle.history.proofs.laws.HistoryLaws.{at-append, at_other}
use Rattle.history.proofs.laws.Truth.{Terms, AllPrepared, TrueHistory, TrueVector, TrueSite, TrueRow}
use Rattle.history.proofs.laws.Writing.{May, write_record, history-after, site-after}

-- a true history and one of its sites, true of it
pub record Standing (t : Terms) (own : ℕ) (H : List Written) (s : Site) : Type 0 where
  pub history : TrueHistory t H
  pub below : own < t.n
  pub few : t.n ≤ 16
  pub site : TrueSite t.n own H s

-- a site with its new records: all stays true, and the records are its own
pub record Fair (t : Terms) (own : ℕ) (H : List Written) (s : Site) (records : List Written) : Type 0 where
  pub standing : Standing t own (H ++ records) s
  pub elsewhere : (j code : ℕ) → (j ≡ own → ⊥) → written_at j code records ≡ 0

abbrev pub FairNoted : Terms → ℕ → List Written → Noted → Type 0
FairNoted t own H m = Fair t own H m.site m.records

-- a move: the row it sends is true too
pub record FairMove (t : Terms) (own : ℕ) (H : List Written) (m : Move) : Type 0 where
  pub fair : Fair t own H m.step.site m.records
  pub row : (m.step.row.kind ≡ 0 → ⊥) → TrueRow t.n (H ++ m.records) m.step.row

module _ {t : Terms} {own : ℕ} {H : List Written} {s : Site} (st : Standing t own H s) where
  -- no record
  pub fair-stay : Fair t own H s []
  unfolding written_at
  fair-stay = record { standing = rw append-nil st; elsewhere = λ j code other. refl }

  -- one record that may be written
  pub fair-write : (x : LogRecord) → May t H own x → Fair t own H (write_record x own s) (wrote own x ∷ [])
  fair-write x may =
      record {
        standing =
            record {
              history = history-after t H own x st.below may st.history;
              below = st.below;
              few = st.few;
              site = site-after t H own x s (omega arith) may st.site;
            };
        elsewhere = λ j code other. at_other own j code x other;
      }

-- a second step after a first
pub fair-after : (t : Terms) (own : ℕ) (H : List Written) (m m' : Noted) → FairNoted t own H m →
    FairNoted t own (H ++ m.records) m' → FairNoted t own H (after m.records m')
unfolding after
fair-after t own H m m' first second =
    record {
      standing = rw (← append_assoc H m.records m'.records) second.standing;
      elsewhere = λ j code other.
          omega (arith, at-append j code m.records m'.records, first.elsewhere j code other, second.elsewhere j code other);
    }

-- the role, and whether the site is up, matter to no truth
pub standing-coordinator : {t : Terms} {own : ℕ} {H : List Written} {s : Site} (x : Bool) → Standing t own H s →
    Standing t own H (with_coordinator x s)
unfolding with_coordinator
standing-coordinator x st =
    record {
      history = st.history;
      below = st.below;
      few = st.few;
      site = record { log = st.site.log; codes = st.site.codes; joined = st.site.joined };
    }

pub standing-up : {t : Terms} {own : ℕ} {H : List Written} {s : Site} (x : Bool) → Standing t own H s →
    Standing t own H (with_up x s)
unfolding with_up
standing-up x st =
    record {
      history = st.history;
      below = st.below;
      few = st.few;
      site = record { log = st.site.log; codes = st.site.codes; joined = st.site.joined };
    }

-- a true vector in place of the site's
pub standing-codes : {t : Terms} {own : ℕ} {H : List Written} {s : Site} (v : List ℕ) → TrueVector t.n H v →
    Standing t own H s → Standing t own H (with_codes v s)
unfolding with_codes
standing-codes v true-codes st =
    record {
      history = st.history;
      below = st.below;
      few = st.few;
      site = record { log = st.site.log; codes = true-codes; joined = st.site.joined };
    }

pub fair-coordinator : {t : Terms} {own : ℕ} {H : List Written} {s : Site} {records : List Written} (x : Bool) →
    Fair t own H s records → Fair t own H (with_coordinator x s) records
fair-coordinator x f = record { standing = standing-coordinator x f.standing; elsewhere = f.elsewhere }

pub fair-up : {t : Terms} {own : ℕ} {H : List Written} {s : Site} {records : List Written} (x : Bool) →
    Fair t own H s records → Fair t own H (with_up x s) records
fair-up x f = record { standing = standing-up x f.standing; elsewhere = f.elsewhere }

-- nothing sent
pub fair-silent : {t : Terms} {own : ℕ} {H : List Written} (s : Site) (records : List Written) → Fair t own H s records →
    FairMove t own H (silent s records)
unfolding silent no_row
fair-silent s records f = record { fair = f; row = λ h. absurd (h refl) }

-- the sender's codes are sent; a join commit wants every site prepared
pub fair-command : {t : Terms} {own : ℕ} {H : List Written} (kind : ℕ) (s : Site) (records : List Written) →
    (kind ≡ 3 → AllPrepared t.n (H ++ records)) → Fair t own H s records →
    FairMove t own H (commanding kind own t.n s records)
unfolding commanding command_row
fair-command kind s records join f =
    record { fair = f; row = λ h. record { codes = f.standing.site.codes.codes; join = join } }

pub fair-reply : {t : Terms} {own : ℕ} {H : List Written} (kind to : ℕ) (m : Noted) → (kind ≡ 3 → ⊥) → FairNoted t own H m →
    FairMove t own H (replying kind own to m)
unfolding replying reply_row
fair-reply kind to m other f =
    record { fair = f; row = λ h. record { codes = f.standing.site.codes.codes; join = λ e. absurd (other e) } }
