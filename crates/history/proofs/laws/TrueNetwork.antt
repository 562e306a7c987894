-- What holds of a network and its history after every step.
use Rattle.std.specs.Prelude.{ℕ, ◌+◌, ◌≤◌, ◌<◌, Bool, true, ◌≡◌, eqb, length, get_or}
use mathlib.Core.List.{List, [], ◌∷◌, ◌++◌, append-nil}
use Rattle.std.proofs.Math.Path.{refl, subst}
use Rattle.std.proofs.Common.{ap, sym, arith, length-append, eqb-true}
use Rattle.std.proofs.Math.ListN.{get_or-append}
use Rattle.std.proofs.Math.Seq.{get_or-append_seam}
use Rattle.std.proofs.lemmas.Bool.{eqb-false}
use Rattle.choice.specs.laws.ChoiceLaws.{pick_ind}
use Rattle.choice.specs.laws.Cases.{by_equal}
use Rattle.bits.specs.Bits.{has_bit}
use Rattle.row.specs.declared.Row.{Row}
use Rattle.row.specs.Rows.{no_row}
use Rattle.site.specs.declared.State.TheVariants as State·
use Rattle.site.specs.State.{state_of}
use Rattle.site.specs.Fields.{blank_site}
use Rattle.site.specs.Records.{Written}
use Rattle.rules.specs.Rules.{Move, start}
use Rattle.member.specs.declared.Order.TheVariants as Order·
use Rattle.std.specs.Prelude.{Ok}
use Rattle.member.specs.Orders.{row_in, read_order}
use Rattle.member.specs.Steps.{Answer, refuse, take}
use Rattle.member.specs.laws.View.{Rule, by-start, by-timeout, by-deliver, by-crash, by-recover, Seen, as_refused, as_taken, view}
use Rattle.history.specs.Safe.{written_at}
use Rattle.history.specs.Network.{
  Competition,
  member_of,
  Network,
  fresh_network,
  Told,
  answer_of,
  put_site,
  sending,
  answered,
  after_step,
  WasSent,
  Genuine,
}
use Rattle.history.proofs.laws.HistoryLaws.{grown_append}
use Rattle.history.proofs.laws.Truth.{Terms, site_terms, TrueHistory, TrueSite, TrueRow, Says}
use Rattle.history.proofs.laws.TruthLaws.{zero_true, row-grows, site-grows, says, says_active}
use Rattle.history.proofs.laws.Fair.{Standing, FairMove}
use Rattle.history.proofs.laws.FairTimeout.{fair-start, fair-timeout}
use Rattle.history.proofs.laws.FairDeliver.{fair-deliver}
use Rattle.history.proofs.laws.FairCrash.{fair-crash, fair-recover}

-- the terms of a competition
abbrev pub terms_of : Competition → Terms
terms_of z = site_terms z.n z.weights z.commit z.abort z.willing

-- history, sites and rows are true
pub record TrueNetwork (z : Competition) (net : Network) (H : List Written) : Type 0 where
  pub history : TrueHistory (terms_of z) H
  pub sites : (j : ℕ) → j < z.n → TrueSite z.n j H (net.site j)
  pub rows : (k : ℕ) → k < length net.sent → TrueRow z.n H (get_or net.sent k no_row)
  pub few : z.n ≤ 16

-- a row sent after others
sent-all : (P : Row → Type 0) (sent : List Row) (row : Row) → ((k : ℕ) → k < length sent → P (get_or sent k no_row)) →
    ((row.kind ≡ 0 → ⊥) → P row) → (k : ℕ) → k < length (sending row sent) → P (get_or (sending row sent) k no_row)
unfolding sending
sent-all P sent row old new =
    pick_ind (λ l. (k : ℕ) → k < length l → P (get_or l k no_row)) (eqb row.kind 0) sent (sent ++ (row ∷ []))
    (λ _. old)
    (λ some k below. by_equal k (length sent)
    (λ e. subst (λ x. P (get_or (sent ++ (row ∷ [])) x no_row)) (sym e)
    (subst P (sym (get_or-append_seam sent row [] no_row)) (new (eqb-false row.kind 0 some))))
    (λ other. subst P (sym (get_or-append sent (row ∷ []) no_row k (omega (arith, length-append sent (row ∷ [])))))
    (old k (omega (arith, length-append sent (row ∷ []))))))

module _ (z : Competition) (net : Network) (H : List Written) (true_of : TrueNetwork z net H) where
  pub standing : (i : ℕ) → i < z.n → Standing (terms_of z) i H (net.site i)
  standing i less = record { history = true_of.history; below = less; few = true_of.few; site = true_of.sites i less }

  -- every rule is fair, where a row that is delivered is true
  fair_rule :
      (i : ℕ) (bytes : List ℕ) (v : Move) → i < z.n →
      (read_order bytes ≡ Ok Order·.Deliver → TrueRow z.n H (row_in bytes)) →
      Rule (member_of z i) (net.site i) bytes v → FairMove (terms_of z) i H v
  unfolding member_of
  fair_rule i bytes v less arrived (by-start zero active) =
      subst (λ o. FairMove (terms_of z) o H (start z.n (has_bit z.willing i) (net.site i))) (sym zero)
      (fair-start (has_bit z.willing i) (ap (has_bit z.willing) (sym zero)) (subst (λ o. Standing (terms_of z) o H (net.site i)) zero (standing i less))
      (subst (λ o. Says State·.Active o H) zero (says_active (state_of (net.site i)) i H active (says (true_of.sites i less)))))
  fair_rule i bytes v less arrived by-timeout =
      fair-timeout z.n z.weights z.commit z.abort z.willing i H (net.site i) (standing i less)
  fair_rule i bytes v less arrived (by-deliver e known) =
      fair-deliver (has_bit z.willing i) (row_in bytes) refl (arrived e) (standing i less)
  fair_rule i bytes v less arrived by-crash = fair-crash (standing i less)
  fair_rule i bytes v less arrived by-recover = fair-recover (standing i less)

  -- the network after a fair move
  moved : (i : ℕ) (v : Move) → i < z.n → FairMove (terms_of z) i H v → TrueNetwork z (answered i (take v) net) (H ++ v.records)
  unfolding answered put_site take
  moved i v less f =
      record {
        history = f.fair.standing.history;
        sites = λ j h.
            pick_ind (TrueSite z.n j (H ++ v.records)) (eqb j i) v.step.site (net.site j)
            (λ e. subst (λ k. TrueSite z.n k (H ++ v.records) v.step.site) (sym (eqb-true j i e)) f.fair.standing.site)
            (λ e. site-grows v.records (λ code. f.fair.elsewhere j code (eqb-false j i e)) (true_of.sites j h));
        rows =
            sent-all (TrueRow z.n (H ++ v.records)) net.sent v.step.row
            (λ k h. row-grows (grown_append H v.records) (true_of.rows k h)) f.row;
        few = true_of.few;
      }

  -- and after a refusal: the site is put back as it was
  stayed : (i number : ℕ) → TrueNetwork z (answered i (refuse number (net.site i)) net) (H ++ [])
  unfolding answered put_site refuse sending no_row
  stayed i number =
      record {
        history = rw append-nil true_of.history;
        sites = λ j h. rw append-nil
            (pick_ind (TrueSite z.n j H) (eqb j i) (net.site i) (net.site j)
            (λ e. subst (λ k. TrueSite z.n j H (net.site k)) (eqb-true j i e) (true_of.sites j h)) (λ _. true_of.sites j h));
        rows = λ k h. rw append-nil (true_of.rows k h);
        few = true_of.few;
      }

  seen_true :
      (x : Told) (a : Answer) → (read_order x.command ≡ Ok Order·.Deliver → a.number ≡ 0 → TrueRow z.n H (row_in x.command)) →
      Seen (member_of z x.at) (net.site x.at) x.command a → TrueNetwork z (answered x.at a net) (H ++ a.records)
  unfolding refuse take member_of
  seen_true x a arrived (as_refused number other) = stayed x.at number
  seen_true x a arrived (as_taken v valid below rule) =
      moved x.at v below (fair_rule x.at x.command v below (λ e. arrived e refl) rule)

  -- a step keeps all true
  pub step_true : (x : Told) → Genuine z net x → TrueNetwork z (after_step z net x) (H ++ (answer_of z net x).records)
  unfolding Genuine after_step answer_of
  step_true x genuine =
      seen_true x (answer_of z net x)
      (λ e accepted. from (genuine e accepted))
      (view (member_of z x.at) (net.site x.at) x.command)
    where
      from : WasSent net.sent (row_in x.command) → TrueRow z.n H (row_in x.command)
      from w = subst (TrueRow z.n H) w.same (true_of.rows w.number w.below)

-- at the start

blank_true : (n own : ℕ) (up : Bool) → n ≤ 16 → TrueSite n own [] (blank_site up)
unfolding blank_site written_at
blank_true n own up few =
    record {
      log = record { prepares = refl; commit_groups_lem = refl; abort_groups_lem = refl; commit-outcomes = refl; abort-outcomes = refl };
      codes = zero_true n [] few;
      joined = zero_true n [] few;
    }

-- nothing written is true
empty_true : (t : Terms) → TrueHistory t []
unfolding written_at
empty_true t =
    record {
      each = λ j.
          record {
            below = λ code h. absurd (omega arith);
            one-prepare = omega arith;
            one-group = omega arith;
            one-outcome = omega arith;
            is_willing_lem = λ h. absurd (omega arith);
          };
      commit-group = λ j h. absurd (omega arith);
      commit-outcome = λ j h. absurd (omega arith);
      abort-outcome = λ j h. absurd (omega arith);
    }

pub fresh_true : (z : Competition) → z.n ≤ 16 → TrueNetwork z fresh_network []
unfolding fresh_network
fresh_true z few =
    record {
      history = empty_true (terms_of z);
      sites = λ j h. blank_true z.n j true few;
      rows = λ k h. absurd (omega arith);
      few = few;
    }
