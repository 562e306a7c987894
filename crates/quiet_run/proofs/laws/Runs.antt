-- A quiet day as calls: theorems 1 to 3.
use Rattle.std.specs.Prelude.{ℕ, ◌-◌, List}
use Rattle.std.proofs.Common.{sym, ◌∙◌, arith}
use Rattle.std.proofs.Math.Path.{subst}
use Rattle.weights.specs.laws.WeightLaws.{weighed, total-below}
use Rattle.site.specs.declared.CommitQuorum.{CommitQuorum}
use Rattle.site.specs.declared.AbortQuorum.{AbortQuorum}
use Rattle.command.specs.declared.Command.{Command}
use Rattle.world.specs.Worlds.{fresh_world}
use Rattle.world.specs.laws.SizesLaws.{Sized, sized}
use Rattle.play.specs.Run.{Ran}
use Rattle.safety.proofs.laws.Shape.{shaped_fresh}
use Rattle.safety.proofs.laws.FreshValid.{fresh-valid}
use Rattle.quiet.specs.Quiet.{replies_after, replies_at_once, quiet_in}
use Rattle.quiet_run.specs.Claims.{Wanted, asks_of, Quietly, QuietCalls, QuietRun, QuietAtOnce, OrdersAgree}
use Rattle.quiet_run.proofs.laws.Commands.{Ordered, after_ordered, at_once_ordered, quiet-range, quiet-events, asks-length}
use Rattle.quiet_run.proofs.laws.Leads.{Leads}
use Rattle.quiet_run.proofs.laws.Steps.{Agreed}
use Rattle.quiet_run.proofs.laws.Orders.{after-leads, at_once-leads}
use Rattle.quiet_run.proofs.laws.Whole.{round_news, quiet_end, fresh-is, InOrder, whole-leads}
use Rattle.quiet_run.proofs.laws.Ends.{ends_quietly}
use Rattle.quiet_run.proofs.laws.Transport.{Fit, RunsTo, leads-run, own-reads}

module _ (n : ℕ) (weights : List ℕ) (c : CommitQuorum) (a : AbortQuorum) (willing : ℕ) (store : List ℕ) (wanted : Wanted n weights c a willing store) where
  pub fits : Sized n weights c a willing
  fits = sized n weights c a willing wanted.sizes

  -- C is at most what all sites but a heaviest weigh
  pub agreed : Agreed n (n - 1) weights c willing
  agreed =
      record {
        size = omega (arith, fits);
        few = fits.high;
        will = wanted.all-willing;
        reach = omega (arith, fits, total-below n weights fits.high (weighed n weights fits.weighed));
      }

  pub fresh-fit : Fit (fresh_world n weights c a willing) store
  fresh-fit =
      record { shaped = shaped_fresh n weights c a willing; valid = fresh-valid n weights c a willing wanted.sizes; room = wanted.room }

  abbrev pub end : Ran
  end = quiet_end n (n - 1) weights c a willing store

  -- in an order
  module _ (order : ℕ → ℕ → List Command) (ordered : Ordered order) (rounds : InOrder n (n - 1) weights c a willing agreed order) where
    pub from-fresh : Leads (quiet_in order n) (fresh_world n weights c a willing) store end
    from-fresh =
        subst (λ w. Leads (quiet_in order n) w store end) (sym (fresh-is n (n - 1) weights c a willing agreed wanted.sizes))
        (whole-leads n (n - 1) weights c a willing agreed order rounds store wanted.room)

    runs : RunsTo (fresh_world n weights c a willing) store (asks_of (quiet_in order n)) end
    runs =
        leads-run from-fresh (asks_of (quiet_in order n))
        (own-reads (quiet_in order n) (quiet-range order ordered n (omega (arith, fits)) fits.high)) fresh-fit

    quiet-calls : QuietCalls n (fresh_world n weights c a willing) store (asks_of (quiet_in order n))
    unfolding quiet_end
    quiet-calls =
        record {
          accepted = runs.accepted;
          events = asks-length (quiet_in order n) ∙ quiet-events order ordered n (omega (arith, fits)) fits.high;
          comes_to_lem =
              subst (λ r. Quietly n r.world r.store r.records) (sym runs.same)
              (ends_quietly n (n - 1) weights c a willing agreed store wanted.room);
        }

  pub after-rounds : InOrder n (n - 1) weights c a willing agreed replies_after
  unfolding round_news
  after-rounds r k s news place = after-leads n (n - 1) weights c a willing agreed r k s news place

  at_once-rounds : InOrder n (n - 1) weights c a willing agreed replies_at_once
  unfolding round_news
  at_once-rounds r k s news place = at_once-leads n (n - 1) weights c a willing agreed r k s news place

-- the claims

pub quiet-run : QuietRun
quiet-run n weights c a willing store wanted =
    quiet-calls n weights c a willing store wanted replies_after after_ordered (after-rounds n weights c a willing store wanted)

pub quiet-at_once : QuietAtOnce
quiet-at_once n weights c a willing store wanted =
    quiet-calls n weights c a willing store wanted replies_at_once at_once_ordered (at_once-rounds n weights c a willing store wanted)

pub orders_agree : OrdersAgree
orders_agree n weights c a willing store wanted =
    (runs n weights c a willing store wanted replies_after after_ordered (after-rounds n weights c a willing store wanted)).same
    ∙ sym (runs n weights c a willing store wanted replies_at_once at_once_ordered (at_once-rounds n weights c a willing store wanted)).same
