use native.Mathlib.Omega.{arith}
use mathlib.Core.Path.{refl, sym, ◌∙◌}
use Rattle.std.specs.Prelude.{Ok, Err}
use Rattle.refusals.specs.laws.RefusalLaws.{number-some}
use Rattle.member.specs.Steps.{handed}
use Rattle.step_calls.specs.StepCalls.{leave_all}
use Rattle.step_calls.specs.laws.StepCallLaws.{accepted_left, fits-long, each_left, call_unfit, call-refused, call-accepted}
use Rattle.step_calls.proofs.step_call.Goals as goal

pub returns-then-not-step_fits : goal.returns-then-not-step_fits
unfolding leave_all
returns-then-not-step_fits c = let a = c.args in
    let e = each_left _ _ (call_unfit a.terms.now a.site.now a.command.now a.row.now a.res.now (sym c.step_fits.ensures ∙ c.if-not-step_fits.true)) in
    record { value = c.from.ensures ∙ e.0; site_after = e.1.0; row_after = e.1.1.0; res_after = e.1.1.1 }

pub member_at-requires : goal.member_at-requires
member_at-requires c = omega (arith, (fits-long _ _ _ _ (sym c.step_fits.ensures ∙ c.if-not-step_fits.false)).terms-long)

pub site_at-requires : goal.site_at-requires
site_at-requires c = omega (arith, (fits-long _ _ _ _ (sym c.step_fits.ensures ∙ c.if-not-step_fits.false)).site-long)

pub put_step-requires : goal.put_step-requires
put_step-requires c = let l = fits-long _ _ _ _ (sym c.step_fits.ensures ∙ c.if-not-step_fits.false) in (l.site-long, l.row-long, l.result-long)

pub returns-in-Ok : goal.returns-in-Ok
unfolding accepted_left
returns-in-Ok c =
    let e =
    each_left _ _
    (call-accepted _ _ _ _ _ (sym c.step_fits.ensures ∙ c.if-not-step_fits.false) _ _ (handed c.site_at.result (Ok c.in-Ok.taken)) c.member_at.ensures
    c.site_at.ensures c.in-Ok.ensures refl) in
    record {
      value = e.0;
      site_after = c.put_step.ensures.site_after ∙ e.1.0;
      row_after = c.put_step.ensures.row_after ∙ e.1.1.0;
      res_after = c.put_step.ensures.res_after ∙ e.1.1.1;
    }

pub returns-in-Err : goal.returns-in-Err
unfolding leave_all
returns-in-Err c =
    let a = c.args in
    let e =
    each_left _ _
    (call-refused a.terms.now a.site.now a.command.now a.row.now a.res.now (sym c.step_fits.ensures ∙ c.if-not-step_fits.false) _ _
    (handed c.site_at.result (Err c.in-Err.reason)) c.member_at.ensures c.site_at.ensures c.in-Err.ensures (number-some c.in-Err.reason)) in
    record { value = c.from-in-Err.ensures ∙ e.0; site_after = e.1.0; row_after = e.1.1.0; res_after = e.1.1.1 }
