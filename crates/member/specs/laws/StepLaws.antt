-- What a refused step leaves, what a crash leaves, and that an accepted step leaves a site that passes 17 again.
use Rattle.std.specs.Prelude.{ℕ, ◌≤◌, true, List, ◌≡◌, refl, ltb, eqb}
use Rattle.std.proofs.Common.{sym, subst, ◌∙◌, arith, lt-ltb, eqb-true}
use Rattle.choice.specs.Choice.{pick}
use Rattle.choice.specs.laws.ChoiceLaws.{pick-on, pick_ind, both-on, both_first, both-second}
use Rattle.site.specs.declared.State.TheVariants as State·
use Rattle.site.specs.declared.Site.{Site}
use Rattle.site.specs.State.{state_of}
use Rattle.site.specs.Fields.{with_up, with_coordinator, with_codes}
use Rattle.site.specs.Records.{Written}
use Rattle.rules.specs.Rules.{silent, start, crash}
use Rattle.world.specs.Sizes.{sizes_number}
use Rattle.world.specs.Valid.{valid_site}
use Rattle.world.specs.laws.SizesLaws.{sized}
use Rattle.member.specs.declared.Member.{Member}
use Rattle.member.specs.declared.Order.TheVariants as Order·
use Rattle.member.specs.Hearings.{Heard}
use Rattle.std.specs.Prelude.{Ok}
use Rattle.member.specs.Steps.{Answer, refuse, take, crash_step, step_by, step_heard, valid_member, site_step}
use Rattle.member.specs.Claims.{Long, Stays, RefusedStays, Ready, AcceptedStaysValid, site_of_log, LogIsEnough}
use Rattle.member.specs.laws.Steady.{Steady, Moved, keeps_start, keeps_timeout, keeps_deliver, keeps_crash, keeps_recover}
use Rattle.member.specs.laws.SoundSites.{SoundSite, site-sound, site-valid, sound_steady}
use Rattle.member.specs.laws.Answers.{Asked, step_ind}

pub refused-stays : RefusedStays
unfolding refuse take
refused-stays m s bytes =
    step_ind m s (λ a. (a.number ≡ 0 → ⊥) → Stays s a)
    (record {
      refusals = λ number some refused. record { site-same = refl; no_row_lem = refl; no_news = refl; no_record = refl };
      starts = λ asked own active refused. absurd (refused refl);
      delivers = λ asked row known refused. absurd (refused refl);
      timeouts = λ asked refused. absurd (refused refl);
      crashes = λ asked refused. absurd (refused refl);
      recovers = λ asked refused. absurd (refused refl);
    })
    bytes

-- the site that an answer leaves, where it is accepted
unfoldable Leaves : Site → Answer → Type 0
Leaves after a = a.number ≡ 0 → a.site ≡ after

crash-leaves : (own : ℕ) (s : Site) → Leaves (site_of_log own s.prepared s.group s.joined s.outcome) (take (crash own s))
unfolding Leaves take crash silent with_up with_coordinator with_codes site_of_log state_of
crash-leaves own s accepted = refl

refusal_leaves : (number : ℕ) (after s : Site) → (number ≡ 0 → ⊥) → Leaves after (refuse number s)
unfolding Leaves refuse
refusal_leaves number after s some accepted = absurd (some accepted)

pub log-is-enough : LogIsEnough
unfolding Leaves site_step step_heard step_by crash_step
log-is-enough m s bytes e =
    let P : Answer → Type 0 = Leaves (site_of_log m.own s.prepared s.group s.joined s.outcome) in
    subst (λ h. P (pick (valid_member m s) (step_heard h bytes m s) (refuse 17 s))) (sym e)
    (pick_ind P (valid_member m s) (step_heard (Ok Order·.Crash) bytes m s) (refuse 17 s)
    (λ _. pick_ind P (ltb m.own m.n) (crash_step m s) (refuse 8 s)
    (λ _. pick_ind P s.up (take (crash m.own s)) (refuse 12 s)
    (λ _. crash-leaves m.own s) (λ _. refusal_leaves 12 _ s (λ z. omega arith)))
    (λ _. refusal_leaves 8 _ s (λ z. omega arith)))
    (λ _. refusal_leaves 17 _ s (λ z. omega arith)))

-- what 17 asks of a member and its site: the sizes, then the site

valid-sizes :
    (m : Member) (s : Site) → valid_member m s ≡ true → eqb (sizes_number m.n m.weights m.commit m.abort 0) 0 ≡ true
unfolding valid_member
valid-sizes m s valid = both_first _ (pick (ltb m.own m.n) (valid_site m.own m.n s) true) valid

pub valid-few : (m : Member) (s : Site) → valid_member m s ≡ true → m.n ≤ 16
valid-few m s valid =
    (sized m.n m.weights m.commit m.abort 0
    (eqb-true (sizes_number m.n m.weights m.commit m.abort 0) 0 (valid-sizes m s valid))
    ).high

asked_sound : (m : Member) (s : Site) → Long s → Asked m s → SoundSite m.own m.n s
unfolding valid_member
asked_sound m s long asked =
    site-sound m.own m.n s long
    (sym (pick-on (ltb m.own m.n) (valid_site m.own m.n s) true (lt-ltb m.own m.n asked.below))
    ∙ both-second (eqb (sizes_number m.n m.weights m.commit m.abort 0) 0) _ asked.valid)

sound-ready : (m : Member) (s after : Site) → Asked m s → SoundSite m.own m.n after → Ready m after
unfolding valid_member
sound-ready m s after asked q =
    record {
      long = q.long;
      valid =
          both-on (eqb (sizes_number m.n m.weights m.commit m.abort 0) 0) _ (valid-sizes m s asked.valid)
          (pick-on (ltb m.own m.n) (valid_site m.own m.n after) true (lt-ltb m.own m.n asked.below)
          ∙ site-valid m.own m.n after q);
    }

abbrev Sound : Member → Site → List Written → Type 0
Sound m t H = SoundSite m.own m.n t

asked_steady : (m : Member) (s : Site) → Asked m s → Steady m.own m.n (Sound m)
asked_steady m s asked = sound_steady m.own m.n asked.below (valid-few m s asked.valid)

-- START is at site 0
ready-start :
    (m : Member) (s : Site) → Long s → Asked m s → m.own ≡ 0 → state_of s ≡ State·.Active →
    Ready m (start m.n m.willing s).step.site
ready-start m s long asked zero active =
    sound-ready m s (start m.n m.willing s).step.site asked
    (subst (λ own. SoundSite own m.n (start m.n m.willing s).step.site) (sym zero)
    (keeps_start m.n (λ t H. SoundSite 0 m.n t)
    (subst (λ own. Steady own m.n (λ t H. SoundSite own m.n t)) zero (asked_steady m s asked)) m.willing s active
    (subst (λ own. SoundSite own m.n s) zero (asked_sound m s long asked))))

pub accepted-stays-valid : AcceptedStaysValid
unfolding refuse take Moved
accepted-stays-valid m s bytes long =
    let sound : Asked m s → SoundSite m.own m.n s = asked_sound m s long in
    let steady : Asked m s → Steady m.own m.n (Sound m) = asked_steady m s in
    step_ind m s (λ a. a.number ≡ 0 → Ready m a.site)
    (record {
      refusals = λ number some accepted. absurd (some accepted);
      starts = λ asked zero active _. ready-start m s long asked zero active;
      delivers = λ asked row known _.
          sound-ready m s _ asked (keeps_deliver m.own m.n (Sound m) (steady asked) m.willing row s known (sound asked));
      timeouts = λ asked _.
          sound-ready m s _ asked
          (keeps_timeout m.own m.n (Sound m) (steady asked) m.weights m.commit m.abort s (sound asked));
      crashes = λ asked _. sound-ready m s _ asked (keeps_crash m.own m.n (Sound m) (steady asked) s (sound asked));
      recovers = λ asked _. sound-ready m s _ asked (keeps_recover m.own m.n (Sound m) (steady asked) s (sound asked));
    })
    bytes
