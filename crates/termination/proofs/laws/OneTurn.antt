-- A site's turn.
use Rattle.std.specs.Prelude.{ℕ, ◌+◌, ◌-◌, ◌*◌, ◌≤◌, ◌<◌, List, ◌⊎◌, ◌≡◌, ltb, eqb}
use Rattle.std.proofs.Common.{inl, inr, ◌∙◌, arith, lt-ltb, le-ltb, ltb-true, ltb-false, eqb-true, ne_eqb}
use Rattle.std.proofs.Math.Path.{ap, sym, subst}
use Rattle.std.proofs.Math.ListN.{length, get_or}
use Rattle.choice.specs.Choice.{pick}
use Rattle.choice.specs.laws.Cases.{by_test, by_equal}
use Rattle.choice.specs.laws.ChoiceLaws.{pick_ind}
use Rattle.bits.specs.Bits.{has_bit, other_sites}
use Rattle.bits.specs.laws.Sets.{other_has, other-small}
use Rattle.row.specs.declared.Row.{Row}
use Rattle.row.specs.Rows.{get_row}
use Rattle.rules.specs.Rules.{Move, command_row}
use Rattle.world.specs.declared.World.{World}
use Rattle.world.specs.Sizes.{max_rows}
use Rattle.world.specs.Worlds.{site_of}
use Rattle.play.specs.Run.{call_of}
use Rattle.quiet_run.specs.Claims.{ask_of}
use Rattle.termination.specs.Schedule.{Course, give, waited_at, hand_on, visits, turn}
use Rattle.termination.proofs.laws.Timeouts.{code_in, Ready, Deciding, command_of, Commands, Aborts, timeout-commands, timeout-aborts}
use Rattle.termination.proofs.laws.Timeouts.{decided, commits, aborts}
use Rattle.termination.proofs.laws.Answers.{IsCommand, is-command}
use Rattle.termination.proofs.laws.Fine.{Fine, few, RowFits, Went, code_at, entry_at}
use Rattle.termination.proofs.laws.Calls.{timeout_move, timeout-active, timeout-other}
use Rattle.termination.proofs.laws.Truths.{Open, AllDecided, own-entry, entry-small}
use Rattle.termination.proofs.laws.Courses.{Going, Leg, leg-then, leg-most, goes_on, leg-silent, leg-sent}
use Rattle.termination.proofs.laws.Rows.{Kinded, command-kinded, row_known_lem}
use Rattle.termination.proofs.laws.Visits.{Calling}
use Rattle.termination.proofs.laws.Tours.{others, others-all, Toured, toured}

-- the command of a state: prepare of a prepared site alone, outcome of a terminated one alone

command-one : (code : ℕ) → command_of code ≡ 1 → code ≡ 1
unfolding command_of
command-one code =
    pick_ind (λ x. x ≡ 1 → code ≡ 1) (eqb code 1) 1 (pick (eqb code 2) 3 (pick (eqb code 3) 4 6)) (λ e _. eqb-true code 1 e)
    (λ _. pick_ind (λ x. x ≡ 1 → code ≡ 1) (eqb code 2) 3 (pick (eqb code 3) 4 6) (λ _ z. absurd (omega (arith, z)))
    (λ _. pick_ind (λ x. x ≡ 1 → code ≡ 1) (eqb code 3) 4 6 (λ _ z. absurd (omega (arith, z))) (λ _ z. absurd (omega (arith, z)))))

command_six : (code : ℕ) → 4 ≤ code → command_of code ≡ 6
unfolding command_of
command_six code h =
    rw (
      ne_eqb code 1 (λ e. omega (arith, h, e)),
      ne_eqb code 2 (λ e. omega (arith, h, e)),
      ne_eqb code 3 (λ e. omega (arith, h, e)),
    )

six_command : (code : ℕ) → 1 ≤ code → command_of code ≡ 6 → 4 ≤ code
unfolding command_of
six_command code some e =
    by_equal code 1 (λ q. absurd (omega (arith, ap command_of (sym q) ∙ e))) λ n1.
    by_equal code 2 (λ q. absurd (omega (arith, ap command_of (sym q) ∙ e))) λ n2.
    by_equal code 3 (λ q. absurd (omega (arith, ap command_of (sym q) ∙ e))) λ n3.
    omega (arith, some, n1, n2, n3)

-- WHAT A TURN of site i leaves: the site has prepared, or more, and leads as long as it has no outcome; if that was so before, all sites are in a group or
-- have an outcome, and site i knows it; if site i was deciding, all sites have an outcome; and somebody gets one only where everybody does
pub record Taken (o : World) (s : List ℕ) (i : ℕ) (t u : Course) : Type 0 where
  pub going : Going o s u
  pub leg : Leg o t u (2 * o.n - 1) o.n
  pub ready : Ready (site_of u.world i)
  pub group : Ready (site_of t.world i) → (j : ℕ) → j < o.n → 2 ≤ code_at u.world j
  pub known : Ready (site_of t.world i) → (j : ℕ) → j < o.n → (j ≡ i → ⊥) → 2 ≤ entry_at u.world i j
  pub decides : Deciding o.n o.weights o.commit o.abort (site_of t.world i) → AllDecided o u.world
  pub quiet : Ready (site_of t.world i) → Open o t.world → Open o u.world ⊎ AllDecided o u.world

module _ (o : World) (s : List ℕ) (i : ℕ) (lead : i < o.n) (t : Course) (start : Going o s t) where
  abbrev w : World
  w = t.world

  fine : Fine o w t.store
  fine = start.fine

  abbrev m : Move
  m = timeout_move o w t.store fine i lead

  abbrev t₁ : Course
  t₁ = give (waited_at i) t

  -- ACTIVE: it aborts
  module _ (none : code_at w i ≡ 0) where
    ended : Aborts i (site_of w i) m
    ended = timeout-aborts i w.n w.weights w.commit w.abort (site_of w i) none

    moved : Went o w t.store i m (call_of w t.store (ask_of (waited_at i)))
    moved = timeout-active o w t.store fine i lead none

    turn-ends : turn i t ≡ t₁
    unfolding turn hand_on give
    turn-ends = rw (le-ltb w.rows (call_of w t.store (ask_of (waited_at i))).world.rows (omega (arith, moved.silent ended.none)))

    -- such a site is neither ready nor deciding
    never-ready : Ready (site_of w i) → ⊥
    never-ready r = omega (arith, none, r.some)

    never-deciding : Deciding o.n o.weights o.commit o.abort (site_of w i) → ⊥
    never-deciding (decided h) = omega (arith, none, h)
    never-deciding (commits h _ _) = omega (arith, none, h)
    never-deciding (aborts h _ _) = omega (arith, none, h)

    aborted : 4 ≤ code_at t₁.world i
    unfolding give
    aborted = omega (arith, ap code_in moved.site, ended.outcome)

    active-turn : Taken o s i t (turn i t)
    active-turn =
        subst (Taken o s i t) (sym turn-ends)
        (record {
          going = goes_on o s t start (waited_at i) i m moved;
          leg =
              leg-most t t₁ (2 * o.n - 1) o.n (omega (arith, lead)) (omega (arith, lead))
              (leg-silent o s t start (waited_at i) i m moved ended.none);
          ready = record { some = omega (arith, aborted); leads = λ h. absurd (omega (arith, h, aborted)) };
          group = λ r. absurd (never-ready r);
          known = λ r. absurd (never-ready r);
          decides = λ d. absurd (never-deciding d);
          quiet = λ r. absurd (never-ready r);
        })

  -- ANY OTHER: it sends its command
  module _ (some : 1 ≤ code_at w i) (free : w.rows + o.n ≤ max_rows) where
    sends : Commands i w.n w.weights w.commit w.abort (site_of w i) m
    sends = timeout-commands i w.n w.weights w.commit w.abort (site_of w i) some

    went₁ : Went o w t.store i m (call_of w t.store (ask_of (waited_at i)))
    went₁ = timeout-other o w t.store fine i lead some (omega (arith, free, lead))

    abbrev code : ℕ
    code = code_in m.step.site

    kinded : Kinded (command_of code)
    kinded = command-kinded (command_of code) (is-command code)

    some-row : m.step.row.kind ≡ 0 → ⊥
    unfolding command_row
    some-row e = omega (arith, e, ap (λ r. r.kind) sends.row, kinded)

    going₁ : Going o s t₁
    going₁ = goes_on o s t start (waited_at i) i m went₁

    leg₁ : Leg o t t₁ 1 1
    leg₁ = leg-sent o s t start (waited_at i) i m went₁ some-row

    abbrev w₁ : World
    w₁ = t₁.world

    fine₁ : Fine o w₁ t₁.store
    fine₁ = going₁.fine

    here : site_of w₁ i ≡ m.step.site
    unfolding give
    here = went₁.site

    -- THE COMMAND in the store

    fits : RowFits m.step.row
    unfolding command_row
    fits =
        subst RowFits (sym sends.row)
        (record {
          sender = omega (arith, lead, few o w t.store fine);
          destinations = other-small w.n i (omega (arith, fine.sizes, few o w t.store fine));
          long =
              sym (ap (λ x. length x.codes) here) ∙ fine₁.shaped.codes i (omega (arith, lead, few o w t.store fine));
        })

    abbrev row : Row
    row = get_row t₁.store w.rows

    command-is : row ≡ command_row (command_of code) i w.n m.step.site
    unfolding give
    command-is = went₁.reads some-row fits ∙ sends.row

    kind-is : row.kind ≡ command_of code
    unfolding command_row
    kind-is = ap (λ r. r.kind) command-is

    entry : (x : ℕ) → get_or row.codes x 0 ≡ entry_at w₁ i x
    unfolding command_row
    entry x = ap (λ r. get_or r.codes x 0) command-is ∙ sym (ap (λ z. get_or z.codes x 0) here)

    code_is : code_at w₁ i ≡ code
    code_is = ap code_in here

    calling : Calling o i row
    unfolding command_row
    calling =
        record {
          command = subst IsCommand (sym kind-is) (is-command code);
          sender = ap (λ r. r.sender) command-is;
          known =
              row_known_lem o.n row (subst Kinded (sym kind-is) kinded) (omega (arith, ap (λ r. r.sender) command-is, lead))
              (λ x h. omega (arith, entry x, entry-small o w₁ t₁.store fine₁ i x lead h));
          to = λ j h unlike.
              ap (λ r. has_bit r.destinations j) command-is ∙ ap (λ x. has_bit (other_sites x i) j) fine.sizes.same-n
              ∙ other_has o.n i j (few o w t.store fine) lead h unlike;
          outcome = λ e.
              omega (arith, entry i, own-entry o w₁ t₁.store fine₁ i lead, code_is, six_command code sends.some (sym kind-is ∙ e));
        }

    -- THE VISITS

    there : w.rows < w₁.rows
    unfolding give
    there = omega (arith, went₁.sent some-row)

    all : others i o.n + 1 ≡ o.n
    all = others-all i o.n lead

    abbrev u : Course
    u = visits i w.rows o.n t₁

    tour : Toured o s i t₁ u row o.n
    tour = toured o s i lead t₁ going₁ w.rows there calling o.n (omega arith) (omega (arith, leg₁.rows, free, all))

    turn_is : turn i t ≡ u
    unfolding turn hand_on
    turn_is =
        rw (lt-ltb w.rows w₁.rows there) (ap (λ x. visits i w.rows x t₁) fine.sizes.same-n)

    -- WHAT IT LEAVES

    own-grows : code_at w₁ i ≤ code_at u.world i
    own-grows = (tour.leg.grows.codes i lead).grows

    no_prepare : Ready (site_of w i) → row.kind ≡ 1 → ⊥
    no_prepare r e = omega (arith, sends.in_group r, command-one code (sym kind-is ∙ e))

    to-all : 4 ≤ code → AllDecided o u.world
    to-all h =
        record {
          each = λ j below.
              by_equal j i
              (λ e. subst (λ x. 4 ≤ code_at u.world x) (sym e) (omega (arith, h, code_is, own-grows)))
              (λ e. tour.outcome (kind-is ∙ command_six code h) j below e);
        }

    -- as long as site i has no outcome, nobody has
    still_open : code < 4 → Open o w → Open o w₁
    unfolding give
    still_open h none =
        record {
          none = λ j below.
              by_equal j i
              (λ e. subst (λ x. code_at w₁ x < 4) (sym e) (omega (arith, h, code_is)))
              (λ e. omega (arith, ap code_in (went₁.others j e), none.none j below));
        }

    other-turn : Taken o s i t (turn i t)
    other-turn =
        subst (Taken o s i t) (sym turn_is)
        (record {
          going = tour.going;
          leg =
              leg-most t u (2 * o.n - 1) o.n (omega (arith, all)) (omega (arith, all)) (leg-then t t₁ u leg₁ tour.leg);
          ready =
              record {
                some = omega (arith, sends.some, code_is, own-grows);
                leads = λ _. tour.leg.grows.roles i lead (ap (λ x. x.coordinator) here ∙ sends.leads);
              };
          group = λ r j below.
              by_equal j i
              (λ e. subst (λ x. 2 ≤ code_at u.world x) (sym e) (omega (arith, sends.in_group r, code_is, own-grows)))
              (λ e. tour.group (no_prepare r) j below e);
          known = λ r j below unlike. tour.known (no_prepare r) j below unlike;
          decides = λ d. to-all (sends.decides (of-world d));
          quiet = λ r none.
              by_test (ltb code 4)
              (λ e. inl (tour.quiet (no_prepare r) (still_open (ltb-true code 4 e) none)))
              (λ e. inr (to-all (ltb-false code 4 e)));
        })
      where
        of-world : Deciding o.n o.weights o.commit o.abort (site_of w i) → Deciding w.n w.weights w.commit w.abort (site_of w i)
        of-world d =
            subst (λ x. Deciding x w.weights w.commit w.abort (site_of w i)) (sym fine.sizes.same-n)
            (subst (λ x. Deciding o.n x w.commit w.abort (site_of w i)) (sym fine.sizes.same_weights_lem)
            (subst (λ x. Deciding o.n o.weights x w.abort (site_of w i)) (sym fine.sizes.same-commit)
            (subst (λ x. Deciding o.n o.weights o.commit x (site_of w i)) (sym fine.sizes.same-abort) d)))

  pub taken : w.rows + o.n ≤ max_rows → Taken o s i t (turn i t)
  taken free = by_equal (code_at w i) 0 active-turn (λ e. other-turn (omega (arith, e)) free)
