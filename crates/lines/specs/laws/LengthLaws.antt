-- How long each line of a valid world can be.
use Rattle.std.specs.Prelude.{ℕ, zero, suc, ◌+◌, ◌*◌, ◌-◌, ◌<◌, ◌≤◌, Bool, true, false, List, ◌≡◌, refl, length}
use Rattle.std.proofs.Common.{arith, length-append}
use Rattle.choice.specs.laws.Cases.{by_equal}
use Rattle.text.specs.Text.{text, decimal, named}
use Rattle.text.specs.laws.DecimalLaws.{by_unit, decimal-below}
use Rattle.site.specs.declared.Group.{Group}
use Rattle.site.specs.declared.Group.TheVariants as Group·
use Rattle.site.specs.declared.Outcome.{Outcome}
use Rattle.site.specs.declared.Outcome.TheVariants as Outcome·
use Rattle.site.specs.declared.State.{State}
use Rattle.site.specs.declared.State.TheVariants as State·
use Rattle.site.specs.declared.Site.{Site}
use Rattle.site.specs.State.{state_of}
use Rattle.world.specs.declared.World.{World}
use Rattle.world.specs.Worlds.{site_of}
use Rattle.world.specs.Valid.{valid_world}
use Rattle.lines.specs.Lines.{up_word, role_word, state_word, prepare_letter, group_letter, outcome_letter, log_letters, code_digits, sizes_line, site_line, site_lines, last_line}
use Rattle.lines.specs.laws.LineLaws.{SmallSizes, small-sizes, last_end, last-refused}

up-length : (up : Bool) → length (text (up_word up)) ≤ 6
unfolding text up_word
up-length true = omega arith
up-length false = omega arith

role-length : (coordinator : Bool) → length (text (role_word coordinator)) ≤ 12
unfolding text role_word
role-length true = omega arith
role-length false = omega arith

state-length : (state : State) → length (text (state_word state)) ≤ 13
unfolding text state_word
state-length State·.Active = omega arith
state-length State·.Prepared = omega arith
state-length State·.CommitGroup = omega arith
state-length State·.AbortGroup = omega arith
state-length State·.Committed = omega arith
state-length State·.Aborted = omega arith

prepare-length : (prepared : Bool) → length (text (prepare_letter prepared)) ≡ 1
unfolding text prepare_letter
prepare-length true = refl
prepare-length false = refl

group-length : (group : Group) → length (text (group_letter group)) ≡ 1
unfolding text group_letter
group-length Group·.None = refl
group-length Group·.Commit = refl
group-length Group·.Abort = refl

outcome-length : (outcome : Outcome) → length (text (outcome_letter outcome)) ≡ 1
unfolding text outcome_letter
outcome-length Outcome·.None = refl
outcome-length Outcome·.Commit = refl
outcome-length Outcome·.Abort = refl

log-length : (s : Site) → length (log_letters s) ≡ 3
unfolding log_letters
log-length s =
    simp length-append
    (omega (arith, prepare-length s.prepared, group-length s.group, outcome-length s.outcome))

digits_length : (k : ℕ) (v : List ℕ) → length (code_digits k v) ≡ k
unfolding code_digits
digits_length zero v = refl
digits_length (suc k) v = simp length-append (omega (arith, digits_length k v))

-- n has at most two digits, C, A and rows four, events five, news six
pub sizes-length : (w : World) (events : ℕ) → valid_world w ≡ true → events ≤ 32768 → length (sizes_line w events) ≤ 67
unfolding sizes_line named text
sizes-length w events e h =
    let s : SmallSizes w = small-sizes w e in
    simp length-append
    (omega (arith, decimal-below 2 w.n (omega arith) (omega arith), decimal-below 4 w.commit.0 (omega arith) (omega arith), decimal-below 4 w.abort.0 (omega arith) (omega arith), decimal-below 5 events (omega arith) (omega arith), decimal-below 4 w.rows (omega arith) (omega arith), decimal-below 6 w.news (omega arith) (omega arith)))

site-length : (i n : ℕ) (s : Site) → n ≤ 16 → length (site_line i n s) ≤ 52 + length (decimal i)
unfolding site_line text
site-length i n s h =
    simp length-append
    (omega (arith, up-length s.up, role-length s.coordinator, state-length (state_of s), log-length s, digits_length n s.codes))

-- a site's number has one digit below 10, two from there on
pub sites-length : (k : ℕ) (w : World) → k ≤ 16 → w.n ≤ 16 → length (site_lines k w) ≤ 53 * k + (k - 10)
unfolding site_lines
sites-length zero w l h = omega arith
sites-length (suc k) w l h =
    simp length-append
    (by_unit 10 k
    (λ q. omega (arith, sites-length k w (omega arith) h, site-length k w.n (site_of w k) h, decimal-below 2 k (omega arith) (omega arith)))
    (λ q. omega (arith, sites-length k w (omega arith) h, site-length k w.n (site_of w k) h, decimal-below 1 k (omega arith) (omega arith))))

-- a number has at most two digits, a place five
pub last-length : (number place : ℕ) → number < 100 → place ≤ 32768 → length (last_line number place) ≤ 20
unfolding named text
last-length number place h l =
    by_equal number 0
    (λ q. rw (last_end number place q) (simp length-append (omega (arith, decimal-below 5 place (omega arith) (omega arith)))))
    (λ q. rw (last-refused number place q)
    (simp length-append (omega (arith, decimal-below 2 number (omega arith) (omega arith), decimal-below 5 place (omega arith) (omega arith)))))
