-- No reason has number 0, and each has one of 1 to 22.
use denote.Enum.Declared.{tag_of}
use Rattle.std.specs.Prelude.{ℕ, ◌+◌, ◌≡◌, ◌≤◌, Bool, true, false, Result, Ok, Err, is_ok, is_err, eqb}
use Rattle.std.proofs.Common.{refl, ◌∙◌, rules}
use Rattle.std.proofs.lemmas.Bool.{eqb-false}
use Rattle.refusals.specs.contracts.Reason.{the_type}
use Rattle.refusals.specs.declared.Reason.{Reason}
use Rattle.refusals.specs.declared.Reason.TheVariants as Reason·
use Rattle.refusals.specs.Refusals.{number_of, answer_number}

pub number-test : (r : Reason) → eqb (number_of r) 0 ≡ false
number-test Reason·.ListTooLong = refl
number-test Reason·.ListTooShort = refl
number-test Reason·.SiteCount = refl
number-test Reason·.QuorumSizes = refl
number-test Reason·.WillingSites = refl
number-test Reason·.NoCommand = refl
number-test Reason·.OperandsCut = refl
number-test Reason·.NoSuchSite = refl
number-test Reason·.NoSuchRow = refl
number-test Reason·.UnknownRow = refl
number-test Reason·.NotAddressed = refl
number-test Reason·.SiteDown = refl
number-test Reason·.SiteUp = refl
number-test Reason·.NotActive = refl
number-test Reason·.StoreFull = refl
number-test Reason·.StoreTooShort = refl
number-test Reason·.InvalidWorld = refl
number-test Reason·.ReportTooShort = refl
number-test Reason·.BadLine = refl
number-test Reason·.OutputTooShort = refl
number-test Reason·.InvalidWeights = refl
number-test Reason·.UnevenWeights = refl

pub number-some : (r : Reason) → number_of r ≡ 0 → ⊥
number-some r e = eqb-false (number_of r) 0 (number-test r) e

pub number-range : (r : Reason) → (1 ≤ number_of r) × (number_of r ≤ 22)
number-range Reason·.ListTooLong = (search rules, search rules)
number-range Reason·.ListTooShort = (search rules, search rules)
number-range Reason·.SiteCount = (search rules, search rules)
number-range Reason·.QuorumSizes = (search rules, search rules)
number-range Reason·.WillingSites = (search rules, search rules)
number-range Reason·.NoCommand = (search rules, search rules)
number-range Reason·.OperandsCut = (search rules, search rules)
number-range Reason·.NoSuchSite = (search rules, search rules)
number-range Reason·.NoSuchRow = (search rules, search rules)
number-range Reason·.UnknownRow = (search rules, search rules)
number-range Reason·.NotAddressed = (search rules, search rules)
number-range Reason·.SiteDown = (search rules, search rules)
number-range Reason·.SiteUp = (search rules, search rules)
number-range Reason·.NotActive = (search rules, search rules)
number-range Reason·.StoreFull = (search rules, search rules)
number-range Reason·.StoreTooShort = (search rules, search rules)
number-range Reason·.InvalidWorld = (search rules, search rules)
number-range Reason·.ReportTooShort = (search rules, search rules)
number-range Reason·.BadLine = (search rules, search rules)
number-range Reason·.OutputTooShort = (search rules, search rules)
number-range Reason·.InvalidWeights = (search rules, search rules)
number-range Reason·.UnevenWeights = (search rules, search rules)

-- the number is the place in the enum, counted from 1
pub tagged : (r : Reason) → tag_of the_type r + 1 ≡ number_of r
tagged Reason·.ListTooLong = refl
tagged Reason·.ListTooShort = refl
tagged Reason·.SiteCount = refl
tagged Reason·.QuorumSizes = refl
tagged Reason·.WillingSites = refl
tagged Reason·.NoCommand = refl
tagged Reason·.OperandsCut = refl
tagged Reason·.NoSuchSite = refl
tagged Reason·.NoSuchRow = refl
tagged Reason·.UnknownRow = refl
tagged Reason·.NotAddressed = refl
tagged Reason·.SiteDown = refl
tagged Reason·.SiteUp = refl
tagged Reason·.NotActive = refl
tagged Reason·.StoreFull = refl
tagged Reason·.StoreTooShort = refl
tagged Reason·.InvalidWorld = refl
tagged Reason·.ReportTooShort = refl
tagged Reason·.BadLine = refl
tagged Reason·.OutputTooShort = refl
tagged Reason·.InvalidWeights = refl
tagged Reason·.UnevenWeights = refl

-- an answer's number is 0 where nothing stops the call, and only there
pub answer-test : {T : Type 0} (r : Result T Reason) → eqb (answer_number r) 0 ≡ is_ok r
answer-test (Ok x) = refl
answer-test (Err reason) = number-test reason

pub answer-ok : {T : Type 0} (r : Result T Reason) → is_err r ≡ false → answer_number r ≡ 0
answer-ok (Ok x) e = refl
answer-ok (Err reason) e = cc

-- where an answer's number is 0, and where it is not, by whether it is Ok
pub answer-none : {T : Type 0} (r : Result T Reason) (n : ℕ) → answer_number r ≡ n → is_ok r ≡ true → eqb n 0 ≡ true
answer-none r n e f = rw (← e) (answer-test r ∙ f)

pub answer-some : {T : Type 0} (r : Result T Reason) (n : ℕ) → answer_number r ≡ n → is_ok r ≡ false → eqb n 0 ≡ false
answer-some r n e f = rw (← e) (answer-test r ∙ f)

pub ruleset answered = (answer-none, answer-some)
