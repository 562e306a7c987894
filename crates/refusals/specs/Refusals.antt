-- The numbers by which the papers name what stops a call.
use Rattle.std.specs.Prelude.{ℕ, Option, Some, None, Result, Ok, Err}
use Rattle.refusals.specs.declared.Reason.{Reason}
use Rattle.refusals.specs.declared.Reason.TheVariants as Reason·
use Rattle.refusals.specs.declared.Refusal.{Refusal}
use Rattle.refusals.specs.declared.Numbered.{Numbered}

-- the number of a reason
abbrev pub number_of : Reason → ℕ
number_of Reason·.ListTooLong = 1
number_of Reason·.ListTooShort = 2
number_of Reason·.SiteCount = 3
number_of Reason·.QuorumSizes = 4
number_of Reason·.WillingSites = 5
number_of Reason·.NoCommand = 6
number_of Reason·.OperandsCut = 7
number_of Reason·.NoSuchSite = 8
number_of Reason·.NoSuchRow = 9
number_of Reason·.UnknownRow = 10
number_of Reason·.NotAddressed = 11
number_of Reason·.SiteDown = 12
number_of Reason·.SiteUp = 13
number_of Reason·.NotActive = 14
number_of Reason·.StoreFull = 15
number_of Reason·.StoreTooShort = 16
number_of Reason·.InvalidWorld = 17
number_of Reason·.ReportTooShort = 18
number_of Reason·.BadLine = 19
number_of Reason·.OutputTooShort = 20
number_of Reason·.InvalidWeights = 21
number_of Reason·.UnevenWeights = 22

-- the number of a test's answer: 0 where nothing stops the call
abbrev pub answer_number : {T : Type 0} → Result T Reason → ℕ
answer_number (Ok x) = 0
answer_number (Err reason) = number_of reason

-- a refusal of the whole: its place is 0
abbrev pub at_beginning : Reason → Refusal
at_beginning reason = record { reason = reason; place = 0 }

-- a refusal told by its number
abbrev pub by_number : Refusal → Numbered
by_number r = record { number = number_of r.reason; place = r.place }

-- the number of a stop: 0 for none
abbrev pub stop_number : Option Reason → ℕ
stop_number None = 0
stop_number (Some reason) = number_of reason
