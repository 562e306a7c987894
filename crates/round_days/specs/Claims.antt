-- What is claimed of four days and their rounds.
use Rattle.std.specs.Prelude.{List, [], ◌∷◌, map, ◌≡◌}
use Rattle.termination.specs.Claims.{AllBack}
use Rattle.round_days.specs.Days.{Shown, Day, end_of, shown, meeting, days}

-- what evaluating shows, and what the day's line says
unfoldable pub played : Day → Shown
played day = shown day.list

unfoldable pub stated : Day → Shown
stated day = day.expected

-- THE DAYS HOLD
abbrev pub DaysHold : Type 0
DaysHold = map played days ≡ map stated days

-- each of these days ends with everyone back
unfoldable pub AllMeet : List Day → Type 0
AllMeet [] = Unit
AllMeet (day ∷ more) = AllBack (end_of day.list).world × AllMeet more

abbrev pub PremisesMet : Type 0
PremisesMet = AllMeet meeting
