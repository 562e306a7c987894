-- THE DAYS HOLD: playing each list of the table by the definitions shows what its line says.
use Rattle.std.specs.Prelude.{map, ◌≡◌}
use Rattle.day_table.specs.Shown.{Shown, shown}
use Rattle.day_table.specs.Table.{Day, days}

-- what playing shows, and what the table says
unfoldable pub played : Day → Shown
played day = shown day.list

unfoldable pub stated : Day → Shown
stated day = day.expected

abbrev pub DaysHold : Type 0
DaysHold = map played days ≡ map stated days
