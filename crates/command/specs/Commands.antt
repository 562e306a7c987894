-- Commands of one byte with fixed operands: 1 START, 2 DELIVER row (16 bits, low byte first) and site, 3 TIMEOUT site, 4 CRASH site,
-- 5 RECOVER site. Refusals: 6 none left or not 1 to 5; 7 operands cut short.
use Rattle.std.specs.Prelude.{ℕ, ◌+◌, ◌*◌, List, Ok, Err, ltb, leb, eqb, length, get_or}
use Rattle.choice.specs.Choice.{pick, both}
use Rattle.refusals.specs.declared.Reason.{Reason}
use Rattle.refusals.specs.declared.Reason.TheVariants as Reason·
use Rattle.refusals.specs.declared.Refusal.{Refusal}
use Rattle.refusals.specs.Refusals.{number_of}
use Rattle.command.specs.declared.Delivery.{Delivery}
use Rattle.command.specs.declared.Target.{Target}
use Rattle.command.specs.declared.Command.{Command}
use Rattle.command.specs.declared.Command.TheVariants as Command·
use Rattle.command.specs.Readings.{Reading, Mark}

-- a command, and the place after its operands
unfoldable pub found : Command → ℕ → Reading
found command next = Ok (record { command = command; next = next })

-- a refusal with its place
unfoldable pub refused : Reason → ℕ → Reading
refused reason place = Err (record { reason = reason; place = place })

-- operands cut short
abbrev pub cut : ℕ → Refusal
cut at = record { reason = Reason·.OperandsCut; place = at }

unfoldable pub target : List ℕ → ℕ → Target
target list at = record { site = get_or list (at + 1) 0 }

unfoldable pub delivery : List ℕ → ℕ → Delivery
delivery list at = record { row = get_or list (at + 1) 0 + 256 * get_or list (at + 2) 0; site = get_or list (at + 3) 0 }

-- a command of one operand byte
unfoldable pub read_target : (Target → Command) → List ℕ → ℕ → Reading
read_target command list at = pick (leb (at + 2) (length list)) (found (command (target list at)) (at + 2)) (refused Reason·.OperandsCut at)

-- DELIVER with its three operand bytes
unfoldable pub read_delivery : List ℕ → ℕ → Reading
read_delivery list at =
    pick (leb (at + 4) (length list)) (found (Command·.Deliver (delivery list at)) (at + 4)) (refused Reason·.OperandsCut at)

-- the command byte, by its value
unfoldable pub read_byte : ℕ → List ℕ → ℕ → Reading
read_byte byte list at =
    pick (eqb byte 1) (found Command·.Start (at + 1))
    (pick (eqb byte 2) (read_delivery list at)
    (pick (eqb byte 3) (read_target Command·.Timeout list at)
    (pick (eqb byte 4) (read_target Command·.Crash list at)
    (pick (eqb byte 5) (read_target Command·.Recover list at)
    (refused Reason·.NoCommand at)))))

-- the command at a place of a list
unfoldable pub read_command : List ℕ → ℕ → Reading
read_command list at =
    pick (ltb at (length list)) (read_byte (get_or list at 0) list at) (refused Reason·.NoCommand at)

-- the number and place of an answer: a refusal's own; 0 with the next place for a command
unfoldable pub refusal_of : Reading → Mark
refusal_of (Err r) = record { number = number_of r.reason; place = r.place }
refusal_of (Ok p) = record { number = 0; place = p.next }

-- how many operand bytes follow a command byte of 1 to 5
unfoldable pub operand_bytes : ℕ → ℕ
operand_bytes byte = pick (eqb byte 1) 0 (pick (eqb byte 2) 3 1)

-- the same number and place, said of the list's bytes: 6 none left or not 1 to 5; 7 operands cut short; 0 with the place after them
unfoldable pub refusal_at : List ℕ → ℕ → Mark
refusal_at list at =
    pick (both (ltb at (length list)) (both (leb 1 (get_or list at 0)) (leb (get_or list at 0) 5)))
    (pick (leb (at + (1 + operand_bytes (get_or list at 0))) (length list))
    (record { number = 0; place = at + (1 + operand_bytes (get_or list at 0)) })
    (record { number = 7; place = at }))
    (record { number = 6; place = at })
