use Rattle.spelling.specs.Spelling.{command_line}
use native.Mathlib.Omega.{arith}
use Rattle.spelling.specs.Ranges.{InRange}
use Rattle.text.specs.Text.{text, named}
use Rattle.spelling.proofs.line.spell_command.Goals as goal

pub spell_delivery-requires : goal.spell_delivery-requires
unfolding InRange
spell_delivery-requires c = let r = rw c.in-Deliver.is at c.requires.0 in (r.0, r.1, omega arith)

pub spell_site-requires : goal.spell_site-requires
unfolding InRange
spell_site-requires c = (rw c.in-Timeout.is at c.requires.0, omega arith)

pub spell_site-requires-in-Crash : goal.spell_site-requires-in-Crash
unfolding InRange
spell_site-requires-in-Crash c = (rw c.in-Crash.is at c.requires.0, omega arith)

pub spell_site-requires-in-Recover : goal.spell_site-requires-in-Recover
unfolding InRange
spell_site-requires-in-Recover c = (rw c.in-Recover.is at c.requires.0, omega arith)

pub returns-in-Start-clause-put : goal.returns-in-Start-clause-put
unfolding text command_line
returns-in-Start-clause-put c = rw c.in-Start.is c.put_word.ensures

pub returns-in-Deliver-clause-put : goal.returns-in-Deliver-clause-put
returns-in-Deliver-clause-put c = rw c.in-Deliver.is c.spell_delivery.ensures.put

pub returns-in-Timeout-clause-put : goal.returns-in-Timeout-clause-put
unfolding text named command_line
returns-in-Timeout-clause-put c = rw c.in-Timeout.is c.spell_site.ensures.put

pub returns-in-Crash-clause-put : goal.returns-in-Crash-clause-put
unfolding text named command_line
returns-in-Crash-clause-put c = rw c.in-Crash.is c.spell_site-in-Crash.ensures.put

pub returns-in-Recover-clause-put : goal.returns-in-Recover-clause-put
unfolding text named command_line
returns-in-Recover-clause-put c = rw c.in-Recover.is c.spell_site-in-Recover.ensures.put
