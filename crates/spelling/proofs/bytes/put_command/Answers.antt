use Rattle.spelling.specs.Spelling.{command_bytes}
use native.Mathlib.Omega.{arith}
use Rattle.spelling.specs.Ranges.{InRange}
use Rattle.spelling.proofs.bytes.put_command.Goals as goal

pub put_word-requires : goal.put_word-requires
unfolding command_bytes
put_word-requires c = omega (arith, rw c.in-Start.is at c.requires.1)

pub put_delivery-requires : goal.put_delivery-requires
unfolding command_bytes InRange
put_delivery-requires c = let r = rw c.in-Deliver.is at c.requires.0 in (r.0, r.1, omega (arith, rw c.in-Deliver.is at c.requires.1))

pub put_target-requires : goal.put_target-requires
unfolding command_bytes InRange
put_target-requires c = (rw c.in-Timeout.is at c.requires.0, omega (arith, rw c.in-Timeout.is at c.requires.1))

pub put_target-requires-in-Crash : goal.put_target-requires-in-Crash
unfolding command_bytes InRange
put_target-requires-in-Crash c = (rw c.in-Crash.is at c.requires.0, omega (arith, rw c.in-Crash.is at c.requires.1))

pub put_target-requires-in-Recover : goal.put_target-requires-in-Recover
unfolding command_bytes InRange
put_target-requires-in-Recover c = (rw c.in-Recover.is at c.requires.0, omega (arith, rw c.in-Recover.is at c.requires.1))

pub returns-in-Start : goal.returns-in-Start
unfolding command_bytes
returns-in-Start c = rw c.in-Start.is c.put_word.ensures

pub returns-in-Deliver : goal.returns-in-Deliver
returns-in-Deliver c = rw c.in-Deliver.is c.put_delivery.ensures

pub returns-in-Timeout : goal.returns-in-Timeout
unfolding command_bytes
returns-in-Timeout c = rw c.in-Timeout.is c.put_target.ensures

pub returns-in-Crash : goal.returns-in-Crash
unfolding command_bytes
returns-in-Crash c = rw c.in-Crash.is c.put_target-in-Crash.ensures

pub returns-in-Recover : goal.returns-in-Recover
unfolding command_bytes
returns-in-Recover c = rw c.in-Recover.is c.put_target-in-Recover.ensures
