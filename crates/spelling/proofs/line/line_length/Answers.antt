use native.Mathlib.Omega.{arith}
use lib.ListN.{length-append}
use Rattle.text.specs.Text.{text, named}
use Rattle.spelling.specs.Spelling.{command_line}
use Rattle.spelling.proofs.line.line_length.Goals as goal

pub returns-in-Start : goal.returns-in-Start
unfolding text command_line
returns-in-Start c = (simp c.in-Start.is, omega arith)

pub returns-in-Deliver : goal.returns-in-Deliver
unfolding text named command_line
returns-in-Deliver c = (simp (c.in-Deliver.is, length-append) (omega arith), omega arith)

pub returns-in-Timeout : goal.returns-in-Timeout
unfolding text named command_line
returns-in-Timeout c = (simp (c.in-Timeout.is, length-append) (omega arith), omega arith)

pub returns-in-Crash : goal.returns-in-Crash
unfolding text named command_line
returns-in-Crash c = (simp (c.in-Crash.is, length-append) (omega arith), omega arith)

pub returns-in-Recover : goal.returns-in-Recover
unfolding text named command_line
returns-in-Recover c = (simp (c.in-Recover.is, length-append) (omega arith), omega arith)
