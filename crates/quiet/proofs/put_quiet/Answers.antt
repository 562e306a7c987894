use native.Mathlib.Omega.{arith}
use Rattle.spelling.specs.Spelling.{header_bytes, command_bytes}
use Rattle.spelling.specs.Ranges.{InRange}
use Rattle.quiet.specs.Quiet.{waited}
use Rattle.quiet.specs.QuietList.{quiet_header}
use Rattle.quiet.specs.laws.QuietLaws.{all-put}
use borrow.Author.Rules.{rules}
use Rattle.quiet.proofs.put_quiet.Goals as goal

pub put_header-requires : goal.put_header-requires
unfolding quiet_header
put_header-requires c = (rw c.every_site.ensures c.requires.2, omega arith)

pub put_exchange-requires : goal.put_exchange-requires
unfolding InRange header_bytes command_bytes
put_exchange-requires c = (search rules, omega arith, omega arith, omega (arith, c.put_header.ensures.written.ends))

pub put_exchange-requires-2 : goal.put_exchange-requires-2
unfolding InRange header_bytes command_bytes
put_exchange-requires-2 c = (omega arith, omega arith, omega arith, omega (arith, c.put_header.ensures.written.ends))

pub put_exchange-requires-3 : goal.put_exchange-requires-3
unfolding InRange header_bytes command_bytes
put_exchange-requires-3 c = (omega arith, omega arith, omega arith, omega (arith, c.put_header.ensures.written.ends))

pub returns : goal.returns
unfolding quiet_header waited
returns c = all-put _ _ _ (rw c.every_site.ensures at c.put_header.ensures) c.put_exchange.ensures.put c.put_exchange-2.ensures.put c.put_exchange-3.ensures.put
