use Rattle.std.proofs.Common.{rules, ap}
use native.Mathlib.Omega.{arith}
use lib.ListN.{length}
use Rattle.text.specs.laws.PageLaws.{copied}
use Rattle.spelling.proofs.line.put_header_line.Goals as goal

pub returns : goal.returns
returns c = copied c.put_word.ensures c.spell_header.ensures.put c.new-own.ensures.place (omega (arith, ap length c.new-own.ensures.bytes)) (search rules)
