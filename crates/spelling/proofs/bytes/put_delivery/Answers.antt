use Rattle.text.specs.laws.PageLaws.{joined}
use Rattle.spelling.specs.Spelling.{command_bytes}
use Rattle.spelling.proofs.bytes.put_delivery.Goals as goal

pub returns : goal.returns
unfolding command_bytes
returns c = joined (joined c.put_byte.ensures.put c.put_pair.ensures.put) c.put_byte-2.ensures.put
