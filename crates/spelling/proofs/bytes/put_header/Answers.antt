use Rattle.text.specs.laws.PageLaws.{joined}
use Rattle.spelling.specs.Spelling.{header_bytes}
use Rattle.spelling.proofs.bytes.put_header.Goals as goal

pub returns : goal.returns
unfolding header_bytes
returns c = joined c.put_word.ensures c.put_pair.ensures.put
