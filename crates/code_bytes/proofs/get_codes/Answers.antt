use Rattle.std.specs.Prelude.{◌+◌, get_or}
use Rattle.std.proofs.Common.{rules, arith}
use Rattle.choice.specs.laws.EachPlace.{made_placed}
use Rattle.code_bytes.specs.laws.CodeBytesLaws.{codes_made}
use Rattle.code_bytes.proofs.get_codes.Goals as goal

pub returns : goal.returns
returns c =
    codes_made c.args.bytes.now c.args.at _ c.from_fn.ensures.items.long
    (λ k d h. made_placed _ (λ k. get_or c.args.bytes.now (c.args.at + k) 0) _ _ 0 16 (λ k y q l. search rules) c.from_fn.ensures.items.each k d (omega arith) (omega arith))
