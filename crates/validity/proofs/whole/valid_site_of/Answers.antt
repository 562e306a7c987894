use Rattle.std.proofs.Common.{rules, ap, ◌∙◌}
use Rattle.world.specs.Valid.{valid_site}
use Rattle.world.specs.laws.PartLaws.{site_of-within}
use Rattle.validity.proofs.whole.valid_site_of.Goals as goal

pub returns : goal.returns
returns c = c.valid_site.ensures ∙ ap (valid_site c.args.k c.args.limits.n) (site_of-within c.args.world.now c.args.k _ (search rules))
