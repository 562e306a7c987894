use native.Mathlib.Omega.{arith}
use Rattle.world.specs.laws.PartLaws.{site_of-within}
use Rattle.world.proofs.World.site.Goals as goal

pub returns : goal.returns
returns c = site_of-within c.args.self c.args.i _ (omega (arith, c.well_formed.0.1.1.0.1.0.1))
