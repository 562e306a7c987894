use Rattle.world.specs.Worlds.{zero_world, fresh_sites}
use Rattle.world.proofs.World.zero.Goals as goal

pub returns : goal.returns
unfolding zero_world fresh_sites
returns c = rw c.fresh_sites.ensures
