use mathlib.Core.Path.{sym, ◌∙◌}
use Rattle.world.specs.laws.SizesLaws.{sites_fit_lem}
use Rattle.decode.proofs.valid.valid_at.Goals as goal

pub valid_sites_at-requires : goal.valid_sites_at-requires
valid_sites_at-requires c = ((sites_fit_lem _ (sym c.sites_fit.ensures ∙ c.if-sites_fit.true)).high, c.requires, c.from-n.ensures)
