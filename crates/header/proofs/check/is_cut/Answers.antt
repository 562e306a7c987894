use Rattle.header.specs.Headers.{is_cut}
use Rattle.header.proofs.check.is_cut.Goals as goal

pub returns-then-sites_fit : goal.returns-then-sites_fit
unfolding is_cut
returns-then-sites_fit c = simp (← c.requires, ← c.sites_fit.ensures, c.if-sites_fit.true, ← c.header_length.ensures)

pub returns-else-sites_fit : goal.returns-else-sites_fit
unfolding is_cut
returns-else-sites_fit c = simp (← c.requires, ← c.sites_fit.ensures, c.if-sites_fit.false)
