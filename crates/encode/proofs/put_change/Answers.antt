use native.Mathlib.Omega.{arith}
use mathlib.Core.Path.{sym}
use Rattle.layout.proofs.laws.LayoutLaws.{inside-length}
use Rattle.layout.proofs.laws.ChangeLaws.{change_written}
use Rattle.encode.proofs.put_change.Goals as goal

pub put_number-requires : goal.put_number-requires
put_number-requires c = omega (arith, inside-length _ c.requires.1)

pub put_number-requires-2 : goal.put_number-requires-2
put_number-requires-2 c = omega (arith, inside-length _ c.requires.1)

pub put_site-requires : goal.put_site-requires
put_site-requires c = omega (arith, inside-length _ c.requires.1)

pub returns : goal.returns
returns c = rw (c.put_site.ensures, c.site_place.ensures.0, c.put_number-2.ensures, c.put_number.ensures) (sym (change_written _ _ _ _ _ c.requires.0 c.requires.1 c.requires.2))
