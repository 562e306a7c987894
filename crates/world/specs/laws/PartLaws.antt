-- Laws of a world's parts.
use Rattle.std.specs.Prelude.{ℕ, zero, suc, ◌<◌, false, List, [], ◌∷◌, ◌≡◌, refl, length, get_or}
use Rattle.std.proofs.Common.{not-suc-le-zero, le_of_suc-le-suc}
use Rattle.site.specs.declared.Site.{Site}
use Rattle.site.specs.Fields.{blank_site}
use Rattle.world.specs.declared.World.{World}
use Rattle.world.specs.Worlds.{site_of}

-- within a list the value past its end does not matter
get_d_within {ℓ} : {A : Type ℓ} (l : List A) (i : ℕ) (d e : A) → i < length l → get_or l i d ≡ get_or l i e
get_d_within [] i d e h = absurd (not-suc-le-zero h)
get_d_within (x ∷ xs) zero d e h = refl
get_d_within (x ∷ xs) (suc i) d e h = get_d_within xs i d e (le_of_suc-le-suc h)

-- a site of a world, whatever stands past the last
pub site_of-within : (w : World) (i : ℕ) (d : Site) → i < length w.sites → get_or w.sites i d ≡ site_of w i
unfolding site_of
site_of-within w i d h = get_d_within w.sites i d (blank_site false) h
