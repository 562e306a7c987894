-- The check behind 17, in two parts.
use Rattle.std.specs.Prelude.{Bool, true, false, ◌≡◌, refl, leb, eqb}
use Rattle.std.proofs.Common.{ap, sym, ◌∙◌}
use Rattle.choice.specs.Choice.{both}
use Rattle.world.specs.declared.World.{World}
use Rattle.world.specs.Sizes.{max_rows, max_news, sizes_number}
use Rattle.world.specs.Valid.{valid_sites, valid_world}

both-joined : (a b c : Bool) → both (both a b) c ≡ both a (both b c)
both-joined true b c = refl
both-joined false b c = refl

-- sizes, row count and news as one test, before the sites
pub valid_world-by :
    (w : World) →
    valid_world w
    ≡ both (both (eqb (sizes_number w.n w.weights w.commit w.abort w.willing) 0) (both (leb w.rows max_rows) (leb w.news max_news)))
    (valid_sites w.n w)
unfolding valid_world
valid_world-by w =
    let fit : Bool = eqb (sizes_number w.n w.weights w.commit w.abort w.willing) 0 in
    sym (both-joined fit (both (leb w.rows max_rows) (leb w.news max_news)) (valid_sites w.n w)
    ∙ ap (both fit) (both-joined (leb w.rows max_rows) (leb w.news max_news) (valid_sites w.n w)))
