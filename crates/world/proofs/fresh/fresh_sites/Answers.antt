use Rattle.std.proofs.Common.{rules, arith, ℕ, zero, suc, ◌+◌, ◌≤◌, ◌≡◌, sym, ap, ◌∙◌, true, false, List, get_or, take, drop, set, replicate, ◌++◌}
use Rattle.std.proofs.Math.Seq.{paste, paste-zero, paste-suc}
use Rattle.std.proofs.lemmas.List.{get_or-replicate, take-replicate}
use Rattle.site.specs.declared.Site.{Site}
use Rattle.site.specs.Fields.{blank_site}
use Rattle.world.specs.Worlds.{fresh_sites, down_sites}
use Rattle.world.proofs.fresh.fresh_sites.Goals as goal

ups : List Site
ups = replicate 16 (blank_site true)

-- the first k sites that are up copied over those that are down
copied : (k : ℕ) → k ≤ 16 → paste down_sites 0 ups k ≡ fresh_sites k
unfolding fresh_sites down_sites ups
copied zero h = sym (paste-zero down_sites 0 ups)
copied (suc k) h =
    let at : 0 + k ≡ k = omega arith in
    let up : get_or ups k (blank_site true) ≡ blank_site true = get_or-replicate 16 k (blank_site true) (blank_site true) (omega arith) in
    sym (paste-suc down_sites 0 ups k (blank_site true) (omega arith) (omega arith))
    ∙ ap (λ i. set (paste down_sites 0 ups k) i (get_or ups k (blank_site true))) at ∙ ap (set (paste down_sites 0 ups k) k) up
    ∙ ap (λ l. set l k (blank_site true)) (copied k (omega arith))

filled : (n : ℕ) → n ≤ 16 → replicate n (blank_site true) ++ drop n (replicate 16 (blank_site false)) ≡ fresh_sites n
unfolding down_sites ups
filled n h =
    let at : n ≡ 0 + n = omega arith in
    ap (λ l. l ++ drop n down_sites) (sym (take-replicate n 16 (blank_site true) h)) ∙ ap (λ i. take n ups ++ drop i down_sites) at ∙ copied n h

pub returns : goal.returns
returns c =
    let e : c.fill.new.self ≡ replicate c.args.n c.blank.result = search rules in
    rw (e, c.blank.ensures, c.blank-sites.ensures) (filled c.args.n c.requires)
