use Rattle.std.proofs.Common.{◌≡◌, ◌<◌, length, sym, subst, arith}
use Rattle.std.proofs.lemmas.Grind.{common_steps}
use Rattle.sole_cache.specs.Cached.{Cached}
use Rattle.sole_cache.specs.Cached.{Cached}
use Rattle.cell_grid.specs.Pyramid.{cells_of}
use Rattle.sole_cache.proofs.Inside.{value_of}
use Rattle.sole_cache.proofs.cache.SoleCache.slot_of.Goals as goal

pub index-requires : goal.index-requires
index-requires g c =
    let cached = value_of g.S.Store.contents c.self.inside in
    let is : cached ≡ c.args.self.now = c.self.view_is in
    let kept = c.self.invariant in
    let range : c.args.cell < cells_of cached.levels = subst (λ (x : Cached). c.args.cell < cells_of x.levels) (sym is) c.requires in
    let inside_table : c.args.cell < length c.self.inside.table.items = subst (λ k. c.args.cell < k) (sym kept.cache.fitted.cells) range in
    grind (arith, common_steps)
