use Rattle.std.proofs.Common.{◌≡◌, ap, subst}
use Rattle.sole_cache.specs.Cached.{Cached}
use Rattle.sole_cache.specs.Cached.{Cached}
use Rattle.cell_grid.specs.Pyramid.{IsVoxelOf}
use Rattle.sole_cache.specs.Moves.{IsStoodFor}
use Rattle.sole_cache.proofs.Stood.{stood}
use Rattle.sole_cache.proofs.Voxels.{got, not_got}
use Rattle.sole_cache.proofs.Inside.{value_of}
use Rattle.sole_cache.proofs.cache.SoleCache.get.Goals as goal

pub returns-in_default-clause-stood : goal.returns-in_default-clause-stood
returns-in_default-clause-stood g c =
    let cached = value_of g.S.Store.contents c.self.inside in
    let is : cached ≡ c.args.self.now = c.self.view_is in
    let kept = c.self.invariant in
    subst (λ (x : Cached). IsStoodFor x) is (stood cached kept.cache)

pub returns-in-Ok-clause-got : goal.returns-in-Ok-clause-got
returns-in-Ok-clause-got g c =
    let cached = value_of g.S.Store.contents c.self.inside in
    let is : cached ≡ c.args.self.now = c.self.view_is in
    got c.args.self.now c.acquire.new.self c.read-value.new.self c.release.new.self c.args.level c.args.pos c.in-Some.place.cell c.in-Some.place.at c.read-value.result c.in-Ok.h
    (subst (λ l. IsVoxelOf l c.args.level c.args.pos c.in-Some.place.cell c.in-Some.place.at) (ap (λ (x : Cached). x.levels) is) c.in-Some.ensures.voxel) c.in-Ok.ensures.acquires c.read-value.ensures.runs (ap (λ (x : Cached). x.shown) c.read-value.ensures.unchanged) c.release.ensures.quiet

pub returns-in-Err-clause-got : goal.returns-in-Err-clause-got
returns-in-Err-clause-got g c =
    let inside = value_of g.S.Store.contents c.self.inside in
    let is : inside ≡ c.args.self.now = c.self.view_is in
    not_got c.args.self.now c.acquire.new.self c.args.level c.args.pos c.in-Some.place.cell c.in-Some.place.at c.in-Err.refusal (subst (λ l. IsVoxelOf l c.args.level c.args.pos c.in-Some.place.cell c.in-Some.place.at) (ap (λ (x : Cached). x.levels) is) c.in-Some.ensures.voxel) c.in-Err.ensures.acquires
