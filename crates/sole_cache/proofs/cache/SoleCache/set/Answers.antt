use Rattle.std.proofs.Common.{◌≡◌, ◌∙◌, ◌<◌, ◌≤◌, List, [], Err, ap, subst, refl}
use Rattle.sole_cache.specs.Cached.{Cached}
use Rattle.sole_cache.specs.Cached.{Cached}
use Rattle.sole_cache.specs.Moves.{Runs}
use Rattle.cell_grid.specs.Kind.{greatest_of}
use Rattle.cell_grid.specs.Pyramid.{kind_of, IsVoxelOf}
use Rattle.sole_cache.specs.Moves.{IsStoodFor}
use Rattle.sole_cache.proofs.Stood.{stood}
use Rattle.sole_cache.proofs.Composed.{runs_none}
use Rattle.store_calls.specs.Calls.{StoreCall}
use Rattle.arr_history.specs.declared.event.Event.{Event}
use Rattle.cell_file.specs.declared.errors.CellErr.TheVariants as cell_err
use Rattle.sole_cache.specs.Acquires.{SetsVoxel}
use Rattle.sole_cache.proofs.Voxels.{was_set, not_set, big, fits}
use Rattle.sole_cache.proofs.Inside.{value_of}
use Rattle.sole_cache.proofs.cache.SoleCache.set.Goals as goal

pub returns-in_default-clause-stood : goal.returns-in_default-clause-stood
returns-in_default-clause-stood g c =
    let cached = value_of g.S.Store.contents c.self.inside in
    let is : cached ≡ c.args.self.now = c.self.view_is in
    let kept = c.self.invariant in
    subst (λ (x : Cached). IsStoodFor x) is (stood cached kept.cache)

pub returns-then-value-greatest-clause-stood : goal.returns-then-value-greatest-clause-stood
returns-then-value-greatest-clause-stood g c =
    let cached = value_of g.S.Store.contents c.self.inside in
    let is : cached ≡ c.args.self.now = c.self.view_is in
    let kept = c.self.invariant in
    subst (λ (x : Cached). IsStoodFor x) is (stood cached kept.cache)

pub returns-then-value-greatest-clause-done : goal.returns-then-value-greatest-clause-done
returns-then-value-greatest-clause-done g c =
    let cached = value_of g.S.Store.contents c.self.inside in
    let is : cached ≡ c.args.self.now = c.self.view_is in
    let kept = c.self.invariant in
    let large : greatest_of (kind_of cached.levels c.in-Some.place.cell) < c.args.value = big c.args.value c.greatest.result _ c.if-value-greatest.true (c.greatest.ensures ∙ ap greatest_of c.kind.ensures) in
    subst (λ (x : Cached). (events : List Event) × (calls : List StoreCall) × SetsVoxel x c.args.level c.args.pos c.args.value (Err (cell_err.TooLarge c.args.value)) events calls x × Runs x events x) is
    ([], [], (refl, c.in-Some.place.cell, c.in-Some.place.at, c.in-Some.ensures.voxel, large, (refl, refl, refl)), runs_none cached kept.cache)

pub release-requires : goal.release-requires
release-requires g c = record { handle = c.write.ensures.held c.in-Ok.h c.in-Ok.ensures.handle }

pub returns-in-Ok-clause-done : goal.returns-in-Ok-clause-done
returns-in-Ok-clause-done g c =
    let cached = value_of g.S.Store.contents c.self.inside in
    let is : cached ≡ c.args.self.now = c.self.view_is in
    let small : c.args.value ≤ greatest_of (kind_of c.args.self.now.levels c.in-Some.place.cell) = subst (λ l. c.args.value ≤ greatest_of (kind_of l c.in-Some.place.cell)) (ap (λ (x : Cached). x.levels) is) (fits c.args.value c.greatest.result _ c.if-value-greatest.false (c.greatest.ensures ∙ ap greatest_of c.kind.ensures)) in
    was_set c.args.self.now c.acquire.new.self c.write.new.self c.release.new.self c.args.level c.args.pos c.in-Some.place.cell c.in-Some.place.at c.args.value c.in-Ok.h
    (subst (λ l. IsVoxelOf l c.args.level c.args.pos c.in-Some.place.cell c.in-Some.place.at) (ap (λ (x : Cached). x.levels) is) c.in-Some.ensures.voxel) small c.in-Ok.ensures.acquires c.write.ensures.runs c.write.ensures.stores c.release.ensures.quiet

pub returns-in-Err-clause-done : goal.returns-in-Err-clause-done
returns-in-Err-clause-done g c =
    let inside = value_of g.S.Store.contents c.self.inside in
    let is : inside ≡ c.args.self.now = c.self.view_is in
    let small : c.args.value ≤ greatest_of (kind_of c.args.self.now.levels c.in-Some.place.cell) = subst (λ l. c.args.value ≤ greatest_of (kind_of l c.in-Some.place.cell)) (ap (λ (x : Cached). x.levels) is) (fits c.args.value c.greatest.result _ c.if-value-greatest.false (c.greatest.ensures ∙ ap greatest_of c.kind.ensures)) in
    not_set c.args.self.now c.acquire.new.self c.args.level c.args.pos c.in-Some.place.cell c.in-Some.place.at c.args.value c.in-Err.refusal (subst (λ l. IsVoxelOf l c.args.level c.args.pos c.in-Some.place.cell c.in-Some.place.at) (ap (λ (x : Cached). x.levels) is) c.in-Some.ensures.voxel) small c.in-Err.ensures.acquires
