use Rattle.std.proofs.Common.{◌∙◌, sym, subst, take, List, OnOk, IfErr}
use Rattle.cell_grid.specs.declared.level.Level.{Level}
use Rattle.cell_grid.specs.Pyramid.{voxels_of}
use Rattle.cell_file.specs.Keys.{KeyNames}
use Rattle.pin_rule.specs.Parts.{OwnLane}
use Rattle.live_cells.specs.Fetching.{HasGot, HasGotNone}
use Rattle.live_cells.proofs.Getting.{got_ok, got_err}
use Rattle.live_cells.proofs.loads.fetch_into.Goals as goal

pub fetch-requires-clause-made : goal.fetch-requires-clause-made
fetch-requires-clause-made g c = c.keys.ensures.levels ∙ sym c.geometry.ensures

pub returns-clause-got : goal.returns-clause-got
returns-clause-got g c = let e = c.fetch.ensures in
    subst (λ (q : List Level × KeyNames × OwnLane _). OnOk c.fetch.result (HasGot q.0 q.1 c.args.cell (g.S.Store.contents q.2.store) (g.S.Store.contents c.fetch.new.store) (take (voxels_of q.0 c.args.cell) c.fetch.new.out))) (λ i. (c.geometry.ensures i, c.keys.ensures.same i, c.lane.view_is i))
    (got_ok c.geometry.result.now c.keys.result.now c.args.cell (g.S.Store.contents c.lane.inside.store) (g.S.Store.contents c.fetch.new.store) e.told e.told_log e.never_falls e.held c.fetch.result (take (voxels_of c.geometry.result.now c.args.cell) c.fetch.new.out) c.fetches_move.ensures.done e.logged e.values)

pub returns-clause-not_got : goal.returns-clause-not_got
returns-clause-not_got g c = let e = c.fetch.ensures in
    subst (λ (q : List Level × KeyNames × OwnLane _). IfErr c.fetch.result (λ err. HasGotNone q.0 q.1 c.args.cell (g.S.Store.contents q.2.store) (g.S.Store.contents c.fetch.new.store) err)) (λ i. (c.geometry.ensures i, c.keys.ensures.same i, c.lane.view_is i))
    (got_err c.geometry.result.now c.keys.result.now c.args.cell (g.S.Store.contents c.lane.inside.store) (g.S.Store.contents c.fetch.new.store) e.told e.told_log e.never_falls e.held c.fetch.result c.fetches_move.ensures.refused e.logged_refused e.refused e.read_fault)
