-- There was room for the names of all pictures, and those of the run were put into the first store.
use Rattle.std.proofs.Common.{ap, arith, subst}
use Rattle.std.proofs.lemmas.List.{length-map}
use Rattle.cell_grid.specs.Pyramid.{IsPyramid}
use Rattle.viewrun_calls.specs.Pictures.{view_count}
use Rattle.viewrun_calls.proofs.RunLemmas.{a_shot_a_view, as_many_stores, runs_and_writes}
use Rattle.viewrun_calls.proofs.ViewLemmas.{few_views}
use Rattle.viewrun_calls.proofs.solo.run_open.Goals as goal

pub view_count-requires : goal.view_count-requires
view_count-requires g c = omega (arith, ap view_count c.as_slice.ensures, few_views c.args.script.phases, c.requires.script.count)

pub write_shots-requires-clause-room : goal.write_shots-requires-clause-room
write_shots-requires-clause-room g c =
    let shots = a_shot_a_view _ _ _ c.args.script _ _ c.in-Ok-report.report _ c.in-Ok-report.is c.solo_run-report.ensures in
    omega (arith, shots, c.view_count.ensures, ap view_count c.as_slice.ensures, c.in-Ok-with_capacity.ensures.capacity)

pub write_shots-requires-clause-some_stores : goal.write_shots-requires-clause-some_stores
write_shots-requires-clause-some_stores g c =
    let same = as_many_stores _ _ _ _ _ _ c.in-Ok-report.report _ c.in-Ok-report.is c.solo_run-report.ensures in
    let before = length-map c.args.stores.items g.S.Store.contents in
    let after = length-map c.solo_run-report.result.stores.items g.S.Store.contents in
    omega (arith, same, before, after, c.requires.some_stores)

pub returns-in-Ok-report : goal.returns-in-Ok-report
returns-in-Ok-report g c =
    runs_and_writes _ _ _ c.args.script _ _ _ c.in-Ok-report.report _ _ (subst IsPyramid c.geometry.view_is c.geometry.invariant.pyramid) c.requires.script.names c.in-Ok.ensures c.in-Ok-report.is c.solo_run-report.ensures c.write_shots.ensures
