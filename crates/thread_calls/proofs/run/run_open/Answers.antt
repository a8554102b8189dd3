-- There was room for the names of all pictures, and those of the run were put into the first store.
use Rattle.std.proofs.Common.{◌≡◌, ap, arith, length, map, subst}
use Rattle.std.proofs.lemmas.List.{length-map}
use Rattle.std.specs.Option.{option_map}
use Rattle.cell_grid.specs.Pyramid.{IsPyramid}
use Rattle.pin_rule.specs.Trails.{events_of}
use Rattle.thread_plan.specs.Scenes.{scenes_over}
use Rattle.viewrun_calls.specs.Pictures.{view_count}
use Rattle.viewrun_calls.proofs.ViewLemmas.{few_views}
use Rattle.thread_calls.proofs.RunLemmas.{a_shot_a_view, as_many_stores, run_finished}
use Rattle.thread_calls.proofs.run.run_open.Goals as goal

pub view_count-requires : goal.view_count-requires
view_count-requires g c = omega (arith, ap view_count c.as_slice.ensures, few_views c.args.script.phases, c.requires.script.count)

pub finish-requires-clause-room : goal.finish-requires-clause-room
finish-requires-clause-room g c = λ report is.
    let shots = a_shot_a_view _ _ _ _ c.args.script _ _ report _ _ is c.thread_run-ran.ensures in
    omega (arith, shots, c.view_count.ensures, ap view_count c.as_slice.ensures, c.in-Ok-with_capacity.ensures.capacity)

pub finish-requires-clause-few_shots : goal.finish-requires-clause-few_shots
finish-requires-clause-few_shots g c = λ report is.
    let shots = a_shot_a_view _ _ _ _ c.args.script _ _ report _ _ is c.thread_run-ran.ensures in
    omega (arith, shots, few_views c.args.script.phases, c.requires.script.count)

pub finish-requires-clause-some_stores : goal.finish-requires-clause-some_stores
finish-requires-clause-some_stores g c =
    let same : length (map g.S.Store.contents c.thread_run-ran.result.stores.items) ≡ length (map g.S.Store.contents c.args.stores.items) = as_many_stores c.args.geometry c.in-Ok.keys c.args.slots c.args.fetchers (scenes_over c.args.geometry c.args.script) _ _ c.thread_run-ran.result.report (option_map events_of c.thread_run-ran.result.trail) c.thread_run-ran.ensures in
    let before = length-map c.args.stores.items g.S.Store.contents in
    let after = length-map c.thread_run-ran.result.stores.items g.S.Store.contents in
    omega (arith, same, before, after, c.requires.some_stores)

pub returns-clause-runs : goal.returns-clause-runs
returns-clause-runs g c =
    run_finished _ _ _ _ c.args.script _ _ _ _ _ _ _ (subst IsPyramid c.geometry.view_is c.geometry.invariant.pyramid) c.requires.script.names c.in-Ok.ensures c.thread_run-ran.ensures c.finish.ensures.finishes
