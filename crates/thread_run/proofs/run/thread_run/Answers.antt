-- The run over the cells that were made, with what was set up; or why there was none.
use Rattle.std.proofs.Common.{◌≡◌, ◌∙◌, ◌⊎◌, inl, inr, ◌<◌, ◌≤◌, Vec, map, sym, ap, subst, arith}
use Rattle.cell_grid.specs.Pyramid.{IsPyramid}
use Rattle.team_run.specs.Desk.{first_queue}
use Rattle.team_run.specs.Run.{high_of}
use Rattle.thread_plan.specs.Limits.{low_of}
use Rattle.thread_plan.specs.Parts.{commands_in_scene}
use Rattle.thread_plan.specs.Scenes.{scenes_over}
use Rattle.turn_cell.specs.PassView.{starting}
use Rattle.thread_run.proofs.Answering.{answers_run, answers_slots, answers_memory}
use Rattle.thread_run.proofs.Fewest.{same_low}
use Rattle.thread_run.proofs.run.thread_run.Goals as goal
use Rattle.thread_run.proofs.run.thread_run.Goals.{then-slots-low-via-then-slots-low, then-slots-low-via-else-slots-low+then-slots-high}

pub run-requires-clause-open : goal.run-requires-clause-open
run-requires-clause-open g c κs within =
    let made = c.in-Ok-new.ensures.made in let set = c.in-Ok.ensures in record {
      pass = c.in-Ok-new.ensures.pass.0;
      starts = c.in-Ok-new.ensures.pass.1;
      asks = set.asks;
      queue = set.queue ∙ ap first_queue (sym made.0);
      asks_start = set.first ∙ ap (λ levels. starting (first_queue levels)) (sym made.0);
      pyramid = subst IsPyramid (sym made.0) set.pyramid;
    }

pub returns-in-Ok-new : goal.returns-in-Ok-new
returns-in-Ok-new g c =
    let made = c.in-Ok-new.ensures.made in let set = c.in-Ok.ensures in
    let phases = scenes_over c.args.geometry c.args.script in
    let shows = map g.S.Store.contents in
    let low = same_low c.args.geometry c.args.script c.args.fetchers in
    let asked = ap (λ phases. low_of phases c.args.fetchers) c.as_slice.ensures in
    let least : low_of phases c.args.fetchers ≤ c.args.slots = omega (arith, low, asked, c.least_slots-low.ensures) in
    let most : c.args.slots ≤ high_of c.args.geometry = omega (arith, c.most_slots-high.ensures) in
    answers_run g.S.Store.contents c.in-Ok-new.cells c.args.geometry c.args.keys c.args.slots c.args.fetchers (map commands_in_scene c.in-Ok.stage.plan.scenes.items) phases (shows c.args.stores.items) (shows c.run.result.stores.items)
    c.run.result.report c.run.result.trail made.0 made.1 made.2 (ap shows made.3) set.plan.commands least most c.run.ensures.runs

pub returns-then-slots-low : goal.returns-then-slots-low
returns-then-slots-low g c =
    let phases = scenes_over c.args.geometry c.args.script in
    let shows = map g.S.Store.contents in
    let asked = ap (λ phases. low_of phases c.args.fetchers) c.as_slice.ensures in
    let least : c.least_slots-low.result ≡ low_of phases c.args.fetchers = c.least_slots-low.ensures ∙ (asked ∙ sym (same_low c.args.geometry c.args.script c.args.fetchers)) in
    let most : c.most_slots-high.result ≡ high_of c.args.geometry = c.most_slots-high.ensures in
    let outside : (c.args.slots < low_of phases c.args.fetchers) ⊎ (high_of c.args.geometry < c.args.slots) =
    elim c.then-slots-low.branch [ then-slots-low-via-then-slots-low w ↦ inl (subst (λ n. c.args.slots < n) least w.if-slots-low.true) | then-slots-low-via-else-slots-low+then-slots-high w ↦ inr (subst (λ n. n < c.args.slots) most w.if-slots-high.true) ] in
    let same : c.unmade.result.stores.items ≡ c.args.stores.items = ap (λ (v : Vec _ _). v.items) c.unmade.ensures.stores in
    answers_slots c.args.geometry c.args.keys c.args.slots c.args.fetchers phases (shows c.args.stores.items) (shows c.unmade.result.stores.items) c.unmade.result.report c.unmade.result.trail
    c.least_slots-low.result c.most_slots-high.result c.unmade.ensures.report c.unmade.ensures.trail least most outside (ap shows same)

pub returns-in_default : goal.returns-in_default
returns-in_default g c =
    let phases = scenes_over c.args.geometry c.args.script in
    let shows = map g.S.Store.contents in
    let asked = ap (λ phases. low_of phases c.args.fetchers) c.as_slice.ensures in
    let least : c.least_slots-low.result ≡ low_of phases c.args.fetchers = c.least_slots-low.ensures ∙ (asked ∙ sym (same_low c.args.geometry c.args.script c.args.fetchers)) in
    let same : c.unmade-in_default.result.stores.items ≡ c.args.stores.items = ap (λ (v : Vec _ _). v.items) c.unmade-in_default.ensures.stores in
    answers_memory c.args.geometry c.args.keys c.args.slots c.args.fetchers phases (shows c.args.stores.items) (shows c.unmade-in_default.result.stores.items) c.unmade-in_default.result.report c.unmade-in_default.result.trail
    c.unmade-in_default.ensures.report c.unmade-in_default.ensures.trail (subst (λ n. n ≤ c.args.slots) least c.if-slots-low.false) (subst (λ n. c.args.slots ≤ n) c.most_slots-high.ensures c.if-slots-high.false) (ap shows same)

pub returns : goal.returns
returns g c =
    let phases = scenes_over c.args.geometry c.args.script in
    let shows = map g.S.Store.contents in
    let asked = ap (λ phases. low_of phases c.args.fetchers) c.as_slice.ensures in
    let least : c.least_slots-low.result ≡ low_of phases c.args.fetchers = c.least_slots-low.ensures ∙ (asked ∙ sym (same_low c.args.geometry c.args.script c.args.fetchers)) in
    let same : c.unmade-in-Err.result.stores.items ≡ c.in-Err.field-0.stores.items = ap (λ (v : Vec _ _). v.items) c.unmade-in-Err.ensures.stores in
    answers_memory c.args.geometry c.args.keys c.args.slots c.args.fetchers phases (shows c.args.stores.items) (shows c.unmade-in-Err.result.stores.items) c.unmade-in-Err.result.report c.unmade-in-Err.result.trail
    c.unmade-in-Err.ensures.report c.unmade-in-Err.ensures.trail (subst (λ n. n ≤ c.args.slots) least c.if-slots-low.false) (subst (λ n. c.args.slots ≤ n) c.most_slots-high.ensures c.if-slots-high.false) (ap shows (same ∙ c.in-Err.ensures.unmade))
