use Rattle.std.proofs.Common.{◌∙◌, [], ◌∷◌}
use Rattle.std.proofs.lemmas.List.{append-nil}
use Rattle.arr_history.specs.declared.event.Event.TheVariants.{Close}
use Rattle.pin_rule.specs.Calls.{view, plan_at}
use Rattle.pin_rule.proofs.Goings.{goes_by}
use Rattle.live_cells.proofs.Alone.{either, at_slot, as_found, shown_absent, shown_live, never_loading, never_leaving, same_word, still_alone, seen_alone}
use Rattle.live_cells.proofs.Turning.{claims_as}
use Rattle.live_cells.proofs.shutting.close_found.Goals as goal

pub close_as-requires-in-Live-clause-place : goal.close_as-requires-in-Live-clause-place
close_as-requires-in-Live-clause-place g c = (c.requires.cell, (shown_live (plan_at g.S.Store.contents c.args.pins.now) (view c.args.pass.now) c.requires.lone c.requires.bare.0 c.requires.bare.1 (view c.close_as.new.pass).seen c.args.cell c.in-Err.busy.word c.in-Err.ensures.shows.1 c.of-shown.result (c.of-shown.ensures _ c.in-Err.ensures.shows.1.count c.in-Err.ensures.shows.1.small c.in-Err.ensures.shows.1.word) c.in-Live.is).0)

pub unreachable-requires : goal.unreachable-requires
unreachable-requires g c = let h = c.in-Err-close_as.ensures in h.shows.0
    (same_word (plan_at g.S.Store.contents c.args.pins.now) (view c.args.pass.now) (view c.close_as.new.pass) c.requires.lone c.requires.bare.0 c.requires.bare.1 (still_alone (plan_at g.S.Store.contents c.args.pins.now) (view c.args.pass.now) (view c.close_as.new.pass) [] c.in-Err.ensures.busy.0 c.requires.lone) (claims_as (view c.args.pass.now) [] c.requires.bare.0.claims_are c.in-Err.ensures.busy.1) (c.close_as.ensures.pins ∙ c.requires.bare.1) c.args.cell c.in-Err.busy.word c.in-Err-close_as.field-0.word (view c.close_as.new.pass).seen (view c.close_as-in-Live.new.pass).seen
    (seen_alone (plan_at g.S.Store.contents c.args.pins.now) (view c.close_as.new.pass) (view c.close_as-in-Live.new.pass) [] h.busy.0 (still_alone (plan_at g.S.Store.contents c.args.pins.now) (view c.args.pass.now) (view c.close_as.new.pass) [] c.in-Err.ensures.busy.0 c.requires.lone) ∙ append-nil (view c.close_as.new.pass).seen) c.in-Err.ensures.shows.1 h.shows.1 ∙ (shown_live (plan_at g.S.Store.contents c.args.pins.now) (view c.args.pass.now) c.requires.lone c.requires.bare.0 c.requires.bare.1 (view c.close_as.new.pass).seen c.args.cell c.in-Err.busy.word c.in-Err.ensures.shows.1 c.of-shown.result (c.of-shown.ensures _ c.in-Err.ensures.shows.1.count c.in-Err.ensures.shows.1.small c.in-Err.ensures.shows.1.word) c.in-Live.is).1)

pub unreachable-requires-in-Loading : goal.unreachable-requires-in-Loading
unreachable-requires-in-Loading g c = either c.in-Loading.is (never_loading (plan_at g.S.Store.contents c.args.pins.now) (view c.args.pass.now) c.requires.lone c.requires.bare.0 c.requires.bare.1 (view c.close_as.new.pass).seen c.args.cell c.in-Err.busy.word c.in-Err.ensures.shows.1 c.of-shown.result (c.of-shown.ensures _ c.in-Err.ensures.shows.1.count c.in-Err.ensures.shows.1.small c.in-Err.ensures.shows.1.word)) (never_leaving (plan_at g.S.Store.contents c.args.pins.now) (view c.args.pass.now) c.requires.lone c.requires.bare.0 c.requires.bare.1 (view c.close_as.new.pass).seen c.args.cell c.in-Err.busy.word c.in-Err.ensures.shows.1 c.of-shown.result (c.of-shown.ensures _ c.in-Err.ensures.shows.1.count c.in-Err.ensures.shows.1.small c.in-Err.ensures.shows.1.word))

pub returns-in-Absent-clause-absent : goal.returns-in-Absent-clause-absent
returns-in-Absent-clause-absent g c = ((claims_as (view c.args.pass.now) [] c.requires.bare.0.claims_are c.in-Err.ensures.busy.1), c.in-Err.ensures.busy.0, shown_absent (plan_at g.S.Store.contents c.args.pins.now) (view c.args.pass.now) c.requires.lone c.requires.bare.0 c.requires.bare.1 (view c.close_as.new.pass).seen c.args.cell c.in-Err.busy.word c.in-Err.ensures.shows.1 c.of-shown.result (c.of-shown.ensures _ c.in-Err.ensures.shows.1.count c.in-Err.ensures.shows.1.small c.in-Err.ensures.shows.1.word) c.in-Absent.is)

pub returns-in-Ok-close_as-clause-leaving : goal.returns-in-Ok-close_as-clause-leaving
returns-in-Ok-close_as-clause-leaving g c = let l = c.in-Ok-close_as.leaving in let e = c.in-Ok-close_as.ensures in (
  e.leaving.0,
  at_slot l.slot c.of-shown.result.slot _ e.leaving.1 (shown_live (plan_at g.S.Store.contents c.args.pins.now) (view c.args.pass.now) c.requires.lone c.requires.bare.0 c.requires.bare.1 (view c.close_as.new.pass).seen c.args.cell c.in-Err.busy.word c.in-Err.ensures.shows.1 c.of-shown.result (c.of-shown.ensures _ c.in-Err.ensures.shows.1.count c.in-Err.ensures.shows.1.small c.in-Err.ensures.shows.1.word) c.in-Live.is).0,
  as_found (plan_at g.S.Store.contents c.args.pins.now) c.args.cell c.of-shown.result.slot l.slot c.of-shown.result.marked l.marked (view c.close_as-in-Live.new.pass) e.leaving.1 e.leaving.2 e.turning,
  claims_as (view c.close_as.new.pass) [] ((claims_as (view c.args.pass.now) [] c.requires.bare.0.claims_are c.in-Err.ensures.busy.1)).claims_are e.hands,
)

pub returns-in-Ok-close_as-clause-closed : goal.returns-in-Ok-close_as-clause-closed
returns-in-Ok-close_as-clause-closed g c = goes_by (plan_at g.S.Store.contents c.args.pins.now) (λ k. Close k c.args.cell ∷ []) (view c.args.pass.now) (view c.close_as.new.pass) (view c.close_as-in-Live.new.pass) _ c.in-Err.ensures.busy.0 c.in-Ok-close_as.ensures.closed
