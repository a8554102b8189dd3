use Rattle.std.proofs.Common.{rules, ◌∙◌, ◌<◌, [], ◌∷◌, ap, subst, Err}
use Rattle.arr_history.specs.declared.event.Event.TheVariants.{Gone, Back}
use Rattle.call_events.specs.Pieces.{turning_out, coming_back}
use Rattle.pin_words.specs.Account.{rise}
use Rattle.pin_words.specs.Plan.{lane_of}
use Rattle.pin_rule.specs.Calls.{view, plan_at}
use Rattle.pin_rule.specs.Going.{Goes}
use Rattle.live_cells.proofs.Shuts.{shut_gone, shut_back, back_uncounted, frame_holds}
use Rattle.live_cells.proofs.shutting.shut_cell.Goals as goal

pub leave_for_good-requires-clause-frame : goal.leave_for_good-requires-clause-frame
leave_for_good-requires-clause-frame g c = frame_holds c.args.pins.now c.args.cell _ _ c.in-Some.ensures.leaving.0 c.requires.cell c.requires.frame

pub returns-in-Ok-clause-shut : goal.returns-in-Ok-clause-shut
returns-in-Ok-clause-shut g c = let l = c.in-Some.leaving in (
  turning_out 0 c.args.cell l.marked,
  shut_gone g.S.Store.contents c.args.pins.now c.args.cell (view c.args.pass.now) (view c.close_found.new.pass) (view c.leave_for_good.new.pass) c.requires.lone c.in-Some.ensures.closed l.marked (subst (λ n. Goes (plan_at g.S.Store.contents c.args.pins.now) (view c.close_found.new.pass) (Gone (view c.close_found.new.pass).number n l.marked ∷ []) (view c.leave_for_good.new.pass)) c.in-Some.ensures.leaving.0 c.in-Ok.ensures.gone),
  search rules,
)

pub returns-in-Err-clause-shut : goal.returns-in-Err-clause-shut
returns-in-Err-clause-shut g c = let l = c.in-Some.leaving in let same = c.in-Some.ensures.leaving.0 in (
  coming_back 0 c.args.cell,
  shut_back g.S.Store.contents c.args.pins.now c.args.cell (view c.args.pass.now) (view c.close_found.new.pass) (view c.leave_for_good.new.pass) c.requires.lone c.in-Some.ensures.closed c.wants_memory.result (subst (λ n. Goes (plan_at g.S.Store.contents c.args.pins.now) (view c.close_found.new.pass) (Back (view c.close_found.new.pass).number n ∷ []) (view c.leave_for_good.new.pass)) same c.in-Err.ensures.back.0) c.close_found.ensures.legal
      (λ e. subst (λ n. rise (lane_of (plan_at g.S.Store.contents c.args.pins.now) n) (view c.close_found.new.pass) < rise (lane_of (plan_at g.S.Store.contents c.args.pins.now) n) (view c.leave_for_good.new.pass)) same (c.leave_for_good.ensures.write_fault (c.in-Err.is ∙ ap Err (c.wants_memory.ensures.fault e)))),
  back_uncounted c.args.tally.now c.args.cell c.requires.counts,
)
