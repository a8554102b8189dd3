use Rattle.std.proofs.Common.{rules, ◌∙◌, ap, Err}
use Rattle.pin_rule.specs.Calls.{view, plan_at}
use Rattle.live_cells.specs.Actors.{doing}
use Rattle.live_cells.proofs.Answering.{map_ok, if_err}
use Rattle.live_cells.proofs.Rooming.{turned_out, stayed_out}
use Rattle.live_cells.proofs.Turning.{hands_since}
use Rattle.live_cells.proofs.room.replace.Goals as goal

pub returns-clause-turned : goal.returns-clause-turned
returns-clause-turned g c = let l = c.in_ok-leaving.leaving in let e = c.in_ok-leaving.ensures in map_ok c.turn_out.result
    (λ h. turned_out (plan_at g.S.Store.contents c.args.pins.now) (doing c.args.actor.now) (view c.close.new.pass) (doing c.turn_out.new.actor) l.cell c.args.place.slot l.marked (search rules) (search rules) h.1) c.turn_out.ensures.gone

pub returns-clause-stays : goal.returns-clause-stays
returns-clause-stays g c = let l = c.in_ok-leaving.leaving in let e = c.in_ok-leaving.ensures in if_err c.turn_out.result
    (λ x is h. (
      hands_since (doing c.args.actor.now) (view c.close.new.pass) e.leaving.3.claims_are h.0,
      stayed_out (plan_at g.S.Store.contents c.args.pins.now) (doing c.args.actor.now) (view c.close.new.pass) (doing c.turn_out.new.actor) l.cell c.args.place.slot l.marked x (search rules) (search rules) h.1 (λ fault. c.turn_out.ensures.write_fault (is ∙ ap Err fault)),
    )) c.turn_out.ensures.back
