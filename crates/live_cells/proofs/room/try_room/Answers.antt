use Rattle.std.proofs.Common.{rules}
use Rattle.pin_rule.specs.Calls.{view, plan_at}
use Rattle.pin_rule.proofs.Goings.{goes_on}
use Rattle.live_cells.specs.Actors.{doing}
use Rattle.live_cells.proofs.Answering.{map_ok, map_if_err}
use Rattle.live_cells.proofs.Rooming.{room_free, room_turned, kept_turned}
use Rattle.live_cells.proofs.Turning.{hands_since}
use Rattle.live_cells.proofs.room.try_room.Goals as goal

pub returns-in-Ok-clause-made : goal.returns-in-Ok-clause-made
returns-in-Ok-clause-made g c = room_free (plan_at g.S.Store.contents c.args.pins.now) (doing c.args.actor.now) (view c.scan.new.pass) c.scan.ensures.went

pub returns-after-is_err-clause-made : goal.returns-after-is_err-clause-made
returns-after-is_err-clause-made g c = map_ok c.in-Some.room (λ h. room_turned (plan_at g.S.Store.contents c.args.pins.now) (doing c.args.actor.now) (view c.scan.new.pass) (doing c.replace.new.actor) c.scan.ensures.went c.in_default.ensures.tried h) c.in-Some.ensures.turned

pub returns-after-is_err-clause-kept_out : goal.returns-after-is_err-clause-kept_out
returns-after-is_err-clause-kept_out g c = map_if_err c.in-Some.room (λ e h. (hands_since (doing c.args.actor.now) (view c.scan.new.pass) c.in_default.ensures.none.claims_are h.0, kept_turned (plan_at g.S.Store.contents c.args.pins.now) (doing c.args.actor.now) (view c.scan.new.pass) (doing c.replace.new.actor) e c.scan.ensures.went c.in_default.ensures.tried h.1)) c.in-Some.ensures.stays

pub returns-in-None-clause-none : goal.returns-in-None-clause-none
returns-in-None-clause-none g c = (search rules, goes_on (plan_at g.S.Store.contents c.args.pins.now) (doing c.args.actor.now) (view c.scan.new.pass) (doing c.replace.new.actor) _ _ c.scan.ensures.went c.in-None.ensures.none.1)
