use Rattle.std.proofs.Common.{inl, inr, refl}
use Rattle.pin_rule.specs.Calls.{view, plan_at}
use Rattle.live_cells.specs.Actors.{doing}
use Rattle.live_cells.proofs.Acting.{acts_uncounted}
use Rattle.live_cells.proofs.Claimed.{loaded, ungot, roomless}
use Rattle.live_cells.proofs.acquire.load_claimed.Goals as goal

pub returns-in-Ok-load-clause-loads : goal.returns-in-Ok-load-clause-loads
returns-in-Ok-load-clause-loads g c = loaded g.S.Store.contents c.args.pins.now c.args.claim.cell (doing c.args.actor.now) (doing c.make_room.new.actor) (doing c.load.new.actor) c.in-Ok.slot.slot c.in-Ok-load.handle c.in-Ok-load.ensures.handle.1 c.in-Ok.ensures.made c.in-Ok-load.ensures.loaded

pub returns-in-Err-load-clause-loads : goal.returns-in-Err-load-clause-loads
returns-in-Err-load-clause-loads g c = inl (ungot g.S.Store.contents c.args.pins.now c.args.claim.cell (doing c.args.actor.now) (doing c.make_room.new.actor) (doing c.load.new.actor) c.in-Err-load.err c.refused_fetch.result c.refused_fetch.ensures c.in-Ok.ensures.made c.in-Err-load.ensures.dropped.0 c.in-Err-load.ensures.cause)

pub returns-in-Err-clause-loads : goal.returns-in-Err-clause-loads
returns-in-Err-clause-loads g c = inr (roomless g.S.Store.contents c.args.pins.now c.args.claim.cell (doing c.args.actor.now) (doing c.make_room.new.actor) (view c.abandon.new.pass) c.in-Err.err c.refused_save.result c.refused_save.ensures c.in-Err.ensures.kept_out.1 c.abandon.ensures.dropped)

pub returns-in-Err-clause-actor : goal.returns-in-Err-clause-actor
returns-in-Err-clause-actor g c = acts_uncounted (plan_at g.S.Store.contents c.args.pins.now) c.args.pins.now c.make_room.new.actor _ _ c.make_room.ensures.actor c.abandon.ensures.pass c.abandon.ensures.dropped (record { hits = refl; misses = refl; loads = refl; evictions = refl; writebacks = refl }) refl
