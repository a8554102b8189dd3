use Rattle.std.proofs.Common.{rules, refl}
use Rattle.pin_rule.specs.Calls.{plan_at}
use Rattle.live_cells.proofs.Acting.{acts, acts_uncounted}
use Rattle.live_cells.proofs.victims.turn_out.Goals as goal

pub returns-in_err-slot-clause-actor : goal.returns-in_err-slot-clause-actor
returns-in_err-slot-clause-actor g c = acts_uncounted (plan_at g.S.Store.contents c.args.pins.now) c.args.pins.now c.args.actor.now _ _ c.requires.actor c.put_marked.ensures.pass c.in_err-slot.ensures.back.1 (record { hits = refl; misses = refl; loads = refl; evictions = refl; writebacks = refl }) refl

pub returns-clause-actor : goal.returns-clause-actor
returns-clause-actor g c = acts (plan_at g.S.Store.contents c.args.pins.now) c.args.pins.now c.args.actor.now _ _ c.requires.actor c.put_marked.ensures.pass c.in_ok-slot.ensures.gone.1 (search rules)
