use Rattle.std.proofs.Common.{rules}
use Rattle.pin_words.proofs.Scanning.{takes_first}
use Rattle.pin_rule.proofs.Resting.{same_trans}
use Rattle.pin_rule.proofs.Scans.{scanned_more, scanned_all}
use Rattle.pin_rule.proofs.slot_steps.scan_slots.Goals as goal

pub loop-slot-preserved : goal.loop-slot-preserved
loop-slot-preserved g c = let v = c.loop-slot.invariant in
    (search rules, search rules, same_trans c.args.seat.now.me.0 c.loop-slot.seat.me.0 c.take_slot.new.seat.me.0 v.2 c.take_slot.ensures.seat.2, c.take_slot.ensures.rests, scanned_more _ c.args.seat.now.me.0 c.loop-slot.seat.me.0 c.take_slot.new.seat.me.0 c.loop-slot.slot v.4 (c.take_slot.ensures.taken (search rules)))

pub returns-clause-done : goal.returns-clause-done
returns-clause-done g c = let v = c.loop-slot.invariant in scanned_all _ c.args.seat.now.me.0 c.loop-slot.seat.me.0 c.loop-slot.slot c.args.slots (search rules) c.requires.small.0 v.4

pub returns-then-take_slot-clause-done : goal.returns-then-take_slot-clause-done
returns-then-take_slot-clause-done g c = (search rules, takes_first _ c.args.seat.now.me.0 c.loop-slot.seat.me.0 c.take_slot.new.seat.me.0 c.loop-slot.slot c.loop-slot.invariant.4 (c.take_slot.ensures.free (search rules)))
