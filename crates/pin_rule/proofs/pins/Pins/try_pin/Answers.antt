use Rattle.pin_rule.proofs.pins.Pins.try_pin.Goals as goal

pub returns-in-Err-clause-done : goal.returns-in-Err-clause-done
returns-in-Err-clause-done g c = let k = c.in-Err.ensures.done in (k.0, (c.of.ensures _ k.1.count k.1.small k.1.word).state)
