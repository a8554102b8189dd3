use Rattle.pin_rule.proofs.pins.Pins.gone_saved.Goals as goal

pub let_go-requires-clause-lane : goal.let_go-requires-clause-lane
let_go-requires-clause-lane g c = λ _. let k = c.requires.lane in (k.0, k.1, k.3)
