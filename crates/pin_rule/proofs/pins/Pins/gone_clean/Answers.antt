use Rattle.std.proofs.Common.{true≢false, sym, ◌∙◌}
use Rattle.pin_rule.proofs.pins.Pins.gone_clean.Goals as goal

pub let_go-requires-clause-lane : goal.let_go-requires-clause-lane
let_go-requires-clause-lane g c = λ is. absurd (true≢false (sym is ∙ c.requires.leaving.2))
