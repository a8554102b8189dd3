use Rattle.std.proofs.Common.{rules, ◌∷◌, ap, sym, ◌∙◌, Some}
use Rattle.atomic_table.specs.Table.{rest}
use Rattle.turn_cell.proofs.Taking.{takes_turn}
use Rattle.turn_cell.proofs.seat_steps.take.Goals as goal

pub compare_exchange-requires : goal.compare_exchange-requires
compare_exchange-requires g c = (search rules, search rules, takes_turn _ _ _ _ _ (ap (λ m. m.0.stage) c.loop.invariant.2 ∙ c.requires.idle.0))

pub exchange-requires : goal.exchange-requires
exchange-requires g c = let got = c.compare_exchange.ensures.2.0 (search rules) in (search rules, (_, got.1 ∙ ap (λ cs. (0, Some got.0) ∷ rest cs) (sym got.1)))
