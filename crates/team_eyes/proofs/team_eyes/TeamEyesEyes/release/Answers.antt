use Rattle.std.proofs.Common.{[], ◌∷◌, refl}
use Rattle.turn_cell.specs.Turn.{view}
use Rattle.arr_history.specs.declared.event.Event.TheVariants.{Unpin}
use Rattle.live_cells.specs.Cells.{knows}
use Rattle.team_eyes.proofs.Leading.{by_cells}
use Rattle.team_eyes.proofs.team_eyes.TeamEyesEyes.release.Goals as goal

pub returns-clause-led : goal.returns-clause-led
returns-clause-led g c = let self = c.args.self.now in (refl, refl, refl, refl, by_cells g.S.Store.contents self.cells.now self.viewer self.pass.now c.release.new.pass (view self.asks.now) (Unpin (knows self.pass.now).number c.args.handle.cell ∷ []) c.release.ensures.released)
