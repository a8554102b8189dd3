use Rattle.std.proofs.Common.{[], ◌∷◌, refl}
use Rattle.turn_cell.specs.Turn.{view}
use Rattle.arr_history.specs.declared.event.Event.TheVariants.{Read}
use Rattle.live_cells.specs.Cells.{knows}
use Rattle.team_eyes.proofs.Leading.{by_cells}
use Rattle.team_eyes.proofs.team_eyes.TeamEyesEyes.read.Goals as goal

pub returns-clause-led : goal.returns-clause-led
returns-clause-led g c = let self = c.args.self.now in (refl, refl, refl, refl, by_cells g.S.Store.contents self.cells.now self.viewer self.pass.now c.read.new.pass (view self.asks.now) (Read (knows self.pass.now).number c.args.handle.now.cell c.args.at c.read.result ∷ []) c.read.ensures.read)
