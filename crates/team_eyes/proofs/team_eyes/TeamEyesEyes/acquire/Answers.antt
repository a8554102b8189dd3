use Rattle.std.proofs.Common.{refl}
use Rattle.turn_cell.specs.Turn.{view}
use Rattle.team_eyes.proofs.Leading.{by_cells}
use Rattle.team_eyes.proofs.team_eyes.TeamEyesEyes.acquire.Goals as goal

pub returns-clause-acquired : goal.returns-clause-acquired
returns-clause-acquired g c =
    let self = c.args.self.now in
    let done = c.acquire.ensures.acquired in
    (done.0, (refl, refl, refl, refl, by_cells g.S.Store.contents self.cells.now self.viewer self.pass.now c.acquire.new.pass (view self.asks.now) done.0 done.1), done.2)
