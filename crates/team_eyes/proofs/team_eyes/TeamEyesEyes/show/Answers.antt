use Rattle.std.proofs.Common.{refl}
use Rattle.turn_cell.specs.Turn.{view}
use Rattle.live_cells.specs.Cells.{knows}
use Rattle.volatile_cell.specs.Showing.{reads_along}
use Rattle.team_eyes.proofs.Leading.{by_cells}
use Rattle.team_eyes.proofs.team_eyes.TeamEyesEyes.show.Goals as goal

pub returns-clause-shown : goal.returns-clause-shown
returns-clause-shown g c =
    let self = c.args.self.now in
    let done = c.show.ensures.shown in
    record {
      number = done.0;
      led = (refl, refl, refl, refl, by_cells g.S.Store.contents self.cells.now self.viewer self.pass.now c.show.new.pass (view self.asks.now) (reads_along (knows self.pass.now).number c.args.handle.now.cell c.args.walk done.0 c.args.run.columns) done.1);
      shows = done.2;
    }
