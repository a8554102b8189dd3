use Rattle.std.proofs.Common.{refl}
use Rattle.team_eyes.proofs.Leading.{by_queue}
use Rattle.team_eyes.proofs.team_eyes.TeamEyesEyes.next.Goals as goal

pub returns-clause-led : goal.returns-clause-led
returns-clause-led g c = (refl, refl, refl, refl, by_queue g.S.Store.contents c.args.self.now.cells.now c.args.self.now.viewer c.args.self.now.pass.now _ _ _ c.take.ensures.asked)
