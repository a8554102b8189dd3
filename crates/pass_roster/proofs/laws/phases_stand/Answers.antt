use Rattle.pass_roster.proofs.Gathering.{phases_stand}
use Rattle.pass_roster.proofs.laws.phases_stand.Goals as goal

pub returns : goal.returns
returns g c = λ p. phases_stand p
