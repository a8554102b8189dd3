use Rattle.pass_roster.proofs.Weights.{phases_weigh}
use Rattle.pass_roster.proofs.laws.phases_weigh.Goals as goal

pub returns : goal.returns
returns g c = λ by weight. phases_weigh by weight
