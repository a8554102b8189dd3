use Rattle.pass_roster.proofs.Taking.{takes_one}
use Rattle.pass_roster.proofs.laws.joins_take_in.Goals as goal

pub returns : goal.returns
returns g c = λ p. takes_one p
