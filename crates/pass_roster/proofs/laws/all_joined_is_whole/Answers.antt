use Rattle.pass_roster.proofs.Endings.{joined_whole}
use Rattle.pass_roster.proofs.laws.all_joined_is_whole.Goals as goal

pub returns : goal.returns
returns g c = λ p. joined_whole p
