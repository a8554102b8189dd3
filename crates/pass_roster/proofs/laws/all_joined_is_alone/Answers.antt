use Rattle.pass_roster.proofs.Endings.{joined_alone}
use Rattle.pass_roster.proofs.laws.all_joined_is_alone.Goals as goal

pub returns : goal.returns
returns g c = λ p. joined_alone p
