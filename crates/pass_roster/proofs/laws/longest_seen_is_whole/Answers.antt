use Rattle.pass_roster.proofs.Endings.{longest_seen}
use Rattle.pass_roster.proofs.laws.longest_seen_is_whole.Goals as goal

pub returns : goal.returns
returns g c = λ p. longest_seen p
