use Rattle.pass_roster.proofs.Sums.{total_counts}
use Rattle.stood_arrays.proofs.laws.totals_are_counts.Goals as goal

pub returns : goal.returns
returns c = total_counts
