use Rattle.std.proofs.Common.{rules}
use Rattle.turn_cell.proofs.Ending.{opens_with}
use Rattle.turn_cell.proofs.turn.Turn.new.Goals as goal

pub new-requires : goal.new-requires
new-requires g c = opens_with g.T.Seq.steps _ _ (search rules)
