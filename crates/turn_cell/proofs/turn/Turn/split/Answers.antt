use Rattle.std.proofs.Common.{rules}
use Rattle.turn_cell.proofs.Joining.{splits_turn}
use Rattle.turn_cell.proofs.turn.Turn.split.Goals as goal

pub split_seat-seat-requires : goal.split_seat-seat-requires
split_seat-seat-requires g c = (search rules, search rules, splits_turn _ _ _ _ c.requires.first (search rules) c.requires.room)
