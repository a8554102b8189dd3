use Rattle.stood_arrays.proofs.Moves.{saves_move, refused_saves_move}
use Rattle.stood_arrays.proofs.laws.saves_move.Goals as goal

pub returns-clause-done : goal.returns-clause-done
returns-clause-done c = saves_move

pub returns-clause-refused : goal.returns-clause-refused
returns-clause-refused c = refused_saves_move
