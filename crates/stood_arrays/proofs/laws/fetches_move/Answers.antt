use Rattle.stood_arrays.proofs.Moves.{fetches_move, refused_fetches_move}
use Rattle.stood_arrays.proofs.laws.fetches_move.Goals as goal

pub returns-clause-done : goal.returns-clause-done
returns-clause-done c = fetches_move

pub returns-clause-refused : goal.returns-clause-refused
returns-clause-refused c = refused_fetches_move
