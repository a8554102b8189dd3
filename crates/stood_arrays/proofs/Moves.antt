-- What a fetch and a save did to their store, by what they logged.
use Rattle.std.proofs.Common.{◌≡◌, false, true, IsTrue, List, [], ◌∷◌, ◌++◌}
use Rattle.cell_store.specs.Store.{Contents, SameElsewhere, held_of}
use Rattle.cell_file.specs.declared.errors.FetchErr.{FetchErr}
use Rattle.cell_file.specs.declared.errors.SaveErr.{SaveErr}
use Rattle.cell_file.specs.File.{put_entry, LogsFetch, LogsRefusedFetch, LogsRefusedSave}
use Rattle.stood_arrays.specs.Moves.{StoreMoves, Fetched, Saved, FetchesMove, RefusedFetchesMove, SavesMove, RefusedSavesMove}
use Rattle.stood_arrays.proofs.Logs.{fetch_log, fetch_got, refused_log, one_put, refused_put}

false_true : false ≡ true → ⊥
false_true e = cc

pub fetches_move : FetchesMove
fetches_move key base old new moves held logs = record {
  moves = moves;
  held = held;
  no_put = λ other t. (fetch_log old.log new.log key base (logs t)).no_put other;
  gets = λ other t. (fetch_log old.log new.log key base (logs t)).gets other;
  got = λ _ t. fetch_got old.log new.log key base (logs t);
}

pub refused_fetches_move : RefusedFetchesMove
refused_fetches_move key base err old new moves held logs = record {
  moves = moves;
  held = held;
  no_put = λ other t. (refused_log old.log new.log key base err (logs t)).no_put other;
  gets = λ other t. (refused_log old.log new.log key base err (logs t)).gets other;
  got = λ f _. absurd (false_true f);
}

pub saves_move : SavesMove
saves_move key old new moves held logs = record {
  moves = moves;
  held = held;
  gets = λ other t. (one_put old.log new.log key true (logs t)).gets other;
  other_puts = λ other ne t. (one_put old.log new.log key true (logs t)).other_puts other ne;
  puts = λ t. (one_put old.log new.log key true (logs t)).puts;
}

pub refused_saves_move : RefusedSavesMove
refused_saves_move key err old new moves held logs = record {
  moves = moves;
  held = held;
  gets = λ other t. (refused_put old.log new.log key err (logs t)).gets other;
  other_puts = λ other ne t. (refused_put old.log new.log key err (logs t)).other_puts other ne;
  puts = λ t. (refused_put old.log new.log key err (logs t)).puts;
}
