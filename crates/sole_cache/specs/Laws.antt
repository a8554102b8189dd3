-- How runs may be put together.
use Rattle.std.specs.Prelude.{List, [], ◌++◌}
use Rattle.arr_history.specs.declared.event.Event.{Event}
use Rattle.sole_cache.specs.Cached.{Cached}
use Rattle.sole_cache.specs.Moves.{Moves, Runs}

abbrev pub RunsCompose : Type 0
RunsCompose = (a b c : Cached) (p q : List Event) → Runs a p b → Runs b q c → Runs a (p ++ q) c

-- the same of events of the run part and of the shutting part alike
abbrev pub MovesCompose : Type 0
MovesCompose = (a b c : Cached) (p q : List Event) → Moves a p b → Moves b q c → Moves a (p ++ q) c

-- No events lead from a cache to itself.
abbrev pub NothingMoves : Type 0
NothingMoves = (a : Cached) → Moves a [] a
