-- Who is at work on a cell: the pass that loads it, or turns it out.
use Rattle.std.specs.Prelude.{ℕ, ◌==◌, Bool, true, false, if◌then◌else◌, List, [], ◌∷◌}
use Rattle.arr_history.specs.declared.event.Event.{Event}
use Rattle.arr_history.specs.declared.event.Event.TheVariants.{Claim, Drop, Live, Close, Gone, Back}
use Rattle.arr_history.specs.declared.cell_state.CellState.{CellState}
use Rattle.arr_history.specs.declared.cell_state.CellState.TheVariants as cell

-- whether the pass k loads a cell of this state, or turns it out
abbrev pub is_owner : ℕ → CellState → Bool
is_owner k (cell.Loading j) = j == k
is_owner k (cell.Leaving j slot mark) = j == k
is_owner k other = false

-- whether an event begins work on a cell
abbrev pub begins : ℕ → Event → Bool
begins c (Claim k d) = d == c
begins c (Close k d) = d == c
begins c other = false

-- whether an event ends it
abbrev pub ends : ℕ → Event → Bool
ends c (Drop k d) = d == c
ends c (Live k d slot) = d == c
ends c (Gone k d saved) = d == c
ends c (Back k d) = d == c
ends c other = false

-- whether a pass is at work on a cell after these events of its own, where it was before or wasn't
abbrev pub is_at_work : ℕ → Bool → List Event → Bool
is_at_work c was [] = was
is_at_work c was (e ∷ events) = is_at_work c (if begins c e then true else if ends c e then false else was) events

-- a cell on which nobody is at work: absent or live
abbrev pub IsAtRest : CellState → Type 0
IsAtRest cell.Absent = Unit {0}
IsAtRest (cell.Live slot mark) = Unit {0}
IsAtRest other = ⊥
