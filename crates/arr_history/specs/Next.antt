-- What an event does.
use Rattle.std.specs.Prelude.{ℕ, ◌+◌, ◌-◌, true, false}
use Rattle.arr_history.specs.declared.event.Event.{Event}
use Rattle.arr_history.specs.declared.event.Event.TheVariants.{Pin, Miss, Unpin, Mark, Read, Write, Claim, Drop, Live, Close, Gone, Back}
use Rattle.arr_history.specs.declared.cell_state.CellState.{CellState}
use Rattle.arr_history.specs.declared.cell_state.CellState.TheVariants as cell
use Rattle.arr_history.specs.State.{State, with_cell, with_pins, with_voxel}

-- a live cell with the mark
abbrev pub marked : CellState → CellState
marked (cell.Live slot mark) = cell.Live slot true
marked other = other

-- a live cell on its way out, by a pass
abbrev pub leaving : ℕ → CellState → CellState
leaving k (cell.Live slot mark) = cell.Leaving k slot mark
leaving k other = other

-- a leaving cell, live again
abbrev pub returned : CellState → CellState
returned (cell.Leaving k slot mark) = cell.Live slot mark
returned other = other

-- The state after an event; all that a line doesn't name stays as it was.
abbrev pub next : State → Event → State
next s (Pin k c) = with_pins s k c (s.pins k c + 1)
next s (Miss k c) = s
next s (Unpin k c) = with_pins s k c (s.pins k c - 1)
next s (Mark k c) = with_cell s c (marked (s.cells c))
next s (Read k c i x) = s
next s (Write k c i x) = with_voxel s c i x
next s (Claim k c) = with_cell s c (cell.Loading k)
next s (Drop k c) = with_cell s c cell.Absent
next s (Live k c slot) = with_pins (with_cell s c (cell.Live slot false)) k c (s.pins k c + 1)
next s (Close k c) = with_cell s c (leaving k (s.cells c))
next s (Gone k c saved) = with_cell s c cell.Absent
next s (Back k c) = with_cell s c (returned (s.cells c))
