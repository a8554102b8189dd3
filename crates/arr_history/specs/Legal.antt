-- When an event is legal.
use Rattle.std.specs.Prelude.{◌≡◌, ℕ, ◌<◌, ◌≤◌, Bool, true, false, IsTrue}
use Rattle.arr_history.specs.declared.event.Event.{Event}
use Rattle.arr_history.specs.declared.event.Event.TheVariants.{Pin, Miss, Unpin, Mark, Read, Write, Claim, Drop, Live, Close, Gone, Back}
use Rattle.arr_history.specs.declared.cell_state.CellState.{CellState}
use Rattle.arr_history.specs.declared.cell_state.CellState.TheVariants as cell
use Rattle.arr_history.specs.State.{State}
use Rattle.arr_history.specs.Shape.{Shape}

abbrev pub IsLive : CellState → Type 0
IsLive (cell.Live slot mark) = Unit {0}
IsLive other = ⊥

abbrev pub IsMarked : CellState → Type 0
IsMarked (cell.Live slot true) = Unit {0}
IsMarked other = ⊥

-- whether a cell has a mark, live or leaving
abbrev pub has_mark : CellState → Bool
has_mark (cell.Live slot mark) = mark
has_mark (cell.Leaving k slot mark) = mark
has_mark other = false

-- a cell is live in this slot
abbrev pub LiveIn : CellState → ℕ → Type 0
LiveIn (cell.Live slot mark) s = slot ≡ s
LiveIn other s = ⊥

-- a cell is live or leaving in this slot
abbrev pub HasSlot : CellState → ℕ → Type 0
HasSlot (cell.Live slot mark) s = slot ≡ s
HasSlot (cell.Leaving k slot mark) s = slot ≡ s
HasSlot other s = ⊥

-- a pass is turning out a cell of this mark
abbrev pub IsLeaving : ℕ → Bool → CellState → Type 0
IsLeaving k mark (cell.Leaving j slot m) = (j ≡ k) × (m ≡ mark)
IsLeaving k mark other = ⊥

-- Cells, offsets and slots are in range, and a value is at most the cell's greatest. Where a cell's store doesn't tell its
-- bytes, nothing is asked of its array.
abbrev pub IsLegal : Shape → State → Event → Type 0
IsLegal b s (Pin k c) = (c < b.cells) × IsLive (s.cells c)
IsLegal b s (Miss k c) = (c < b.cells) × ¬ IsLive (s.cells c)
IsLegal b s (Unpin k c) = (c < b.cells) × (0 < s.pins k c)
IsLegal b s (Mark k c) = (c < b.cells) × (0 < s.pins k c)
IsLegal b s (Read k c i x) = (c < b.cells) × (i < b.voxels c) × (x ≤ b.greatest c) × (0 < s.pins k c) × (IsTrue (b.is_told c) → x ≡ s.arrays c i)
IsLegal b s (Write k c i x) = (c < b.cells) × (i < b.voxels c) × (x ≤ b.greatest c) × (0 < s.pins k c) × IsMarked (s.cells c)
IsLegal b s (Claim k c) = (c < b.cells) × (s.cells c ≡ cell.Absent)
IsLegal b s (Drop k c) = (c < b.cells) × (s.cells c ≡ cell.Loading k)
IsLegal b s (Live k c slot) = (c < b.cells) × (slot < b.slots) × (s.cells c ≡ cell.Loading k) × (IsTrue (b.is_told c) → b.is_void c ≡ false) × ((d : ℕ) → ¬ HasSlot (s.cells d) slot)
IsLegal b s (Close k c) = (c < b.cells) × IsLive (s.cells c) × ((j : ℕ) → s.pins j c ≡ 0)
IsLegal b s (Gone k c saved) = (c < b.cells) × IsLeaving k saved (s.cells c)
IsLegal b s (Back k c) = (c < b.cells) × IsLeaving k true (s.cells c)
