-- Where the words of a table lie: word 0, which is 0, one word for each cell, one for each slot, one for each lane, and the frames of the slots.
use Rattle.std.specs.Prelude.{ℕ, ◌+◌, ◌*◌, ◌^◌, Bool, true, false}
use Rattle.arr_history.specs.declared.cell_state.CellState.{CellState}
use Rattle.arr_history.specs.declared.cell_state.CellState.TheVariants as cell
use Rattle.pin_words.specs.Plan.{Plan}

module _ {S M : Type 0} (p : Plan S M) where
  abbrev pub cell_at : ℕ → ℕ
  cell_at c = 1 + c

  abbrev pub slot_at : ℕ → ℕ
  slot_at s = 1 + p.cells + s

  abbrev pub lane_at : ℕ → ℕ
  lane_at l = 1 + p.cells + p.slots + l

  abbrev pub frame_at : ℕ → ℕ → ℕ
  frame_at s i = 1 + p.cells + p.slots + p.lanes + (s * p.frame + i)

  abbrev pub word_count : ℕ
  word_count = 1 + p.cells + p.slots + p.lanes + p.slots * p.frame

abbrev pub bit : Bool → ℕ
bit true = 1
bit false = 0

-- The word of a cell that is being loaded, of a live and of a leaving one, with count 0: bit 24 is the mark, bits 25 and 26 are the state,
-- and the slot begins at bit 32.
abbrev pub loading_word : ℕ
loading_word = 2 ^ 25

abbrev pub live_word : ℕ → Bool → ℕ
live_word slot mark = 2 ^ 26 + 2 ^ 24 * bit mark + 2 ^ 32 * slot

abbrev pub leaving_word : ℕ → Bool → ℕ
leaving_word slot mark = 3 * 2 ^ 25 + 2 ^ 24 * bit mark + 2 ^ 32 * slot

-- the word of a cell in a state, with count 0
abbrev pub face : CellState → ℕ
face cell.Absent = 0
face (cell.Loading k) = loading_word
face (cell.Live slot mark) = live_word slot mark
face (cell.Leaving k slot mark) = leaving_word slot mark
