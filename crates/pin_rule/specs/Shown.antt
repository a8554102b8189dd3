-- What is read off the word of a cell.
use Rattle.std.specs.Prelude.{◌≡◌, ℕ, ◌/◌, ◌%◌, ◌^◌, ◌==◌, if◌then◌else◌}
use Rattle.arr_history.specs.declared.cell_state.CellState.{CellState}
use Rattle.arr_history.specs.declared.cell_state.Seen.{Seen}
use Rattle.arr_history.specs.declared.cell_state.Seen.TheVariants as look
use Rattle.arr_history.specs.Legal.{HasSlot}
use Rattle.pin_words.specs.Account.{has_mark}
use Rattle.pin_words.specs.Pins.{seen_of}
use Rattle.pin_rule.specs.declared.cell_word.CellWord.{CellWord}

-- the state that a cell's word shows
abbrev pub look_of : ℕ → Seen
look_of n =
    if (n / 2 ^ 25) % 4 == 0 then look.Absent else
    if (n / 2 ^ 25) % 4 == 1 then look.Loading else
    if (n / 2 ^ 25) % 4 == 2 then look.Live else look.Leaving

-- what was read is the state, with its slot and its mark, and the count
pub record ShowsState (t : CellState) (count : ℕ) (w : CellWord) : Type 0 where
  pub state : w.state ≡ seen_of t
  pub slot : (s : ℕ) → HasSlot t s → w.slot ≡ s
  pub marked : w.marked ≡ has_mark t
  pub count_is : w.count ≡ count
