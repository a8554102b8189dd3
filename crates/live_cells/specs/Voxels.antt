-- Getting and setting a voxel, by its level and its position there.
use Rattle.std.specs.Prelude.{◌≡◌, ℕ, List, Option, Result}
use Rattle.std.specs.declared.result.Result.TheVariants.{Err}
use Rattle.cell_store.specs.Store.{Contents}
use Rattle.cell_file.specs.declared.errors.CellErr.{CellErr}
use Rattle.arr_history.specs.declared.event.Event.{Event}
use Rattle.call_events.specs.Voxels.{IsVisit, Gets, Sets}
use Rattle.pin_words.specs.declared.doing.Doing.{Doing}
use Rattle.pin_rule.specs.declared.made.Made.{Made}
use Rattle.pin_rule.specs.declared.pins.Pins.{Pins}
use Rattle.pin_rule.specs.Calls.{made_of, plan_at}
use Rattle.pin_rule.specs.Going.{Goes}
use Rattle.live_cells.specs.Cells.{Acquires}

module _ {S : Type 0} (shows : S → Contents) (t : Pins S) (d d' : Doing S (Option (Made S))) where
  -- the pass acquired the cell, and made these events then
  pub record Visited (cell : ℕ) (then : List Event) : Type 0 where
    pub events : List Event
    pub visit : IsVisit Rattle.std.specs.Prelude.false d.number (made_of t).levels.value cell then events
    pub went : Goes (plan_at shows t) d events d'

  abbrev pub GetsCell : ℕ → List ℕ → Result ℕ CellErr → Type 0
  GetsCell = Gets d.number (made_of t).levels.value Visited (λ cell err. Acquires shows t cell d d' (Err err)) (d' ≡ d)

  abbrev pub SetsCell : ℕ → List ℕ → ℕ → Result (Unit {0}) CellErr → Type 0
  SetsCell = Sets d.number (made_of t).levels.value Visited (λ cell err. Acquires shows t cell d d' (Err err)) (d' ≡ d)
