-- What holds of stores that the demonstration's pyramid was put into.
use Rattle.std.specs.Prelude.{◌≡◌, ℕ, ◌<◌, false, IsTrue, List, length, Some, Ok, All, codes}
use Rattle.cell_grid.specs.Pyramid.{cells_of}
use Rattle.cell_store.specs.Store.{Contents, held_of}
use Rattle.cell_file.specs.Standing.{standing}
use Rattle.stood_arrays.specs.Opening.{store_in, is_void}
use Rattle.stood_arrays.specs.Pyramid.{start_by}
use Rattle.demo_volume.specs.Levels.{key_names, levels}
use Rattle.demo_volume.specs.Puts.{MadeKey, Makes, attributes, keys_of}
use Rattle.demo_arrays.specs.Drawn.{AreDrawn}
use Rattle.demo_arrays.specs.Held.{HoldNone, HoldsDemo}

-- Stores that tell what they hold, and hold no edited cell, hold the pyramid once each of its keys was made.
abbrev pub MakingHolds : Type 0
MakingHolds = (number : ℕ) (old new : List Contents) → All (λ (s : Contents). IsTrue s.told) old → HoldNone (codes "cells/") old
    → Makes (keys_of number (length old)) old new (Ok (tt {0})) → HoldsDemo number new

-- As many stores that tell, and that hold the same, hold the pyramid too.
abbrev pub HoldingAlike : Type 0
HoldingAlike = (number : ℕ) (old new : List Contents) → length new ≡ length old → All (λ (s : Contents). IsTrue s.told) new
    → ((lane : ℕ) (key : List ℕ) → held_of (store_in new lane) key ≡ held_of (store_in old lane) key) → HoldsDemo number old → HoldsDemo number new

-- Where stores hold the pyramid, the first one holds the attributes that describe the levels.
abbrev pub AttributesAreHeld : Type 0
AttributesAreHeld = (number : ℕ) (stores : List Contents) → HoldsDemo number stores → All (λ (made : MadeKey). held_of (store_in stores 0) made.key ≡ Some made.bytes) attributes

-- A history over such stores begins with the arrays that the number decides.
abbrev pub DemoStands : Type 0
DemoStands = (number : ℕ) (stores : List Contents) → HoldsDemo number stores → AreDrawn number (start_by levels key_names stores).arrays

-- Each cell has an array in such stores.
abbrev pub NoneIsVoid : Type 0
NoneIsVoid = (number : ℕ) (stores : List Contents) → HoldsDemo number stores → (cell : ℕ) → cell < cells_of levels → is_void (standing levels key_names) (length stores) stores cell ≡ false
