-- Stores that hold the demonstration's pyramid.
use Rattle.std.specs.Prelude.{◌≡◌, ℕ, IsTrue, List, ◌++◌, length, None, Some, All, codes}
use Rattle.cell_store.specs.Store.{Contents, held_of}
use Rattle.stood_arrays.specs.Opening.{store_in}
use Rattle.demo_volume.specs.Puts.{MadeKey, keys_of}

-- No store holds a key that begins so.
abbrev pub HoldNone : List ℕ → List Contents → Type 0
HoldNone front stores = (lane : ℕ) (rest : List ℕ) → held_of (store_in stores lane) (front ++ rest) ≡ None

-- The store of a key holds its bytes.
abbrev pub IsMade : List Contents → MadeKey → Type 0
IsMade stores made = held_of (store_in stores made.lane) made.key ≡ Some made.bytes

-- The stores hold the pyramid that a number decides, and no cell of it was edited.
pub record HoldsDemo (number : ℕ) (stores : List Contents) : Type 0 where
  pub told : All (λ (s : Contents). IsTrue s.told) stores
  pub made : All (IsMade stores) (keys_of number (length stores))
  pub unedited : HoldNone (codes "cells/") stores
