-- Stores that hold the same.
use Rattle.std.specs.Prelude.{◌≡◌, ℕ, ◌<◌, false, IsTrue, List, length}
use Rattle.cell_store.specs.Store.{Contents, held_of}
use Rattle.sole_cache.specs.Cached.{store_in}
use Rattle.store_calls.specs.Calls.{StoreCall, is_open}

-- Two lists of stores that tell, and hold the same.
pub record HoldAlike (stores others : List Contents) : Type 0 where
  pub lanes : length others ≡ length stores
  pub told : (lane : ℕ) → lane < length stores → IsTrue (store_in stores lane).told × IsTrue (store_in others lane).told
  pub held : (lane : ℕ) (key : List ℕ) → lane < length stores → (held_of (store_in others lane)) key ≡ (held_of (store_in stores lane)) key

-- Two lists of stores that tell, and hold the same after these calls, but under keys whose last put was not done.
pub record LeftAlike (calls : List StoreCall) (stores others : List Contents) : Type 0 where
  pub lanes : length others ≡ length stores
  pub told : (lane : ℕ) → lane < length stores → IsTrue (store_in stores lane).told × IsTrue (store_in others lane).told
  pub held : (lane : ℕ) (key : List ℕ) → lane < length stores → is_open lane key calls ≡ false → (held_of (store_in others lane)) key ≡ (held_of (store_in stores lane)) key
