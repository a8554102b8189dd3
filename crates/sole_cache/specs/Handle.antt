-- A handle on a pinned cell.
use Rattle.std.specs.Prelude.{◌≡◌, ℕ, ◌<◌, Bool, Some}
use Rattle.sole_cache.specs.Cached.{Cached, slot_of, slot_at}

pub record Handle : Type 0 where
  pub cell : ℕ
  pub slot : ℕ
  pub loaded : Bool

-- A handle of a cache: its cell is live in its slot, and pinned.
pub record IsHandleOf (c : Cached) (h : Handle) : Type 0 where
  pub live : slot_of c h.cell ≡ Some h.slot
  pub pinned : 0 < (slot_at c h.slot).pins
