-- What the program says of its table, and of what a pass holds while a frame is filled.
use Rattle.std.specs.Prelude.{◌≡◌, ℕ, ◌<◌, List, [], ◌∷◌, Option}
use Rattle.pin_words.specs.declared.doing.Doing.{Doing}
use Rattle.pin_words.specs.Cells.{held}
use Rattle.pin_rule.specs.declared.pins.Pins.{Pins}
use Rattle.pin_rule.specs.Calls.{cell_count, slot_count, lane_count, voxel_count, greatest_in}

-- the cell is one of two, of 64 voxels of one byte, in a table of two slots and two lanes: each cell has a lane of its own
pub record IsTimed {S : Type 0} (t : Pins S) (c : ℕ) : Type 0 where
  pub cell : c < cell_count t
  pub cells : cell_count t ≡ 2
  pub slots : slot_count t ≡ 2
  pub lanes : lane_count t ≡ 2
  pub voxels : voxel_count t c ≡ 64
  pub greatest : greatest_in t c ≡ 255

-- but for a lane, the pass holds a claim, and a slot that is filled so
pub record IsFilling {S M : Type 0} (c s : ℕ) (filled : Option ℕ) (d : Doing S M) : Type 0 where
  pub pins : d.pins ≡ []
  pub claims : d.claims ≡ c ∷ []
  pub slots : (words : List ℕ) × (d.slots ≡ held s filled words ∷ [])
  pub leaving : d.leaving ≡ []
