-- The plan of a table, from what it was told: the limits of the geometry, and the keys and the standing of its files.
use Rattle.std.specs.Prelude.{◌≡◌, ℕ, ◌+◌, ◌*◌, ◌<◌, ◌≤◌, ◌^◌, [], length, Option, Some, None}
use Rattle.cell_store.specs.Store.{Contents}
use Rattle.cell_grid.specs.Kind.{greatest_of}
use Rattle.cell_grid.specs.Pyramid.{cells_of, voxels_of, frame_of, kind_of}
use Rattle.cell_file.specs.Keys.{edited_key}
use Rattle.cell_file.specs.Standing.{standing}
use Rattle.pin_words.specs.Plan.{Plan}
use Rattle.pin_rule.specs.declared.made.Made.{Made}

-- A pass that was joined keeps nothing of it.
abbrev pub plan_of : {S : Type 0} → (S → Contents) → Option (Made S) → Plan S (Option (Made S))
plan_of shows None = record { made = None; shows = shows; stores = []; cells = 0; slots = 0; lanes = 0; frame = 0; voxels = λ _. 0; greatest = λ _. 0; edited = λ _. []; standing = λ _ _. None }
plan_of shows (Some m) = record {
  made = Some m;
  shows = shows;
  stores = m.stores.value.items;
  cells = cells_of m.levels.value;
  slots = m.slots;
  lanes = length m.stores.value.items;
  frame = frame_of m.levels.value;
  voxels = λ c. voxels_of m.levels.value c;
  greatest = λ c. greatest_of (kind_of m.levels.value c);
  edited = λ c. edited_key m.levels.value c;
  standing = λ held c. standing m.levels.value m.keys.value held c;
}

-- the limits of a cache
pub record IsPlanOf {S : Type 0} (m : Made S) : Type 0 where
  pub few_cells : cells_of m.levels.value ≤ 2 ^ 18
  pub few_slots : m.slots ≤ 4096
  pub some_slots : 2 ≤ m.slots
  pub few_lanes : length m.stores.value.items ≤ 16
  pub some_lanes : 0 < length m.stores.value.items
  pub small_frame : frame_of m.levels.value ≤ 2 ^ 21
  pub fits : (c : ℕ) → c < cells_of m.levels.value → voxels_of m.levels.value c ≤ frame_of m.levels.value
  -- the keys are those of its levels
  pub keyed : m.keys.value.levels ≡ m.levels.value

-- its words and homes have the size that the plan gives
pub record IsTable {S : Type 0} (m : Made S) (words slots : ℕ) : Type 0 where
  pub made : IsPlanOf m
  pub word_count : words ≡ 1 + cells_of m.levels.value + m.slots + length m.stores.value.items + m.slots * frame_of m.levels.value
  pub store_each : slots ≡ length m.stores.value.items
