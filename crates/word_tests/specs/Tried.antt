-- What the tests say of their cells and of their table.
use Rattle.std.specs.Prelude.{◌≡◌, ℕ, List}
use Rattle.cell_grid.specs.declared.level.Level.{Level}
use Rattle.cell_grid.specs.declared.kind.Kind.TheVariants.{U8}
use Rattle.cell_grid.specs.Pyramid.{voxels_of, kind_of}
use Rattle.cell_file.specs.Keys.{KeyNames}
use Rattle.pin_rule.specs.declared.pins.Pins.{Pins}
use Rattle.pin_rule.specs.Calls.{made_of, cell_count, slot_count, lane_count}

-- the cell has eight voxels of one byte
pub record IsSmallTry (levels : List Level) (c : ℕ) : Type 0 where
  pub voxels : voxels_of levels c ≡ 8
  pub kind : kind_of levels c ≡ U8

-- a table of three cells, two slots and one lane, over these levels, which knows the cells by these keys
pub record IsTried {S : Type 0} (levels : List Level) (keys : KeyNames) (t : Pins S) : Type 0 where
  pub over : (made_of t).levels.value ≡ levels
  pub known : (made_of t).keys.value ≡ keys
  pub alike : keys.levels ≡ levels
  pub cells : cell_count t ≡ 3
  pub slots : slot_count t ≡ 2
  pub lanes : lane_count t ≡ 1
