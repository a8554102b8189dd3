-- What the blocks are made of.
use Rattle.std.specs.Prelude.{◌≡◌, ℕ, ◌*◌, length}
use Rattle.demo_volume.specs.declared.maker.Maker.{Maker}
use Rattle.demo_volume.specs.Levels.{key_names, levels}
use Rattle.demo_volume.specs.Voxels.{fine, means}

-- The levels are whole, and the keys are those of the demonstration.
pub record IsFull (maker : Maker) : Type 0 where
  pub geometry : maker.geometry ≡ levels
  pub keys : maker.keys ≡ key_names
  pub fine : length maker.fine.items ≡ 512 * 512 * 64
  pub coarse : length maker.coarse.items ≡ 256 * 256 * 32

-- The levels are those that a number decides.
pub record IsMaker (number : ℕ) (maker : Maker) : Type 0 where
  pub full : IsFull maker
  pub fine_is : maker.fine.items ≡ fine number
  pub coarse_is : maker.coarse.items ≡ means (fine number)
