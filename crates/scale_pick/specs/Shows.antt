-- What a pixel shows at a level, where it is left open which numbers its voxel had: 0 outside the level, else one that it had.
use Rattle.std.specs.Prelude.{◌≡◌, ◌⊎◌, ℕ, List}
use Rattle.cell_grid.specs.declared.level.Level.{Level}
use Rattle.scale_pick.specs.declared.view.View.{View}
use Rattle.scale_pick.specs.Shade.{shown}
use Rattle.scale_pick.specs.Pixel.{HasVoxel, IsOutside}

abbrev pub ShowsBy : (ℕ → ℕ → ℕ → Type 0) → List Level → View → ℕ → ℕ → ℕ → ℕ → Type 0
ShowsBy Had levels view x y level value =
    (IsOutside levels view.affine level x y × (value ≡ 0))
    ⊎ ((cell : ℕ) × (at : ℕ) × (number : ℕ) × HasVoxel levels view.affine level x y cell at × Had cell at number × (value ≡ shown number view.low view.high))
