-- When a picture is right, by what was noted while it was painted.
use Rattle.std.specs.Prelude.{◌≡◌, ◌⊎◌, ℕ, ◌<◌, ◌≤◌, List, length, Contains, slice_index}
use Rattle.cell_grid.specs.declared.level.Level.{Level}
use Rattle.scale_pick.specs.declared.view.View.{View}
use Rattle.scale_pick.specs.declared.note.Note.{Note}
use Rattle.scale_pick.specs.declared.note.Note.TheVariants as note
use Rattle.scale_pick.specs.Pixel.{HasVoxel}
use Rattle.scale_pick.specs.Picture.{Pixels, place}
use Rattle.scale_pick.specs.Shows.{ShowsBy}
use Rattle.scale_pick.specs.Wanted.{wanted_level}

-- a pixel's voxel is inside a level, and its cell was found not ready
abbrev pub IsMissed : List Level → View → List Note → ℕ → ℕ → ℕ → Type 0
IsMissed levels view notes x y level = (cell : ℕ) × (at : ℕ) × HasVoxel levels view.affine level x y cell at × Contains notes (note.NotReady cell)

-- a pixel shows what was read of its voxel, or 0 outside the level
abbrev pub Shows : List Level → View → List Note → ℕ → ℕ → ℕ → ℕ → Type 0
Shows levels view notes x y level value = ShowsBy (λ cell at number. Contains notes (note.Read cell at number)) levels view x y level value

-- the levels from one on, before another, were found not ready
abbrev pub AreMissed : List Level → View → List Note → ℕ → ℕ → ℕ → ℕ → Type 0
AreMissed levels view notes x y from to = (level : ℕ) → from ≤ level → level < to → IsMissed levels view notes x y level

-- a pixel shows the first level from the wanted one on that was ready
pub record IsShown (levels : List Level) (view : View) (notes : List Note) (wanted x y value mask : ℕ) : Type 0 where
  pub from : wanted ≤ mask
  pub exists : mask < length levels
  pub shows : Shows levels view notes x y mask value
  pub missed : AreMissed levels view notes x y wanted mask

-- no level was ready
pub record IsBlank (levels : List Level) (view : View) (notes : List Note) (wanted x y value mask : ℕ) : Type 0 where
  pub none : mask ≡ 255
  pub dark : value ≡ 0
  pub missed : AreMissed levels view notes x y wanted (length levels)

abbrev pub IsPainted : List Level → View → List Note → ℕ → ℕ → ℕ → ℕ → ℕ → Type 0
IsPainted levels view notes wanted x y value mask = IsShown levels view notes wanted x y value mask ⊎ IsBlank levels view notes wanted x y value mask

-- a pixel of a picture is painted by notes
abbrev pub IsPixelPainted : List Level → View → List Note → ℕ → Pixels → ℕ → ℕ → Type 0
IsPixelPainted levels view notes wanted picture x y = IsPainted levels view notes wanted x y (slice_index picture.values (place picture.width x y)) (slice_index picture.mask (place picture.width x y))

-- a row is painted up to a column
abbrev pub IsRowPainted : List Level → View → List Note → ℕ → Pixels → ℕ → ℕ → Type 0
IsRowPainted levels view notes wanted picture y columns = (x : ℕ) → x < columns → IsPixelPainted levels view notes wanted picture x y

-- the rows before one are painted
abbrev pub AreRowsPainted : List Level → View → List Note → ℕ → Pixels → ℕ → Type 0
AreRowsPainted levels view notes wanted picture rows = (y : ℕ) → y < rows → IsRowPainted levels view notes wanted picture y picture.width

-- A picture is a painting of a view by notes.
pub record IsPainting (levels : List Level) (view : View) (notes : List Note) (picture : Pixels) : Type 0 where
  pub width : picture.width ≡ view.width
  pub height : picture.height ≡ view.height
  pub rows : AreRowsPainted levels view notes (wanted_level levels view) picture picture.height
