-- Which levels of which pixels a frame visits, in which order, and what its picture shows of that.
use Rattle.std.specs.Prelude.{◌≡◌, ◌⊎◌, ℕ, zero, suc, ◌+◌, ◌<◌, List, [], ◌∷◌, ◌++◌, length, Option, None, Some, slice_index}
use Rattle.cell_grid.specs.declared.level.Level.{Level}
use Rattle.scale_pick.specs.declared.view.View.{View}
use Rattle.scale_pick.specs.Shade.{shown}
use Rattle.scale_pick.specs.Pixel.{HasVoxel, IsOutside}
use Rattle.scale_pick.specs.Picture.{Pixels, place}
use Rattle.scale_pick.specs.Wanted.{wanted_level}
use Rattle.hier_paint.specs.Visits.{Visit, reading_visit, skipping}

module _ (levels : List Level) (view : View) where
  -- A pixel at a level: outside it nothing is visited, and 0 is shown; inside the nearest voxel is read and shown; or its cell isn't
  -- ready, and nothing is shown.
  abbrev pub IsLevelWay : ℕ → ℕ → ℕ → Option ℕ → List Visit → Type 0
  IsLevelWay x y level (Some value) visits =
      (IsOutside levels view.affine level x y × (value ≡ 0) × (visits ≡ []))
      ⊎ ((cell : ℕ) × (at : ℕ) × (number : ℕ) × HasVoxel levels view.affine level x y cell at × (value ≡ shown number view.low view.high) × (visits ≡ reading_visit level cell at number ∷ []))
  IsLevelWay x y level None visits = (cell : ℕ) × (at : ℕ) × HasVoxel levels view.affine level x y cell at × (visits ≡ skipping level cell ∷ [])

  -- so many levels from one on weren't ready
  abbrev pub AreSkipped : ℕ → ℕ → ℕ → ℕ → List Visit → Type 0
  AreSkipped x y from zero visits = visits ≡ []
  AreSkipped x y from (suc n) visits = (before : List Visit) × (here : List Visit) × AreSkipped x y from n before × IsLevelWay x y (from + n) None here × (visits ≡ before ++ here)

  -- A pixel's levels, from the wanted one on, until one is outside or read; then it shows that level.
  pub record IsShownWay (x y value mask : ℕ) (visits : List Visit) : Type 0 where
    pub skipped : ℕ
    pub mask_is : mask ≡ wanted_level levels view + skipped
    pub before : List Visit
    pub here : List Visit
    pub missed : AreSkipped x y (wanted_level levels view) skipped before
    pub shows : IsLevelWay x y mask (Some value) here
    pub visits_are : visits ≡ before ++ here

  -- No level was ready.
  pub record IsBlankWay (x y value mask : ℕ) (visits : List Visit) : Type 0 where
    pub none : mask ≡ 255
    pub dark : value ≡ 0
    pub skipped : ℕ
    pub all : wanted_level levels view + skipped ≡ length levels
    pub missed : AreSkipped x y (wanted_level levels view) skipped visits

  abbrev pub IsPixelWay : ℕ → ℕ → ℕ → ℕ → List Visit → Type 0
  IsPixelWay x y value mask visits = IsShownWay x y value mask visits ⊎ IsBlankWay x y value mask visits

  -- the pixels of a row, up to a column
  abbrev pub IsRowWay : Pixels → ℕ → ℕ → List Visit → Type 0
  IsRowWay picture y zero visits = visits ≡ []
  IsRowWay picture y (suc x) visits = (before : List Visit) × (here : List Visit) × IsRowWay picture y x before
      × IsPixelWay x y (slice_index picture.values (place picture.width x y)) (slice_index picture.mask (place picture.width x y)) here × (visits ≡ before ++ here)

  -- the rows before one
  abbrev pub AreRowWays : Pixels → ℕ → List Visit → Type 0
  AreRowWays picture zero visits = visits ≡ []
  AreRowWays picture (suc y) visits = (before : List Visit) × (here : List Visit) × AreRowWays picture y before × IsRowWay picture y picture.width here × (visits ≡ before ++ here)

  -- a pixel's levels, up to one whose cell is looked for
  pub record IsPixelCut (x y : ℕ) (visits : List Visit) (level cell : ℕ) : Type 0 where
    pub skipped : ℕ
    pub level_is : level ≡ wanted_level levels view + skipped
    pub missed : AreSkipped x y (wanted_level levels view) skipped visits
    pub at : ℕ
    pub voxel : HasVoxel levels view.affine level x y cell at

  -- a row, up to such a pixel
  pub record IsRowCut (picture : Pixels) (y : ℕ) (visits : List Visit) (level cell : ℕ) : Type 0 where
    pub x : ℕ
    pub column : x < picture.width
    pub before : List Visit
    pub here : List Visit
    pub painted : IsRowWay picture y x before
    pub cut : IsPixelCut x y here level cell
    pub visits_are : visits ≡ before ++ here

  -- a picture, up to such a row
  pub record IsCut (picture : Pixels) (visits : List Visit) (level cell : ℕ) : Type 0 where
    pub y : ℕ
    pub row : y < picture.height
    pub before : List Visit
    pub here : List Visit
    pub painted : AreRowWays picture y before
    pub cut : IsRowCut picture y here level cell
    pub visits_are : visits ≡ before ++ here
