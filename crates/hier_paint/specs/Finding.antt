-- A look with an empty hand.
use Rattle.std.specs.Prelude.{◌≡◌, ℕ, Bool, true, false, List, [], ◌∷◌, Option, None, Some}
use Rattle.cell_grid.specs.declared.level.Level.{Level}
use Rattle.cell_file.specs.declared.errors.AcquireErr.{AcquireErr}
use Rattle.arr_history.specs.declared.event.Event.{Event}
use Rattle.scale_pick.specs.declared.view.View.{View}
use Rattle.scale_pick.specs.Shade.{shown}
use Rattle.scale_pick.specs.Pixel.{HasVoxel}
use Rattle.volatile_cell.specs.Asked.{Asked}
use Rattle.volatile_cell.specs.Budget.{Allowance}
use Rattle.volatile_cell.specs.Looks.{IsReadyLook, IsNotReadyLook, IsRefusedLook}
use Rattle.hier_paint.specs.Sight.{Sight, holding, missing}
use Rattle.hier_paint.specs.Visits.{Visit, reading_visit, skipping}
use Rattle.volatile_cell.specs.Front.{Front}

-- nothing was visited, and this cell is due at this level
abbrev pub IsAtVoxel : ℕ → ℕ → List Visit → ℕ → ℕ → Type 0
IsAtVoxel level cell visits level' cell' = (visits ≡ []) × (level' ≡ level) × (cell' ≡ cell)

module _ {E : Type 0} (front : Front E) where
  -- a look that was ready, or wasn't
  abbrev pub IsFoundLook : E → Sight → ℕ → ℕ → Bool → E → Sight → Type 0
  IsFoundLook e s level cell true e' s' =
      (piece : List Event) × (calls : List Asked) × (loaded : Bool) × (left : Allowance) × front.leads e piece calls e' × IsReadyLook (front.looker e) cell s.budget loaded left piece calls × (s' ≡ holding s cell left)
  IsFoundLook e s level cell false e' s' =
      (piece : List Event) × (calls : List Asked) × (left : Allowance) × front.leads e piece calls e' × IsNotReadyLook (front.looker e) cell s.budget left piece calls × (s' ≡ missing s level cell left)

  -- a look that was refused
  abbrev pub IsFailedLook : E → Sight → ℕ → E → AcquireErr → Type 0
  IsFailedLook e s cell e' err =
      (piece : List Event) × (calls : List Asked) × (left : Allowance) × front.leads e piece calls e' × IsRefusedLook (front.looker e) cell s.budget err left piece calls × front.caused e e' cell err

-- what is shown of a voxel: what was read of it; or nothing, where its cell wasn't ready
abbrev pub IsPlaceWay : ℕ → ℕ → ℕ → ℕ → ℕ → Option ℕ → List Visit → Type 0
IsPlaceWay low high level cell at None visits = visits ≡ skipping level cell ∷ []
IsPlaceWay low high level cell at (Some value) visits = (number : ℕ) × (value ≡ shown number low high) × (visits ≡ reading_visit level cell at number ∷ [])

-- a pixel's cell at a level is due
abbrev pub IsLevelCut : List Level → View → ℕ → ℕ → ℕ → List Visit → ℕ → ℕ → Type 0
IsLevelCut levels view x y level visits level' cell = (visits ≡ []) × (level' ≡ level) × (at : ℕ) × HasVoxel levels view.affine level x y cell at
