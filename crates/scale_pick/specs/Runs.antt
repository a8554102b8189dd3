-- Runs of pixels, each shown by a number.
use Rattle.std.specs.Prelude.{◌≡◌, ◌⊎◌, ℕ, ◌+◌, ◌*◌, ◌<◌, ◌≤◌, slice_index}
use Rattle.scale_pick.specs.declared.run.Run.{Run}
use Rattle.scale_pick.specs.Picture.{Pixels, IsFilled}

-- a run lies in a picture
abbrev pub IsRunOf : Pixels → Run → Type 0
IsRunOf p run = run.first + run.columns ≤ p.width * p.height

-- a place is not one of a run
abbrev pub IsBeside : Run → ℕ → Type 0
IsBeside run i = (i < run.first) ⊎ (run.first + run.columns ≤ i)

-- A picture is another one, but that the pixels of a run show these bytes, at the run's level.
pub record ShowsRun (p q : Pixels) (run : Run) (value : ℕ → ℕ) : Type 0 where
  pub width : q.width ≡ p.width
  pub height : q.height ≡ p.height
  pub filled : IsFilled q
  pub values : (k : ℕ) → k < run.columns → slice_index q.values (run.first + k) ≡ value k
  pub levels : (k : ℕ) → k < run.columns → slice_index q.mask (run.first + k) ≡ run.level
  pub values_beside : (i : ℕ) → IsBeside run i → slice_index q.values i ≡ slice_index p.values i
  pub levels_beside : (i : ℕ) → IsBeside run i → slice_index q.mask i ≡ slice_index p.mask i
