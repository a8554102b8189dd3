-- What became of a frame.
use Rattle.std.specs.Prelude.{◌≡◌, ℕ, ◌==◌, not, All, count_by}
use Rattle.scale_pick.specs.declared.painted.Painted.{Painted}
use Rattle.scale_pick.specs.Picture.{Pixels}

-- every pixel is of the wanted level
abbrev pub IsComplete : ℕ → Pixels → Type 0
IsComplete wanted picture = All (λ mask. mask ≡ wanted) picture.mask

-- how many pixels are of another level, or of none
abbrev pub not_ready_of : ℕ → Pixels → ℕ
not_ready_of wanted picture = count_by (λ mask. not (mask == wanted)) picture.mask

-- what a frame answers
abbrev pub painted_of : ℕ → Pixels → Painted
painted_of wanted picture = record { wanted = wanted; complete = not_ready_of wanted picture == 0; not_ready = not_ready_of wanted picture }
