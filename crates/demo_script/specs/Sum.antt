-- The sum that the demonstration tells.
use Rattle.std.specs.Prelude.{ℕ, List, sum, sum_by}
use Rattle.run_report.specs.declared.shot.Shot.{Shot}

-- the sum of the bytes of all pixels of pictures
abbrev pub pixel_sum : List Shot → ℕ
pixel_sum shots = sum_by (λ shot. sum shot.picture.values) shots
