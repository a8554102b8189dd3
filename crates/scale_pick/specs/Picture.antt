-- What a picture shows.
use Rattle.std.specs.Prelude.{◌≡◌, ℕ, ◌+◌, ◌*◌, ◌<◌, ◌≤◌, List, length, slice_index}

-- a byte and a mask for each pixel, row by row
pub record Pixels : Type 0 where
  pub width : ℕ
  pub height : ℕ
  pub values : List ℕ
  pub mask : List ℕ

-- where a pixel stands
abbrev pub place : ℕ → ℕ → ℕ → ℕ
place width x y = y * width + x

-- a picture has a value and a mask for each pixel
pub record IsFilled (p : Pixels) : Type 0 where
  pub some_columns : 0 < p.width
  pub some_rows : 0 < p.height
  pub width : p.width ≤ 4096
  pub height : p.height ≤ 4096
  pub values : length p.values ≡ p.width * p.height
  pub mask : length p.mask ≡ p.width * p.height

-- two pictures have the same pixels before a place
pub record SameBefore (p q : Pixels) (end : ℕ) : Type 0 where
  pub values : (i : ℕ) → i < end → slice_index q.values i ≡ slice_index p.values i
  pub mask : (i : ℕ) → i < end → slice_index q.mask i ≡ slice_index p.mask i
