-- Affine maps by whole numbers.
use Rattle.std.specs.Prelude.{ℕ, zero, suc, ◌+◌, ℤ, pos, ◌+ℤ◌, ◌*ℤ◌, ◌<◌, ◌≤◌, ◌^◌, ◌==◌, nat_lt, nat_le, ◌||◌, not, Bool, List, [], ◌∷◌, slice_index_or, unsigned_abs, Option, None, Some, if◌then◌else◌}
use Rattle.std.specs.List.{list_all}
use Rattle.whole_affine.specs.declared.affine.AffineErr.{AffineErr}
use Rattle.whole_affine.specs.declared.affine.AffineErr.TheVariants.{ZeroDenominator, TooLarge}

-- the denominator, and for each axis the factor of the column, the factor of the row and the constant
pub record Map : Type 0 where
  pub q : ℕ
  pub rows : List (List ℤ)

-- the matrix's row of an axis
abbrev pub row_of : Map → ℕ → List ℤ
row_of map axis = slice_index_or map.rows axis []

-- the numerator of a pixel's coordinate on an axis
abbrev pub numerator_in : List ℤ → ℕ → ℕ → ℤ
numerator_in row x y = (pos x *ℤ slice_index_or row 0 (pos 0)) +ℤ (pos y *ℤ slice_index_or row 1 (pos 0)) +ℤ slice_index_or row 2 (pos 0)

-- the numerators of a pixel
abbrev pub point : Map → ℕ → ℕ → List ℤ
point map x y = numerator_in (row_of map 0) x y ∷ numerator_in (row_of map 1) x y ∷ numerator_in (row_of map 2) x y ∷ []

-- what a numerator gains from one column, and from one row, to the next
abbrev pub steps_of : Map → ℕ → List ℤ
steps_of map axis = slice_index_or (row_of map axis) 0 (pos 0) ∷ slice_index_or (row_of map axis) 1 (pos 0) ∷ []

abbrev pub is_small : ℤ → Bool
is_small m = nat_le (unsigned_abs m) (2 ^ 31)

abbrev pub are_small : List (List ℤ) → Bool
are_small rows = list_all (list_all is_small) rows

-- the first rule that a map breaks
abbrev pub broken_map_rule : ℕ → List (List ℤ) → Option AffineErr
broken_map_rule q rows =
    if q == 0 then Some ZeroDenominator else
    if nat_lt (2 ^ 31) q || not (are_small rows) then Some TooLarge else None

-- a map that breaks no rule
pub record IsMap (map : Map) : Type 0 where
  pub positive : 0 < map.q
  pub bounded : map.q ≤ 2 ^ 31
  pub small : (axis i : ℕ) → unsigned_abs (slice_index_or (row_of map axis) i (pos 0)) ≤ 2 ^ 31

-- numerators of a pixel of a picture
pub record IsSmallPoint (p : List ℤ) : Type 0 where
  pub x : unsigned_abs (slice_index_or p 0 (pos 0)) ≤ 2 ^ 45
  pub y : unsigned_abs (slice_index_or p 1 (pos 0)) ≤ 2 ^ 45
  pub z : unsigned_abs (slice_index_or p 2 (pos 0)) ≤ 2 ^ 45

-- what the numerators gain from one column to the next
abbrev pub columns_of : Map → List ℤ
columns_of map = slice_index_or (row_of map 0) 0 (pos 0) ∷ slice_index_or (row_of map 1) 0 (pos 0) ∷ slice_index_or (row_of map 2) 0 (pos 0) ∷ []

-- what the numerators of a map may gain
pub record IsSmallStep (step : List ℤ) : Type 0 where
  pub x : unsigned_abs (slice_index_or step 0 (pos 0)) ≤ 2 ^ 31
  pub y : unsigned_abs (slice_index_or step 1 (pos 0)) ≤ 2 ^ 31
  pub z : unsigned_abs (slice_index_or step 2 (pos 0)) ≤ 2 ^ 31

-- the points of so many pixels of a row, from a column on
abbrev pub row_points : Map → ℕ → ℕ → ℕ → List (List ℤ)
row_points map y x zero = []
row_points map y x (suc n) = point map x y ∷ row_points map y (x + 1) n
