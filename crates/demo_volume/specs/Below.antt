-- Lists that a function gives number by number.
use Rattle.std.specs.Prelude.{ℕ, List, flat_map, map}
use Rattle.std.specs.List.{range_with_len}

-- what a function gives at the numbers below a bound, in order
unfoldable pub each_below : {X : Type 0} → ℕ → (ℕ → X) → List X
each_below count f = map f (range_with_len 0 count)

-- the lists that it gives there, one after another
unfoldable pub joined_below : ℕ → (ℕ → List ℕ) → List ℕ
joined_below count f = flat_map f (range_with_len 0 count)
