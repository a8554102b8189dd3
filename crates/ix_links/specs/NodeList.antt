-- One list of numbers.
use Rattle.std.specs.Prelude.{ℕ, ◌==◌, ◌&&◌, Bool, true, not, List, [], ◌∷◌, Option, filter, drop, slice_get}
use Rattle.std.specs.List.{list_any}

-- whether the number is in the list
abbrev pub contains : List ℕ → ℕ → Bool
contains xs x = list_any (λ y. x == y) xs

-- the list with the number taken out
abbrev pub without : List ℕ → ℕ → List ℕ
without xs x = filter (λ y. not (x == y)) xs

-- whether no number is in the list twice
abbrev pub is_distinct : List ℕ → Bool
is_distinct [] = true
is_distinct (x ∷ xs) = not (contains xs x) && is_distinct xs

-- the first number, if there is one
abbrev pub first : List ℕ → Option ℕ
first xs = slice_get xs 0

-- the list behind its first number
abbrev pub rest : List ℕ → List ℕ
rest xs = drop 1 xs
