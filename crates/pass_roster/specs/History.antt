-- A history is a list of entries, the oldest first. Each entry is one pass's.
use Rattle.std.specs.Prelude.{◌≡◌, ℕ, ◌+◌, ◌==◌, nat_le, if◌then◌else◌, List, [], ◌∷◌, ◌++◌, length, filter}

-- the history begins with what was seen of it
abbrev pub StartsWith : {E : Type 0} → List E → List E → Type 0
StartsWith {E} history seen = (rest : List E) × (history ≡ seen ++ rest)

-- of two beginnings of one history the one that goes further
abbrev pub longer : {E : Type 0} → List E → List E → List E
longer xs ys = if nat_le (length xs) (length ys) then ys else xs

-- the entries of pass k, in order; `by` tells an entry's pass
abbrev pub entries_by : {E : Type 0} → (E → ℕ) → ℕ → List E → List E
entries_by by k = filter (λ e. by e == k)

-- the sum of f over a list
abbrev pub total : {A : Type 0} → (A → ℕ) → List A → ℕ
total f [] = 0
total f (x ∷ xs) = f x + total f xs

-- lists one after another
abbrev pub flat : {A : Type 0} → List (List A) → List A
flat [] = []
flat (xs ∷ rest) = xs ++ flat rest
