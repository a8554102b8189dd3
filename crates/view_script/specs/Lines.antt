-- The lines of a text.
use Rattle.std.specs.Prelude.{ℕ, ◌==◌, Bool, true, false, List, [], ◌∷◌, map, length, unwrap_or, if◌then◌else◌}
use Rattle.std.specs.List.{slice_split, position}
use Rattle.std.specs.Str.Lines.{strip_carriage_return}

abbrev pub is_empty : List ℕ → Bool
is_empty [] = true
is_empty (b ∷ bytes) = false

-- the parts, but for a last one that is empty
abbrev pub without_empty_end : List (List ℕ) → List (List ℕ)
without_empty_end [] = []
without_empty_end (part ∷ []) = if is_empty part then [] else part ∷ []
without_empty_end (part ∷ next ∷ parts) = part ∷ without_empty_end (next ∷ parts)

-- the lines: each ends at a byte 10 or at the last byte, and one byte 13 before the end belongs to the end
abbrev pub lines_of : List ℕ → List (List ℕ)
lines_of bytes = map strip_carriage_return (without_empty_end (slice_split (λ b. b == 10) bytes))

-- where the first byte that passes stands, or the length where none does
abbrev pub first_place : (ℕ → Bool) → List ℕ → ℕ
first_place test bytes = unwrap_or (position test bytes) (length bytes)
