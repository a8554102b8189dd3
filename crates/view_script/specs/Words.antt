-- The words of a line.
use Rattle.std.specs.Prelude.{◌≡◌, ℕ, Option, Some, None, ◌==◌, ◌||◌, Bool, List, [], ◌∷◌, filter, not}
use Rattle.std.specs.List.{slice_split}
use Rattle.view_script.specs.Lines.{is_empty}

-- a space or a tab
abbrev pub is_blank : ℕ → Bool
is_blank b = (b == 32) || (b == 9)

-- the words of a line, between spaces and tabs
abbrev pub words_of : List ℕ → List (List ℕ)
words_of line = filter (λ word. not (is_empty word)) (slice_split is_blank line)

-- the first of a list is taken, where there is one
abbrev pub TakesFirst : List (List ℕ) → List (List ℕ) → Option (List ℕ) → Type 0
TakesFirst old new None = (old ≡ []) × (new ≡ [])
TakesFirst old new (Some first) = old ≡ first ∷ new
