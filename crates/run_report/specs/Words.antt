-- Words and lines of texts.
use Rattle.std.specs.Prelude.{ℕ, List, [], ◌∷◌, ◌++◌}
use Rattle.std.specs.Fmt.{decimal}

-- a word and what follows it, with a space between them
infixr 10 ◌␣◌
abbrev pub ◌␣◌ : List ℕ → List ℕ → List ℕ
a ␣ b = a ++ 32 ∷ b

-- a word and a number, and a word and two numbers
abbrev pub one_text : List ℕ → ℕ → List ℕ
one_text word number = word ␣ decimal number

abbrev pub two_text : List ℕ → ℕ → ℕ → List ℕ
two_text word first second = word ␣ decimal first ␣ decimal second

-- a line and its end
abbrev pub line : List ℕ → List ℕ
line text = text ++ 10 ∷ []
