-- Words read from left to right: what stands at the front of a list of words, or the first rule that they break.
use Rattle.std.specs.Prelude.{◌≡◌, ℕ, ◌-◌, ◌^◌, ◌&&◌, List, [], ◌∷◌, Option, Some, None, Result, Ok, Err, nat_lt, nat_le, if◌then◌else◌, codes}
use Rattle.std.specs.Borrow.{Bor}
use Rattle.std.specs.Str.{bytes_eq}
use Rattle.cell_grid.specs.declared.kind.Kind.{Kind}
use Rattle.cell_grid.specs.declared.kind.Kind.TheVariants.{U8, U16, U32, U64}
use Rattle.plain_data.specs.RootName.{is_root_name}
use Rattle.view_script.specs.declared.script_error.ScriptKind.{ScriptKind}
use Rattle.view_script.specs.declared.script_error.ScriptKind.TheVariants.{UnknownWord, BadNumber, MissingWord, ExtraWord, Limit}
use Rattle.view_script.specs.Number.{number_in}

-- what stands at the front of a list of words, and the words after it; or the rule that they break
abbrev pub Reading : Type 0 → Type 0
Reading A = List (List ℕ) → Result (A × List (List ℕ)) ScriptKind

-- a value, before any word
abbrev pub give : {A : Type 0} → A → Reading A
give x words = Ok (x, words)

abbrev pub followed : {A B : Type 0} → Result (A × List (List ℕ)) ScriptKind → (A → Reading B) → Result (B × List (List ℕ)) ScriptKind
followed (Ok read) next = next read.0 read.1
followed (Err kind) next = Err kind

-- one thing after another
infixl 10 ◌>>=◌
abbrev pub ◌>>=◌ : {A B : Type 0} → Reading A → (A → Reading B) → Reading B
(reading >>= next) words = followed (reading words) next

-- the next word, by the form of its place
abbrev pub with_rest : {A : Type 0} → List (List ℕ) → Result A ScriptKind → Result (A × List (List ℕ)) ScriptKind
with_rest words (Ok x) = Ok (x, words)
with_rest words (Err kind) = Err kind

abbrev pub word_as : {A : Type 0} → (List ℕ → Result A ScriptKind) → Reading A
word_as form [] = Err MissingWord
word_as form (word ∷ words) = with_rest words (form word)

-- a value, and no word after it
abbrev pub ended : {A : Type 0} → A → Reading A
ended x [] = Ok (x, [])
ended x (word ∷ words) = Err ExtraWord

-- the forms of places
abbrev pub at_most : ℕ → Option ℕ → Result ℕ ScriptKind
at_most most None = Err BadNumber
at_most most (Some n) = if nat_le n most then Ok n else Err Limit

abbrev pub above : ℕ → Option ℕ → Result ℕ ScriptKind
above low None = Err BadNumber
above low (Some n) = if nat_lt low n then Ok n else Err Limit

abbrev pub between : ℕ → ℕ → Option ℕ → Result ℕ ScriptKind
between least most None = Err BadNumber
between least most (Some n) = if nat_le least n && nat_le n most then Ok n else Err Limit

abbrev pub root_in : List ℕ → Result (List ℕ) ScriptKind
root_in word = if is_root_name word then Ok word else Err Limit

abbrev pub kind_in : List ℕ → Result Kind ScriptKind
kind_in word =
    if bytes_eq word (codes "uint8") then Ok U8 else
    if bytes_eq word (codes "uint16") then Ok U16 else
    if bytes_eq word (codes "uint32") then Ok U32 else
    if bytes_eq word (codes "uint64") then Ok U64 else Err UnknownWord

abbrev pub number_word : ℕ → Reading ℕ
number_word most = word_as (λ word. at_most most (number_in word))

abbrev pub number_above : ℕ → Reading ℕ
number_above low = word_as (λ word. above low (number_in word))

abbrev pub number_between : ℕ → ℕ → Reading ℕ
number_between least most = word_as (λ word. between least most (number_in word))

-- numbers along x, y and z
unfoldable pub three_words : ℕ → Reading (List ℕ)
three_words most = do
  x ← number_word most
  y ← number_word most
  z ← number_word most
  give (x ∷ y ∷ z ∷ [])

-- any number that a word can be
abbrev pub any : ℕ
any = 2 ^ 64 - 1

-- what a function read is what a reading gives, and the words that it left are those after it
abbrev pub Reads : {A : Type 0} → Reading A → List (List ℕ) → List (List ℕ) → Result A ScriptKind → Type 0
Reads reading old new (Ok x) = reading old ≡ Ok (x, new)
Reads reading old new (Err kind) = reading old ≡ Err kind

-- what a look for the end of the words gives
abbrev pub EndsWith : {U : Type 0} → List (List ℕ) → List (List ℕ) → Result U ScriptKind → Type 0
EndsWith old new (Ok u) = (old ≡ []) × (new ≡ [])
EndsWith old new (Err kind) = (word : List ℕ) × (words : List (List ℕ)) × (old ≡ word ∷ words) × (kind ≡ ExtraWord)

-- what the next word is, where there is one
abbrev pub TakesWord : List (List ℕ) → List (List ℕ) → Result (Bor (List ℕ)) ScriptKind → Type 0
TakesWord old new (Ok word) = old ≡ word.now ∷ new
TakesWord old new (Err kind) = (old ≡ []) × (kind ≡ MissingWord)
