-- What holds of all that a reading gives.
use Rattle.std.proofs.Common.{◌≤◌, List, ℕ, Option, Some, None, Result, Ok, Err, [], ◌∷◌, arith}
use Rattle.std.specs.Prelude.{IfOk}
use Rattle.std.proofs.lemmas.Grind.{common_steps}
use Rattle.view_script.specs.declared.script_error.ScriptKind.{ScriptKind}
use Rattle.view_script.specs.Number.{number_in}
use Rattle.view_script.specs.Reading.{Reading, ◌>>=◌, followed, give, word_as, with_rest, ended, at_most, number_word}

-- P holds of each value that a reading gives
pub record Gives {A : Type 0} (reading : Reading A) (P : A → Type 0) : Type 0 where
  pub holds : (words : List (List ℕ)) → IfOk (reading words) (λ read. P read.0)

pub gives_any : {A : Type 0} (reading : Reading A) → Gives reading (λ x. Unit {0})
gives_any {A} reading = record { holds = λ words. go (reading words) }
  where
    go : (read : Result (A × List (List ℕ)) ScriptKind) → IfOk read (λ read. Unit {0})
    go (Ok read) = tt
    go (Err kind) = tt

pub gives_then : {A B : Type 0} (reading : Reading A) (next : A → Reading B) (P : A → Type 0) (Q : B → Type 0)
    → Gives reading P → ((x : A) → P x → Gives (next x) Q) → Gives (reading >>= next) Q
gives_then {A} {B} reading next P Q first rest = record { holds = λ words. go (reading words) (first.holds words) }
  where
    go : (read : Result (A × List (List ℕ)) ScriptKind) → IfOk read (λ read. P read.0) → IfOk (followed read next) (λ read. Q read.0)
    go (Ok read) holds = (rest read.0 holds).holds read.1
    go (Err kind) holds = tt

pub gives_word : {A : Type 0} (form : List ℕ → Result A ScriptKind) (P : A → Type 0)
    → ((word : List ℕ) → IfOk (form word) P) → Gives (word_as form) P
gives_word {A} form P each = record { holds = over }
  where
    go : (words : List (List ℕ)) (x : Result A ScriptKind) → IfOk x P → IfOk (with_rest words x) (λ read. P read.0)
    go words (Ok x) holds = holds
    go words (Err kind) holds = tt

    over : (words : List (List ℕ)) → IfOk (word_as form words) (λ read. P read.0)
    over [] = tt
    over (word ∷ words) = go words (form word) (each word)

pub gives_ended : {A : Type 0} (x : A) (P : A → Type 0) → P x → Gives (ended x) P
gives_ended x P holds = record { holds = over }
  where
    over : (words : List (List ℕ)) → IfOk (ended x words) (λ read. P read.0)
    over [] = holds
    over (word ∷ words) = tt

pub gives_value : {A : Type 0} (x : A) (P : A → Type 0) → P x → Gives (give x) P
gives_value x P holds = record { holds = λ words. holds }

at_most_gives : (most n : ℕ) → IfOk (at_most most (Some n)) (λ n. n ≤ most)
at_most_gives most n = grind (arith, common_steps)

pub number_gives : (most : ℕ) → Gives (number_word most) (λ n. n ≤ most)
number_gives most = gives_word (λ word. at_most most (number_in word)) _ (λ word. each (number_in word))
  where
    each : (n : Option ℕ) → IfOk (at_most most n) (λ n. n ≤ most)
    each None = tt
    each (Some n) = at_most_gives most n
