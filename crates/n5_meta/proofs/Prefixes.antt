-- A list that was read so far, before what is still to be read.
use Rattle.std.proofs.Common.{◌≡◌, List, [], ◌∷◌, ◌++◌, Result, Ok, Err, refl, sym, ap}
use Rattle.std.proofs.lemmas.List.{append_assoc}
use Rattle.n5_meta.specs.Rules.{◌>>=◌}

abbrev pub prefixed : {A E : Type 0} → List A → Result (List A) E → Result (List A) E
prefixed front (Ok rest) = Ok (front ++ rest)
prefixed front (Err err) = Err err

-- one item more was read
pub prefixed_more : {A E : Type 0} (front : List A) (x : A) (rest : Result (List A) E) → prefixed front (rest >>= (λ xs. Ok (x ∷ xs))) ≡ prefixed (front ++ x ∷ []) rest
prefixed_more front x (Ok rest) = ap (λ xs. Ok xs) (sym (append_assoc front (x ∷ []) rest))
prefixed_more front x (Err err) = refl

-- nothing was read yet
pub prefixed_none : {A E : Type 0} (rest : Result (List A) E) → prefixed [] rest ≡ rest
prefixed_none (Ok rest) = refl
prefixed_none (Err err) = refl
