-- Stores in a list, and what a call on one of them shows.
use Rattle.std.proofs.Common.{◌≡◌, ◌∙◌, ℕ, zero, suc, ◌<◌, ◌≤◌, true, false, IsTrue, List, [], ◌∷◌, ◌++◌, length, map, take, Option, Some, Result, Ok, Err, OnOk, OnErr, IfErr, if◌then◌else◌, slice_index_or, slice_set, get_or-set_same, refl, sym, ap, subst, arith}
use Rattle.std.proofs.Math.Seq.{take-append_seam}
use Rattle.std.proofs.lemmas.List.{map-set}
use Rattle.cell_store.specs.Store.{Contents, SameElsewhere, put_in, held_of, untold}
use Rattle.cell_file.specs.declared.errors.FetchErr.{FetchErr}
use Rattle.cell_file.specs.declared.errors.SaveErr.{SaveErr}
use Rattle.cell_file.specs.File.{put_entry, LogsFetch, LogsRefusedFetch, LogsRefusedSave}
use Rattle.sole_cache.specs.Cached.{store_in}
use Rattle.stood_arrays.specs.Moves.{StoreMoves, Fetched, Saved}
use Rattle.stood_arrays.proofs.Logs.{same_key}
use Rattle.stood_arrays.proofs.Moves.{fetches_move, refused_fetches_move, saves_move, refused_saves_move}

-- two equal things in place of two
pub both : {X Y : Type 0} (P : X → Y → Type 0) (a b : X) (x y : Y) → a ≡ b → x ≡ y → P b y → P a x
both P a b x y e f h = subst (λ z. P a z) (sym f) (subst (λ z. P z y) (sym e) h)

pub map_length : {X Y : Type 0} (f : X → Y) (xs : List X) → length (map f xs) ≡ length xs
map_length f [] = refl
map_length f (x ∷ xs) = ap suc (map_length f xs)

module _ {S : Type 0} (contents : S → Contents) where
  -- what a store in a list shows, and what one shows that was put there
  pub was_store : (xs : List S) (i : ℕ) (s : S) → s ≡ slice_index_or xs i s → i < length xs → store_in (map contents xs) i ≡ contents s
  was_store [] i s e lt = absurd (omega (arith, lt))
  was_store (x ∷ xs) zero s e lt = ap contents (sym e)
  was_store (x ∷ xs) (suc i) s e lt = was_store xs i s e (omega (arith, lt))

  pub is_store : (xs : List S) (i : ℕ) (s : S) → i < length xs → store_in (map contents (slice_set xs i s)) i ≡ contents s
  is_store xs i s lt = ap (λ l. slice_index_or l i (untold 0)) (map-set contents xs i s) ∙ get_or-set_same (map contents xs) i (contents s) (untold 0) (subst (λ k. i < k) (sym (map_length contents xs)) lt)

  pub one_store : (xs : List S) (i : ℕ) (s : S) → i < length xs → map contents (slice_set xs i s) ≡ slice_set (map contents xs) i (store_in (map contents (slice_set xs i s)) i)
  one_store xs i s lt = map-set contents xs i s ∙ ap (slice_set (map contents xs) i) (sym (is_store xs i s lt))

-- a list that was lent as a whole comes back as a whole
pub whole : (len : ℕ) (out rest : List ℕ) → length out ≡ len → take len (out ++ rest) ≡ out
whole len out rest h = subst (λ k. take k (out ++ rest) ≡ out) h (take-append_seam out rest)

module _ (key : List ℕ) (old new : Contents) (told : new.told ≡ old.told) (told_log : new.told_log ≡ old.told_log) (never : old.faults ≤ new.faults) where
  moved : StoreMoves old new
  moved = record { told = told; told_log = told_log; never_falls = never }

  pub fetched_ok : {X : Type 0} (r : Result X FetchErr) (base : List ℕ) → (IsTrue old.told → (held_of new) ≡ (held_of old)) → (IsTrue old.told_log → OnOk r (LogsFetch old.log new.log key base)) → OnOk r (Fetched key true old new)
  fetched_ok (Ok x) base held logs = fetches_move key base old new moved held logs
  fetched_ok (Err e) base held logs = tt

  pub fetched_err : {X : Type 0} (r : Result X FetchErr) (base : List ℕ) → (IsTrue old.told → (held_of new) ≡ (held_of old)) → (IsTrue old.told_log → IfErr r (λ err. LogsRefusedFetch old.log new.log key base err)) → OnErr r (Fetched key false old new)
  fetched_err (Ok x) base held logs = tt
  fetched_err (Err e) base held logs = refused_fetches_move key base e old new moved held logs

  pub saved_ok : {X : Type 0} (r : Result X SaveErr) → (IsTrue old.told → SameElsewhere (held_of old) (held_of new) key) → (IsTrue old.told_log → OnOk r (new.log ≡ old.log ++ put_entry key true ∷ [])) → OnOk r (Saved key true old new)
  saved_ok (Ok x) held logs = saves_move key old new moved held logs
  saved_ok (Err e) held logs = tt

  pub saved_err : {X : Type 0} (r : Result X SaveErr) → (IsTrue old.told → SameElsewhere (held_of old) (held_of new) key) → (IsTrue old.told_log → IfErr r (λ err. LogsRefusedSave old.log new.log key err)) → OnErr r (Saved key false old new)
  saved_err (Ok x) held logs = tt
  saved_err (Err e) held logs = refused_saves_move key e old new moved held logs

-- what holds in one case of an answer holds of what follows from it
pub map_ok : {X E : Type 0} (r : Result X E) (A B : Type 0) → (A → B) → OnOk r A → OnOk r B
map_ok (Ok x) A B f h = f h
map_ok (Err e) A B f h = tt

-- bytes that were put stand under their key
pub put_there : (old new : List ℕ → Option (List ℕ)) (key bytes : List ℕ) → ((other : List ℕ) → new other ≡ put_in old key bytes other) → new key ≡ Some bytes
put_there old new key bytes h = h key ∙ ap (λ b. if b then Some bytes else old key) (same_key key)

pub any_err : {X E : Type 0} (r : Result X E) (A : Type 0) → A → OnErr r A
any_err (Ok x) A a = tt
any_err (Err e) A a = a
