-- The calls of the stores that getting and putting a cell are.
use Rattle.std.proofs.Common.{◌≡◌, ℕ, zero, suc, ◌<◌, Bool, true, false, List, [], ◌∷◌, length, map, Some, Result, slice_get, slice_index_or, slice_set, refl, sym, ap, arith}
use Rattle.std.proofs.lemmas.List.{set-set}
use Rattle.cell_grid.specs.declared.level.Level.{Level}
use Rattle.cell_store.specs.Store.{Contents}
use Rattle.cell_store.specs.declared.store.Got.{Got}
use Rattle.cell_store.specs.declared.store.Put.{Put}
use Rattle.store_calls.specs.Calls.{StoreCall, AreCalled}
use Rattle.cell_file.specs.Asks.{IsAsked, IsPut, Asks, Decides, AreFetch, fetch_calls, save_answer, save_call}
use Rattle.cell_file.specs.Keys.{KeyNames}
use Rattle.cell_file.specs.declared.errors.FetchErr.{FetchErr}
use Rattle.cell_file.specs.declared.errors.SaveErr.{SaveErr}

-- what a store in a list shows
pub shown_at : {S : Type 0} (contents : S → Contents) (xs : List S) (i : ℕ) (s : S) → s ≡ slice_index_or xs i s → i < length xs → slice_get (map contents xs) i ≡ Some (contents s)
shown_at contents [] i s e lt = absurd (omega (arith, lt))
shown_at contents (x ∷ xs) zero s e lt = ap (λ y. Some (contents y)) (sym e)
shown_at contents (x ∷ xs) (suc i) s e lt = shown_at contents xs i s e (omega (arith, lt))

got_set : (xs : List Contents) (i : ℕ) (a b : Contents) → slice_get xs i ≡ Some a → slice_get (slice_set xs i b) i ≡ Some b
got_set [] i a b h = absurd (cc)
got_set (x ∷ xs) zero a b h = refl
got_set (x ∷ xs) (suc i) a b h = got_set xs i a b h

false_true : false ≡ true → ⊥
false_true e = cc

-- a fetch calls its store once or twice
pub fetch_called : (levels : List Level) (keys : KeyNames) (cell lane : ℕ) (shown : List Contents) (old new : Contents) (r : Result (Unit {0}) FetchErr) (values : List ℕ)
    → slice_get shown lane ≡ Some old → IsAsked levels keys cell old new r values → (calls : List StoreCall) × AreFetch levels keys lane cell r calls × AreCalled calls shown (slice_set shown lane new)
fetch_called levels keys cell lane shown old new r values at asked = go asked.edited asked.answer asked.found asked.asks asked.decides
  where
    go : (edited : Bool) (answer : Got) (found : List ℕ) → Asks levels keys cell old new edited answer found → Decides levels cell edited answer found r values
        → (calls : List StoreCall) × AreFetch levels keys lane cell r calls × AreCalled calls shown (slice_set shown lane new)
    go true answer found asks decides = (
      fetch_calls levels keys lane cell true answer found,
      record { edited = true; answer = answer; found = found; values = values; held = λ _. asks.1; calls_are = refl; decides = decides },
      (slice_set shown lane new, (old, new, at, asks.0, refl), refl),
    )
    go false answer found (mid, first, second) decides = (
      fetch_calls levels keys lane cell false answer found,
      record { edited = false; answer = answer; found = found; values = values; held = λ e. absurd (false_true e); calls_are = refl; decides = decides },
      (slice_set shown lane mid, (old, mid, at, first, refl), (slice_set shown lane new, (mid, new, got_set shown lane old mid at, second, sym (set-set shown lane mid new)), refl)),
    )

-- a save calls its store once
pub save_called : (levels : List Level) (cell lane : ℕ) (shown : List Contents) (old new : Contents) (values : List ℕ) (r : Result (Unit {0}) SaveErr)
    → slice_get shown lane ≡ Some old → IsPut levels cell old new values r → (answer : Put) × (r ≡ save_answer answer) × AreCalled (save_call levels lane cell values answer ∷ []) shown (slice_set shown lane new)
save_called levels cell lane shown old new values r at put = (put.answer, put.told, (slice_set shown lane new, (old, new, at, put.puts, refl), refl))
