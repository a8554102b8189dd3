-- Calls of two parts, and what one call changes.
use Rattle.std.proofs.Common.{◌≡◌, ◌∙◌, ℕ, ◌<◌, List, [], ◌∷◌, ◌++◌, length, slice_index_or, get_or-set_same, get_or-set_other, refl, sym, ap, subst}
use Rattle.std.proofs.Math.ListN.{length-set}
use Rattle.std.proofs.lemmas.Option.{slice_get_within, get_or_from_slice_get}
use Rattle.cell_store.specs.Store.{Contents, Gets, Puts, untold}
use Rattle.store_calls.specs.Calls.{StoreCall, Getting, Putting, OneChanges, IsCalled, AreCalled, FailAlike}

-- calls of two parts, and of the parts
pub called_apart : (p q : List StoreCall) (a c : List Contents) → AreCalled (p ++ q) a c → (b : List Contents) × AreCalled p a b × AreCalled q b c
called_apart [] q a c h = (a, refl, h)
called_apart (x ∷ p) q a c h = let more = called_apart p q h.0 c h.2 in (more.0, (h.0, h.1, more.1), more.2)

-- after equal calls the others fail alike
pub fail_after : (k m n : List StoreCall) → FailAlike (k ++ m) (k ++ n) → FailAlike m n
fail_after [] m n h = h
fail_after (x ∷ k) m n h = fail_after k m n h.2

-- a store of a list; one out of range tells nothing
abbrev pub store_at : List Contents → ℕ → Contents
store_at stores lane = slice_index_or stores lane (untold 0)

-- what one call changed
pub record Changed (P : Contents → Contents → Type 0) (lane : ℕ) (old new : List Contents) : Type 0 where
  pub inside : lane < length old
  pub here : P (store_at old lane) (store_at new lane)
  pub elsewhere : (other : ℕ) → (other ≡ lane → ⊥) → store_at new other ≡ store_at old other
  pub lanes : length new ≡ length old

pub changed : (P : Contents → Contents → Type 0) (lane : ℕ) (old new : List Contents) → OneChanges P lane old new → Changed P lane old new
changed P lane old new h =
    let lt = slice_get_within old lane h.0 h.2 in
    let was : store_at old lane ≡ h.0 = get_or_from_slice_get old lane h.0 (untold 0) h.2 in
    let is : store_at new lane ≡ h.1 = ap (λ l. store_at l lane) h.4 ∙ get_or-set_same old lane h.1 (untold 0) lt in
    record {
      inside = lt;
      here = subst (λ s. P s (store_at new lane)) (sym was) (subst (λ s. P h.0 s) (sym is) h.3);
      elsewhere = λ other ne. ap (λ l. store_at l other) h.4 ∙ get_or-set_other old lane other h.1 (untold 0) ne;
      lanes = ap length h.4 ∙ length-set old lane h.1;
    }

-- calls keep the number of stores
call_lanes : (x : StoreCall) (old new : List Contents) → IsCalled x old new → length new ≡ length old
call_lanes (Getting lane key limit answer found) old new h = (changed (λ s t. Gets s t key limit answer found) lane old new h).lanes
call_lanes (Putting lane key bytes answer) old new h = (changed (λ s t. Puts s t key bytes answer) lane old new h).lanes

pub called_lanes : (k : List StoreCall) (old new : List Contents) → AreCalled k old new → length new ≡ length old
called_lanes [] old new h = ap length h
called_lanes (x ∷ k) old new h = called_lanes k h.0 new h.2 ∙ call_lanes x old h.0 h.1
