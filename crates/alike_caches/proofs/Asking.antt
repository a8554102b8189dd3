-- Fetches of a cell from stores that hold alike under its keys.
use Rattle.std.proofs.Common.{◌≡◌, ◌≢◌, ◌∙◌, ℕ, ◌<◌, Bool, true, false, IsTrue, List, [], ◌∷◌, ◌++◌, None, Some, Result, Ok, Err, refl, sym, ap, subst}
use Rattle.std.specs.Str.{bytes_eq}
use Rattle.std.proofs.lemmas.Bool.{false_from_ne_true}
use Rattle.std.proofs.lemmas.Slice.Eq.{bytes_eq-Decides}
use Rattle.cell_grid.specs.declared.level.Level.{Level}
use Rattle.cell_grid.specs.Pyramid.{cells_of}
use Rattle.cell_store.specs.Store.{Contents, KeepsTo}
use Rattle.cell_store.specs.declared.store.Got.{Got}
use Rattle.cell_store.specs.declared.store.Got.TheVariants as got
use Rattle.store_calls.specs.Calls.{StoreCall, Getting, AreCalled, FailAlike}
use Rattle.store_calls.proofs.Holds.{HoldAlike, same_get, get_first, get_second}
use Rattle.cell_file.specs.declared.errors.FetchErr.{FetchErr}
use Rattle.cell_file.specs.declared.errors.FetchErr.TheVariants.{Malformed}
use Rattle.cell_file.specs.Asks.{Decides, AreFetch, fetch_calls}
use Rattle.cell_file.specs.Keys.{KeyNames, edited_key, base_key}
use Rattle.cell_file.specs.Laws.{AreTheirOwn}
use Rattle.cell_file.specs.Standing.{limit_of, block_rule, malformed, refusal_of}
use Rattle.cell_file.proofs.KeyLemmas.{are_their_own}
use Rattle.cell_file.proofs.StandingLemmas.{malformed_some, values_short, refusal_short, by_edited, is_standing}
use Rattle.arr_history.specs.Legal.{IsMarked}
use Rattle.sole_cache.specs.Cached.{Cached, slot_of, state_of, state_at}
use Rattle.alike_caches.specs.Alike.{AreAlike, IsSettled}

-- bytes within the limit that give values are not refused
not_both : (levels : List Level) (keys : KeyNames) (cell : ℕ) (edited : Bool) (answer : Got) (found values : List ℕ) (err : FetchErr) → KeepsTo (limit_of levels cell) answer found
    → Decides levels cell edited answer found (Ok (tt {0})) values → Decides levels cell edited answer found (Err err) values → ⊥
not_both levels keys cell edited got.Found found values err short p q =
    let rule = malformed_some edited (block_rule levels cell found) err q in
    let by = by_edited levels keys (λ _. Some found) cell found refl in
    let refused : refusal_of levels keys (λ _. Some found) cell ≡ Some (Malformed true rule.0) = by.1 ∙ refusal_short levels cell true found short ∙ ap (malformed true) rule.1.0 in
    clash values (sym p ∙ sym (values_short levels cell found short) ∙ sym by.0 ∙ (is_standing levels keys (λ _. Some found) cell).void (Malformed true rule.0) refused)
  where
    clash : {X : Type 0} (x : X) → Some x ≡ None → ⊥
    clash x e = cc
not_both levels keys cell edited got.Missing found values err short p q = q
not_both levels keys cell edited (got.TooLong len) found values err short p q = p
not_both levels keys cell edited got.Failed found values err short p q = p
not_both levels keys cell edited got.NoMemory found values err short p q = p

same_err : (levels : List Level) (cell : ℕ) (edited : Bool) (answer : Got) (found v w : List ℕ) (a b : FetchErr) → Decides levels cell edited answer found (Err a) v → Decides levels cell edited answer found (Err b) w → b ≡ a
same_err levels cell edited got.Found found v w a b p q = cc
same_err levels cell edited got.Missing found v w a b p q = absurd p
same_err levels cell edited (got.TooLong len) found v w a b p q = q ∙ sym p
same_err levels cell edited got.Failed found v w a b p q = q ∙ sym p
same_err levels cell edited got.NoMemory found v w a b p q = q ∙ sym p

-- what decides, decides one answer
decides_same : (levels : List Level) (keys : KeyNames) (cell : ℕ) (edited : Bool) (answer : Got) (found v w : List ℕ) (r s : Result (Unit {0}) FetchErr) → KeepsTo (limit_of levels cell) answer found → Decides levels cell edited answer found r v → Decides levels cell edited answer found s w → s ≡ r
decides_same levels keys cell edited answer found v w (Ok x) (Ok y) short p q = refl
decides_same levels keys cell edited answer found v w (Ok x) (Err b) short p q = absurd (not_both levels keys cell edited answer found v b short p q)
decides_same levels keys cell edited answer found v w (Err a) (Ok y) short p q = absurd (not_both levels keys cell edited answer found w a short q p)
decides_same levels keys cell edited answer found v w (Err a) (Err b) short p q = ap Err (same_err levels cell edited answer found v w a b p q)

-- What two fetches of a cell do, of stores that hold alike.
pub record FetchesAlike (P : ℕ → List ℕ → Type 0) (r s : Result (Unit {0}) FetchErr) (k l : List StoreCall) (stores others : List Contents) : Type 0 where
  pub result : s ≡ r
  pub calls : l ≡ k
  pub hold : HoldAlike P stores others

module _ (P : ℕ → List ℕ → Type 0) (levels : List Level) (keys : KeyNames) (lane cell : ℕ) (edited : P lane (edited_key levels cell)) (base : P lane (base_key levels keys cell)) where
  -- the last get, which decides
  last_get : (key : List ℕ) → P lane key → (stores others stores' others' : List Contents) (a b : Got) (x y : List ℕ) (m n : List StoreCall) → HoldAlike P stores others
      → AreCalled (Getting lane key (limit_of levels cell) a x ∷ []) stores stores' → AreCalled (Getting lane key (limit_of levels cell) b y ∷ []) others others'
      → FailAlike (Getting lane key (limit_of levels cell) a x ∷ m) (Getting lane key (limit_of levels cell) b y ∷ n) → (b ≡ a) × (y ≡ x) × HoldAlike P stores' others' × KeepsTo (limit_of levels cell) a x
  last_get key p stores others stores' others' a b x y m n h f g fail =
      let same = same_get P stores others f.0 g.0 lane key (limit_of levels cell) a b x y h p f.1 g.1 fail.0 fail.1 in
      let one = get_first P stores others f.0 lane key (limit_of levels cell) a x h f.1 in
      let two = get_second P f.0 others g.0 lane key (limit_of levels cell) b y one g.1 in
      (same.0, same.1, subst (λ s. HoldAlike P s others') (sym f.2) (subst (λ o. HoldAlike P f.0 o) (sym g.2) two), f.1.3.keeps)

  -- the calls of two fetches, by what decides of each
  calls_same : (stores others stores' others' : List Contents) (p q : Bool) (a b : Got) (x y : List ℕ) (m n : List StoreCall) → HoldAlike P stores others
      → (IsTrue p → a ≢ got.Missing) → (IsTrue q → b ≢ got.Missing) → AreCalled (fetch_calls levels keys lane cell p a x) stores stores' → AreCalled (fetch_calls levels keys lane cell q b y) others others'
      → FailAlike (fetch_calls levels keys lane cell p a x ++ m) (fetch_calls levels keys lane cell q b y ++ n) → (q ≡ p) × (b ≡ a) × (y ≡ x) × HoldAlike P stores' others' × KeepsTo (limit_of levels cell) a x
  calls_same stores others stores' others' true true a b x y m n h u v f g fail = let last = last_get (edited_key levels cell) edited stores others stores' others' a b x y m n h f g fail in (refl, last.0, last.1, last.2, last.3)
  calls_same stores others stores' others' false false a b x y m n h u v f g fail =
      let one = get_first P stores others f.0 lane (edited_key levels cell) (limit_of levels cell) got.Missing [] h f.1 in
      let two = get_second P f.0 others g.0 lane (edited_key levels cell) (limit_of levels cell) got.Missing [] one g.1 in
      let last = last_get (base_key levels keys cell) base f.0 g.0 stores' others' a b x y m n two f.2 g.2 fail.2 in
      (refl, last.0, last.1, last.2, last.3)
  calls_same stores others stores' others' true false a b x y m n h u v f g fail =
      let same = same_get P stores others f.0 g.0 lane (edited_key levels cell) (limit_of levels cell) a got.Missing x [] h edited f.1 g.1 fail.0 fail.1 in
      absurd (u refl (sym same.0))
  calls_same stores others stores' others' false true a b x y m n h u v f g fail =
      let same = same_get P stores others f.0 g.0 lane (edited_key levels cell) (limit_of levels cell) got.Missing b [] y h edited f.1 g.1 fail.0 fail.1 in
      absurd (v refl same.0)

  -- Two fetches of the cell ask the same and answer the same.
  pub fetches_alike : (stores others stores' others' : List Contents) (r s : Result (Unit {0}) FetchErr) (k l m n : List StoreCall) → HoldAlike P stores others → AreFetch levels keys lane cell r k → AreFetch levels keys lane cell s l
      → AreCalled k stores stores' → AreCalled l others others' → FailAlike (k ++ m) (l ++ n) → FetchesAlike P r s k l stores' others'
  fetches_alike stores others stores' others' r s k l m n h p q f g fail =
      let same = calls_same stores others stores' others' p.edited q.edited p.answer q.answer p.found q.found m n h p.held q.held (subst (λ c. AreCalled c stores stores') p.calls_are f) (subst (λ c. AreCalled c others others') q.calls_are g)
      (subst (λ c. FailAlike (c ++ m) (fetch_calls levels keys lane cell q.edited q.answer q.found ++ n)) p.calls_are (subst (λ c. FailAlike (k ++ m) (c ++ n)) q.calls_are fail)) in
      let decided : Decides levels cell p.edited p.answer p.found s q.values =
      subst (λ e. Decides levels cell e p.answer p.found s q.values) same.0 (subst (λ b. Decides levels cell q.edited b p.found s q.values) same.1 (subst (λ y. Decides levels cell q.edited q.answer y s q.values) same.2 q.decides)) in
      record {
        result = decides_same levels keys cell p.edited p.answer p.found p.values q.values r s same.4 p.decides decided;
        calls = q.calls_are ∙ ap (λ e. fetch_calls levels keys lane cell e q.answer q.found) same.0 ∙ ap (λ b. fetch_calls levels keys lane cell p.edited b q.found) same.1
            ∙ ap (λ y. fetch_calls levels keys lane cell p.edited p.answer y) same.2 ∙ sym p.calls_are;
        hold = same.3;
      }

-- bytes that differ are not equal
pub differ : (key other : List ℕ) → (key ≡ other → ⊥) → bytes_eq key other ≡ false
differ key other ne = false_from_ne_true (bytes_eq key other) (λ e. ne ((bytes_eq-Decides key other).0 e))

-- The keys of a cell that is absent are settled.
module _ (c d : Cached) (a : AreAlike c d) (cell lane : ℕ) (inside : cell < cells_of c.levels) (absent : slot_of c cell ≡ None) where
  own : AreTheirOwn c.keys
  own = are_their_own c.keys a.own

  not_marked : (n : ℕ) → IsMarked ((state_of c).cells n) → n ≡ cell → ⊥
  not_marked n marked e = subst (λ o. IsMarked (state_at c.slots o)) absent (subst (λ i. IsMarked ((state_of c).cells i)) e marked)

  pub settled_edited : IsSettled c lane (edited_key c.levels cell)
  settled_edited n below there marked = differ _ _ (λ e. not_marked n marked
      (own.edited n cell (subst (λ l. n < cells_of l) (sym a.first.fitted.keyed) below) (subst (λ l. cell < cells_of l) (sym a.first.fitted.keyed) inside)
      (subst (λ l. edited_key l n ≡ edited_key l cell) (sym a.first.fitted.keyed) e)))

  pub settled_base : IsSettled c lane (base_key c.levels c.keys cell)
  settled_base n below there marked = differ _ _ (λ e. not_marked n marked
      (own.base n cell (subst (λ l. n < cells_of l) (sym a.first.fitted.keyed) below) (subst (λ l. cell < cells_of l) (sym a.first.fitted.keyed) inside)
      (subst (λ l. edited_key l n ≡ base_key l c.keys cell) (sym a.first.fitted.keyed) e)))
