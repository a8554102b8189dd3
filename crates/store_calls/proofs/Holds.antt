-- Calls of the stores of two lists that hold the same under some keys.
use Rattle.std.proofs.Common.{◌≡◌, ◌∙◌, inl, inr, ◌⊎◌, ℕ, ◌<◌, ◌==◌, Bool, true, false, IsTrue, List, length, refl, sym, ap, subst, arith}
use Rattle.std.specs.Str.{bytes_eq}
use Rattle.std.proofs.lemmas.Bool.{eqb-true}
use Rattle.std.proofs.lemmas.Bool.Decides.{nat_tests}
use Rattle.cell_store.specs.Store.{Contents, Gets, Puts, put_in, held_of}
use Rattle.cell_store.specs.declared.store.Got.{Got}
use Rattle.cell_store.specs.declared.store.Put.{Put}
use Rattle.cell_store.specs.declared.store.Put.TheVariants as put
use Rattle.store_calls.specs.Calls.{Getting, Putting, IsCalled, is_failed, wants_memory}
use Rattle.store_calls.proofs.Dues.{due_answer, is_due}
use Rattle.store_calls.proofs.Parts.{store_at, Changed, changed}

-- Two lists of stores that tell, and hold the same under these keys of these stores.
pub record HoldAlike (P : ℕ → List ℕ → Type 0) (stores others : List Contents) : Type 0 where
  pub lanes : length others ≡ length stores
  pub told : (lane : ℕ) → lane < length stores → IsTrue (store_at stores lane).told × IsTrue (store_at others lane).told
  pub held : (lane : ℕ) (key : List ℕ) → lane < length stores → P lane key → (held_of (store_at others lane)) key ≡ (held_of (store_at stores lane)) key

-- the same under fewer keys
pub hold_fewer : (P Q : ℕ → List ℕ → Type 0) (stores others : List Contents) → ((lane : ℕ) (key : List ℕ) → Q lane key → P lane key) → HoldAlike P stores others → HoldAlike Q stores others
hold_fewer P Q stores others f h = record { lanes = h.lanes; told = h.told; held = λ lane key lt q. h.held lane key lt (f lane key q) }

-- a number is another or it isn't
pub same_or_not : (a b : ℕ) → (a ≡ b) ⊎ (a ≡ b → ⊥)
same_or_not a b = choose (a == b) refl
  where
    choose : (r : Bool) → (a == b) ≡ r → (a ≡ b) ⊎ (a ≡ b → ⊥)
    choose true e = inl (eqb-true a b e)
    choose false e = inr (differ a b e)
      where
        differ : (d e : ℕ) → (d == e) ≡ false → d ≡ e → ⊥
        differ d e h p = grind (arith, nat_tests)

-- stores that a get left
module _ (P : ℕ → List ℕ → Type 0) (stores others after : List Contents) (lane : ℕ) (key : List ℕ) (limit : ℕ) (answer : Got) (found : List ℕ) (h : HoldAlike P stores others) where
  pub get_first : IsCalled (Getting lane key limit answer found) stores after → HoldAlike P after others
  get_first g = record {
    lanes = h.lanes ∙ sym change.lanes;
    told = λ l lt. (subst IsTrue (sym (same_told l)) (h.told l (within l lt)).0, (h.told l (within l lt)).1);
    held = λ l k lt p. h.held l k (within l lt) p ∙ ap (λ f. f k) (sym (same_held l (within l lt)));
  }
    where
      change : Changed (λ x y. Gets x y key limit answer found) lane stores after
      change = changed (λ x y. Gets x y key limit answer found) lane stores after g

      within : (l : ℕ) → l < length after → l < length stores
      within l lt = subst (λ n. l < n) change.lanes lt

      same_told : (l : ℕ) → (store_at after l).told ≡ (store_at stores l).told
      same_told l = elim (same_or_not l lane) [
        | inl e ↦ subst (λ i. (store_at after i).told ≡ (store_at stores i).told) (sym e) change.here.told
        | inr ne ↦ ap (λ (s : Contents). s.told) (change.elsewhere l ne)
      ]

      same_held : (l : ℕ) → l < length stores → (held_of (store_at after l)) ≡ (held_of (store_at stores l))
      same_held l lt = elim (same_or_not l lane) [
        | inl e ↦ subst (λ i. (held_of (store_at after i)) ≡ (held_of (store_at stores i))) (sym e) (change.here.unchanged (h.told lane change.inside).0)
        | inr ne ↦ ap (λ (s : Contents). (held_of s)) (change.elsewhere l ne)
      ]

  pub get_second : IsCalled (Getting lane key limit answer found) others after → HoldAlike P stores after
  get_second g = record {
    lanes = change.lanes ∙ h.lanes;
    told = λ l lt. ((h.told l lt).0, subst IsTrue (sym (same_told l)) (h.told l lt).1);
    held = λ l k lt p. ap (λ f. f k) (same_held l lt) ∙ h.held l k lt p;
  }
    where
      change : Changed (λ x y. Gets x y key limit answer found) lane others after
      change = changed (λ x y. Gets x y key limit answer found) lane others after g

      same_told : (l : ℕ) → (store_at after l).told ≡ (store_at others l).told
      same_told l = elim (same_or_not l lane) [
        | inl e ↦ subst (λ i. (store_at after i).told ≡ (store_at others i).told) (sym e) change.here.told
        | inr ne ↦ ap (λ (s : Contents). s.told) (change.elsewhere l ne)
      ]

      same_held : (l : ℕ) → l < length stores → (held_of (store_at after l)) ≡ (held_of (store_at others l))
      same_held l lt = elim (same_or_not l lane) [
        | inl e ↦ subst (λ i. (held_of (store_at after i)) ≡ (held_of (store_at others i))) (sym e) (change.here.unchanged (h.told lane (subst (λ n. lane < n) h.lanes change.inside)).1)
        | inr ne ↦ ap (λ (s : Contents). (held_of s)) (change.elsewhere l ne)
      ]

-- The same get of both, which failed alike, gives the same answer and the same bytes.
pub same_get : (P : ℕ → List ℕ → Type 0) (stores others after then : List Contents) (lane : ℕ) (key : List ℕ) (limit : ℕ) (a b : Got) (x y : List ℕ) → HoldAlike P stores others → P lane key
    → IsCalled (Getting lane key limit a x) stores after → IsCalled (Getting lane key limit b y) others then
    → is_failed (Getting lane key limit b y) ≡ is_failed (Getting lane key limit a x) → wants_memory (Getting lane key limit b y) ≡ wants_memory (Getting lane key limit a x)
    → (b ≡ a) × (y ≡ x)
same_get P stores others after then lane key limit a b x y h p f g failed memory = (ap (λ (t : Got × List ℕ). t.0) pairs, ap (λ (t : Got × List ℕ). t.1) pairs)
  where
    first : Changed (λ s t. Gets s t key limit a x) lane stores after
    first = changed (λ s t. Gets s t key limit a x) lane stores after f

    second : Changed (λ s t. Gets s t key limit b y) lane others then
    second = changed (λ s t. Gets s t key limit b y) lane others then g

    one : ◌≡◌ {A = Got × List ℕ} (a, x) (due_answer ((held_of (store_at stores lane)) key) limit (is_failed (Getting lane key limit a x)) (wants_memory (Getting lane key limit a x)))
    one = is_due ((held_of (store_at stores lane)) key) lane key limit a x (first.here.gives (h.told lane first.inside).0) first.here.empty

    two : ◌≡◌ {A = Got × List ℕ} (b, y) (due_answer ((held_of (store_at others lane)) key) limit (is_failed (Getting lane key limit b y)) (wants_memory (Getting lane key limit b y)))
    two = is_due ((held_of (store_at others lane)) key) lane key limit b y (second.here.gives (h.told lane first.inside).1) second.here.empty

    pairs : ◌≡◌ {A = Got × List ℕ} (b, y) (a, x)
    pairs = two ∙ ap (λ o. due_answer o limit (is_failed (Getting lane key limit b y)) (wants_memory (Getting lane key limit b y))) (h.held lane key first.inside p)
        ∙ ap (λ r. due_answer ((held_of (store_at stores lane)) key) limit r (wants_memory (Getting lane key limit b y))) failed
        ∙ ap (λ r. due_answer ((held_of (store_at stores lane)) key) limit (is_failed (Getting lane key limit a x)) r) memory ∙ sym one

-- under which keys the stores hold the same after a put under a key: under that one too where it was done, and not under that one where it wasn't
abbrev pub AfterPut : Put → (ℕ → List ℕ → Type 0) → ℕ → List ℕ → ℕ → List ℕ → Type 0
AfterPut put.Done P lane key l k = (lane ≡ l → bytes_eq key k ≡ false) → P l k
AfterPut put.Failed P lane key l k = (lane ≡ l → bytes_eq key k ≡ false) × P l k
AfterPut put.NoMemory P lane key l k = (lane ≡ l → bytes_eq key k ≡ false) × P l k

-- what is held after a put, of two stores that held the same under a key if it isn't the one that was put
same_leaves : (answer : Put) (P : ℕ → List ℕ → Type 0) (lane : ℕ) (key bytes : List ℕ) (l : ℕ) (k : List ℕ) (s t s' t' : Contents) → lane ≡ l → IsTrue s.told → IsTrue t.told → Puts s s' key bytes answer → Puts t t' key bytes answer
    → (P l k → (held_of t) k ≡ (held_of s) k) → AfterPut answer P lane key l k → (held_of t') k ≡ (held_of s') k
same_leaves put.Done P lane key bytes l k s t s' t' e told other p q same after = q.leaves other k ∙ choose (bytes_eq key k) refl ∙ sym (p.leaves told k)
  where
    choose : (b : Bool) → bytes_eq key k ≡ b → put_in (held_of t) key bytes k ≡ put_in (held_of s) key bytes k
    choose true r = rw r refl
    choose false r = rw r (same (after (λ _. r)))
same_leaves put.Failed P lane key bytes l k s t s' t' e told other p q same after = q.leaves other k (after.0 e) ∙ same after.1 ∙ sym (p.leaves told k (after.0 e))
same_leaves put.NoMemory P lane key bytes l k s t s' t' e told other p q same after = q.leaves other k (after.0 e) ∙ same after.1 ∙ sym (p.leaves told k (after.0 e))

still_holds : (answer : Put) (P : ℕ → List ℕ → Type 0) (lane : ℕ) (key : List ℕ) (l : ℕ) (k : List ℕ) → (l ≡ lane → ⊥) → AfterPut answer P lane key l k → P l k
still_holds put.Done P lane key l k ne after = after (λ e. absurd (ne (sym e)))
still_holds put.Failed P lane key l k ne after = after.1
still_holds put.NoMemory P lane key l k ne after = after.1

-- The same put of both.
pub same_put : (P : ℕ → List ℕ → Type 0) (stores others after then : List Contents) (lane : ℕ) (key bytes : List ℕ) (answer : Put) → HoldAlike P stores others
    → IsCalled (Putting lane key bytes answer) stores after → IsCalled (Putting lane key bytes answer) others then → HoldAlike (AfterPut answer P lane key) after then
same_put P stores others after then lane key bytes answer h f g = record {
  lanes = second.lanes ∙ h.lanes ∙ sym first.lanes;
  told = λ l lt. (subst IsTrue (sym (same_told stores after l first)) (h.told l (within l lt)).0, subst IsTrue (sym (same_told others then l second)) (h.told l (within l lt)).1);
  held = λ l k lt p. same_held l k (within l lt) p;
}
  where
    first : Changed (λ s t. Puts s t key bytes answer) lane stores after
    first = changed (λ s t. Puts s t key bytes answer) lane stores after f

    second : Changed (λ s t. Puts s t key bytes answer) lane others then
    second = changed (λ s t. Puts s t key bytes answer) lane others then g

    within : (l : ℕ) → l < length after → l < length stores
    within l lt = subst (λ n. l < n) first.lanes lt

    same_told : (old new : List Contents) (l : ℕ) → Changed (λ s t. Puts s t key bytes answer) lane old new → (store_at new l).told ≡ (store_at old l).told
    same_told old new l change = elim (same_or_not l lane) [
      | inl e ↦ subst (λ i. (store_at new i).told ≡ (store_at old i).told) (sym e) change.here.told
      | inr ne ↦ ap (λ (s : Contents). s.told) (change.elsewhere l ne)
    ]

    same_held : (l : ℕ) (k : List ℕ) → l < length stores → AfterPut answer P lane key l k → (held_of (store_at then l)) k ≡ (held_of (store_at after l)) k
    same_held l k lt p = elim (same_or_not l lane) [
      | inl e ↦ subst (λ i. (held_of (store_at then i)) k ≡ (held_of (store_at after i)) k) (sym e)
          (same_leaves answer P lane key bytes l k (store_at stores lane) (store_at others lane) (store_at after lane) (store_at then lane) (sym e) (h.told lane first.inside).0 (h.told lane first.inside).1 first.here second.here
          (λ q. subst (λ i. (held_of (store_at others i)) k ≡ (held_of (store_at stores i)) k) e (h.held l k lt q)) p)
      | inr ne ↦ ap (λ (s : Contents). (held_of s) k) (second.elsewhere l ne) ∙ h.held l k lt (still_holds answer P lane key l k ne p) ∙ ap (λ (s : Contents). (held_of s) k) (sym (first.elsewhere l ne))
    ]
