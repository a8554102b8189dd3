-- Which numbers are in a list, after a part is taken out, put in or put behind.
use Rattle.std.proofs.Common.{◌≡◌, ◌≢◌, ℕ, inl, inr, Bool, true, false, not, ◌&&◌, ◌||◌, cond, List, [], ◌∷◌, ◌++◌, zero, suc, refl, sym, ap, subst, ◌∙◌}
use Rattle.std.specs.List.{slice_get}
use Rattle.std.specs.Prelude.{◌==◌, Some}
use Rattle.std.proofs.lemmas.Bool.{false≢true, eqb-false, eq-eqb, ne_eqb, and_parts, and_from, or_parts, or_from, or_left, or_right, cases_eq, not-true, not_from_false}
use Rattle.std.proofs.lemmas.List.Folds.{list_any-append}
use Rattle.ix_links.specs.NodeList.{contains, without, is_distinct}

-- two numbers of which the list has one alone
pub apart_by : (xs : List ℕ) (a b : ℕ) → contains xs a ≡ false → contains xs b ≡ true → a ≢ b
apart_by xs a b lacks has e = false≢true (sym lacks ∙ ap (λ v. contains xs v) e ∙ has)

pub contains_head : (x : ℕ) (xs : List ℕ) → contains (x ∷ xs) x ≡ true
contains_head x xs = or_left (x == x) (contains xs x) (eq-eqb x x refl)

pub contains_later : (y x : ℕ) (xs : List ℕ) → contains xs x ≡ true → contains (y ∷ xs) x ≡ true
contains_later y x xs h = or_right (x == y) (contains xs x) h

pub contains_not_head : (y x : ℕ) (xs : List ℕ) → contains (y ∷ xs) x ≡ false → x ≢ y
contains_not_head y x xs h = eqb-false x y (or_parts (x == y) (contains xs x) h).0

pub contains_not_later : (y x : ℕ) (xs : List ℕ) → contains (y ∷ xs) x ≡ false → contains xs x ≡ false
contains_not_later y x xs h = (or_parts (x == y) (contains xs x) h).1

pub contains-append : (xs ys : List ℕ) (x : ℕ) → contains (xs ++ ys) x ≡ (contains xs x || contains ys x)
contains-append xs ys x = list_any-append (λ y. x == y) xs ys

pub contains-append_left : (xs ys : List ℕ) (x : ℕ) → contains xs x ≡ true → contains (xs ++ ys) x ≡ true
contains-append_left xs ys x h = contains-append xs ys x ∙ or_left (contains xs x) (contains ys x) h

pub contains-append_right : (xs ys : List ℕ) (x : ℕ) → contains ys x ≡ true → contains (xs ++ ys) x ≡ true
contains-append_right xs ys x h = contains-append xs ys x ∙ or_right (contains xs x) (contains ys x) h

pub contains-append_no : (xs ys : List ℕ) (x : ℕ) → contains (xs ++ ys) x ≡ false → (contains xs x ≡ false) × (contains ys x ≡ false)
contains-append_no xs ys x h = or_parts (contains xs x) (contains ys x) (sym (contains-append xs ys x) ∙ h)

pub contains-append_none : (xs ys : List ℕ) (x : ℕ) → contains xs x ≡ false → contains ys x ≡ false → contains (xs ++ ys) x ≡ false
contains-append_none xs ys x left right = contains-append xs ys x ∙ or_from (contains xs x) (contains ys x) left right

-- one more number, put in anywhere
pub contains-between : (xs ys : List ℕ) (n x : ℕ) → contains (xs ++ n ∷ ys) x ≡ ((x == n) || contains (xs ++ ys) x)
contains-between [] ys n x = refl
contains-between (z ∷ xs) ys n x =
    ap (λ b. (x == z) || b) (contains-between xs ys n x) ∙ or_swap (x == z) (x == n) (contains (xs ++ ys) x)
  where
    or_swap : (a b c : Bool) → (a || (b || c)) ≡ (b || (a || c))
    or_swap true true c = refl
    or_swap true false c = refl
    or_swap false true c = refl
    or_swap false false c = refl

-- ---- lists without repeats
pub distinct_head : (x : ℕ) (xs : List ℕ) → is_distinct (x ∷ xs) ≡ true → contains xs x ≡ false
distinct_head x xs h = not-true (contains xs x) (and_parts (not (contains xs x)) (is_distinct xs) h).0

pub distinct_tail : (x : ℕ) (xs : List ℕ) → is_distinct (x ∷ xs) ≡ true → is_distinct xs ≡ true
distinct_tail x xs h = (and_parts (not (contains xs x)) (is_distinct xs) h).1

pub distinct-cons : (x : ℕ) (xs : List ℕ) → contains xs x ≡ false → is_distinct xs ≡ true → is_distinct (x ∷ xs) ≡ true
distinct-cons x xs lacks h = and_from (not (contains xs x)) (is_distinct xs) (not_from_false (contains xs x) lacks) h

pub distinct-between : (xs ys : List ℕ) (n : ℕ) → contains (xs ++ ys) n ≡ false → is_distinct (xs ++ ys) ≡ true → is_distinct (xs ++ n ∷ ys) ≡ true
distinct-between [] ys n lacks h = distinct-cons n ys lacks h
distinct-between (x ∷ xs) ys n lacks h =
    distinct-cons x (xs ++ n ∷ ys)
    (contains-between xs ys n x ∙ or_from (x == n) (contains (xs ++ ys) x) (ne_eqb x n (λ e. contains_not_head x n (xs ++ ys) lacks (sym e))) (distinct_head x (xs ++ ys) h))
    (distinct-between xs ys n (contains_not_later x n (xs ++ ys) lacks) (distinct_tail x (xs ++ ys) h))

pub distinct_middle : (xs ys : List ℕ) (n : ℕ) → is_distinct (xs ++ n ∷ ys) ≡ true → contains (xs ++ ys) n ≡ false
distinct_middle [] ys n h = distinct_head n ys h
distinct_middle (x ∷ xs) ys n h =
    let here : contains (xs ++ n ∷ ys) x ≡ false = distinct_head x (xs ++ n ∷ ys) h in
    or_from (n == x) (contains (xs ++ ys) n)
    (ne_eqb n x (λ e. apart_by (xs ++ n ∷ ys) x n here (contains-append_right xs (n ∷ ys) n (contains_head n ys)) (sym e)))
    (distinct_middle xs ys n (distinct_tail x (xs ++ n ∷ ys) h))

pub distinct_around : (xs ys : List ℕ) (n : ℕ) → is_distinct (xs ++ n ∷ ys) ≡ true → is_distinct (xs ++ ys) ≡ true
distinct_around [] ys n h = distinct_tail n ys h
distinct_around (x ∷ xs) ys n h =
    distinct-cons x (xs ++ ys)
    ((or_parts (x == n) (contains (xs ++ ys) x) (sym (contains-between xs ys n x) ∙ distinct_head x (xs ++ n ∷ ys) h)).1)
    (distinct_around xs ys n (distinct_tail x (xs ++ n ∷ ys) h))

-- ---- taking a number out
pub without_none : (xs : List ℕ) (n : ℕ) → contains xs n ≡ false → without xs n ≡ xs
without_none [] n h = refl
without_none (x ∷ xs) n h =
    let other : (n == x) ≡ false = (or_parts (n == x) (contains xs n) h).0 in
    let later : without xs n ≡ xs = without_none xs n (contains_not_later x n xs h) in
    subst (λ (b : Bool). cond (not b) (x ∷ without xs n) (without xs n) ≡ x ∷ xs) (sym other) (ap (λ (zs : List ℕ). x ∷ zs) later)

pub without_at : (xs ys : List ℕ) (n : ℕ) → contains (xs ++ ys) n ≡ false → without (xs ++ n ∷ ys) n ≡ xs ++ ys
without_at [] ys n h =
    subst (λ (b : Bool). cond (not b) (n ∷ without ys n) (without ys n) ≡ ys) (sym (eq-eqb n n refl)) (without_none ys n h)
without_at (x ∷ xs) ys n h =
    let other : (n == x) ≡ false = (or_parts (n == x) (contains (xs ++ ys) n) h).0 in
    let later : without (xs ++ n ∷ ys) n ≡ xs ++ ys = without_at xs ys n (contains_not_later x n (xs ++ ys) h) in
    subst (λ (b : Bool). cond (not b) (x ∷ without (xs ++ n ∷ ys) n) (without (xs ++ n ∷ ys) n) ≡ x ∷ (xs ++ ys)) (sym other) (ap (λ (zs : List ℕ). x ∷ zs) later)

pub contains-without : (xs : List ℕ) (n x : ℕ) → contains (without xs n) x ≡ (not (n == x) && contains xs x)
contains-without [] n x = elim (n == x) as (λ b. false ≡ (not b && false)) [ true ↦ refl | false ↦ refl ]
contains-without (y ∷ xs) n x =
    elim (cases_eq n y) as (λ _. contains (without (y ∷ xs) n) x ≡ (not (n == x) && contains (y ∷ xs) x)) [
      | inl e ↦ subst (λ (b : Bool). contains (cond (not b) (y ∷ without xs n) (without xs n)) x ≡ (not (n == x) && ((x == y) || contains xs x))) (sym (eq-eqb n y e))
          (contains-without xs n x ∙ dropped e)
      | inr ne ↦ subst (λ (b : Bool). contains (cond (not b) (y ∷ without xs n) (without xs n)) x ≡ (not (n == x) && ((x == y) || contains xs x))) (sym (ne_eqb n y ne))
          (ap (λ b. (x == y) || b) (contains-without xs n x) ∙ stays ne)
    ]
  where
    dropped : n ≡ y → (not (n == x) && contains xs x) ≡ (not (n == x) && ((x == y) || contains xs x))
    dropped e = elim (cases_eq n x) as (λ _. (not (n == x) && contains xs x) ≡ (not (n == x) && ((x == y) || contains xs x))) [
      | inl same ↦ subst (λ (b : Bool). (not b && contains xs x) ≡ (not b && ((x == y) || contains xs x))) (sym (eq-eqb n x same)) refl
      | inr ne ↦ subst (λ (b : Bool). (not (n == x) && contains xs x) ≡ (not (n == x) && (b || contains xs x))) (sym (ne_eqb x y (λ same. ne (e ∙ sym same)))) refl
    ]

    stays : (n ≡ y → ⊥) → ((x == y) || (not (n == x) && contains xs x)) ≡ (not (n == x) && ((x == y) || contains xs x))
    stays ne = elim (cases_eq x y) as (λ _. ((x == y) || (not (n == x) && contains xs x)) ≡ (not (n == x) && ((x == y) || contains xs x))) [
      | inl same ↦ subst (λ (b : Bool). (b || (not (n == x) && contains xs x)) ≡ (not (n == x) && (b || contains xs x))) (sym (eq-eqb x y same))
          (subst (λ (b : Bool). true ≡ (not b && true)) (sym (ne_eqb n x (λ e. ne (e ∙ same)))) refl)
      | inr other ↦ subst (λ (b : Bool). (b || (not (n == x) && contains xs x)) ≡ (not (n == x) && (b || contains xs x))) (sym (ne_eqb x y other)) refl
    ]

-- a list that has the number, parted at it
pub record Parted (xs : List ℕ) (n : ℕ) : Type 0 where
  pub ahead : List ℕ
  pub behind : List ℕ
  pub is : xs ≡ ahead ++ n ∷ behind

pub part_at : (xs : List ℕ) (n : ℕ) → contains xs n ≡ true → Parted xs n
part_at [] n h = absurd (false≢true h)
part_at (x ∷ xs) n h =
    elim (cases_eq n x) [
      | inl e ↦ record { ahead = []; behind = xs; is = ap (λ v. v ∷ xs) (sym e) }
      | inr ne ↦
          let later : contains xs n ≡ true = subst (λ (b : Bool). (b || contains xs n) ≡ true) (ne_eqb n x ne) h in
          let p : Parted xs n = part_at xs n later in
          record { ahead = x ∷ p.ahead; behind = p.behind; is = ap (λ (zs : List ℕ). x ∷ zs) p.is }
    ]

-- the same by its place
pub contains_place : (xs : List ℕ) (place n : ℕ) → slice_get xs place ≡ Some n → contains xs n ≡ true
contains_place xs place n h = any_at xs place h
  where
    any_at : (zs : List ℕ) (k : ℕ) → slice_get zs k ≡ Some n → contains zs n ≡ true
    any_at [] k e = cc
    any_at (z ∷ zs) zero e = let same : z ≡ n = cc in or_left (n == z) (contains zs n) (eq-eqb n z (sym same))
    any_at (z ∷ zs) (suc k) e = contains_later z n zs (any_at zs k e)
