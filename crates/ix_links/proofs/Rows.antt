-- Lists by number: which of them has a node, and what a change of one of them leaves.
use Rattle.std.proofs.Common.{◌≡◌, ◌≢◌, ℕ, ◌+◌, ◌<◌, inl, inr, Bool, true, false, ◌||◌, List, [], ◌∷◌, ◌++◌, length, get_or, set, map, zero, suc, refl, sym, ap, subst, ◌∙◌, length-set, get_or-set_same, get_or-set_other, arith, length-append}
use Rattle.std.specs.List.{list_any, position, position_or_len, IsDistinct, AllByRecursion}
use Rattle.std.specs.Prelude.{◌==◌, None, Some}
use Rattle.std.proofs.lemmas.Bool.{false≢true, or_parts, or_from, or_left, or_right, cases_eq, cases_Bool, lt-ltb, le-ltb}
use Rattle.std.proofs.lemmas.List.{ext_get_or, length-map}
use Rattle.std.proofs.lemmas.List.Sums.{position_or_len_is}
use Rattle.ix_links.specs.NodeList.{contains, without, is_distinct}
use Rattle.ix_links.proofs.Membership.{Parted, part_at, distinct_head, distinct_tail, distinct_middle, distinct_around, without_none, without_at, contains-append_none, contains_head, contains_later, distinct-cons}

-- whether a list has the node
abbrev pub row_has : List (List ℕ) → ℕ → Bool
row_has ls node = list_any (λ xs. contains xs node) ls

pub row_free : (ls : List (List ℕ)) (node : ℕ) → row_has ls node ≡ false → (k : ℕ) → contains (get_or ls k []) node ≡ false
row_free [] node h k = refl
row_free (xs ∷ ls) node h zero = (or_parts (contains xs node) (row_has ls node) h).0
row_free (xs ∷ ls) node h (suc k) = row_free ls node (or_parts (contains xs node) (row_has ls node) h).1 k

pub row_free_from : (ls : List (List ℕ)) (node : ℕ) → ((k : ℕ) → contains (get_or ls k []) node ≡ false) → row_has ls node ≡ false
row_free_from [] node f = refl
row_free_from (xs ∷ ls) node f = or_from (contains xs node) (row_has ls node) (f zero) (row_free_from ls node (λ k. f (suc k)))

pub row_at : (ls : List (List ℕ)) (k node : ℕ) → contains (get_or ls k []) node ≡ true → row_has ls node ≡ true
row_at [] k node h = absurd (false≢true h)
row_at (xs ∷ ls) zero node h = or_left (contains xs node) (row_has ls node) h
row_at (xs ∷ ls) (suc k) node h = or_right (contains xs node) (row_has ls node) (row_at ls k node h)

-- the list that has the node
pub record Found (ls : List (List ℕ)) (node : ℕ) : Type 0 where
  pub list : ℕ
  pub within : list < length ls
  pub has : contains (get_or ls list []) node ≡ true

pub row_found : (ls : List (List ℕ)) (node : ℕ) → row_has ls node ≡ true → Found ls node
row_found [] node h = absurd (false≢true h)
row_found (xs ∷ ls) node h =
    elim (cases_Bool (contains xs node)) [
      | inl here ↦ record { list = zero; within = omega arith; has = here }
      | inr away ↦
          let later : row_has ls node ≡ true = subst (λ (b : Bool). (b || row_has ls node) ≡ true) away h in
          let f : Found ls node = row_found ls node later in
          record { list = suc f.list; within = let w : f.list < length ls = f.within in omega arith; has = f.has }
    ]

-- a list past the last one is empty
pub row_within : (ls : List (List ℕ)) (k node : ℕ) → contains (get_or ls k []) node ≡ true → k < length ls
row_within [] k node h = absurd (false≢true h)
row_within (xs ∷ ls) zero node h = omega arith
row_within (xs ∷ ls) (suc k) node h = let w : k < length ls = row_within ls k node h in omega arith

-- a node taken out of each list
pub row_without : (ls : List (List ℕ)) (k node : ℕ) → get_or (map (λ xs. without xs node) ls) k [] ≡ without (get_or ls k []) node
row_without [] k node = refl
row_without (xs ∷ ls) zero node = refl
row_without (xs ∷ ls) (suc k) node = row_without ls k node

pub distinct-without : (xs : List ℕ) (n : ℕ) → is_distinct xs ≡ true → is_distinct (without xs n) ≡ true
distinct-without xs n once =
    elim (cases_Bool (contains xs n)) [
      | inl has ↦
          let p : Parted xs n = part_at xs n has in
          let once' : is_distinct (p.ahead ++ n ∷ p.behind) ≡ true = subst (λ (zs : List ℕ). is_distinct zs ≡ true) p.is once in
          subst (λ (zs : List ℕ). is_distinct (without zs n) ≡ true) (sym p.is)
          (subst (λ (zs : List ℕ). is_distinct zs ≡ true) (sym (without_at p.ahead p.behind n (distinct_middle p.ahead p.behind n once')))
          (distinct_around p.ahead p.behind n once'))
      | inr lacks ↦ subst (λ (zs : List ℕ). is_distinct zs ≡ true) (sym (without_none xs n lacks)) once
    ]

-- where one list alone has the node at its front, taking it out changes that list alone
pub row_without_first : (ls : List (List ℕ)) (list node : ℕ) (xs : List ℕ) → list < length ls → get_or ls list [] ≡ node ∷ xs →
    is_distinct (node ∷ xs) ≡ true → ((k : ℕ) → k ≢ list → contains (get_or ls k []) node ≡ false) →
    map (λ ys. without ys node) ls ≡ set ls list xs
row_without_first ls list node xs within is once alone =
    ext_get_or {A = List ℕ} [] (map (λ ys. without ys node) ls) (set ls list xs)
    (length-map ls (λ ys. without ys node) ∙ sym (length-set ls list xs))
    (λ k h. row_without ls k node ∙ elim (cases_eq k list) as (λ _. without (get_or ls k []) node ≡ get_or (set ls list xs) k []) [
      | inl e ↦ subst (λ (j : ℕ). without (get_or ls j []) node ≡ get_or (set ls list xs) j []) (sym e)
          (ap (λ (ys : List ℕ). without ys node) is ∙ without_at [] xs node (distinct_head node xs once) ∙ sym (get_or-set_same ls list xs [] within))
      | inr ne ↦ without_none (get_or ls k []) node (alone k ne) ∙ sym (get_or-set_other ls list k xs [] ne)
    ])

-- std's word for lists without repeats
pub IsDistinct-from_distinct : (xs : List ℕ) → is_distinct xs ≡ true → IsDistinct (λ x y. x == y) xs
unfolding IsDistinct
IsDistinct-from_distinct [] h = tt
IsDistinct-from_distinct (x ∷ xs) h = (others xs (distinct_head x xs h), IsDistinct-from_distinct xs (distinct_tail x xs h))
  where
    others : (ys : List ℕ) → contains ys x ≡ false → AllByRecursion (λ y. (x == y) ≡ false) ys
    others [] lacks = tt
    others (y ∷ ys) lacks = ((or_parts (x == y) (contains ys x) lacks).0, others ys (or_parts (x == y) (contains ys x) lacks).1)

-- the place of the one list that has the node
pub position_is : (ls : List (List ℕ)) (list node : ℕ) → list < length ls → contains (get_or ls list []) node ≡ true →
    ((k : ℕ) → k < list → contains (get_or ls k []) node ≡ false) → position (λ xs. contains xs node) ls ≡ Some list
position_is ls list node within has before =
    let at : position_or_len (λ xs. contains xs node) ls ≡ list = position_or_len_is (λ xs. contains xs node) ls list [] (omega arith) before (λ _. has) in
    rw at (rw (lt-ltb list (length ls) within))

pub position_none : (ls : List (List ℕ)) (node : ℕ) → ((k : ℕ) → contains (get_or ls k []) node ≡ false) → position (λ xs. contains xs node) ls ≡ None
position_none ls node free =
    let at : position_or_len (λ xs. contains xs node) ls ≡ length ls =
    position_or_len_is (λ xs. contains xs node) ls (length ls) [] (omega arith) (λ k _. free k) (λ h. absurd (omega arith)) in
    rw at (rw (le-ltb (length ls) (length ls) (omega arith)))

-- two lists without repeats that share no number
pub distinct-append : (xs ys : List ℕ) → is_distinct xs ≡ true → is_distinct ys ≡ true → ((x : ℕ) → contains xs x ≡ true → contains ys x ≡ false) → is_distinct (xs ++ ys) ≡ true
distinct-append [] ys p q apart = q
distinct-append (x ∷ xs) ys p q apart =
    distinct-cons x (xs ++ ys) (contains-append_none xs ys x (distinct_head x xs p) (apart x (contains_head x xs)))
    (distinct-append xs ys (distinct_tail x xs p) q (λ y h. apart y (contains_later x y xs h)))

-- a list is shorter by the number that is taken out
pub length-without : (xs : List ℕ) (n : ℕ) → contains xs n ≡ true → is_distinct xs ≡ true → length (without xs n) + 1 ≡ length xs
length-without xs n has once =
    let p : Parted xs n = part_at xs n has in
    let once' : is_distinct (p.ahead ++ n ∷ p.behind) ≡ true = subst (λ (zs : List ℕ). is_distinct zs ≡ true) p.is once in
    let fewer : length (without xs n) ≡ length (p.ahead ++ p.behind) = ap (λ (zs : List ℕ). length (without zs n)) p.is ∙ ap (λ (zs : List ℕ). length zs) (without_at p.ahead p.behind n (distinct_middle p.ahead p.behind n once')) in
    let all : length xs ≡ length (p.ahead ++ n ∷ p.behind) = ap (λ (zs : List ℕ). length zs) p.is in
    let a : length (p.ahead ++ p.behind) ≡ length p.ahead + length p.behind = length-append p.ahead p.behind in
    let b : length (p.ahead ++ n ∷ p.behind) ≡ length p.ahead + suc (length p.behind) = length-append p.ahead (n ∷ p.behind) in
    omega arith
