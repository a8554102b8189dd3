-- What an entry put behind another one, and an entry taken out, make of a path along the links.
use Rattle.std.proofs.Common.{◌≡◌, ◌≢◌, ℕ, ◌<◌, ◌≤◌, true, false, ◌&&◌, List, [], ◌∷◌, ◌++◌, length, zero, suc, refl, sym, ap, subst, ◌∙◌, arith}
use Rattle.std.specs.Prelude.{◌==◌, slice_index, nat_lt}
use Rattle.std.proofs.lemmas.Bool.{eqb-true, eq-eqb, and_parts, and_from, lt-ltb, le-ltb}
use Rattle.ix_links.specs.NodeList.{contains, is_distinct}
use Rattle.ix_links.specs.Ring.{leads, walk}
use Rattle.ix_links.proofs.Membership.{apart_by, contains_head, contains_later, contains_not_head, contains_not_later, distinct_head, distinct_tail}

-- one link leads from an entry through these to the last one, and the other leads back
abbrev pub IsPath : (ℕ → ℕ) → (ℕ → ℕ) → ℕ → List ℕ → ℕ → Type 0
IsPath after before from [] last = (after from ≡ last) × (before last ≡ from)
IsPath after before from (x ∷ xs) last = (after from ≡ x) × (before x ≡ from) × IsPath after before x xs last

pub path_from_leads : (after before : List ℕ) (from : ℕ) (xs : List ℕ) (last : ℕ) → leads after before from xs last ≡ true → IsPath (λ k. slice_index after k) (λ k. slice_index before k) from xs last
path_from_leads after before from [] last h =
    let p = and_parts (slice_index after from == last) (slice_index before last == from) h in
    (eqb-true (slice_index after from) last p.0, eqb-true (slice_index before last) from p.1)
path_from_leads after before from (x ∷ xs) last h =
    let p = and_parts ((slice_index after from == x) && (slice_index before x == from)) (leads after before x xs last) h in
    let q = and_parts (slice_index after from == x) (slice_index before x == from) p.0 in
    (eqb-true (slice_index after from) x q.0, eqb-true (slice_index before x) from q.1, path_from_leads after before x xs last p.1)

pub leads_from_path : (after before : List ℕ) (from : ℕ) (xs : List ℕ) (last : ℕ) → IsPath (λ k. slice_index after k) (λ k. slice_index before k) from xs last → leads after before from xs last ≡ true
leads_from_path after before from [] last p =
    and_from (slice_index after from == last) (slice_index before last == from) (eq-eqb (slice_index after from) last p.0) (eq-eqb (slice_index before last) from p.1)
leads_from_path after before from (x ∷ xs) last p =
    and_from ((slice_index after from == x) && (slice_index before x == from)) (leads after before x xs last)
    (and_from (slice_index after from == x) (slice_index before x == from) (eq-eqb (slice_index after from) x p.0) (eq-eqb (slice_index before x) from p.1))
    (leads_from_path after before x xs last p.2)

-- the last of these entries, or the one before them; the first, or the one behind them
abbrev pub last_or : ℕ → List ℕ → ℕ
last_or from [] = from
last_or from (x ∷ xs) = last_or x xs

abbrev pub first_or : ℕ → List ℕ → ℕ
first_or last [] = last
first_or last (x ∷ xs) = x

pub last_or_in : (x : ℕ) (xs ys : List ℕ) → contains (x ∷ (xs ++ ys)) (last_or x xs) ≡ true
last_or_in x [] ys = contains_head x ys
last_or_in x (y ∷ xs) ys = contains_later x (last_or y xs) (y ∷ (xs ++ ys)) (last_or_in y xs ys)

pub first_or_in : (last : ℕ) (xs ys : List ℕ) → contains ((xs ++ ys) ++ last ∷ []) (first_or last ys) ≡ true
first_or_in last [] [] = contains_head last []
first_or_in last [] (y ∷ ys) = contains_head y (ys ++ last ∷ [])
first_or_in last (x ∷ xs) ys = contains_later x (first_or last ys) ((xs ++ ys) ++ last ∷ []) (first_or_in last xs ys)

-- ---- where links did not change, a path stays
pub path_same : (after before after' before' : ℕ → ℕ) (from : ℕ) (xs : List ℕ) (last : ℕ) →
    ((k : ℕ) → contains (from ∷ xs) k ≡ true → after' k ≡ after k) →
    ((k : ℕ) → contains (xs ++ last ∷ []) k ≡ true → before' k ≡ before k) →
    IsPath after before from xs last → IsPath after' before' from xs last
path_same after before after' before' from [] last f g p =
    (f from (contains_head from []) ∙ p.0, g last (contains_head last []) ∙ p.1)
path_same after before after' before' from (x ∷ xs) last f g p = (
  f from (contains_head from (x ∷ xs)) ∙ p.0,
  g x (contains_head x (xs ++ last ∷ [])) ∙ p.1,
  path_same after before after' before' x xs last (λ k h. f k (contains_later from k (x ∷ xs) h)) (λ k h. g k (contains_later x k (xs ++ last ∷ []) h)) p.2,
)

-- ---- an entry n put between p and q
pub record IsPutBetween (after before after' before' : ℕ → ℕ) (p n q : ℕ) : Type 0 where
  pub after_place : after' p ≡ n
  pub after_new : after' n ≡ q
  pub after_others : (k : ℕ) → k ≢ p → k ≢ n → after' k ≡ after k
  pub before_place : before' q ≡ n
  pub before_new : before' n ≡ p
  pub before_others : (k : ℕ) → k ≢ q → k ≢ n → before' k ≡ before k

-- the rest of a path, behind the new entry
put_tail : {after before after' before' : ℕ → ℕ} {p n q : ℕ} → IsPutBetween after before after' before' p n q →
    (y : ℕ) (ys : List ℕ) (last : ℕ) → contains (y ∷ ys) p ≡ false → contains (y ∷ ys) n ≡ false → contains (ys ++ last ∷ []) n ≡ false →
    contains (ys ++ last ∷ []) q ≡ false → IsPath after before y ys last → IsPath after' before' y ys last
put_tail {after} {before} {after'} {before'} {p} {n} {q} i y ys last no_p no_n no_n' no_q path =
    path_same after before after' before' y ys last
    (λ k h. i.after_others k (λ e. apart_by (y ∷ ys) p k no_p h (sym e)) (λ e. apart_by (y ∷ ys) n k no_n h (sym e)))
    (λ k h. i.before_others k (λ e. apart_by (ys ++ last ∷ []) q k no_q h (sym e)) (λ e. apart_by (ys ++ last ∷ []) n k no_n' h (sym e)))
    path

pub put_path : {after before after' before' : ℕ → ℕ} {p n q : ℕ} → IsPutBetween after before after' before' p n q →
    (from : ℕ) (xs ys : List ℕ) (last : ℕ) → p ≡ last_or from xs → q ≡ first_or last ys →
    contains (from ∷ (xs ++ ys)) n ≡ false → contains ((xs ++ ys) ++ last ∷ []) n ≡ false →
    is_distinct (from ∷ (xs ++ ys)) ≡ true → is_distinct ((xs ++ ys) ++ last ∷ []) ≡ true →
    IsPath after before from (xs ++ ys) last → IsPath after' before' from (xs ++ n ∷ ys) last
put_path {after} {before} {after'} {before'} {p} {n} {q} i from [] [] last at_p at_q free free' once once' path =
    (subst (λ v. after' v ≡ n) at_p i.after_place, i.before_new ∙ at_p, (i.after_new ∙ at_q, subst (λ v. before' v ≡ n) at_q i.before_place))
put_path {after} {before} {after'} {before'} {p} {n} {q} i from [] (y ∷ ys) last at_p at_q free free' once once' path = (
  subst (λ v. after' v ≡ n) at_p i.after_place,
  i.before_new ∙ at_p,
  (
    i.after_new ∙ at_q,
    subst (λ v. before' v ≡ n) at_q i.before_place,
    put_tail i y ys last
        (subst (λ v. contains (y ∷ ys) v ≡ false) (sym at_p) (distinct_head from (y ∷ ys) once))
        (contains_not_later from n (y ∷ ys) free)
        (contains_not_later y n (ys ++ last ∷ []) free')
        (subst (λ v. contains (ys ++ last ∷ []) v ≡ false) (sym at_q) (distinct_head y (ys ++ last ∷ []) once'))
        path.2,
  ),
)
put_path {after} {before} {after'} {before'} {p} {n} {q} i from (x ∷ xs) ys last at_p at_q free free' once once' path = (
  i.after_others from
      (λ e. apart_by (x ∷ (xs ++ ys)) from (last_or x xs) (distinct_head from (x ∷ (xs ++ ys)) once) (last_or_in x xs ys) (e ∙ at_p))
      (λ e. contains_not_head from n (x ∷ (xs ++ ys)) free (sym e)) ∙ path.0,
  i.before_others x
      (λ e. apart_by ((xs ++ ys) ++ last ∷ []) x (first_or last ys) (distinct_head x ((xs ++ ys) ++ last ∷ []) once') (first_or_in last xs ys) (e ∙ at_q))
      (λ e. contains_not_head x n ((xs ++ ys) ++ last ∷ []) free' (sym e)) ∙ path.1,
  put_path i x xs ys last at_p at_q (contains_not_later from n (x ∷ (xs ++ ys)) free) (contains_not_later x n ((xs ++ ys) ++ last ∷ []) free')
      (distinct_tail from (x ∷ (xs ++ ys)) once) (distinct_tail x ((xs ++ ys) ++ last ∷ []) once') path.2,
)

-- ---- an entry taken out between p and q
pub record IsTakenBetween (after before after' before' : ℕ → ℕ) (p q : ℕ) : Type 0 where
  pub after_place : after' p ≡ q
  pub after_others : (k : ℕ) → k ≢ p → after' k ≡ after k
  pub before_place : before' q ≡ p
  pub before_others : (k : ℕ) → k ≢ q → before' k ≡ before k

pub take_path : {after before after' before' : ℕ → ℕ} {p q : ℕ} → IsTakenBetween after before after' before' p q →
    (from : ℕ) (xs : List ℕ) (n : ℕ) (ys : List ℕ) (last : ℕ) → p ≡ last_or from xs → q ≡ first_or last ys →
    is_distinct (from ∷ (xs ++ n ∷ ys)) ≡ true → is_distinct ((xs ++ n ∷ ys) ++ last ∷ []) ≡ true →
    IsPath after before from (xs ++ n ∷ ys) last → IsPath after' before' from (xs ++ ys) last
take_path {after} {before} {after'} {before'} {p} {q} i from [] n [] last at_p at_q once once' path =
    (subst (λ v. after' v ≡ q) at_p i.after_place ∙ at_q, subst (λ v. before' v ≡ p) at_q i.before_place ∙ at_p)
take_path {after} {before} {after'} {before'} {p} {q} i from [] n (y ∷ ys) last at_p at_q once once' path = (
  subst (λ v. after' v ≡ q) at_p i.after_place ∙ at_q,
  subst (λ v. before' v ≡ p) at_q i.before_place ∙ at_p,
  path_same after before after' before' y ys last
      (λ k h. i.after_others k (λ e. apart_by (y ∷ ys) from k (contains_not_later n from (y ∷ ys) (distinct_head from (n ∷ y ∷ ys) once)) h (sym at_p ∙ sym e)))
      (λ k h. i.before_others k (λ e. apart_by (ys ++ last ∷ []) y k (distinct_head y (ys ++ last ∷ []) (distinct_tail n (y ∷ (ys ++ last ∷ [])) once')) h (sym at_q ∙ sym e)))
      path.2.2,
)
take_path {after} {before} {after'} {before'} {p} {q} i from (x ∷ xs) n ys last at_p at_q once once' path = (
  i.after_others from
      (λ e. apart_by (x ∷ (xs ++ n ∷ ys)) from (last_or x xs) (distinct_head from (x ∷ (xs ++ n ∷ ys)) once) (last_or_in x xs (n ∷ ys)) (e ∙ at_p)) ∙ path.0,
  i.before_others x
      (λ e. apart_by ((xs ++ n ∷ ys) ++ last ∷ []) x (first_or last ys) (distinct_head x ((xs ++ n ∷ ys) ++ last ∷ []) once') (first_behind last xs n ys) (e ∙ at_q)) ∙ path.1,
  take_path i x xs n ys last at_p at_q (distinct_tail from (x ∷ (xs ++ n ∷ ys)) once) (distinct_tail x ((xs ++ n ∷ ys) ++ last ∷ []) once') path.2,
)
  where
    first_behind : (last : ℕ) (xs : List ℕ) (n : ℕ) (ys : List ℕ) → contains ((xs ++ n ∷ ys) ++ last ∷ []) (first_or last ys) ≡ true
    first_behind last [] n ys = contains_later n (first_or last ys) (ys ++ last ∷ []) (first_or_in last [] ys)
    first_behind last (x ∷ xs) n ys = contains_later x (first_or last ys) ((xs ++ n ∷ ys) ++ last ∷ []) (first_behind last xs n ys)

-- ---- what the links at a place of a path are
pub path_at : (after before : ℕ → ℕ) (from : ℕ) (xs ys : List ℕ) (last : ℕ) → IsPath after before from (xs ++ ys) last →
    (after (last_or from xs) ≡ first_or last ys) × (before (first_or last ys) ≡ last_or from xs)
path_at after before from [] [] last path = (path.0, path.1)
path_at after before from [] (y ∷ ys) last path = (path.0, path.1)
path_at after before from (x ∷ xs) ys last path = path_at after before x xs ys last path.2

pub path_middle : (after before : ℕ → ℕ) (from : ℕ) (xs : List ℕ) (n : ℕ) (ys : List ℕ) (last : ℕ) → IsPath after before from (xs ++ n ∷ ys) last →
    (after n ≡ first_or last ys) × (before n ≡ last_or from xs)
path_middle after before from [] n [] last path = (path.2.0, path.1)
path_middle after before from [] n (y ∷ ys) last path = (path.2.0, path.1)
path_middle after before from (x ∷ xs) n ys last path = path_middle after before x xs n ys last path.2

-- ---- a walk along a path gives its entries
pub walk_path : (after : List ℕ) (before : ℕ → ℕ) (nodes most from : ℕ) (xs : List ℕ) (last : ℕ) → nodes ≤ last → length xs ≤ most →
    ((k : ℕ) → contains xs k ≡ true → k < nodes) → IsPath (λ k. slice_index after k) before from xs last →
    walk after nodes most (slice_index after from) ≡ xs
walk_path after before nodes zero from [] last beyond long within path = refl
walk_path after before nodes (suc most) from [] last beyond long within path =
    let stops : nat_lt (slice_index after from) nodes ≡ false = le-ltb (slice_index after from) nodes (subst (λ v. nodes ≤ v) (sym path.0) beyond) in
    rw stops
walk_path after before nodes zero from (x ∷ xs) last beyond long within path = absurd (omega arith)
walk_path after before nodes (suc most) from (x ∷ xs) last beyond long within path =
    let goes : nat_lt x nodes ≡ true = lt-ltb x nodes (within x (contains_head x xs)) in
    let shorter : length xs ≤ most = omega arith in
    rw (path.0, goes)
    (ap (λ (zs : List ℕ). x ∷ zs) (walk_path after before nodes most x xs last beyond shorter (λ k h. within k (contains_later x k xs h)) path.2))
