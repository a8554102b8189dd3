-- The first number of lists that stand one after another.
use Rattle.std.proofs.Common.{◌≡◌, ℕ, ◌+◌, ◌<◌, Bool, true, false, List, [], ◌∷◌, ◌++◌, length, get_or, take, filter, zero, suc, refl, sym, ap, subst, ◌∙◌, append_assoc, append-nil, arith}
use Rattle.std.specs.Prelude.{Option, None, Some, is_some, IfSome}
use Rattle.std.proofs.lemmas.Bool.{true≢false, false≢true}
use Rattle.std.proofs.lemmas.List.Elements.{filter-append}
use Rattle.ix_links.specs.NodeList.{contains, first}
use Rattle.ix_links.proofs.Membership.{contains_head}
use Rattle.fetch_queue.proofs.Filters.{flat}

first-append : (xs ys : List ℕ) → is_some (first xs) ≡ true → first (xs ++ ys) ≡ first xs
first-append [] ys h = absurd (false≢true h)
first-append (x ∷ xs) ys h = refl

-- nothing before the list k, and something in it
pub first_flat : (p : ℕ → Bool) (ls : List (List ℕ)) (k : ℕ) → ((j : ℕ) → j < k → filter p (get_or ls j []) ≡ []) → is_some (first (filter p (get_or ls k []))) ≡ true →
    first (filter p (flat ls)) ≡ first (filter p (get_or ls k []))
first_flat p [] k none some = absurd (false≢true some)
first_flat p (xs ∷ ls) zero none some =
    ap (λ (ys : List ℕ). first ys) (filter-append p xs (flat ls)) ∙ first-append (filter p xs) (filter p (flat ls)) some
first_flat p (xs ∷ ls) (suc k) none some =
    ap (λ (ys : List ℕ). first ys) (filter-append p xs (flat ls)) ∙ ap (λ (ys : List ℕ). first (ys ++ filter p (flat ls))) (none zero (omega arith))
    ∙ first_flat p ls k (λ j h. none (suc j) (omega arith)) some

-- nothing in any list
pub none_flat : (p : ℕ → Bool) (ls : List (List ℕ)) → ((j : ℕ) → j < length ls → filter p (get_or ls j []) ≡ []) → filter p (flat ls) ≡ []
none_flat p [] none = refl
none_flat p (xs ∷ ls) none =
    filter-append p xs (flat ls) ∙ ap (λ (ys : List ℕ). ys ++ filter p (flat ls)) (none zero (omega arith)) ∙ none_flat p ls (λ j h. none (suc j) (omega arith))

pub first_all : (ls : List (List ℕ)) (k : ℕ) → ((j : ℕ) → j < k → get_or ls j [] ≡ []) → is_some (first (get_or ls k [])) ≡ true → first (flat ls) ≡ first (get_or ls k [])
first_all [] k none some = absurd (false≢true some)
first_all (xs ∷ ls) zero none some = first-append xs (flat ls) some
first_all (xs ∷ ls) (suc k) none some = ap (λ (ys : List ℕ). first (ys ++ flat ls)) (none zero (omega arith)) ∙ first_all ls k (λ j h. none (suc j) (omega arith)) some

pub none_all : (ls : List (List ℕ)) → ((j : ℕ) → j < length ls → get_or ls j [] ≡ []) → flat ls ≡ []
none_all [] none = refl
none_all (xs ∷ ls) none = ap (λ (ys : List ℕ). ys ++ flat ls) (none zero (omega arith)) ∙ none_all ls (λ j h. none (suc j) (omega arith))

pub empty_from_first : (xs : List ℕ) → is_some (first xs) ≡ false → xs ≡ []
empty_from_first [] h = refl
empty_from_first (x ∷ xs) h = absurd (true≢false h)

-- lists of which the last one is taken apart
pub flat_last : (ls : List (List ℕ)) (n : ℕ) → length ls ≡ n + 1 → flat ls ≡ flat (take n ls) ++ get_or ls n []
flat_last [] zero h = absurd (omega arith)
flat_last [] (suc n) h = absurd (omega arith)
flat_last (xs ∷ []) zero h = append-nil xs
flat_last (xs ∷ ys ∷ ls) zero h = absurd (omega arith)
flat_last (xs ∷ ls) (suc n) h = ap (λ (zs : List ℕ). xs ++ zs) (flat_last ls n (omega arith)) ∙ sym (append_assoc xs (flat (take n ls)) (get_or ls n []))

pub first_within : (xs : List ℕ) (bound : ℕ) (r : Option ℕ) → r ≡ first xs → ((k : ℕ) → contains xs k ≡ true → k < bound) → IfSome r (λ k. k < bound)
first_within [] bound None is within = tt
first_within [] bound (Some k) is within = cc
first_within (x ∷ xs) bound None is within = cc
first_within (x ∷ xs) bound (Some k) is within = let e : k ≡ x = cc in subst (λ (n : ℕ). n < bound) (sym e) (within x (contains_head x xs))
