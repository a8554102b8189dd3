-- What holds of a list whose last element was changed.
use Rattle.std.proofs.Common.{◌≡◌, ◌∙◌, ℕ, suc, ◌+◌, ◌-◌, ◌<◌, ◌≤◌, List, [], ◌∷◌, ◌++◌, Some, length, slice_get, refl, sym, ap, arith}
use Rattle.std.specs.Prelude.{All, sum_by}
use Rattle.std.specs.List.{flat_map}
use Rattle.std.proofs.lemmas.List.{append-nil, append_assoc}
use Rattle.std.proofs.lemmas.List.Concat.{flat_map-cons}
use Rattle.std.proofs.lemmas.List.Sums.{sum_by-cons}
use Rattle.std.proofs.lemmas.List.Elements.{All-nil, All-cons, All-head, All-tail}
use Rattle.view_script.specs.Meaning.{at_last}

pub length-at_last : {X : Type 0} (change : X → X) (xs : List X) → length (at_last change xs) ≡ length xs
length-at_last change [] = refl
length-at_last change (x ∷ []) = refl
length-at_last change (x ∷ y ∷ xs) = ap suc (length-at_last change (y ∷ xs))

-- the last of two elements and more is the last without the first
last_of_more : {X : Type 0} (x y : X) (xs : List X) → slice_get (x ∷ y ∷ xs) (length (x ∷ y ∷ xs) - 1) ≡ slice_get (y ∷ xs) (length (y ∷ xs) - 1)
last_of_more x y xs =
    let longer : suc (suc (length xs)) - 1 ≡ suc (length xs) = omega arith in
    let shorter : suc (length xs) - 1 ≡ length xs = omega arith in
    rw (longer, shorter) refl

pub All-at_last : {X : Type 0} (P : X → Type 0) (change : X → X) (xs : List X) → All P xs
    → ((x : X) → slice_get xs (length xs - 1) ≡ Some x → P x → P (change x)) → All P (at_last change xs)
All-at_last P change [] all kept = All-nil P
All-at_last P change (x ∷ []) all kept = All-cons P (change x) [] (kept x refl (All-head P x [] all)) (All-nil P)
All-at_last {X} P change (x ∷ y ∷ xs) all kept =
    All-cons P x (at_last change (y ∷ xs)) (All-head P x (y ∷ xs) all) (All-at_last P change (y ∷ xs) (All-tail P x (y ∷ xs) all) kept_last)
  where
    kept_last : (z : X) → slice_get (y ∷ xs) (length (y ∷ xs) - 1) ≡ Some z → P z → P (change z)
    kept_last z last = kept z (rw (last_of_more x y xs) last)

-- a sum grows by no more than the last element does
pub sum_by-at_last : {X : Type 0} (f : X → ℕ) (change : X → X) (n : ℕ) (xs : List X) → ((x : X) → f (change x) ≤ f x + n) → sum_by f (at_last change xs) ≤ sum_by f xs + n
sum_by-at_last f change n [] grows = omega arith
sum_by-at_last f change n (x ∷ []) grows = omega (arith, grows x)
sum_by-at_last f change n (x ∷ y ∷ xs) grows =
    let before : sum_by f (x ∷ y ∷ xs) ≡ f x + sum_by f (y ∷ xs) = sum_by-cons f x (y ∷ xs) in
    let after : sum_by f (x ∷ at_last change (y ∷ xs)) ≡ f x + sum_by f (at_last change (y ∷ xs)) = sum_by-cons f x (at_last change (y ∷ xs)) in
    omega (arith, sum_by-at_last f change n (y ∷ xs) grows)

-- nothing is changed where the last element is left as it was
pub at_last_same : {X : Type 0} (change : X → X) (xs : List X) → ((x : X) → slice_get xs (length xs - 1) ≡ Some x → change x ≡ x) → at_last change xs ≡ xs
at_last_same change [] same = refl
at_last_same change (x ∷ []) same = ap (λ last. last ∷ []) (same x refl)
at_last_same change (x ∷ y ∷ xs) same = ap (λ rest. x ∷ rest) (at_last_same change (y ∷ xs) (λ z last. same z (rw (last_of_more x y xs) last)))

-- a sum grows by what the last element does
pub sum_by-grown : {X : Type 0} (f : X → ℕ) (change : X → X) (n : ℕ) (xs : List X) → 0 < length xs
    → ((x : X) → slice_get xs (length xs - 1) ≡ Some x → f (change x) ≡ f x + n) → sum_by f (at_last change xs) ≡ sum_by f xs + n
sum_by-grown f change n [] some grows = absurd (omega arith)
sum_by-grown f change n (x ∷ []) some grows = omega (arith, grows x refl)
sum_by-grown f change n (x ∷ y ∷ xs) some grows =
    let before : sum_by f (x ∷ y ∷ xs) ≡ f x + sum_by f (y ∷ xs) = sum_by-cons f x (y ∷ xs) in
    let after : sum_by f (x ∷ at_last change (y ∷ xs)) ≡ f x + sum_by f (at_last change (y ∷ xs)) = sum_by-cons f x (at_last change (y ∷ xs)) in
    let more : 0 < length (y ∷ xs) = omega arith in
    omega (arith, sum_by-grown f change n (y ∷ xs) more (λ z last. grows z (rw (last_of_more x y xs) last)))

pub sum_by-kept : {X : Type 0} (f : X → ℕ) (change : X → X) (xs : List X) → ((x : X) → f (change x) ≡ f x) → sum_by f (at_last change xs) ≡ sum_by f xs
sum_by-kept f change [] same = refl
sum_by-kept f change (x ∷ []) same = omega (arith, same x)
sum_by-kept f change (x ∷ y ∷ xs) same =
    let before : sum_by f (x ∷ y ∷ xs) ≡ f x + sum_by f (y ∷ xs) = sum_by-cons f x (y ∷ xs) in
    let after : sum_by f (x ∷ at_last change (y ∷ xs)) ≡ f x + sum_by f (at_last change (y ∷ xs)) = sum_by-cons f x (at_last change (y ∷ xs)) in
    omega (arith, sum_by-kept f change (y ∷ xs) same)

-- a list of parts grows by what the last element's part does
pub flat_map-grown : {X Y : Type 0} (f : X → List Y) (change : X → X) (more : List Y) (xs : List X) → 0 < length xs
    → ((x : X) → slice_get xs (length xs - 1) ≡ Some x → f (change x) ≡ f x ++ more) → flat_map f (at_last change xs) ≡ flat_map f xs ++ more
flat_map-grown f change more [] some grows = absurd (omega arith)
flat_map-grown f change more (x ∷ []) some grows =
    rw (flat_map-cons f (change x) [], flat_map-cons f x [], append-nil (f (change x)), append-nil (f x)) (grows x refl)
flat_map-grown f change more (x ∷ y ∷ xs) some grows =
    let left : 0 < length (y ∷ xs) = omega arith in
    let rest : flat_map f (at_last change (y ∷ xs)) ≡ flat_map f (y ∷ xs) ++ more = flat_map-grown f change more (y ∷ xs) left (λ z last. grows z (rw (last_of_more x y xs) last)) in
    flat_map-cons f x (at_last change (y ∷ xs)) ∙ ap (λ parts. f x ++ parts) rest ∙ sym (append_assoc (f x) (flat_map f (y ∷ xs)) more) ∙ ap (λ parts. parts ++ more) (sym (flat_map-cons f x (y ∷ xs)))

pub flat_map-kept : {X Y : Type 0} (f : X → List Y) (change : X → X) (xs : List X) → ((x : X) → f (change x) ≡ f x) → flat_map f (at_last change xs) ≡ flat_map f xs
flat_map-kept f change [] same = refl
flat_map-kept f change (x ∷ []) same = flat_map-cons f (change x) [] ∙ ap (λ part. part ++ []) (same x) ∙ sym (flat_map-cons f x [])
flat_map-kept f change (x ∷ y ∷ xs) same =
    flat_map-cons f x (at_last change (y ∷ xs)) ∙ ap (λ parts. f x ++ parts) (flat_map-kept f change (y ∷ xs) same) ∙ sym (flat_map-cons f x (y ∷ xs))
