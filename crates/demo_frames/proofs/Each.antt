-- Facts of each element of a list, by recursion.
use Rattle.std.proofs.Common.{◌≡◌, List, [], ◌∷◌, ◌++◌, map, subst, sym}
use Rattle.std.specs.List.{AllByRecursion as Each}

pub each_append : {X : Type 0} (P : X → Type 0) (xs ys : List X) → Each P xs → Each P ys → Each P (xs ++ ys)
each_append P [] ys first rest = rest
each_append P (x ∷ xs) ys first rest = (first.0, each_append P xs ys first.1 rest)

pub each_front : {X : Type 0} (P : X → Type 0) (xs ys : List X) → Each P (xs ++ ys) → Each P xs
each_front P [] ys each = tt
each_front P (x ∷ xs) ys each = (each.0, each_front P xs ys each.1)

pub each_weaker : {X : Type 0} (P Q : X → Type 0) → ((x : X) → P x → Q x) → (xs : List X) → Each P xs → Each Q xs
each_weaker P Q f [] each = tt
each_weaker P Q f (x ∷ xs) each = (f x each.0, each_weaker P Q f xs each.1)

pub each_mapped : {X Y : Type 0} (P : Y → Type 0) (f : X → Y) (xs : List X) → Each (λ x. P (f x)) xs → Each P (map f xs)
each_mapped P f [] each = tt
each_mapped P f (x ∷ xs) each = (each.0, each_mapped P f xs each.1)

pub each_unmapped : {X Y : Type 0} (P : Y → Type 0) (f : X → Y) (xs : List X) → Each P (map f xs) → Each (λ x. P (f x)) xs
each_unmapped P f [] each = tt
each_unmapped P f (x ∷ xs) each = (each.0, each_unmapped P f xs each.1)

pub each_same : {X : Type 0} (P : X → Type 0) (xs ys : List X) → xs ≡ ys → Each P ys → Each P xs
each_same P xs ys same each = subst (λ l. Each P l) (sym same) each

pub each_back : {X : Type 0} (P : X → Type 0) (xs ys : List X) → Each P (xs ++ ys) → Each P ys
each_back P [] ys each = each
each_back P (x ∷ xs) ys each = each_back P xs ys each.1
