-- One list of the lists in a list.
use Rattle.std.proofs.Common.{◌≡◌, ◌∙◌, List, [], ◌∷◌, ◌++◌, map, refl, sym, ap}
use Rattle.std.proofs.lemmas.Grind.{flat_map-append}
use Rattle.std.proofs.lemmas.List.{map-append}
use Rattle.thread_plan.specs.Scenes.{flat}

pub flat_append : {A : Type 0} (xs ys : List (List A)) → flat (xs ++ ys) ≡ flat xs ++ flat ys
flat_append xs ys = flat_map-append (λ list. list) xs ys

pub flat_mapped : {A B : Type 0} (f : A → List B) (lists : List (List A)) → flat (map f (flat lists)) ≡ flat (flat (map (map f) lists))
flat_mapped f [] = refl
flat_mapped f (l ∷ lists) =
    ap flat (map-append f l (flat lists)) ∙ (flat_append (map f l) (map f (flat lists))
    ∙ (ap (λ rest. flat (map f l) ++ rest) (flat_mapped f lists) ∙ sym (flat_append (map f l) (flat (map (map f) lists)))))
