-- The parts of a list of events.
use Rattle.std.proofs.Common.{◌≡◌, ◌∙◌, Bool, true, false, List, [], ◌∷◌, ◌++◌, sym, ap, subst}
use Rattle.std.specs.Bool.{MatchBool}
use Rattle.arr_history.specs.declared.event.Event.{Event}
use Rattle.arr_history.specs.declared.event.Event.TheVariants.{Miss, Claim, Drop, Live}

-- an event that ends the loading of a cell
abbrev pub is_end : Event → Bool
is_end (Live k c slot) = true
is_end (Drop k c) = true
is_end other = false

-- an event that ends it well
abbrev pub is_live : Event → Bool
is_live (Live k c slot) = true
is_live other = false

-- whether some event ends a loading well
abbrev pub has_live : List Event → Bool
has_live [] = false
has_live (Live k c slot ∷ events) = true
has_live (e ∷ events) = has_live events

-- events of which the last, and no other, ends a loading
abbrev pub IsEnded : List Event → Type 0
IsEnded [] = ⊥
IsEnded (e ∷ events) = MatchBool (is_end e) (events ≡ []) (IsEnded events)

abbrev pub is_missing : Event → Bool
is_missing (Miss k c) = true
is_missing other = false

-- events that don't begin in the midst of a loading
abbrev pub is_calm : List Event → Bool
is_calm [] = true
is_calm (Claim k c ∷ events) = false
is_calm (e ∷ events) = true

-- the events after the first one
abbrev tail_of : List Event → List Event
tail_of [] = []
tail_of (e ∷ events) = events

abbrev head_of : Event → List Event → Event
head_of x [] = x
head_of x (e ∷ events) = e

pub same_tail : (x y : Event) (xs ys : List Event) → x ∷ xs ≡ y ∷ ys → xs ≡ ys
same_tail x y xs ys h = ap tail_of h

pub same_head : (x y : Event) (xs ys : List Event) → x ∷ xs ≡ y ∷ ys → x ≡ y
same_head x y xs ys h = ap (head_of x) h

-- an ended part is found again
pub ended_same : (xs ys us vs : List Event) → IsEnded xs → IsEnded us → xs ++ ys ≡ us ++ vs → (xs ≡ us) × (ys ≡ vs)
ended_same [] ys us vs h g same = absurd h
ended_same (x ∷ xs) ys [] vs h g same = absurd g
ended_same (x ∷ xs) ys (u ∷ us) vs h g same =
    let heads : x ≡ u = same_head x u (xs ++ ys) (us ++ vs) same in
    let tails : xs ++ ys ≡ us ++ vs = same_tail x u (xs ++ ys) (us ++ vs) same in
    let g' : MatchBool (is_end x) (us ≡ []) (IsEnded us) = subst (λ e. MatchBool (is_end e) (us ≡ []) (IsEnded us)) (sym heads) g in
    let more = go (ended_same xs ys us vs) (is_end x) h g' tails in
    (ap (λ (e : Event). e ∷ xs) heads ∙ ap (λ (es : List Event). u ∷ es) more.0, more.1)
  where
    go : (IsEnded xs → IsEnded us → xs ++ ys ≡ us ++ vs → (xs ≡ us) × (ys ≡ vs)) → (t : Bool) → MatchBool t (xs ≡ []) (IsEnded xs) → MatchBool t (us ≡ []) (IsEnded us) → xs ++ ys ≡ us ++ vs → (xs ≡ us) × (ys ≡ vs)
    go more true p q s = (p ∙ sym q, sym (ap (λ (es : List Event). es ++ ys) p) ∙ s ∙ ap (λ (es : List Event). es ++ vs) q)
    go more false p q s = more p q s
