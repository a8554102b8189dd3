-- Which names stand in a set of names.
use Rattle.std.proofs.Common.{◌≡◌, ◌∙◌, ℕ, ◌||◌, Bool, true, false, cond, List, [], ◌∷◌, map, refl, sym, Ordering}
use Rattle.std.specs.Bool.{one_answer}
use Rattle.std.specs.BTreeSet.{BTreeSet, contains, Updates}
use Rattle.std.specs.BTreeMap.{is_at}
use Rattle.std.specs.Cmp.Lexicographic.{slice_cmp}
use Rattle.std.specs.List.{list_any}
use Rattle.std.specs.Ordering.{nat_cmp}
use Rattle.std.specs.Str.{bytes_eq}
use Rattle.std.proofs.lemmas.Map.Text.{is_eq-slice_cmp}
use Rattle.std.proofs.lemmas.Slice.Eq.{bytes_eq-Decides}
use Rattle.arrayvec.specs.ArrayString.{ArrayString}
use Rattle.view_script.specs.Meaning.{is_named}

-- the order of names
abbrev order : ArrayString → ArrayString → Ordering
order a b = slice_cmp nat_cmp a.bytes b.bytes

named_among : (name : List ℕ) (keys : List ArrayString) → list_any (is_at (λ k. slice_cmp nat_cmp name k.bytes)) keys ≡ is_named (map (λ k. k.bytes) keys) name
named_among name [] = refl
named_among name (key ∷ keys) = rw (is_eq-slice_cmp name key.bytes, named_among name keys) refl

pub named_when_found : (names : BTreeSet ArrayString) (name : ArrayString) (found : Bool) → found ≡ contains order names name → found ≡ is_named (map (λ k. k.bytes) names.keys) name.bytes
named_when_found names name found is = is ∙ named_among name.bytes names.keys

pub bytes_eq-swap : (xs ys : List ℕ) → bytes_eq xs ys ≡ bytes_eq ys xs
bytes_eq-swap xs ys =
    let there = bytes_eq-Decides xs ys in
    let back = bytes_eq-Decides ys xs in
    one_answer {P = xs ≡ ys} (bytes_eq xs ys) (bytes_eq ys xs) there (λ t. sym (back.0 t), λ e. back.1 (sym e))

cond_or : (a b : Bool) → cond a true b ≡ (b || a)
cond_or true true = refl
cond_or true false = refl
cond_or false true = refl
cond_or false false = refl

-- after a name was put in
pub named_after : (old new : BTreeSet ArrayString) (name : ArrayString) → Updates order old new name true → (other : List ℕ)
    → is_named (map (λ k. k.bytes) new.keys) other ≡ (is_named (map (λ k. k.bytes) old.keys) other || bytes_eq other name.bytes)
named_after old new name updates other =
    let q : ArrayString = record { bytes = other; spare = [] } in
    let same : is_at (order name) q ≡ bytes_eq other name.bytes = is_eq-slice_cmp name.bytes other ∙ bytes_eq-swap name.bytes other in
    let found : contains order new q ≡ (contains order old q || is_at (order name) q) = updates.0 q ∙ cond_or (is_at (order name) q) (contains order old q) in
    rw (sym (named_among other new.keys), sym (named_among other old.keys), sym same) found
