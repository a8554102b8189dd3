-- The key of a picture ends in a letter, and that of a cell in a digit.
use Rattle.std.proofs.Common.{◌≡◌, ◌∙◌, ℕ, ◌+◌, ◌%◌, ◌^◌, ◌<◌, ◌≤◌, false, List, [], ◌∷◌, ◌++◌, codes, length, slice_index, decimal, refl, sym, ap, arith, append_assoc, length-append}
use Rattle.std.specs.Str.{bytes_eq}
use Rattle.std.proofs.lemmas.Bool.{false_from_ne_true}
use Rattle.std.proofs.lemmas.Fmt.{decimal_by_steps}
use Rattle.std.proofs.lemmas.Slice.Eq.{bytes_eq-Decides}
use Rattle.cell_file.specs.Keys.{KeyNames, base_key, edited_key, grid_text, level_root}
use Rattle.cell_file.proofs.PlaceLemmas.{is_place}
use Rattle.cell_grid.specs.declared.level.Level.{Level}
use Rattle.cell_grid.specs.Pyramid.{IsPyramid, cells_of, grid_of}
use Rattle.viewrun_calls.specs.Pictures.{picture_key}

-- no `m` stands in a text
abbrev LacksM : List ℕ → Type 0
LacksM [] = Unit {0}
LacksM (b ∷ bytes) = (b ≡ 109 → ⊥) × LacksM bytes

-- a number has digits, and no `m` among them
abbrev IsNumber : List ℕ → Type 0
IsNumber bytes = (1 ≤ length bytes) × LacksM bytes

lacks_more : (bytes : List ℕ) (b : ℕ) → LacksM bytes → (b ≡ 109 → ⊥) → LacksM (bytes ++ b ∷ [])
lacks_more [] b h n = (n, tt)
lacks_more (c ∷ bytes) b h n = (h.0, lacks_more bytes b h.1 n)

number : (n : ℕ) → n < 2 ^ 64 → IsNumber (decimal n)
number n h = decimal_by_steps (λ _ ds. IsNumber ds) (λ m lt. (omega arith, (λ e. omega (arith, e), tt)))
    (λ m ds le p. (omega (arith, length-append ds ((48 + m % 10) ∷ [])), lacks_more ds (48 + m % 10) p.1 (λ e. omega (arith, e)))) n h

ends_in_m : (xs : List ℕ) → LacksM (xs ++ 109 ∷ []) → ⊥
ends_in_m [] h = h.0 refl
ends_in_m (x ∷ xs) h = ends_in_m xs h.1

-- a text that ends in `m` doesn't end in a number
ends_differ : (xs ys r : List ℕ) → IsNumber r → xs ++ 109 ∷ [] ≡ ys ++ r → ⊥
ends_differ xs [] r h e = ends_in_m xs (rw e h.1)
ends_differ [] (y ∷ ys) r h e = omega (arith, ap length e, length-append ys r, h.0)
ends_differ (x ∷ xs) (y ∷ ys) r h e = ends_differ xs ys r h tails
  where
    tails : xs ++ 109 ∷ [] ≡ ys ++ r
    tails = cc

key_end : (name : List ℕ) → picture_key name ≡ (codes "views/" ++ (name ++ (46 ∷ 112 ∷ 103 ∷ []))) ++ 109 ∷ []
key_end name = ap (λ t. codes "views/" ++ t) (sym (append_assoc name (46 ∷ 112 ∷ 103 ∷ []) (109 ∷ []))) ∙ sym (append_assoc (codes "views/") (name ++ (46 ∷ 112 ∷ 103 ∷ [])) (109 ∷ []))

place_end : (front x y z : List ℕ) → front ++ ((47 ∷ x) ++ ((47 ∷ y) ++ (47 ∷ z))) ≡ (front ++ ((47 ∷ x) ++ ((47 ∷ y) ++ (47 ∷ [])))) ++ z
place_end front x y z =
    ap (λ t. front ++ ((47 ∷ x) ++ t)) (sym (append_assoc (47 ∷ y) (47 ∷ []) z))
    ∙ ap (λ t. front ++ t) (sym (append_assoc (47 ∷ x) ((47 ∷ y) ++ (47 ∷ [])) z))
    ∙ sym (append_assoc front ((47 ∷ x) ++ ((47 ∷ y) ++ (47 ∷ []))) z)

pub differ : (key other : List ℕ) → (key ≡ other → ⊥) → bytes_eq key other ≡ false
differ key other ne = false_from_ne_true (bytes_eq key other) (λ t. ne ((bytes_eq-Decides key other).0 t))

-- a key behind whose front a place in a grid stands is no picture's
no_picture : (front grid name : List ℕ) → slice_index grid 2 ≤ 2 ^ 18 → bytes_eq (picture_key name) (front ++ grid_text grid) ≡ false
no_picture front grid name small =
    let x = decimal (slice_index grid 0) in
    let y = decimal (slice_index grid 1) in
    let z = decimal (slice_index grid 2) in
    let fits : slice_index grid 2 < 2 ^ 64 = omega (arith, small) in
    differ _ _ (λ e. ends_differ (codes "views/" ++ (name ++ (46 ∷ 112 ∷ 103 ∷ []))) (front ++ ((47 ∷ x) ++ ((47 ∷ y) ++ (47 ∷ [])))) z (number (slice_index grid 2) fits)
    (sym (key_end name) ∙ e ∙ place_end front x y z))

-- no picture lies under a cell's keys
pub no_edited_key : (levels : List Level) (n : ℕ) (name : List ℕ) → IsPyramid levels → n < cells_of levels → bytes_eq (picture_key name) (edited_key levels n) ≡ false
no_edited_key levels n name pyramid lt = no_picture (codes "cells/s" ++ decimal (grid_of levels n).0) (grid_of levels n).1 name (is_place levels n pyramid lt).z

pub no_base_key : (levels : List Level) (keys : KeyNames) (n : ℕ) (name : List ℕ) → IsPyramid levels → n < cells_of levels → bytes_eq (picture_key name) (base_key levels keys n) ≡ false
no_base_key levels keys n name pyramid lt = no_picture (level_root keys.root keys.plain (grid_of levels n).0) (grid_of levels n).1 name (is_place levels n pyramid lt).z
