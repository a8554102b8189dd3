-- A list that is made of rows, by its elements.
use Rattle.std.proofs.Common.{◌≡◌, ◌∙◌, ℕ, zero, suc, ◌+◌, ◌*◌, ◌<◌, List, ◌++◌, length, take, drop, slice_index, sym, ap, ap₂, arith}
use Rattle.std.specs.Prelude.{flat_map}
use Rattle.std.specs.List.{range_with_len}
use Rattle.std.proofs.lemmas.List.{get_or-take, get_or-drop, length-take-le, length-drop, take-append-drop, nil_from_length}
use Rattle.std.proofs.lemmas.List.FromFn.{fill_by_all}
use Rattle.demo_volume.specs.Below.{each_below, joined_below}

row_is : (f : ℕ → ℕ) (width : ℕ) (xs : List ℕ) → length xs ≡ width → ((x : ℕ) → x < width → slice_index xs x ≡ f x) → xs ≡ each_below width f
unfolding each_below
row_is f width xs long at = fill_by_all f xs width 0 long at

rows_from : (f : ℕ → ℕ → ℕ) (width a n : ℕ) (xs : List ℕ) → length xs ≡ width * n → ((y x : ℕ) → y < n → x < width → slice_index xs (y * width + x) ≡ f (a + y) x)
    → xs ≡ flat_map (λ y. each_below width (λ x. f y x)) (range_with_len a n)
rows_from f width a zero xs long at = nil_from_length xs (omega (arith, long))
rows_from f width a (suc n) xs long at = sym (take-append-drop width xs) ∙ ap₂ (λ p q. p ++ q) first (rows_from f width (a + 1) n (drop width xs) (omega (arith, length-drop width xs, long)) in_rest)
  where
    in_first : (x : ℕ) → x < width → slice_index (take width xs) x ≡ f a x
    in_first x lt =
        let place : 0 * width + x ≡ x = omega arith in
        let here : a + 0 ≡ a = omega arith in
        get_or-take width xs x 0 lt ∙ (ap (λ i. slice_index xs i) (sym place) ∙ (at 0 x (omega arith) lt ∙ ap (λ k. f k x) here))

    first : take width xs ≡ each_below width (λ x. f a x)
    first = row_is (λ x. f a x) width (take width xs) (length-take-le width xs (omega (arith, long))) in_first

    in_rest : (y x : ℕ) → y < n → x < width → slice_index (drop width xs) (y * width + x) ≡ f (a + 1 + y) x
    in_rest y x low lt =
        let place : width + (y * width + x) ≡ suc y * width + x = omega arith in
        let here : a + suc y ≡ a + 1 + y = omega arith in
        get_or-drop width xs (y * width + x) 0 ∙ (ap (λ i. slice_index xs i) place ∙ (at (suc y) x (omega (arith, low)) lt ∙ ap (λ k. f k x) here))

-- what has a function's value at each column of each row is what the function gives, row by row
pub rows_are : (f : ℕ → ℕ → ℕ) (width height : ℕ) (xs : List ℕ) → length xs ≡ width * height → ((y x : ℕ) → y < height → x < width → slice_index xs (y * width + x) ≡ f y x)
    → xs ≡ joined_below height (λ y. each_below width (λ x. f y x))
unfolding joined_below
rows_are f width height xs long at = rows_from f width 0 height xs long (λ y x low lt. at y x low lt ∙ ap (λ k. f k x) (let e : y ≡ 0 + y = omega arith in e))
