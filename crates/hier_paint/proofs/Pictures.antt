-- Pictures, pixel by pixel.
use Rattle.std.proofs.Common.{◌≡◌, ◌∙◌, ℕ, zero, suc, ◌+◌, ◌*◌, ◌<◌, ◌≤◌, List, ◌++◌, slice_index, slice_set, refl, sym, subst, arith, add-one, get_or-set_same, get_or-set_other}
use Rattle.std.proofs.lemmas.List.{length-set}
use Rattle.std.proofs.Math.Nat.{mul-le-mul_right}
use Rattle.cell_grid.specs.declared.level.Level.{Level}
use Rattle.scale_pick.specs.declared.view.View.{View}
use Rattle.scale_pick.specs.Picture.{Pixels, place, IsFilled, SameBefore}
use Rattle.hier_paint.specs.Visits.{Visit}
use Rattle.hier_paint.specs.Ways.{IsPixelWay, IsRowWay, AreRowWays}

abbrev pub with_pixel : Pixels → ℕ → ℕ → ℕ → Pixels
with_pixel p i value mask = record { width = p.width; height = p.height; values = slice_set p.values i value; mask = slice_set p.mask i mask }

-- a place of a picture
pub place_inside : (w h x y : ℕ) → x < w → y < h → place w x y < w * h
place_inside w h x y a b = let more = mul-le-mul_right w (suc_le y h b) in omega (arith, more)
  where
    suc_le : (y h : ℕ) → y < h → y + 1 ≤ h
    suc_le y h b = omega arith

pub filled_set : (p : Pixels) (i value mask : ℕ) → IsFilled p → IsFilled (with_pixel p i value mask)
filled_set p i value mask f = record {
  some_columns = f.some_columns;
  some_rows = f.some_rows;
  width = f.width;
  height = f.height;
  values = length-set p.values i value ∙ f.values;
  mask = length-set p.mask i mask ∙ f.mask;
}

pub same_before_less : (p q : Pixels) (m n : ℕ) → m ≤ n → SameBefore p q n → SameBefore p q m
same_before_less p q m n le b = record { values = λ i lt. b.values i (omega (arith, le, lt)); mask = λ i lt. b.mask i (omega (arith, le, lt)) }

pub same_before_set : (p q : Pixels) (end i value mask : ℕ) → end ≤ i → SameBefore p q end → SameBefore p (with_pixel q i value mask) end
same_before_set p q end i value mask le same = record {
  values = λ j lt. get_or-set_other q.values i j value 0 (λ e. absurd (omega (arith, e))) ∙ same.values j lt;
  mask = λ j lt. get_or-set_other q.mask i j mask 0 (λ e. absurd (omega (arith, e))) ∙ same.mask j lt;
}

next_place : (w x y : ℕ) → place w x y < place w (suc x) y
next_place w x y = omega arith

module _ (levels : List Level) (view : View) where
  -- what was painted of a row stays so in a picture with the same pixels there
  pub row_same : (p q : Pixels) (y columns : ℕ) (v : List Visit) → q.width ≡ p.width → SameBefore p q (place p.width columns y) → IsRowWay levels view p y columns v → IsRowWay levels view q y columns v
  row_same p q y zero v same b h = h
  row_same p q y (suc x) v same b h =
      let lt : place p.width x y < place p.width (suc x) y = next_place p.width x y in
      let i : ℕ = place p.width x y in
      let less : SameBefore p q i = same_before_less p q i (place p.width (suc x) y) (omega (arith, lt)) b in
      let here =
      subst (λ w. IsPixelWay levels view x y (slice_index q.values (place w x y)) (slice_index q.mask (place w x y)) h.1) (sym same)
      (subst (λ n. IsPixelWay levels view x y n (slice_index q.mask i) h.1) (sym (b.values i lt))
      (subst (λ n. IsPixelWay levels view x y (slice_index p.values i) n h.1) (sym (b.mask i lt)) h.3)) in
      (h.0, h.1, row_same p q y x h.0 same less h.2, here, h.4)

  rows_same : (p q : Pixels) (rows : ℕ) (v : List Visit) → q.width ≡ p.width → SameBefore p q (place p.width 0 rows) → AreRowWays levels view p rows v → AreRowWays levels view q rows v
  rows_same p q zero v same b h = h
  rows_same p q (suc y) v same b h =
      let row : SameBefore p q (place p.width p.width y) = same_before_less p q _ _ (row_end p.width y) b in
      let less : SameBefore p q (place p.width 0 y) = same_before_less p q _ _ (row_start p.width y) b in
      (h.0, h.1, rows_same p q y h.0 same less h.2, subst (λ w. IsRowWay levels view q y w h.1) (sym same) (row_same p q y p.width h.1 same row h.3), h.4)
    where
      row_end : (w y : ℕ) → place w w y ≤ place w 0 (suc y)
      row_end w y = omega arith

      row_start : (w y : ℕ) → place w 0 y ≤ place w 0 (suc y)
      row_start w y = omega arith

  -- one pixel more is painted
  pub row_more : (p : Pixels) (x y value mask : ℕ) (v w : List Visit) → IsFilled p → x < p.width → y < p.height → IsRowWay levels view p y x v → IsPixelWay levels view x y value mask w
      → IsRowWay levels view (with_pixel p (place p.width x y) value mask) y (x + 1) (v ++ w)
  row_more p x y value mask v w f a b row here =
      let i : ℕ = place p.width x y in
      let q : Pixels = with_pixel p i value mask in
      let inside : i < p.width * p.height = place_inside p.width p.height x y a b in
      let before : SameBefore p q i = same_before_set p p i i value mask (omega arith) (record { values = λ _ _. refl; mask = λ _ _. refl }) in
      let pixel =
      subst (λ n. IsPixelWay levels view x y n (slice_index (slice_set p.mask i mask) i) w) (sym (get_or-set_same p.values i value 0 (omega (arith, f.values, inside))))
      (subst (λ n. IsPixelWay levels view x y value n w) (sym (get_or-set_same p.mask i mask 0 (omega (arith, f.mask, inside)))) here) in
      subst (λ n. IsRowWay levels view q y n (v ++ w)) (sym (add-one x)) (v, w, row_same p q y x v refl before row, pixel, refl)

  -- one row more is painted
  pub rows_more : (p q : Pixels) (y : ℕ) (v w : List Visit) → q.width ≡ p.width → SameBefore p q (place p.width 0 y) → AreRowWays levels view p y v → IsRowWay levels view q y q.width w → AreRowWays levels view q (y + 1) (v ++ w)
  rows_more p q y v w same before rows here = subst (λ n. AreRowWays levels view q n (v ++ w)) (sym (add-one y)) (v, w, rows_same p q y v same before rows, here, refl)

  -- the rows before one are painted in a picture that has them
  pub rows_kept : (p q : Pixels) (y : ℕ) (v : List Visit) → q.width ≡ p.width → SameBefore p q (place p.width 0 y) → AreRowWays levels view p y v → AreRowWays levels view q y v
  rows_kept p q y v same before rows = rows_same p q y v same before rows
