-- Spans of a row, from the cell that is held.
use Rattle.std.proofs.Common.{◌≡◌, ◌∙◌, inl, ℕ, ◌+◌, ◌<◌, List, [], ◌++◌, Some, true, refl, sym, ap, subst, append_assoc, arith}
use Rattle.std.proofs.lemmas.Bool.Decides.{nat_tests}
use Rattle.std.proofs.lemmas.List.{append-nil}
use Rattle.cell_grid.specs.declared.level.Level.{Level}
use Rattle.scale_pick.specs.declared.view.View.{View}
use Rattle.scale_pick.specs.Picture.{Pixels, place, IsFilled, SameBefore}
use Rattle.scale_pick.specs.Pixel.{IsOutside}
use Rattle.scale_pick.specs.Wanted.{wanted_level}
use Rattle.hier_paint.specs.Sight.{is_cell, is_held}
use Rattle.hier_paint.specs.declared.hand.Hand.{Hand}
use Rattle.hier_paint.specs.declared.hand.InHand.{InHand}
use Rattle.hier_paint.specs.Hands.{cell_in, sight}
use Rattle.hier_paint.specs.Visits.{Visit}
use Rattle.hier_paint.specs.Ways.{IsPixelWay, IsRowWay}
use Rattle.hier_paint.specs.Spans.{IsSpanWay}
use Rattle.hier_paint.proofs.Pictures.{with_pixel, row_more}
use Rattle.hier_paint.proofs.Walking.{none_skipped, shown_way}

-- the cell in a hand is held
pub in_hand : {H : Type 0} (hand : Hand H) (h : InHand H) → hand.held ≡ Some h → is_held (sight hand) h.cell ≡ true
in_hand hand h e = ap (λ o. is_cell (cell_in o) h.cell) e ∙ grind (arith, nat_tests)

-- what stood at two changes of a picture
pub same_before_on : (p q r : Pixels) (end : ℕ) → SameBefore p q end → SameBefore q r end → SameBefore p r end
same_before_on p q r end a b = record { values = λ i lt. b.values i lt ∙ a.values i lt; mask = λ i lt. b.mask i lt ∙ a.mask i lt }

module _ (levels : List Level) (view : View) where
  -- a span without a pixel, and one with one pixel more
  pub span_none : (p : Pixels) (x y : ℕ) → IsSpanWay levels view y p x p x []
  span_none p x y = λ before row. subst (λ (v : List Visit). IsRowWay levels view p y x v) (sym (append-nil before)) row

  pub span_more : (p q : Pixels) (x z y value mask : ℕ) (v w : List Visit) → IsFilled q → z < q.width → y < q.height → IsSpanWay levels view y p x q z v → IsPixelWay levels view z y value mask w
      → IsSpanWay levels view y p x (with_pixel q (place q.width z y) value mask) (z + 1) (v ++ w)
  span_more p q x z y value mask v w f column row span pixel = λ before done.
      subst (λ (all : List Visit). IsRowWay levels view (with_pixel q (place q.width z y) value mask) y (z + 1) all) (append_assoc before v w)
      (row_more levels view q z y value mask (before ++ v) w f column row (span before done) pixel)

  -- a row, then a span of it, and one without a visit
  pub span_on : (p q r : Pixels) (x x' x'' y : ℕ) (v w : List Visit) → IsSpanWay levels view y p x q x' w → IsSpanWay levels view y q x' r x'' [] → IsRowWay levels view p y x v → IsRowWay levels view r y x'' (v ++ w)
  span_on p q r x x' x'' y v w a b row = subst (λ (all : List Visit). IsRowWay levels view r y x'' all) (append-nil (v ++ w)) (b (v ++ w) (a v row))

  -- a pixel outside the wanted level
  pub outside_pixel : (x y wanted : ℕ) → wanted ≡ wanted_level levels view → IsOutside levels view.affine wanted x y → IsPixelWay levels view x y 0 wanted []
  outside_pixel x y wanted is outside = shown_way levels levels view x y wanted wanted 0 [] [] is refl (omega arith) (none_skipped levels view x y wanted) (inl (outside, refl, refl))
