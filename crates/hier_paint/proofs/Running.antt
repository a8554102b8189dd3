-- A run of pixels that the cell in a hand shows.
use Rattle.std.proofs.Common.{◌≡◌, ◌∙◌, inl, inr, ℕ, zero, suc, ◌+◌, ◌<◌, ◌≤◌, List, [], ◌∷◌, ◌++◌, slice_index, true, refl, sym, ap, subst, append_assoc, arith}
use Rattle.std.proofs.lemmas.List.{append-nil}
use Rattle.cell_grid.specs.declared.level.Level.{Level}
use Rattle.arr_history.specs.declared.event.Event.TheVariants as event
use Rattle.whole_affine.specs.Offsets.{place_ahead}
use Rattle.whole_affine.specs.declared.offset_walk.OffsetWalk.{OffsetWalk}
use Rattle.scale_pick.specs.declared.run.Run.{Run}
use Rattle.scale_pick.specs.declared.view.View.{View}
use Rattle.scale_pick.specs.Picture.{Pixels, place, SameBefore}
use Rattle.scale_pick.specs.Pixel.{HasVoxel}
use Rattle.scale_pick.specs.Runs.{ShowsRun}
use Rattle.scale_pick.specs.Shade.{shown}
use Rattle.scale_pick.specs.Wanted.{wanted_level}
use Rattle.volatile_cell.specs.Front.{Looker}
use Rattle.volatile_cell.specs.Showing.{reads_along}
use Rattle.hier_paint.specs.Sight.{Sight, is_held}
use Rattle.hier_paint.specs.Spans.{IsSpanWay}
use Rattle.hier_paint.specs.Visits.{Visit, reading_visit, AreVisits}
use Rattle.hier_paint.specs.Ways.{IsPixelWay, IsRowWay}
use Rattle.hier_paint.proofs.Pictures.{row_same}
use Rattle.hier_paint.proofs.Visiting.{no_visits, visits_on, read_visit}
use Rattle.hier_paint.proofs.Walking.{none_skipped, shown_way}

-- the visits of so many pixels, each at the offset of a walk
abbrev pub visits_along : ℕ → ℕ → OffsetWalk → (ℕ → ℕ) → ℕ → List Visit
visits_along level cell walk number zero = []
visits_along level cell walk number (suc n) = visits_along level cell walk number n ++ (reading_visit level cell (place_ahead walk n) (number n) ∷ [])

-- they are those of reads of the cell that is held
pub are_along : (who : Looker) (s : Sight) (level cell : ℕ) (walk : OffsetWalk) (number : ℕ → ℕ) (n : ℕ) → is_held s cell ≡ true
    → AreVisits who s (visits_along level cell walk number n) s (reads_along who.pass cell walk number n) []
are_along who s level cell walk number zero held = no_visits who s
are_along who s level cell walk number (suc n) held =
    visits_on who s (visits_along level cell walk number n) s (reads_along who.pass cell walk number n) []
    (reading_visit level cell (place_ahead walk n) (number n) ∷ []) s (event.Read who.pass cell (place_ahead walk n) (number n) ∷ []) []
    (are_along who s level cell walk number n held)
    (read_visit who s level cell (place_ahead walk n) (number n) s [] [] (inl (held, record { same = refl; none = refl; nothing_asked = refl })))

-- what is before a run stays
same_before_run : (p q : Pixels) (run : Run) (value : ℕ → ℕ) → ShowsRun p q run value → SameBefore p q run.first
same_before_run p q run value shows = record { values = λ i lt. shows.values_beside i (inl lt); mask = λ i lt. shows.levels_beside i (inl lt) }

-- and so does a row above it
pub same_before_row : (p q : Pixels) (run : Run) (value : ℕ → ℕ) (end : ℕ) → ShowsRun p q run value → end ≤ run.first → SameBefore p q end
same_before_row p q run value end shows le = record { values = λ i lt. shows.values_beside i (inl (omega (arith, lt, le))); mask = λ i lt. shows.levels_beside i (inl (omega (arith, lt, le))) }

module _ (levels : List Level) (view : View) where
  -- a pixel that shows a voxel of the cell that is held, at the wanted level
  run_pixel : (x y wanted cell at n low high value mask : ℕ) → wanted ≡ wanted_level levels view → low ≡ view.low → high ≡ view.high → HasVoxel levels view.affine wanted x y cell at → value ≡ shown n low high → mask ≡ wanted
      → IsPixelWay levels view x y value mask (reading_visit wanted cell at n ∷ [])
  run_pixel x y wanted cell at n low high value mask is is_low is_high voxel shows levelled =
      subst (λ m. IsPixelWay levels view x y value m (reading_visit wanted cell at n ∷ [])) (sym levelled)
      (shown_way levels levels view x y wanted wanted value [] (reading_visit wanted cell at n ∷ []) is refl (omega arith) (none_skipped levels view x y wanted)
      (inr (cell, at, n, voxel, shows ∙ ap (λ l. shown n l high) is_low ∙ ap (λ h. shown n view.low h) is_high, refl)))

  module _ (p q : Pixels) (x y wanted cell low high : ℕ) (run : Run) (walk : OffsetWalk) (number : ℕ → ℕ) (is : wanted ≡ wanted_level levels view) (is_low : low ≡ view.low) (is_high : high ≡ view.high)
      (first : run.first ≡ place p.width x y) (levelled : run.level ≡ wanted) (shows : ShowsRun p q run (λ k. shown (number k) low high))
      (voxels : (k : ℕ) → k < run.columns → HasVoxel levels view.affine wanted (x + k) y cell (place_ahead walk k)) where
    -- a row that a run carries on, up to a pixel of it
    row_along : (n : ℕ) → n ≤ run.columns → (before : List Visit) → IsRowWay levels view p y x before → IsRowWay levels view q y (x + n) (before ++ visits_along wanted cell walk number n)
    row_along zero le before row =
        let same : SameBefore p q (place p.width x y) = subst (λ i. SameBefore p q i) first (same_before_run p q run _ shows) in
        let column : x ≡ x + 0 = omega arith in
        subst (λ c. IsRowWay levels view q y c (before ++ [])) column
        (subst (λ (v : List Visit). IsRowWay levels view q y x v) (sym (append-nil before)) (row_same levels view p q y x before shows.width same row))
    row_along (suc n) le before row =
        let lt : n < run.columns = omega (arith, le) in
        let at : place q.width (x + n) y ≡ run.first + n = ap (λ w. place w (x + n) y) shows.width ∙ omega (arith, first) in
        let here = run_pixel (x + n) y wanted cell (place_ahead walk n) (number n) low high (slice_index q.values (place q.width (x + n) y)) (slice_index q.mask (place q.width (x + n) y)) is is_low is_high (voxels n lt)
        (ap (λ i. slice_index q.values i) at ∙ shows.values n lt) (ap (λ i. slice_index q.mask i) at ∙ shows.levels n lt ∙ levelled) in
        let column : suc (x + n) ≡ x + suc n = omega arith in
        subst (λ c. IsRowWay levels view q y c (before ++ visits_along wanted cell walk number (suc n))) column (
          before ++ visits_along wanted cell walk number n,
          reading_visit wanted cell (place_ahead walk n) (number n) ∷ [],
          row_along n (omega (arith, le)) before row,
          here,
          sym (append_assoc before (visits_along wanted cell walk number n) (reading_visit wanted cell (place_ahead walk n) (number n) ∷ [])),
        )

    -- a run carries a row on
    pub run_way : IsSpanWay levels view y p x q (x + run.columns) (visits_along wanted cell walk number run.columns)
    run_way = λ before row. row_along run.columns (omega arith) before row
