-- What a complete picture shows that was painted while nothing was written: its voxels as they were.
use Rattle.std.proofs.Common.{◌≡◌, ◌∙◌, inl, inr, ℕ, ◌<◌, false, IsTrue, List, slice_index, sym, ap, subst, arith}
use Rattle.std.specs.List.{list_any}
use Rattle.std.proofs.lemmas.Bool.{or_parts}
use Rattle.std.proofs.lemmas.List.Folds.{list_any-append}
use Rattle.std.proofs.lemmas.Nat.{mul-add-lt}
use Rattle.arr_history.specs.declared.event.Event.{Event}
use Rattle.arr_history.specs.History.{AreLegal, mine}
use Rattle.arr_history.specs.Laws.{writes}
use Rattle.arr_history.specs.Shape.{Shape}
use Rattle.arr_history.specs.State.{State}
use Rattle.arr_history.proofs.Sound.{unwritten}
use Rattle.cell_grid.specs.declared.level.Level.{Level}
use Rattle.scale_pick.specs.declared.view.View.{View}
use Rattle.scale_pick.specs.Moment.{HadAmong, ShowsMoment}
use Rattle.scale_pick.specs.Notes.{notes_of}
use Rattle.scale_pick.specs.Painted.{IsComplete}
use Rattle.scale_pick.specs.Painting.{IsPainting, IsPixelPainted}
use Rattle.scale_pick.specs.Picture.{Pixels, IsFilled, place}
use Rattle.scale_pick.specs.Shows.{ShowsBy}
use Rattle.scale_pick.specs.Wanted.{wanted_level}
use Rattle.scale_pick.proofs.MomentLemmas.{had_among, show_moments}
use Rattle.scale_pick.proofs.NoteLemmas.{are_noted}

-- a pixel shows its voxel's number in arrays, where it is told
abbrev pub ShowsArrays : Shape → (ℕ → ℕ → ℕ) → List Level → View → ℕ → ℕ → ℕ → ℕ → Type 0
ShowsArrays b arrays levels view x y level value = ShowsBy (λ cell at number. IsTrue (b.is_told cell) → number ≡ arrays cell at) levels view x y level value

module _ (b : Shape) (s : State) (part : List Event) (legal : AreLegal b s part) (still : (cell at : ℕ) → list_any (writes cell at) part ≡ false) (levels : List Level) (view : View) where
  had_still : (cell at number : ℕ) → HadAmong b s part cell at number → IsTrue (b.is_told cell) → number ≡ s.arrays cell at
  had_still cell at number had told =
      let parts = or_parts _ _ (sym (list_any-append (writes cell at) had.before had.rest) ∙ (ap (list_any (writes cell at)) (sym had.split) ∙ still cell at)) in
      had.had told ∙ unwritten s had.before cell at parts.0

  shows_still : (x y level value : ℕ) → ShowsMoment levels view b s part x y level value → ShowsArrays b s.arrays levels view x y level value
  shows_still x y level value (inl outside) = inl outside
  shows_still x y level value (inr (cell, at, number, voxel, had, is)) = inr (cell, at, number, voxel, had_still cell at number had, is)

  module _ (k : ℕ) (picture : Pixels) where
    pub pixel_still : IsPainting levels view (notes_of view.strategy (mine k part)) picture → IsFilled picture → IsComplete (wanted_level levels view) picture → wanted_level levels view < 255
        → (x y : ℕ) → x < picture.width → y < picture.height → ShowsArrays b s.arrays levels view x y (wanted_level levels view) (slice_index picture.values (place picture.width x y))
    pixel_still painting filled whole small x y wide high = go (painting.rows y high x wide)
      where
        level : slice_index picture.mask (place picture.width x y) ≡ wanted_level levels view
        level = whole (place picture.width x y) 0 (omega (arith, filled.mask, mul-add-lt y picture.width x picture.height high wide))

        go : IsPixelPainted levels view (notes_of view.strategy (mine k part)) (wanted_level levels view) picture x y
            → ShowsArrays b s.arrays levels view x y (wanted_level levels view) (slice_index picture.values (place picture.width x y))
        go (inl shown) = subst (λ m. ShowsArrays b s.arrays levels view x y m (slice_index picture.values (place picture.width x y))) level
            (shows_still x y _ _ (show_moments are_noted had_among b s part k levels view (wanted_level levels view) x y _ _ legal shown))
        go (inr blank) = absurd (omega (arith, small, level, blank.none))
