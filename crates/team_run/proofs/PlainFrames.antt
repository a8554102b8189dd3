-- The pictures of a cache are those of plain arrays.
use Rattle.std.proofs.Common.{◌≡◌, ◌∙◌, ◌⊎◌, inl, inr, ℕ, ◌-◌, ◌*◌, ◌<◌, ◌≤◌, IsTrue, List, [], ◌∷◌, IfSome, length, Option, Some, None, position, unwrap_or, refl, sym, ap, subst, arith}
use Rattle.std.specs.Prelude.{slice_index}
use Rattle.std.proofs.lemmas.List.Quantifiers.{position-Some}
use Rattle.std.proofs.lemmas.Nat.{mul-add-lt}
use Rattle.arr_history.specs.declared.event.Event.{Event}
use Rattle.arr_history.specs.History.{AreLegal}
use Rattle.arr_history.specs.Shape.{Shape, IsSameShape}
use Rattle.cell_grid.specs.declared.level.Level.{Level}
use Rattle.cell_grid.proofs.OneToOne.{one_to_one}
use Rattle.scale_pick.specs.declared.painted.Painted.{Painted}
use Rattle.scale_pick.specs.declared.view.View.{View}
use Rattle.scale_pick.specs.Laws.{ShownMoments}
use Rattle.scale_pick.specs.Moment.{ShowsMoment}
use Rattle.scale_pick.specs.Notes.{notes_of}
use Rattle.scale_pick.specs.Painted.{painted_of, IsComplete}
use Rattle.scale_pick.specs.Painting.{IsShown, IsPainted, IsPainting}
use Rattle.scale_pick.specs.Picture.{Pixels, IsFilled, place}
use Rattle.scale_pick.specs.Wanted.{covers, wanted_level, best_level}
use Rattle.scale_pick.proofs.PaintedLemmas.{complete_is}
use Rattle.sole_cache.specs.Cached.{Cached, shape_of, state_of}
use Rattle.whole_affine.specs.Affine.{Map}
use Rattle.team_run.specs.Plain.{AreSame, ShowsPlain, IsPlainFrame}
use Rattle.team_run.specs.Views.{HasLevel}
use Rattle.team_run.proofs.CalmEvents.{AreCalm, calm_before, calm_mine, calm_unwritten}

-- the wanted level exists
best_of : (levels : List Level) (map : Map) (any : Level) → 0 < length levels → best_level levels map < length levels
best_of levels map any some = go (position (λ level. covers map level) levels) refl
  where
    go : (found : Option ℕ) → position (λ level. covers map level) levels ≡ found → unwrap_or found (length levels - 1) < length levels
    go None none = omega (arith, some)
    go (Some i) is = (position-Some (λ level. covers map level) levels i any is).0

best_exists : (levels : List Level) (map : Map) → 0 < length levels → best_level levels map < length levels
best_exists [] map some = absurd (omega (arith, some))
best_exists (l ∷ levels) map some = best_of (l ∷ levels) map l some

wanted_exists : (levels : List Level) (view : View) (given : Option ℕ) → 0 < length levels → IfSome given (λ level. level < length levels) → unwrap_or given (best_level levels view.affine) < length levels
wanted_exists levels view None some h = best_exists levels view.affine some
wanted_exists levels view (Some level) some h = h

module _ (moments : ShownMoments) (b : Shape) (a : Cached) (levels : List Level) (view : View) (events : List Event) (arrays : ℕ → ℕ → ℕ) (shape : IsSameShape b (shape_of a)) (is : a.levels ≡ levels)
    (same : AreSame b (state_of a).arrays arrays) (calm : AreCalm events) (legal : AreLegal (shape_of a) (state_of a) events) where
  -- what a pixel shows is the number of its voxel in the plain arrays
  pixel_plain : (wanted x y level value : ℕ) → IsShown levels view (notes_of view.strategy events) wanted x y value level → ShowsPlain levels b.is_told arrays view x y level value
  pixel_plain wanted x y level value shown = go (moments (shape_of a) (state_of a) events 0 levels view wanted x y value level legal
      (subst (λ (e : List Event). IsShown levels view (notes_of view.strategy e) wanted x y value level) (sym (calm_mine events calm)) shown))
    where
      go : ShowsMoment levels view (shape_of a) (state_of a) events x y level value → ShowsPlain levels b.is_told arrays view x y level value
      go (inl dark) = inl dark
      go (inr (cell, at, number, voxel, had, shade)) = inr (
        cell,
        at,
        number,
        voxel,
        λ told.
            let range = (one_to_one levels).in_range level voxel.coordinates cell at voxel.voxel in
            let before = calm_unwritten had.before (calm_before had.before had.rest (subst AreCalm had.split calm)) (state_of a) in
            let inside = subst (λ n. cell < n) (sym shape.cells) (subst (λ (l : List Level). cell < (shape_of (record a { levels = l })).cells) (sym is) range.0) in
            let few = subst (λ n. at < n) (sym (shape.voxels cell)) (subst (λ (l : List Level). at < (shape_of (record a { levels = l })).voxels cell) (sym is) range.1) in
            had.had (subst IsTrue (shape.told cell) told) ∙ ap (λ f. f cell at) before ∙ sym (same cell inside told at few),
        shade,
      )

  painted_plain : (wanted x y value mask : ℕ) → IsPainted levels view (notes_of view.strategy events) wanted x y value mask → ShowsPlain levels b.is_told arrays view x y mask value ⊎ ((mask ≡ 255) × (value ≡ 0))
  painted_plain wanted x y value mask (inl s) = inl (pixel_plain wanted x y mask value s)
  painted_plain wanted x y value mask (inr blank) = inr (blank.none, blank.dark)

  -- a frame whose pixels are all of the wanted level
  pub plain_frame : (painted : Painted) (picture : Pixels) → length levels ≤ 8 → 0 < length levels → HasLevel levels view → IsFilled picture → IsPainting levels view (notes_of view.strategy events) picture
      → painted ≡ painted_of (wanted_level levels view) picture → IsPlainFrame levels b.is_told arrays view painted picture
  plain_frame painted picture few some exists filled painting told = record {
    width = painting.width;
    height = painting.height;
    pixels = pixel;
    complete = λ whole x y column row.
        let all : IsComplete wanted picture = (complete_is wanted picture).0 (subst (λ (p : Painted). IsTrue p.complete) told whole) in
        let inside : place view.width x y < length picture.mask = omega (arith, filled.mask, mul-add-lt y view.width x view.height row column, ap (λ w. w * picture.height) painting.width, ap (λ h. view.width * h) painting.height) in
        is_wanted x y (all (place view.width x y) 0 inside) (pixel x y column row);
  }
    where
      wanted : ℕ
      wanted = wanted_level levels view

      pixel : (x y : ℕ) → x < view.width → y < view.height → let i = place view.width x y in
          ShowsPlain levels b.is_told arrays view x y (slice_index picture.mask i) (slice_index picture.values i) ⊎ ((slice_index picture.mask i ≡ 255) × (slice_index picture.values i ≡ 0))
      pixel x y column row = subst (λ w. let i = place w x y in ShowsPlain levels b.is_told arrays view x y (slice_index picture.mask i) (slice_index picture.values i) ⊎ ((slice_index picture.mask i ≡ 255) × (slice_index picture.values i ≡ 0)))
          painting.width (painted_plain wanted x y _ _ (painting.rows y (subst (λ h. y < h) (sym painting.height) row) x (subst (λ w. x < w) (sym painting.width) column)))

      is_wanted : (x y : ℕ) → slice_index picture.mask (place view.width x y) ≡ wanted
          → ShowsPlain levels b.is_told arrays view x y (slice_index picture.mask (place view.width x y)) (slice_index picture.values (place view.width x y))
          ⊎ ((slice_index picture.mask (place view.width x y) ≡ 255) × (slice_index picture.values (place view.width x y) ≡ 0))
          → ShowsPlain levels b.is_told arrays view x y wanted (slice_index picture.values (place view.width x y))
      is_wanted x y level (inl shows) = subst (λ m. ShowsPlain levels b.is_told arrays view x y m (slice_index picture.values (place view.width x y))) level shows
      is_wanted x y level (inr dark) = absurd (omega (arith, few, level, dark.0, wanted_exists levels view view.level some exists))
