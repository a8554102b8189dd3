-- Whatever a pass painted shows moments of a legal history: those between its events.
use Rattle.std.proofs.Common.{◌≡◌, ◌∙◌, inl, inr, ℕ, ◌<◌, Bool, true, false, true≢false, ◌||◌, List, ◌++◌, refl, sym, ap, subst, slice_index, arith}
use Rattle.std.specs.List.{list_any}
use Rattle.std.proofs.lemmas.List.Folds.{list_any-append}
use Rattle.std.proofs.lemmas.Nat.{mul-add-lt}
use Rattle.cell_grid.specs.declared.level.Level.{Level}
use Rattle.arr_history.specs.declared.event.Event.{Event}
use Rattle.arr_history.specs.Shape.{Shape}
use Rattle.arr_history.specs.State.{State}
use Rattle.arr_history.specs.History.{after, AreLegal, pass_of, mine}
use Rattle.arr_history.specs.Laws.{writes}
use Rattle.arr_history.proofs.Leads.{legal-parts}
use Rattle.arr_history.proofs.Sound.{unwritten}
use Rattle.scale_pick.specs.declared.view.View.{View}
use Rattle.scale_pick.specs.Laws.{ShownMoments}
use Rattle.scale_pick.specs.Moment.{HadAmong, ShowsMoment}
use Rattle.scale_pick.specs.Notes.{notes_of}
use Rattle.scale_pick.specs.Painting.{IsShown, IsPixelPainted}
use Rattle.scale_pick.specs.Picture.{Pixels, IsFilled, place}
use Rattle.scale_pick.specs.Painted.{IsComplete}
use Rattle.scale_pick.specs.Shows.{ShowsBy}
use Rattle.scale_pick.specs.Wanted.{wanted_level}
use Rattle.team_eyes.specs.Shown.{HadMeanwhile, IsPixelMoment}
use Rattle.thread_run.specs.Frames.{HistoriesShowMoments}
use Rattle.thread_run.proofs.Cuts.{cut}

first_false : (a b : Bool) → (a || b) ≡ false → a ≡ false
first_false true b h = absurd (true≢false h)
first_false false b h = refl

module _ (b : Shape) (s : State) (during : List Event) where
  -- a number that a voxel had at a moment is its first one where nobody wrote it
  had_meanwhile : (cell at number : ℕ) → HadAmong b s during cell at number → HadMeanwhile b s during cell at number
  had_meanwhile cell at number h = record {
    moment = h;
    exact = λ none told.
        h.had told ∙ unwritten s h.before cell at (first_false (list_any (writes cell at) h.before) (list_any (writes cell at) h.rest) (sym (list_any-append (writes cell at) h.before h.rest) ∙ ap (list_any (writes cell at)) (sym h.split) ∙ none));
  }

  module _ (levels : List Level) (view : View) where
    shows_meanwhile : (x y level value : ℕ) → ShowsMoment levels view b s during x y level value → ShowsBy (HadMeanwhile b s during) levels view x y level value
    shows_meanwhile x y level value (inl outside) = inl outside
    shows_meanwhile x y level value (inr (cell, at, number, voxel, had, is)) = inr (cell, at, number, voxel, had_meanwhile cell at number had, is)

    module _ (picture : Pixels) where
      pixel_moment : ShownMoments → (k : ℕ) (events : List Event) (x y : ℕ) → AreLegal b s during → mine k during ≡ events
          → IsPixelPainted levels view (notes_of view.strategy events) (wanted_level levels view) picture x y → IsPixelMoment levels view b s during picture x y
      pixel_moment law k events x y legal own (inl shown) =
          let value = slice_index picture.values (place picture.width x y) in
          let mask = slice_index picture.mask (place picture.width x y) in
          inl (shows_meanwhile x y mask value
          (law b s during k levels view (wanted_level levels view) x y value mask legal (subst (λ (es : List Event). IsShown levels view (notes_of view.strategy es) (wanted_level levels view) x y value mask) (sym own) shown)))
      pixel_moment law k events x y legal own (inr blank) = inr (blank.none, blank.dark)

      -- a pixel of a complete picture is of the wanted level
      wanted_pixel : (wanted x y : ℕ) → IsFilled picture → IsComplete wanted picture → wanted < 255 → x < picture.width → y < picture.height
          → IsPixelMoment levels view b s during picture x y → ShowsBy (HadMeanwhile b s during) levels view x y wanted (slice_index picture.values (place picture.width x y))
      wanted_pixel wanted x y filled whole small wide high pixel = row pixel
        where
          level : slice_index picture.mask (place picture.width x y) ≡ wanted
          level = whole (place picture.width x y) 0 (omega (arith, filled.mask, mul-add-lt y picture.width x picture.height high wide))

          row : IsPixelMoment levels view b s during picture x y → ShowsBy (HadMeanwhile b s during) levels view x y wanted (slice_index picture.values (place picture.width x y))
          row (inl shows) = subst (λ m. ShowsBy (HadMeanwhile b s during) levels view x y m (slice_index picture.values (place picture.width x y))) level shows
          row (inr dark) = absurd (omega (arith, small, level, dark.0))

pub histories_show : ShownMoments → HistoriesShowMoments
histories_show law b start levels history whole k front own back view picture is painting =
    let c = cut pass_of k history front (own ++ back) is in
    let d = cut pass_of k c.right own back c.second in
    let behind : AreLegal b (after start c.left) (d.left ++ d.right) = subst (AreLegal b (after start c.left)) d.parts ((legal-parts b start c.left c.right).0 (subst (AreLegal b start) c.parts whole)).1 in
    let legal = ((legal-parts b (after start c.left) d.left d.right).0 behind).0 in
    let pixel : (x y : ℕ) → x < picture.width → y < picture.height → IsPixelMoment levels view b (after start c.left) d.left picture x y =
    λ x y wide high. pixel_moment b (after start c.left) d.left levels view picture law k own x y legal d.first (painting.rows y high x wide) in
    record {
      front = c.left;
      during = d.left;
      later = d.right;
      split = c.parts ∙ ap (λ (l : List Event). c.left ++ l) d.parts;
      own = d.first;
      pixels = pixel;
      complete = λ filled full small x y wide high. wanted_pixel b (after start c.left) d.left levels view picture (wanted_level levels view) x y filled full small wide high (pixel x y wide high);
    }
