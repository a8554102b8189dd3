-- A run of pixels, shown one after another.
use Rattle.std.proofs.Common.{◌≡◌, ◌∙◌, inl, inr, ℕ, zero, suc, ◌+◌, ◌*◌, ◌<◌, List, [], ◌∷◌, ◌++◌, length, slice_index, slice_set, refl, sym, ap, subst, arith, add-one, get_or-set_same, get_or-set_other}
use Rattle.std.proofs.lemmas.List.{length-set}
use mathlib.Core.Logic.{dite}
use native.Mathlib.Decide.{ℕ_discrete}
use Rattle.arr_history.specs.declared.event.Event.TheVariants.{Read}
use Rattle.arr_history.specs.State.{with_at}
use Rattle.pin_words.specs.declared.doing.Doing.{Doing}
use Rattle.pin_words.specs.Plan.{Plan}
use Rattle.pin_words.proofs.Numbers.{put_same, put_other}
use Rattle.whole_affine.specs.declared.offset_walk.OffsetWalk.{OffsetWalk}
use Rattle.whole_affine.specs.Offsets.{place_ahead}
use Rattle.scale_pick.specs.declared.run.Run.{Run}
use Rattle.scale_pick.specs.declared.shade.Shades.{Shades}
use Rattle.scale_pick.specs.Picture.{Pixels, IsFilled}
use Rattle.scale_pick.specs.Runs.{IsBeside, ShowsRun}
use Rattle.scale_pick.specs.Shade.{shown}
use Rattle.volatile_cell.specs.Showing.{reads_along}
use Rattle.team_eyes.specs.Teammate.{GoesPinned}
use Rattle.team_eyes.specs.TeammateLaws.{stays_pinned, pinned_on}
use Rattle.team_eyes.specs.Runs.{first_of, ShowsFirst}

-- reads along a walk go by the first numbers alone
reads_same : (k cell : ℕ) (walk : OffsetWalk) (f g : ℕ → ℕ) (n : ℕ) → ((j : ℕ) → j < n → f j ≡ g j) → reads_along k cell walk f n ≡ reads_along k cell walk g n
reads_same k cell walk f g zero same = refl
reads_same k cell walk f g (suc n) same = let rest = reads_same k cell walk f g n (λ j lt. same j (omega (arith, lt))) in let last = same n (omega arith) in λ i. rest i ++ (Read k cell (place_ahead walk n) (last i) ∷ [])

-- one read more
reads_more : (k cell : ℕ) (walk : OffsetWalk) (number : ℕ → ℕ) (n x : ℕ) → reads_along k cell walk number n ++ (Read k cell (place_ahead walk n) x ∷ []) ≡ reads_along k cell walk (with_at number n x) (suc n)
reads_more k cell walk number n x =
    let rest = reads_same k cell walk number (with_at number n x) n (λ j lt. sym (put_other number n x j (λ e. absurd (omega (arith, lt, e))))) in
    let last = sym (put_same number n x) in
    λ i. rest i ++ (Read k cell (place_ahead walk n) (last i) ∷ [])

-- one number more stands in a run of a list
set_inside : (xs : List ℕ) (first n x : ℕ) (f : ℕ → ℕ) → first + n < length xs → ((k : ℕ) → k < n → slice_index xs (first + k) ≡ f k) → f n ≡ x
    → (k : ℕ) → k < suc n → slice_index (slice_set xs (first + n) x) (first + k) ≡ f k
set_inside xs first n x f inside before is k lt = dite (ℕ_discrete k n)
    (λ e. subst (λ m. slice_index (slice_set xs (first + n) x) (first + m) ≡ f m) (sym e) (get_or-set_same xs (first + n) x 0 inside ∙ sym is))
    (λ ne. get_or-set_other xs (first + n) (first + k) x 0 (λ e. ne (omega (arith, e))) ∙ before k (low k ne lt))
  where
    low : (k : ℕ) → (k ≡ n → ⊥) → k < suc n → k < n
    low k ne lt = omega arith

-- and nothing else changes
set_beside : (xs : List ℕ) (run : Run) (n x i : ℕ) → IsBeside (first_of (suc n) run) i → slice_index (slice_set xs (run.first + n) x) i ≡ slice_index xs i
set_beside xs run n x i (inl low) = get_or-set_other xs (run.first + n) i x 0 (λ e. absurd (omega (arith, low, e)))
set_beside xs run n x i (inr high) = get_or-set_other xs (run.first + n) i x 0 (λ e. absurd (omega (arith, high, e)))

less_beside : (run : Run) (n i : ℕ) → IsBeside (first_of (suc n) run) i → IsBeside (first_of n run) i
less_beside run n i (inl low) = inl low
less_beside run n i (inr high) = inr (omega (arith, high))

abbrev with_pixel : Pixels → ℕ → ℕ → ℕ → Pixels
with_pixel p at value level = record p { values = slice_set p.values at value; mask = slice_set p.mask at level }

-- a run that shows one pixel more
run_more : (old new : Pixels) (run : Run) (n x : ℕ) (f g : ℕ → ℕ) → run.first + n < old.width * old.height → ShowsRun old new (first_of n run) f → ((k : ℕ) → k < n → f k ≡ g k) → g n ≡ x
    → ShowsRun old (with_pixel new (run.first + n) x run.level) (first_of (suc n) run) g
run_more old new run n x f g inside s same is = record {
  width = s.width;
  height = s.height;
  filled = record {
    some_columns = s.filled.some_columns;
    some_rows = s.filled.some_rows;
    width = s.filled.width;
    height = s.filled.height;
    values = length-set new.values (run.first + n) x ∙ s.filled.values;
    mask = length-set new.mask (run.first + n) run.level ∙ s.filled.mask;
  };
  values = set_inside new.values run.first n x g (subst (λ m. run.first + n < m) (sym (s.filled.values ∙ size)) inside) (λ k lt. s.values k lt ∙ same k lt) is;
  levels = set_inside new.mask run.first n run.level (λ _. run.level) (subst (λ m. run.first + n < m) (sym (s.filled.mask ∙ size)) inside) s.levels refl;
  values_beside = λ i b. set_beside new.values run n x i b ∙ s.values_beside i (less_beside run n i b);
  levels_beside = λ i b. set_beside new.mask run n run.level i b ∙ s.levels_beside i (less_beside run n i b);
}
  where
    size : new.width * new.height ≡ old.width * old.height
    size = λ i. s.width i * s.height i

module _ {S M : Type 0} (p : Plan S M) (cell : ℕ) (walk : OffsetWalk) (shades : Shades) (run : Run) (d : Doing S M) (old : Pixels) where
  -- no pixel is shown yet
  pub shows_none : IsFilled old → ShowsFirst p cell walk shades run 0 d old d old
  shows_none filled = record {
    number = λ _. 0;
    goes = stays_pinned p d;
    shows = record {
      width = refl;
      height = refl;
      filled = filled;
      values = λ k lt. absurd (omega (arith, lt));
      levels = λ k lt. absurd (omega (arith, lt));
      values_beside = λ i b. refl;
      levels_beside = λ i b. refl;
    };
  }

  -- the next voxel is read, and the next pixel shows its number
  pub shows_more : (n at x value : ℕ) (e e' : Doing S M) (new q : Pixels) → run.first + n < old.width * old.height → at ≡ place_ahead walk n → ShowsFirst p cell walk shades run n d old e new → GoesPinned p e (Read e.number cell at x ∷ []) e'
      → value ≡ shown x shades.low shades.high → q ≡ with_pixel new (run.first + n) value run.level → ShowsFirst p cell walk shades run (n + 1) d old e' q
  shows_more n at x value e e' new q inside there s read is set = subst (λ m. ShowsFirst p cell walk shades run m d old e' q) (sym (add-one n)) (record {
    number = with_at s.number n x;
    goes = subst (λ es. GoesPinned p d es e') (reads_more d.number cell walk s.number n x)
        (pinned_on p d e e' (reads_along d.number cell walk s.number n) (Read d.number cell (place_ahead walk n) x ∷ []) s.goes (subst (λ es. GoesPinned p e es e') (λ i. Read (s.goes.went.number i) cell (there i) x ∷ []) read));
    shows = subst (λ r. ShowsRun old r (first_of (suc n) run) (λ k. shown (with_at s.number n x k) shades.low shades.high)) (sym set)
        (run_more old new run n value (λ k. shown (s.number k) shades.low shades.high) (λ k. shown (with_at s.number n x k) shades.low shades.high) inside s.shows
        (λ k lt. ap (λ y. shown y shades.low shades.high) (sym (put_other s.number n x k (λ e. absurd (omega (arith, lt, e))))))
        (ap (λ y. shown y shades.low shades.high) (put_same s.number n x) ∙ sym is));
  })
