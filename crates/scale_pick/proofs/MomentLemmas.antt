-- Numbers that voxels had, and pictures that show them.
use Rattle.std.proofs.Common.{ℕ, zero, suc, ◌==◌, inl, inr, Bool, true, false, cond, List, [], ◌∷◌, Contains, refl, ap, subst, arith}
use Rattle.arr_history.specs.declared.event.Event.{Event}
use Rattle.arr_history.specs.declared.event.Event.TheVariants as event
use Rattle.arr_history.specs.State.{State}
use Rattle.arr_history.specs.Shape.{Shape}
use Rattle.arr_history.specs.Next.{next}
use Rattle.arr_history.specs.Legal.{IsLegal}
use Rattle.arr_history.specs.History.{AreLegal, pass_of, mine}
use Rattle.cell_grid.specs.declared.level.Level.{Level}
use Rattle.scale_pick.specs.declared.view.View.{View}
use Rattle.scale_pick.specs.Moment.{HadAmong, ShowsMoment}
use Rattle.scale_pick.specs.Notes.{notes_of}
use Rattle.scale_pick.specs.Laws.{NotedLooks, ReadMoments, ShownMoments}
use Rattle.scale_pick.specs.Painting.{Shows}

later : (b : Shape) (s : State) (e : Event) (events : List Event) (c i x : ℕ) → HadAmong b (next s e) events c i x → HadAmong b s (e ∷ events) c i x
later b s e events c i x h = record { before = e ∷ h.before; rest = h.rest; split = ap (λ (es : List Event). e ∷ es) h.split; had = h.had }

-- a number that was read is one that the voxel had
pub had_among : ReadMoments
had_among b s [] k c i x l h = absurd (omega (arith, h.1))
had_among b s (e ∷ events) k c i x l (zero, lt, at) =
    let legal : IsLegal b s (event.Read k c i x) = subst (IsLegal b s) at l.0 in record { before = []; rest = e ∷ events; split = refl; had = legal.4 }
had_among b s (e ∷ events) k c i x l (suc n, lt, at) = later b s e events c i x (had_among b (next s e) events k c i x l.1 (n, omega (arith, lt), at))

-- what a pass did is among all that was done
of_all : (k : ℕ) (all : List Event) (x : Event) → Contains (mine k all) x → Contains all x
of_all k [] x h = h
of_all k (e ∷ events) x h = choose (of_all k events x) (pass_of e == k) h
  where
    on : Contains events x → Contains (e ∷ events) x
    on (n, lt, at) = (suc n, omega (arith, lt), at)

    choose : (Contains (mine k events) x → Contains events x) → (t : Bool) → Contains (cond t (e ∷ mine k events) (mine k events)) x → Contains (e ∷ events) x
    choose rest true (zero, lt, at) = (zero, omega arith, at)
    choose rest true (suc n, lt, at) = on (rest (n, omega (arith, lt), at))
    choose rest false m = on (rest m)

-- what a pixel shows is such a number
shows_moment : NotedLooks → ReadMoments → (b : Shape) (s : State) (all : List Event) (k : ℕ) (levels : List Level) (view : View) (x y value level : ℕ) → AreLegal b s all
    → Shows levels view (notes_of view.strategy (mine k all)) x y level value → ShowsMoment levels view b s all x y level value
shows_moment noted of_moments b s all k levels view x y value level legal (inl dark) = inl dark
shows_moment noted of_moments b s all k levels view x y value level legal (inr (c, i, n, voxel, read, shade)) =
    let found = ((noted view.strategy (mine k all)).reads c i n).0 read in
    inr (c, i, n, voxel, of_moments b s all found.0 c i n legal (of_all k all (event.Read found.0 c i n) found.1), shade)

pub show_moments : NotedLooks → ReadMoments → ShownMoments
show_moments noted of_moments b s all k levels view wanted x y value mask legal shown = shows_moment noted of_moments b s all k levels view x y value mask legal shown.shows
