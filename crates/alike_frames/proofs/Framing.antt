-- Two frames of the same view over caches that are alike.
use Rattle.std.proofs.Common.{◌≡◌, ◌∙◌, ℕ, zero, suc, true, List, [], ◌∷◌, ◌++◌, Option, None, Some, sym, ap, ap₂, subst, subst₂, append_assoc}
use Rattle.store_calls.specs.Calls.{FailAlike}
use Rattle.arr_history.specs.declared.event.Event.{Event}
use Rattle.arr_history.specs.declared.event.Event.TheVariants as event
use Rattle.scale_pick.specs.declared.view.View.{View}
use Rattle.scale_pick.specs.Shade.{shown}
use Rattle.scale_pick.specs.Pixel.{HasVoxel}
use Rattle.scale_pick.specs.Picture.{Pixels}
use Rattle.scale_pick.specs.Wanted.{wanted_level}
use Rattle.sole_cache.specs.Cached.{Cached}
use Rattle.volatile_cell.specs.Budget.{loads_by}
use Rattle.hier_paint.specs.Sight.{Sight}
use Rattle.hier_paint.specs.Visits.{Visit, reading_visit, skipping, IsLookedFor}
use Rattle.alike_caches.specs.Alike.{AreAlike}
use Rattle.alike_frames.proofs.Tandem.{AlikeLaws, Ends, Tandem}
use Rattle.alike_frames.proofs.Getting.{Refuses}
use Rattle.alike_frames.proofs.Visiting.{both_missed, both_visit, not_ready_missed, not_missed_ready, not_ready_cut, not_cut_ready, not_missed_cut}
use Rattle.alike_frames.proofs.Ways.{Spot, Refused, value_at, mask_at, IsEnd, outside, read, blank, refused, AreLevels, IsRest}
use Rattle.alike_frames.proofs.Spots.{one_voxel, voxel_in_range, not_outside, no_voxel, no_outside}
use Rattle.alike_frames.proofs.Going.{IsFate, Going, go_on, at_end, is_calm_ahead, both_end}

-- two pictures show the same at some pixels
abbrev pub AreSameAt : Pixels → Pixels → List Spot → Type 0
AreSameAt picture other [] = Unit {0}
AreSameAt picture other (s ∷ rest) = (value_at other s ≡ value_at picture s) × (mask_at other s ≡ mask_at picture s) × AreSameAt picture other rest

-- what two frames come to
pub record Outcome (z : Ends) (picture other : Pixels) (cut fate : Option Refused) (rest : List Spot) (e f : List Event) : Type 0 where
  pub same_events : f ≡ e
  pub same_end : fate ≡ cut
  pub levels : z.first.levels ≡ z.levels
  pub alike : AreAlike z.first z.second
  pub fail : FailAlike z.left z.other
  pub same : cut ≡ None → AreSameAt picture other rest

none_some : {A : Type 0} (o : Option A) (x : A) → o ≡ Some x → o ≡ None → ⊥
none_some o x some none = cc (sym some ∙ none)

module _ (laws : AlikeLaws) (z : Ends) (viewer : ℕ) (view : View) (picture other : Pixels) (cut fate : Option Refused) where
  abbrev First : Sight → List Visit → List Event → Type 0
  First s visits events = Going viewer z.levels z.first z.left cut s visits events

  abbrev Second : Sight → List Visit → List Event → Type 0
  Second s visits events = Going viewer z.levels z.second z.other fate s visits events

  abbrev Result : List Spot → List Event → List Event → Type 0
  Result rest e f = Outcome z picture other cut fate rest e f

  abbrev Rest : List Spot → List Visit → Type 0
  Rest rest visits = IsRest z.levels view picture cut rest visits

  abbrev Other : List Spot → List Visit → Type 0
  Other rest visits = IsRest z.levels view other fate rest visits

  abbrev FirstEnd : Spot → List Spot → ℕ → List Visit → Type 0
  FirstEnd s rest level visits = IsEnd z.levels view picture s (Rest rest) cut level visits

  abbrev SecondEnd : Spot → List Spot → ℕ → List Visit → Type 0
  SecondEnd s rest level visits = IsEnd z.levels view other s (Other rest) fate level visits

  -- the frames go on alike from some pixels
  abbrev GoAlike : List Spot → Type 0
  GoAlike rest = (c d : Cached) (s : Sight) (v w : List Visit) (e f : List Event) → Rest rest v → Other rest w → First s v e → Second s w f → Tandem z c d e f → Result rest e f

  -- one more pixel that is the same
  one_pixel : (spot : Spot) (rest : List Spot) (e f p q : List Event) → value_at other spot ≡ value_at picture spot → mask_at other spot ≡ mask_at picture spot → Result rest e f → q ++ f ≡ p ++ e → Result (spot ∷ rest) (p ++ e) (q ++ f)
  one_pixel spot rest e f p q value mask r joined = record { same_events = joined; same_end = r.same_end; levels = r.levels; alike = r.alike; fail = r.fail; same = λ none. (value, mask, r.same none) }

  due_at : (s : Sight) (level cell cell' : ℕ) → cell ≡ cell' → cut ≡ Some (record { level = level; cell = cell' }) → IsFate z.first z.left s cut
      → IsLookedFor s level cell × (loads_by s.budget.strategy s.budget.left ≡ true) × Refuses z.first cell z.left
  due_at s level cell cell' same is known = subst (λ n. IsLookedFor s level n × (loads_by s.budget.strategy s.budget.left ≡ true) × Refuses z.first n z.left) (sym same) (subst (IsFate z.first z.left s) is known)

  due_there : (s : Sight) (level cell cell' : ℕ) → cell ≡ cell' → fate ≡ Some (record { level = level; cell = cell' }) → IsFate z.second z.other s fate
      → IsLookedFor s level cell × (loads_by s.budget.strategy s.budget.left ≡ true) × Refuses z.second cell z.other
  due_there s level cell cell' same is known = subst (λ n. IsLookedFor s level n × (loads_by s.budget.strategy s.budget.left ≡ true) × Refuses z.second n z.other) (sym same) (subst (IsFate z.second z.other s) is known)

  -- both read the pixel at this level
  both_read_at : (spot : Spot) (rest : List Spot) → GoAlike rest → (level cell at x cell' at' y : ℕ) (c d : Cached) (s : Sight) (more more' : List Visit) (e f : List Event)
      → HasVoxel z.levels view.affine level spot.x spot.y cell at → value_at picture spot ≡ shown x view.low view.high → mask_at picture spot ≡ level → Rest rest more
      → HasVoxel z.levels view.affine level spot.x spot.y cell' at' → value_at other spot ≡ shown y view.low view.high → mask_at other spot ≡ level → Other rest more'
      → First s (reading_visit level cell at x ∷ more) e → Second s (reading_visit level cell' at' y ∷ more') f → Tandem z c d e f → Result (spot ∷ rest) e f
  both_read_at spot rest go_alike level cell at x cell' at' y c d s more more' e f voxel value mask way voxel' value' mask' way' going going' t =
      let place = one_voxel z.levels view.affine level spot.x spot.y cell at cell' at' voxel voxel' in
      let same : reading_visit level cell' at' y ∷ more' ≡ reading_visit level cell at y ∷ more' = ap₂ (λ m n. reading_visit level m n y ∷ more') (sym place.0) (sym place.1) in
      let a = go_on viewer z.levels z.first z.left cut s (reading_visit level cell at x) more e going in
      let b = go_on viewer z.levels z.second z.other fate s (reading_visit level cell at y) more' f (subst (λ (v : List Visit). Second s v f) same going') in
      let on = both_visit laws z viewer c d s a.then b.then level cell at x y a.first b.first a.rest b.rest a.asked b.asked (voxel_in_range z.levels view.affine level spot.x spot.y cell at voxel)
      a.visit b.visit (subst₂ (Tandem z c d) a.is b.is t) in
      let r = go_alike on.3.c on.3.d a.then more more' a.rest b.rest way way' a.going (subst (λ (u : Sight). Second u more' b.rest) on.1 b.going) on.3.pair in
      subst₂ (Result (spot ∷ rest)) (sym a.is) (sym b.is)
      (one_pixel spot rest a.rest b.rest a.first b.first (value' ∙ ap (λ n. shown n view.low view.high) on.0 ∙ sym value) (mask' ∙ sym mask) r (ap₂ (λ (m n : List Event). m ++ n) on.2 r.same_events))

  -- one reads it, and the other is cut off there
  read_cut : (spot : Spot) (rest : List Spot) (level cell at x cell' at' : ℕ) (c d : Cached) (s : Sight) (more : List Visit) (e f : List Event)
      → HasVoxel z.levels view.affine level spot.x spot.y cell at → HasVoxel z.levels view.affine level spot.x spot.y cell' at' → fate ≡ Some (record { level = level; cell = cell' })
      → First s (reading_visit level cell at x ∷ more) e → Second s [] f → Tandem z c d e f → ⊥
  read_cut spot rest level cell at x cell' at' c d s more e f voxel voxel' is going going' t =
      let place = one_voxel z.levels view.affine level spot.x spot.y cell at cell' at' voxel voxel' in
      let a = go_on viewer z.levels z.first z.left cut s (reading_visit level cell at x) more e going in
      let b = at_end viewer z.levels z.second z.other fate s f going' in
      let due = due_there s level cell cell' place.0 is b.1 in
      let (found, finds, are) = a.visit in
      let e_is : e ≡ found ++ (event.Read 0 cell at x ∷ a.rest) = a.is ∙ ap (λ (es : List Event). es ++ a.rest) are ∙ append_assoc found (event.Read 0 cell at x ∷ []) a.rest in
      not_ready_cut laws z viewer c d s a.then level cell found (event.Read 0 cell at x ∷ a.rest) a.asked (voxel_in_range z.levels view.affine level spot.x spot.y cell at voxel)
      finds due.0 (subst₂ (Tandem z c d) e_is b.0 t) due.2

  cut_read : (spot : Spot) (rest : List Spot) (level cell at x cell' at' : ℕ) (c d : Cached) (s : Sight) (more : List Visit) (e f : List Event)
      → HasVoxel z.levels view.affine level spot.x spot.y cell at → HasVoxel z.levels view.affine level spot.x spot.y cell' at' → cut ≡ Some (record { level = level; cell = cell' })
      → First s [] e → Second s (reading_visit level cell at x ∷ more) f → Tandem z c d e f → ⊥
  cut_read spot rest level cell at x cell' at' c d s more e f voxel voxel' is going going' t =
      let place = one_voxel z.levels view.affine level spot.x spot.y cell at cell' at' voxel voxel' in
      let a = at_end viewer z.levels z.first z.left cut s e going in
      let b = go_on viewer z.levels z.second z.other fate s (reading_visit level cell at x) more f going' in
      let due = due_at s level cell cell' place.0 is a.1 in
      let (found, finds, are) = b.visit in
      let f_is : f ≡ found ++ (event.Read 0 cell at x ∷ b.rest) = b.is ∙ ap (λ (es : List Event). es ++ b.rest) are ∙ append_assoc found (event.Read 0 cell at x ∷ []) b.rest in
      not_cut_ready laws z viewer c d s b.then level cell found (event.Read 0 cell at x ∷ b.rest) b.asked (voxel_in_range z.levels view.affine level spot.x spot.y cell at voxel)
      finds due.0 (subst₂ (Tandem z c d) a.0 f_is t) due.2

  -- both are cut off there
  both_cut : (spot : Spot) (rest : List Spot) (level cell at cell' at' : ℕ) (c d : Cached) (s : Sight) (e f : List Event)
      → HasVoxel z.levels view.affine level spot.x spot.y cell at → HasVoxel z.levels view.affine level spot.x spot.y cell' at'
      → cut ≡ Some (record { level = level; cell = cell }) → fate ≡ Some (record { level = level; cell = cell' }) → First s [] e → Second s [] f → Tandem z c d e f → Result (spot ∷ rest) e f
  both_cut spot rest level cell at cell' at' c d s e f voxel voxel' is is' going going' t =
      let place = one_voxel z.levels view.affine level spot.x spot.y cell at cell' at' voxel voxel' in
      let a = at_end viewer z.levels z.first z.left cut s e going in
      let b = at_end viewer z.levels z.second z.other fate s f going' in
      let end = both_end laws z c d s.held e f a.0 b.0 t in
      record {
        same_events = end.same;
        same_end = is' ∙ ap (λ n. Some (record { level = level; cell = n })) (sym place.0) ∙ sym is;
        levels = end.levels;
        alike = end.alike;
        fail = end.fail;
        same = λ none. absurd (none_some cut (record { level = level; cell = cell }) is none);
      }

  -- the pixel ends at this level in both
  ends : (spot : Spot) (rest : List Spot) → GoAlike rest → (level : ℕ) (c d : Cached) (s : Sight) (v w : List Visit) (e f : List Event)
      → FirstEnd spot rest level v → SecondEnd spot rest level w → First s v e → Second s w f → Tandem z c d e f → Result (spot ∷ rest) e f
  ends spot rest go_alike level c d s v w e f (outside out dark mask way) (outside out' dark' mask' way') going going' t =
      let r = go_alike c d s v w e f way way' going going' t in
      one_pixel spot rest e f [] [] (dark' ∙ sym dark) (mask' ∙ sym mask) r r.same_events
  ends spot rest go_alike level c d s v w e f (outside out dark mask way) (read cell at y more voxel value mask' is way') going going' t = absurd (not_outside z.levels view.affine level spot.x spot.y cell at out voxel)
  ends spot rest go_alike level c d s v w e f (outside out dark mask way) (blank last dark' mask' way') going going' t = absurd (no_outside z.levels view.affine level spot.x spot.y last out)
  ends spot rest go_alike level c d s v w e f (outside out dark mask way) (refused cell at voxel none is) going going' t = absurd (not_outside z.levels view.affine level spot.x spot.y cell at out voxel)
  ends spot rest go_alike level c d s v w e f (read cell at x more voxel value mask is way) (outside out dark mask' way') going going' t = absurd (not_outside z.levels view.affine level spot.x spot.y cell at out voxel)
  ends spot rest go_alike level c d s v w e f (read cell at x more voxel value mask is way) (read cell' at' y more' voxel' value' mask' is' way') going going' t =
      both_read_at spot rest go_alike level cell at x cell' at' y c d s more more' e f voxel value mask way voxel' value' mask' way'
      (subst (λ (u : List Visit). First s u e) is going) (subst (λ (u : List Visit). Second s u f) is' going') t
  ends spot rest go_alike level c d s v w e f (read cell at x more voxel value mask is way) (blank last dark mask' way') going going' t = absurd (no_voxel z.levels view.affine level spot.x spot.y cell at last voxel)
  ends spot rest go_alike level c d s v w e f (read cell at x more voxel value mask is way) (refused cell' at' voxel' none is') going going' t =
      absurd (read_cut spot rest level cell at x cell' at' c d s more e f voxel voxel' is' (subst (λ (u : List Visit). First s u e) is going) (subst (λ (u : List Visit). Second s u f) none going') t)
  ends spot rest go_alike level c d s v w e f (blank last dark mask way) (outside out dark' mask' way') going going' t = absurd (no_outside z.levels view.affine level spot.x spot.y last out)
  ends spot rest go_alike level c d s v w e f (blank last dark mask way) (read cell at y more voxel value mask' is way') going going' t = absurd (no_voxel z.levels view.affine level spot.x spot.y cell at last voxel)
  ends spot rest go_alike level c d s v w e f (blank last dark mask way) (blank last' dark' mask' way') going going' t =
      let r = go_alike c d s v w e f way way' going going' t in
      one_pixel spot rest e f [] [] (dark' ∙ sym dark) (mask' ∙ sym mask) r r.same_events
  ends spot rest go_alike level c d s v w e f (blank last dark mask way) (refused cell at voxel none is) going going' t = absurd (no_voxel z.levels view.affine level spot.x spot.y cell at last voxel)
  ends spot rest go_alike level c d s v w e f (refused cell at voxel none is) (outside out dark mask way) going going' t = absurd (not_outside z.levels view.affine level spot.x spot.y cell at out voxel)
  ends spot rest go_alike level c d s v w e f (refused cell at voxel none is) (read cell' at' y more voxel' value mask is' way) going going' t =
      absurd (cut_read spot rest level cell' at' y cell at c d s more e f voxel' voxel is (subst (λ (u : List Visit). First s u e) none going) (subst (λ (u : List Visit). Second s u f) is' going') t)
  ends spot rest go_alike level c d s v w e f (refused cell at voxel none is) (blank last dark mask way) going going' t = absurd (no_voxel z.levels view.affine level spot.x spot.y cell at last voxel)
  ends spot rest go_alike level c d s v w e f (refused cell at voxel none is) (refused cell' at' voxel' none' is') going going' t =
      both_cut spot rest level cell at cell' at' c d s e f voxel voxel' is is' (subst (λ (u : List Visit). First s u e) none going) (subst (λ (u : List Visit). Second s u f) none' going') t

  -- in one the level isn't ready, and in the other the pixel ends there
  not_skip_end : (spot : Spot) (rest : List Spot) (level cell at : ℕ) (c d : Cached) (s : Sight) (more w : List Visit) (e f : List Event) → HasVoxel z.levels view.affine level spot.x spot.y cell at
      → SecondEnd spot rest level w → First s (skipping level cell ∷ more) e → Second s w f → Tandem z c d e f → ⊥
  not_skip_end spot rest level cell at c d s more w e f voxel (outside out dark mask way) going going' t = not_outside z.levels view.affine level spot.x spot.y cell at out voxel
  not_skip_end spot rest level cell at c d s more w e f voxel (blank last dark mask way) going going' t = no_voxel z.levels view.affine level spot.x spot.y cell at last voxel
  not_skip_end spot rest level cell at c d s more w e f voxel (read cell' at' y more' voxel' value mask is way) going going' t =
      let place = one_voxel z.levels view.affine level spot.x spot.y cell at cell' at' voxel voxel' in
      let a = go_on viewer z.levels z.first z.left cut s (skipping level cell) more e going in
      let b = go_on viewer z.levels z.second z.other fate s (reading_visit level cell at' y) more' f (subst (λ (u : List Visit). Second s u f) (is ∙ ap (λ n. reading_visit level n at' y ∷ more') (sym place.0)) going') in
      let (found, finds, are) = b.visit in
      let f_is : f ≡ found ++ (event.Read 0 cell at' y ∷ b.rest) = b.is ∙ ap (λ (es : List Event). es ++ b.rest) are ∙ append_assoc found (event.Read 0 cell at' y ∷ []) b.rest in
      not_missed_ready laws z viewer c d s a.then b.then level cell a.first found a.rest (event.Read 0 cell at' y ∷ b.rest) a.asked b.asked
      (is_calm_ahead viewer z.levels z.first z.left cut a.then more a.rest a.going) a.visit finds (subst₂ (Tandem z c d) a.is f_is t)
  not_skip_end spot rest level cell at c d s more w e f voxel (refused cell' at' voxel' none is) going going' t =
      let place = one_voxel z.levels view.affine level spot.x spot.y cell at cell' at' voxel voxel' in
      let a = go_on viewer z.levels z.first z.left cut s (skipping level cell) more e going in
      let b = at_end viewer z.levels z.second z.other fate s f (subst (λ (u : List Visit). Second s u f) none going') in
      let due = due_there s level cell cell' place.0 is b.1 in
      not_missed_cut laws z viewer s a.then level cell a.first a.asked a.visit due.0 due.1

  not_end_skip : (spot : Spot) (rest : List Spot) (level cell at : ℕ) (c d : Cached) (s : Sight) (more v : List Visit) (e f : List Event) → HasVoxel z.levels view.affine level spot.x spot.y cell at
      → FirstEnd spot rest level v → First s v e → Second s (skipping level cell ∷ more) f → Tandem z c d e f → ⊥
  not_end_skip spot rest level cell at c d s more v e f voxel (outside out dark mask way) going going' t = not_outside z.levels view.affine level spot.x spot.y cell at out voxel
  not_end_skip spot rest level cell at c d s more v e f voxel (blank last dark mask way) going going' t = no_voxel z.levels view.affine level spot.x spot.y cell at last voxel
  not_end_skip spot rest level cell at c d s more v e f voxel (read cell' at' x more' voxel' value mask is way) going going' t =
      let place = one_voxel z.levels view.affine level spot.x spot.y cell at cell' at' voxel voxel' in
      let a = go_on viewer z.levels z.first z.left cut s (reading_visit level cell at' x) more' e (subst (λ (u : List Visit). First s u e) (is ∙ ap (λ n. reading_visit level n at' x ∷ more') (sym place.0)) going) in
      let b = go_on viewer z.levels z.second z.other fate s (skipping level cell) more f going' in
      let (found, finds, are) = a.visit in
      let e_is : e ≡ found ++ (event.Read 0 cell at' x ∷ a.rest) = a.is ∙ ap (λ (es : List Event). es ++ a.rest) are ∙ append_assoc found (event.Read 0 cell at' x ∷ []) a.rest in
      not_ready_missed laws z viewer c d s a.then b.then level cell found b.first (event.Read 0 cell at' x ∷ a.rest) b.rest a.asked b.asked
      (is_calm_ahead viewer z.levels z.second z.other fate b.then more b.rest b.going) finds b.visit (subst₂ (Tandem z c d) e_is b.is t)
  not_end_skip spot rest level cell at c d s more v e f voxel (refused cell' at' voxel' none is) going going' t =
      let place = one_voxel z.levels view.affine level spot.x spot.y cell at cell' at' voxel voxel' in
      let a = at_end viewer z.levels z.first z.left cut s e (subst (λ (u : List Visit). First s u e) none going) in
      let b = go_on viewer z.levels z.second z.other fate s (skipping level cell) more f going' in
      let due = due_at s level cell cell' place.0 is a.1 in
      not_missed_cut laws z viewer s b.then level cell b.first b.asked b.visit due.0 due.1

  -- a pixel, from a level on
  at_level : (spot : Spot) (rest : List Spot) → GoAlike rest → (level n m : ℕ) (c d : Cached) (s : Sight) (v w : List Visit) (e f : List Event)
      → AreLevels z.levels view spot (FirstEnd spot rest) level n v → AreLevels z.levels view spot (SecondEnd spot rest) level m w → First s v e → Second s w f → Tandem z c d e f → Result (spot ∷ rest) e f
  at_level spot rest go_alike level zero zero c d s v w e f h g going going' t = ends spot rest go_alike level c d s v w e f h g going going' t
  at_level spot rest go_alike level zero (suc m) c d s v w e f h (cell, at, more, voxel, is, after) going going' t =
      absurd (not_end_skip spot rest level cell at c d s more v e f voxel h going (subst (λ (u : List Visit). Second s u f) is going') t)
  at_level spot rest go_alike level (suc n) zero c d s v w e f (cell, at, more, voxel, is, after) g going going' t =
      absurd (not_skip_end spot rest level cell at c d s more w e f voxel g (subst (λ (u : List Visit). First s u e) is going) going' t)
  at_level spot rest go_alike level (suc n) (suc m) c d s v w e f (cell, at, more, voxel, is, after) (cell', at', more', voxel', is', after') going going' t =
      let place = one_voxel z.levels view.affine level spot.x spot.y cell at cell' at' voxel voxel' in
      let a = go_on viewer z.levels z.first z.left cut s (skipping level cell) more e (subst (λ (u : List Visit). First s u e) is going) in
      let b = go_on viewer z.levels z.second z.other fate s (skipping level cell) more' f (subst (λ (u : List Visit). Second s u f) (is' ∙ ap (λ n. skipping level n ∷ more') (sym place.0)) going') in
      let on = both_missed laws z viewer c d s a.then b.then level cell a.first b.first a.rest b.rest a.asked b.asked
      (is_calm_ahead viewer z.levels z.first z.left cut a.then more a.rest a.going) (is_calm_ahead viewer z.levels z.second z.other fate b.then more' b.rest b.going) a.visit b.visit (subst₂ (Tandem z c d) a.is b.is t) in
      let r = at_level spot rest go_alike (suc level) n m on.2.c on.2.d a.then more more' a.rest b.rest after after' a.going (subst (λ (u : Sight). Second u more' b.rest) on.0 b.going) on.2.pair in
      record { same_events = b.is ∙ ap₂ (λ (m n : List Event). m ++ n) on.1 r.same_events ∙ sym a.is; same_end = r.same_end; levels = r.levels; alike = r.alike; fail = r.fail; same = r.same }

  -- the frames, from some pixels on
  pub frames_alike : (rest : List Spot) → GoAlike rest
  frames_alike [] c d s v w e f h g going going' t =
      let a = at_end viewer z.levels z.first z.left cut s e (subst (λ (u : List Visit). First s u e) h.0 going) in
      let b = at_end viewer z.levels z.second z.other fate s f (subst (λ (u : List Visit). Second s u f) g.0 going') in
      let end = both_end laws z c d s.held e f a.0 b.0 t in
      record { same_events = end.same; same_end = g.1 ∙ sym h.1; levels = end.levels; alike = end.alike; fail = end.fail; same = λ none. tt }
  frames_alike (spot ∷ rest) c d s v w e f (n, h) (m, g) going going' t = at_level spot rest (frames_alike rest) (wanted_level z.levels view) n m c d s v w e f h g going going' t
