-- Visits one after another.
use Rattle.std.proofs.Common.{◌∙◌, List, [], ◌∷◌, ◌++◌, ℕ, true, false, refl, sym, ap, subst, append_assoc}
use Rattle.std.proofs.lemmas.List.{append-nil}
use Rattle.arr_history.specs.declared.event.Event.{Event}
use Rattle.arr_history.specs.declared.event.Event.TheVariants as event
use Rattle.volatile_cell.specs.Asked.{Asked}
use Rattle.hier_paint.specs.Sight.{Sight}
use Rattle.hier_paint.specs.Visits.{Visit, reading_visit, skipping, Finds, IsVisit, AreVisits}
use Rattle.volatile_cell.specs.Front.{Looker}

module _ (who : Looker) where
  pub no_visits : (s : Sight) → AreVisits who s [] s [] []
  no_visits s = record { same = refl; none = refl; nothing_asked = refl }

  pub visits_on : (s : Sight) (v : List Visit) (t : Sight) (e : List Event) (u : List Asked) (w : List Visit) (s' : Sight) (f : List Event) (m : List Asked)
      → AreVisits who s v t e u → AreVisits who t w s' f m → AreVisits who s (v ++ w) s' (e ++ f) (u ++ m)
  visits_on s [] t e u w s' f m g h =
      subst (λ (x : List Event). AreVisits who s w s' (x ++ f) (u ++ m)) (sym g.none)
      (subst (λ (x : List Asked). AreVisits who s w s' f (x ++ m)) (sym g.nothing_asked)
      (subst (λ (x : Sight). AreVisits who x w s' f m) g.same h))
  visits_on s (v ∷ vs) t e u w s' f m g h = (
    g.0,
    g.1,
    g.2 ++ f,
    g.3,
    g.4 ++ m,
    g.5,
    visits_on g.0 vs t g.2 g.4 w s' f m g.6 h,
    ap (λ (x : List Event). x ++ f) g.7 ∙ append_assoc g.1 g.2 f,
    ap (λ (x : List Asked). x ++ m) g.8 ∙ append_assoc g.3 g.4 m,
  )

  one_visit : (s : Sight) (v : Visit) (s' : Sight) (e : List Event) (u : List Asked) → IsVisit who s v.level v.note s' e u → AreVisits who s (v ∷ []) s' e u
  one_visit s v s' e u h = (s', e, [], u, [], h, no_visits s', sym (append-nil e), sym (append-nil u))

  -- a cell that wasn't ready, and a voxel that was read of one that was
  pub skip_visit : (s : Sight) (level cell : ℕ) (s' : Sight) (e : List Event) (u : List Asked) → Finds who s level cell false s' e u → AreVisits who s (skipping level cell ∷ []) s' e u
  skip_visit s level cell s' e u h = one_visit s (skipping level cell) s' e u h

  pub read_visit : (s : Sight) (level cell at x : ℕ) (s' : Sight) (e : List Event) (u : List Asked) → Finds who s level cell true s' e u
      → AreVisits who s (reading_visit level cell at x ∷ []) s' (e ++ event.Read who.pass cell at x ∷ []) u
  read_visit s level cell at x s' e u h = one_visit s (reading_visit level cell at x) s' (e ++ event.Read who.pass cell at x ∷ []) u (e, h, refl)
