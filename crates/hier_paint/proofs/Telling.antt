-- What the events of visits tell.
use Rattle.std.proofs.Common.{◌≡◌, ◌⊎◌, inl, inr, ℕ, zero, suc, true, List, [], ◌∷◌, ◌++◌, Option, None, Some, Contains, slice_index_or, slice_set, sym, ap, subst, arith, append_assoc}
use Rattle.std.proofs.lemmas.List.{append-nil}
use Rattle.std.proofs.lemmas.List.Elements.{Contains-append_left, Contains-push}
use Rattle.std.proofs.lemmas.Bool.Decides.{nat_tests}
use Rattle.arr_history.specs.declared.event.Event.{Event}
use Rattle.arr_history.specs.declared.event.Event.TheVariants as event
use Rattle.scale_pick.specs.declared.note.Note.{Note}
use Rattle.scale_pick.specs.declared.note.Note.TheVariants as note
use Rattle.volatile_cell.specs.Asked.{Asked}
use Rattle.hier_paint.specs.Sight.{Sight, is_cell, holding, missing, given_back}
use Rattle.hier_paint.specs.Visits.{Visit, IsIdle, LooksReady, LooksMissed, Finds, IsVisit, AreVisits}
use Rattle.hier_paint.proofs.Noting.{Step, idle_step, follow_step, give_back_step, read_step, ready_step, missed_step}
use Rattle.volatile_cell.specs.Front.{Looker}

-- the cells that are remembered as not ready were noted so
abbrev pub Remembers : List (Option ℕ) → List Note → Type 0
Remembers missed notes = (level cell : ℕ) → slice_index_or missed level None ≡ Some cell → Contains notes (note.NotReady cell)

-- what was visited was noted
abbrev pub Covers : List Visit → List Note → Type 0
Covers visits notes = (v : Visit) → Contains visits v → Contains notes v.note

remembers_still : (missed : List (Option ℕ)) (before seen : List Note) → Remembers missed before → Remembers missed (before ++ seen)
remembers_still missed before seen r = λ level cell h. Contains-append_left before seen (note.NotReady cell) (r level cell h)

-- what stands in a list after one place was set
set_cases : (xs : List (Option ℕ)) (i l : ℕ) (v : Option ℕ) (c : ℕ) → slice_index_or (slice_set xs i v) l None ≡ Some c → (v ≡ Some c) ⊎ (slice_index_or xs l None ≡ Some c)
set_cases [] i l v c h = inr h
set_cases (x ∷ xs) zero zero v c h = inl h
set_cases (x ∷ xs) zero (suc l) v c h = inr h
set_cases (x ∷ xs) (suc i) zero v c h = inr h
set_cases (x ∷ xs) (suc i) (suc l) v c h = set_cases xs i l v c h

remembers_more : (missed : List (Option ℕ)) (level cell : ℕ) (before : List Note) → Remembers missed before → Remembers (slice_set missed level (Some cell)) (before ++ note.NotReady cell ∷ [])
remembers_more missed level cell before r = λ l c h. elim (set_cases missed level l (Some cell) c h) [
  | inl e ↦ let same : cell ≡ c = cc in subst (λ n. Contains (before ++ note.NotReady cell ∷ []) (note.NotReady n)) same (Contains-push before (note.NotReady cell))
  | inr e ↦ Contains-append_left before (note.NotReady cell ∷ []) (note.NotReady c) (r l c e)
]

is_cell_some : (o : Option ℕ) (cell : ℕ) → is_cell o cell ≡ true → o ≡ Some cell
is_cell_some None cell h = cc
is_cell_some (Some c) cell h = let same : c ≡ cell = grind (arith, nat_tests) in ap Some same

module _ (who : Looker) where
  -- what a visit noted, and what is remembered after it
  pub record Told (s s' : Sight) (events : List Event) (calls : List Asked) (Noted : List Note → Type 0) : Type 0 where
    pub seen : List Note
    pub step : Step who s.budget s'.budget events calls seen
    pub learned : (before : List Note) → Remembers s.missed before → Remembers s'.missed (before ++ seen) × Noted (before ++ seen)

  idle_told : (s s' : Sight) (events : List Event) (calls : List Asked) (Noted : List Note → Type 0) → IsIdle s s' events calls → ((before : List Note) → Remembers s.missed before → Noted before) → Told s s' events calls Noted
  idle_told s s' events calls Noted idle noted =
      subst (λ (x : Sight). Told s x events calls Noted) (sym idle.same) (subst (λ (es : List Event). Told s s es calls Noted) (sym idle.none) (subst (λ (us : List Asked). Told s s [] us Noted) (sym idle.nothing_asked) (record {
        seen = [];
        step = idle_step who s.budget;
        learned = λ before r. subst (λ (ns : List Note). Remembers s.missed ns × Noted ns) (sym (append-nil before)) (r, noted before r);
      })))

  -- a look after what was held was given back
  looked : (s : Sight) (left : _) (piece : List Event) (calls : List Asked) (seen : List Note) → Step who s.budget left piece calls seen → Step who s.budget left (given_back who.pass s.held ++ piece) calls seen
  looked s left piece calls seen step = follow_step who s.budget s.budget left (given_back who.pass s.held) piece [] calls [] seen (give_back_step who s.budget who.pass s.held) step

  ready_told : (s s' : Sight) (level cell : ℕ) (events : List Event) (calls : List Asked) → LooksReady who s level cell s' events calls → Told s s' events calls (λ _. Unit {0})
  ready_told s s' level cell events calls l =
      subst (λ (x : Sight). Told s x events calls (λ _. Unit {0})) (sym l.held) (subst (λ (es : List Event). Told s (holding s cell l.left) es calls (λ _. Unit {0})) (sym l.events_are) (record {
        seen = [];
        step = looked s l.left l.piece calls [] (ready_step who cell s.budget l.loaded l.left l.piece calls l.look);
        learned = λ before r. (remembers_still s.missed before [] r, tt);
      }))

  missed_told : (s s' : Sight) (level cell : ℕ) (events : List Event) (calls : List Asked) → LooksMissed who s level cell s' events calls → Told s s' events calls (λ ns. Contains ns (note.NotReady cell))
  missed_told s s' level cell events calls l =
      subst (λ (x : Sight). Told s x events calls (λ ns. Contains ns (note.NotReady cell))) (sym l.missed) (subst (λ (es : List Event). Told s (missing s level cell l.left) es calls (λ ns. Contains ns (note.NotReady cell))) (sym l.events_are) (record {
        seen = note.NotReady cell ∷ [];
        step = looked s l.left l.piece calls (note.NotReady cell ∷ []) (missed_step who cell s.budget l.left l.piece calls l.look);
        learned = λ before r. (remembers_more s.missed level cell before r, Contains-push before (note.NotReady cell));
      }))

  found_told : (s s' : Sight) (level cell : ℕ) (events : List Event) (calls : List Asked) → Finds who s level cell true s' events calls → Told s s' events calls (λ _. Unit {0})
  found_told s s' level cell events calls (inl h) = idle_told s s' events calls (λ _. Unit {0}) h.1 (λ _ _. tt)
  found_told s s' level cell events calls (inr h) = ready_told s s' level cell events calls h

  visit_told : (s : Sight) (level : ℕ) (n : Note) (s' : Sight) (events : List Event) (calls : List Asked) → IsVisit who s level n s' events calls → Told s s' events calls (λ ns. Contains ns n)
  visit_told s level (note.NotReady cell) s' events calls (inl h) = idle_told s s' events calls _ h.2 (λ before r. r level cell (is_cell_some _ cell h.1))
  visit_told s level (note.NotReady cell) s' events calls (inr h) = missed_told s s' level cell events calls h
  visit_told s level (note.Read cell at x) s' events calls h =
      let f = found_told s s' level cell h.0 calls h.1 in
      let step = follow_step who s.budget s'.budget s'.budget h.0 (event.Read who.pass cell at x ∷ []) calls [] f.seen (note.Read cell at x ∷ []) f.step (read_step who s'.budget who.pass cell at x) in
      subst (λ (es : List Event). Told s s' es calls (λ ns. Contains ns (note.Read cell at x))) (sym h.2) (subst (λ (us : List Asked). Told s s' (h.0 ++ event.Read who.pass cell at x ∷ []) us (λ ns. Contains ns (note.Read cell at x))) (append-nil calls) (record {
        seen = f.seen ++ note.Read cell at x ∷ [];
        step = step;
        learned = λ before r.
            let first = f.learned before r in
            subst (λ (ns : List Note). Remembers s'.missed ns × Contains ns (note.Read cell at x)) (append_assoc before f.seen (note.Read cell at x ∷ []))
            (remembers_still s'.missed (before ++ f.seen) (note.Read cell at x ∷ []) first.0, Contains-push (before ++ f.seen) (note.Read cell at x));
      }))

  covers_more : (v : Visit) (visits : List Visit) (before seen : List Note) → Contains before v.note → Covers visits (before ++ seen) → Covers (v ∷ visits) (before ++ seen)
  covers_more v visits before seen here rest = λ w h. go w h
    where
      go : (w : Visit) → Contains (v ∷ visits) w → Contains (before ++ seen) w.note
      go w (zero, lt, at) = subst (λ (x : Visit). Contains (before ++ seen) x.note) at (Contains-append_left before seen v.note here)
      go w (suc j, lt, at) = rest w (j, omega (arith, lt), at)

  pub visits_told : (s : Sight) (visits : List Visit) (s' : Sight) (events : List Event) (calls : List Asked) → AreVisits who s visits s' events calls → Told s s' events calls (Covers visits)
  visits_told s [] s' events calls idle = idle_told s s' events calls (Covers []) idle (λ before r v h. absurd (omega (arith, h.1)))
  visits_told s (v ∷ visits) s' events calls h =
      let f = visit_told s v.level v.note h.0 h.1 h.3 h.5 in
      let g = visits_told h.0 visits s' h.2 h.4 h.6 in
      let step = follow_step who s.budget h.0.budget s'.budget h.1 h.2 h.3 h.4 f.seen g.seen f.step g.step in
      subst (λ (es : List Event). Told s s' es calls (Covers (v ∷ visits))) (sym h.7) (subst (λ (us : List Asked). Told s s' (h.1 ++ h.2) us (Covers (v ∷ visits))) (sym h.8) (record {
        seen = f.seen ++ g.seen;
        step = step;
        learned = λ before r.
            let first = f.learned before r in
            let second = g.learned (before ++ f.seen) first.0 in
            subst (λ (ns : List Note). Remembers s'.missed ns × Covers (v ∷ visits) ns) (append_assoc before f.seen g.seen)
            (second.0, covers_more v visits (before ++ f.seen) g.seen first.1 second.1);
      }))
