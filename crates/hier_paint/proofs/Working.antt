-- What a painter does, one thing after another.
use Rattle.std.proofs.Common.{◌≡◌, inl, inr, ℕ, Bool, true, false, List, [], ◌∷◌, ◌++◌, None, Some, Result, refl, sym, subst}
use Rattle.std.specs.declared.result.Result.TheVariants.{Ok, Err}
use Rattle.std.specs.Result.{IfOk, IfErr}
use Rattle.std.proofs.lemmas.List.{append-nil}
use Rattle.cell_file.specs.declared.errors.AcquireErr.{AcquireErr}
use Rattle.arr_history.specs.declared.event.Event.{Event}
use Rattle.arr_history.specs.declared.event.Event.TheVariants as event
use Rattle.volatile_cell.specs.Asked.{Asked}
use Rattle.volatile_cell.specs.Looks.{IsRefusedLook}
use Rattle.hier_paint.specs.Sight.{Sight, is_held, is_missed, given_back}
use Rattle.hier_paint.specs.Visits.{Visit, IsLookedFor, reading_visit, skipping, AreVisits}
use Rattle.hier_paint.specs.Works.{Found, Works, Fails}
use Rattle.hier_paint.specs.Finding.{IsAtVoxel, IsFoundLook, IsFailedLook, IsPlaceWay}
use Rattle.scale_pick.specs.Shade.{shown}
use Rattle.hier_paint.proofs.Visiting.{no_visits, visits_on, skip_visit, read_visit}
use Rattle.volatile_cell.specs.Front.{Looker, Front, IsFront}
use Rattle.volatile_cell.proofs.Fronts.{same_pass}

module _ {E : Type 0} (front : Front E) (laws : IsFront front) where
  -- no work
  pub idle_work : (e : E) (s s' : Sight) (Way : List Visit → Type 0) → s' ≡ s → Way [] → Works front e s e s' Way
  idle_work e s s' Way same way = subst (λ (x : Sight). Works front e s e x Way) (sym same) (record {
    visits = [];
    events = [];
    calls = [];
    led = laws.stays e;
    are = no_visits (front.looker e) s;
    way = way;
  })

  -- visits from a later moment are those from an earlier one
  earlier : (e e' : E) (p : List Event) (u : List Asked) (s : Sight) (v : List Visit) (s' : Sight) (es : List Event) (us : List Asked) → front.leads e p u e'
      → AreVisits (front.looker e') s v s' es us → AreVisits (front.looker e) s v s' es us
  earlier e e' p u s v s' es us led h = subst (λ (who : Looker). AreVisits who s v s' es us) (sym (laws.same e e' p u led)) h

  -- work after work
  pub work_on : (e e' e'' : E) (s s' s'' : Sight) (P Q R : List Visit → Type 0) → Works front e s e' s' P → Works front e' s' e'' s'' Q
      → ((v w : List Visit) → P v → Q w → R (v ++ w)) → Works front e s e'' s'' R
  work_on e e' e'' s s' s'' P Q R p q both = record {
    visits = p.visits ++ q.visits;
    events = p.events ++ q.events;
    calls = p.calls ++ q.calls;
    led = laws.leads_on e e' e'' p.events q.events p.calls q.calls p.led q.led;
    are = visits_on (front.looker e) s p.visits s' p.events p.calls q.visits s'' q.events q.calls p.are (earlier e e' p.events p.calls s' q.visits s'' q.events q.calls p.led q.are);
    way = both p.visits q.visits p.way q.way;
  }

  pub work_map : (e e' : E) (s s' : Sight) (P Q : List Visit → Type 0) → Works front e s e' s' P → ((v : List Visit) → P v → Q v) → Works front e s e' s' Q
  work_map e e' s s' P Q p f = record { visits = p.visits; events = p.events; calls = p.calls; led = p.led; are = p.are; way = f p.visits p.way }

  -- a cell that wasn't ready, and a voxel that was read
  pub skip_work : (e e' : E) (s s' : Sight) (level cell at low high : ℕ) → Found front e s level cell false e' s' → Works front e s e' s' (IsPlaceWay low high level cell at None)
  skip_work e e' s s' level cell at low high f = record {
    visits = skipping level cell ∷ [];
    events = f.events;
    calls = f.calls;
    led = f.led;
    are = skip_visit (front.looker e) s level cell s' f.events f.calls f.finds;
    way = refl;
  }

  pub read_work : (e e' e'' : E) (s s' : Sight) (level cell at x low high value : ℕ) → Found front e s level cell true e' s' → front.leads e' (event.Read (front.looker e').pass cell at x ∷ []) [] e''
      → value ≡ shown x low high → Works front e s e'' s' (IsPlaceWay low high level cell at (Some value))
  read_work e e' e'' s s' level cell at x low high value f led is =
      let own : front.leads e' (event.Read (front.looker e).pass cell at x ∷ []) [] e'' = subst (λ k. front.leads e' (event.Read k cell at x ∷ []) [] e'') (sym (same_pass front laws e e' f.events f.calls f.led)) led in
      record {
        visits = reading_visit level cell at x ∷ [];
        events = f.events ++ event.Read (front.looker e).pass cell at x ∷ [];
        calls = f.calls;
        led = subst (λ (us : List Asked). front.leads e (f.events ++ event.Read (front.looker e).pass cell at x ∷ []) us e'') (append-nil f.calls) (laws.leads_on e e' e'' f.events (event.Read (front.looker e).pass cell at x ∷ []) f.calls [] f.led own);
        are = read_visit (front.looker e) s level cell at x s' f.events f.calls f.finds;
        way = (x, is, refl);
      }

  -- a cell that is held already, or was missed at this level
  pub held_found : (e : E) (s s' : Sight) (level cell : ℕ) → s' ≡ s → is_held s cell ≡ true → Found front e s level cell true e s'
  held_found e s s' level cell same held = record { events = []; calls = []; led = laws.stays e; finds = inl (held, record { same = same; none = refl; nothing_asked = refl }) }

  pub missed_found : (e : E) (s s' : Sight) (level cell : ℕ) → s' ≡ s → is_held s cell ≡ false → is_missed s level cell ≡ true → Found front e s level cell false e s'
  missed_found e s s' level cell same held missed = record { events = []; calls = []; led = laws.stays e; finds = inl (held, missed, record { same = same; none = refl; nothing_asked = refl }) }

  -- a look, after what was held was given back
  pub looked_found : (e e' e'' : E) (s t s' : Sight) (level cell : ℕ) (ready : Bool) → IsLookedFor s level cell → front.leads e (given_back (front.looker e).pass s.held) [] e' → t.missed ≡ s.missed → t.budget ≡ s.budget
      → IsFoundLook front e' t level cell ready e'' s' → Found front e s level cell ready e'' s'
  looked_found e e' e'' s t s' level cell true due back missed budget look =
      let same = laws.same e e' (given_back (front.looker e).pass s.held) [] back in
      record {
        events = given_back (front.looker e).pass s.held ++ look.0;
        calls = look.1;
        led = laws.leads_on e e' e'' (given_back (front.looker e).pass s.held) look.0 [] look.1 back look.4;
        finds = inr (record {
          due = due;
          piece = look.0;
          loaded = look.2;
          left = look.3;
          look = rw (same, ← budget) look.5;
          events_are = refl;
          held = rw (← missed) look.6;
        });
      }
  looked_found e e' e'' s t s' level cell false due back missed budget look =
      let same = laws.same e e' (given_back (front.looker e).pass s.held) [] back in
      record {
        events = given_back (front.looker e).pass s.held ++ look.0;
        calls = look.1;
        led = laws.leads_on e e' e'' (given_back (front.looker e).pass s.held) look.0 [] look.1 back look.3;
        finds = inr (record {
          due = due;
          piece = look.0;
          left = look.2;
          look = rw (same, ← budget) look.4;
          events_are = refl;
          missed = rw (← missed) look.5;
        });
      }

  -- a refused look, after what was held was given back
  pub looked_fails : (e e' e'' : E) (s t : Sight) (level cell : ℕ) (err : AcquireErr) → IsLookedFor s level cell → front.leads e (given_back (front.looker e).pass s.held) [] e' → t.budget ≡ s.budget
      → IsFailedLook front e' t cell e'' err → Fails front e s e'' err (IsAtVoxel level cell)
  unfolding idle_work
  looked_fails e e' e'' s t level cell err due back budget look = record {
    between = e;
    last = s;
    works = idle_work e s s (λ _. Unit {0}) refl tt;
    level = level;
    cell = cell;
    way = (refl, refl, refl);
    due = due;
    free = e';
    let_go = back;
    piece = look.0;
    left = look.2;
    calls = look.1;
    refused = look.3;
    look = rw (laws.same e e' (given_back (front.looker e).pass s.held) [] back, ← budget) look.4;
    cause = look.5;
  }

  -- a failure after work
  pub fail_on : (e e' e'' : E) (s s' : Sight) (err : AcquireErr) (P : List Visit → Type 0) (Q R : List Visit → ℕ → ℕ → Type 0) → Works front e s e' s' P → Fails front e' s' e'' err Q
      → ((v w : List Visit) (level cell : ℕ) → P v → Q w level cell → R (v ++ w) level cell) → Fails front e s e'' err R
  unfolding work_on
  fail_on e e' e'' s s' err P Q R p f both = record {
    between = f.between;
    last = f.last;
    works = work_on e e' f.between s s' f.last P (λ _. Unit {0}) (λ _. Unit {0}) p f.works (λ _ _ _ _. tt);
    level = f.level;
    cell = f.cell;
    way = both p.visits f.works.visits f.level f.cell p.way f.way;
    due = f.due;
    free = f.free;
    let_go = subst (λ k. front.leads f.between (given_back k f.last.held) [] f.free) (sym (same_pass front laws e e' p.events p.calls p.led)) f.let_go;
    piece = f.piece;
    left = f.left;
    calls = f.calls;
    refused = f.refused;
    look = subst (λ (who : Looker). IsRefusedLook who f.cell f.last.budget err f.left f.piece f.calls) (sym (laws.same e e' p.events p.calls p.led)) f.look;
    cause = f.cause;
  }

  pub fail_map : (e e' : E) (s : Sight) (err : AcquireErr) (P Q : List Visit → ℕ → ℕ → Type 0) → Fails front e s e' err P → ((v : List Visit) (level cell : ℕ) → P v level cell → Q v level cell)
      → Fails front e s e' err Q
  fail_map e e' s err P Q f g = record {
    between = f.between;
    last = f.last;
    works = f.works;
    level = f.level;
    cell = f.cell;
    way = g f.works.visits f.level f.cell f.way;
    due = f.due;
    free = f.free;
    let_go = f.let_go;
    piece = f.piece;
    left = f.left;
    calls = f.calls;
    refused = f.refused;
    look = f.look;
    cause = f.cause;
  }

  -- what a look with an empty hand answered, after what was held was given back
  pub found_ok : (e e' e'' : E) (s t s' : Sight) (level cell : ℕ) (r : Result Bool AcquireErr) → IsLookedFor s level cell → front.leads e (given_back (front.looker e).pass s.held) [] e' → t.missed ≡ s.missed → t.budget ≡ s.budget
      → IfOk r (λ ready. IsFoundLook front e' t level cell ready e'' s') → IfOk r (λ ready. Found front e s level cell ready e'' s')
  found_ok e e' e'' s t s' level cell (Ok ready) due back missed budget look = looked_found e e' e'' s t s' level cell ready due back missed budget look
  found_ok e e' e'' s t s' level cell (Err x) due back missed budget look = tt

  pub found_err : (e e' e'' : E) (s t : Sight) (level cell : ℕ) (r : Result Bool AcquireErr) → IsLookedFor s level cell → front.leads e (given_back (front.looker e).pass s.held) [] e' → t.budget ≡ s.budget
      → IfErr r (λ err. IsFailedLook front e' t cell e'' err) → IfErr r (λ err. Fails front e s e'' err (IsAtVoxel level cell))
  found_err e e' e'' s t level cell (Ok ready) due back budget look = tt
  found_err e e' e'' s t level cell (Err x) due back budget look = looked_fails e e' e'' s t level cell x due back budget look

  -- whatever the answer
  pub ok_map : {T : Type 0} (e e' : E) (s s' : Sight) (P Q : T → List Visit → Type 0) (r : Result T AcquireErr) → ((t : T) (v : List Visit) → P t v → Q t v)
      → IfOk r (λ t. Works front e s e' s' (P t)) → IfOk r (λ t. Works front e s e' s' (Q t))
  ok_map e e' s s' P Q (Ok t) f w = work_map e e' s s' (P t) (Q t) w (f t)
  ok_map e e' s s' P Q (Err x) f w = tt

  pub err_map : {T : Type 0} (e e' : E) (s : Sight) (P Q : List Visit → ℕ → ℕ → Type 0) (r : Result T AcquireErr) → ((v : List Visit) (level cell : ℕ) → P v level cell → Q v level cell)
      → IfErr r (λ err. Fails front e s e' err P) → IfErr r (λ err. Fails front e s e' err Q)
  err_map e e' s P Q (Ok t) f w = tt
  err_map e e' s P Q (Err x) f w = fail_map e e' s x P Q w f
