-- The events of frames and of servings are of pass 0, and write nothing.
use Rattle.std.proofs.Common.{◌≡◌, ◌∙◌, inl, inr, ℕ, zero, suc, ◌==◌, ◌&&◌, Bool, true, false, List, [], ◌∷◌, ◌++◌, Option, None, Some, refl, sym, ap, subst, arith}
use Rattle.std.specs.Bool.{MatchBool}
use Rattle.std.specs.List.{list_all}
use Rattle.std.proofs.lemmas.List.Folds.{list_all-append}
use Rattle.arr_history.specs.declared.event.Event.{Event}
use Rattle.arr_history.specs.declared.event.Event.TheVariants as event
use Rattle.arr_history.specs.History.{mine, pass_of}
use Rattle.arr_history.specs.Next.{next}
use Rattle.arr_history.specs.State.{State}
use Rattle.cell_file.specs.declared.errors.AcquireErr.{AcquireErr}
use Rattle.cell_file.specs.declared.errors.AcquireErr.TheVariants as refusal
use Rattle.cell_grid.specs.declared.level.Level.{Level}
use Rattle.fetchers.specs.declared.served.Served.{Served}
use Rattle.fetchers.specs.declared.served.Served.TheVariants as served
use Rattle.hier_paint.specs.Frames.{IsVisited, IsVisitedTo}
use Rattle.hier_paint.specs.Sight.{Sight, given_back}
use Rattle.hier_paint.specs.Visits.{Visit, Finds, IsVisit, AreVisits}
use Rattle.scale_pick.specs.declared.note.Note.{Note}
use Rattle.scale_pick.specs.declared.note.Note.TheVariants as note
use Rattle.scale_pick.specs.declared.view.View.{View}
use Rattle.scale_pick.specs.Picture.{Pixels}
use Rattle.volatile_cell.specs.Asked.{Asked}
use Rattle.call_events.specs.Pieces.{misses, IsTurnOut, IsGranted, IsRefused, IsDropped, IsHeldUp}
use Rattle.team_run.specs.Desk.{Desk}
use Rattle.team_run.specs.Fetches.{IsDeskServing, AreDeskServings}
use Rattle.team_run.proofs.Unwritten.{Unwritten}
use Rattle.sole_eyes.specs.SoleEyes.{sole}

abbrev is_calm : Event → Bool
is_calm (event.Write k c i x) = false
is_calm e = pass_of e == 0

-- each of these events is of pass 0, and writes nothing
abbrev pub AreCalm : List Event → Type 0
AreCalm events = list_all is_calm events ≡ true

pub both_calm : (p q : List Event) → AreCalm p → AreCalm q → AreCalm (p ++ q)
both_calm p q h k = list_all-append is_calm p q ∙ ap (λ b. b && list_all is_calm q) h ∙ k

both_true : (a b : Bool) → (a && b) ≡ true → (a ≡ true) × (b ≡ true)
both_true true true h = (refl, refl)
both_true true false h = absurd (grind arith)
both_true false b h = absurd (grind arith)

-- the first ones of calm events
pub calm_before : (p q : List Event) → AreCalm (p ++ q) → AreCalm p
calm_before p q h = (both_true _ _ (sym (list_all-append is_calm p q) ∙ h)).0

calm_next : (s : State) (e : Event) → is_calm e ≡ true → (next s e).arrays ≡ s.arrays
calm_next s (event.Pin k c) h = refl
calm_next s (event.Miss k c) h = refl
calm_next s (event.Unpin k c) h = refl
calm_next s (event.Mark k c) h = refl
calm_next s (event.Read k c i x) h = refl
calm_next s (event.Write k c i x) h = absurd (grind arith)
calm_next s (event.Claim k c) h = refl
calm_next s (event.Drop k c) h = refl
calm_next s (event.Live k c slot) h = refl
calm_next s (event.Close k c) h = refl
calm_next s (event.Gone k c saved) h = refl
calm_next s (event.Back k c) h = refl

-- calm events leave every array as it was, and are all of pass 0
pub calm_unwritten : (events : List Event) → AreCalm events → Unwritten events
calm_unwritten [] h s = refl
calm_unwritten (e ∷ events) h s = let parts = both_true _ _ h in calm_unwritten events parts.1 (next s e) ∙ calm_next s e parts.0

own : (e : Event) → is_calm e ≡ true → (pass_of e == 0) ≡ true
own (event.Pin k c) h = h
own (event.Miss k c) h = h
own (event.Unpin k c) h = h
own (event.Mark k c) h = h
own (event.Read k c i x) h = h
own (event.Write k c i x) h = absurd (grind arith)
own (event.Claim k c) h = h
own (event.Drop k c) h = h
own (event.Live k c slot) h = h
own (event.Close k c) h = h
own (event.Gone k c saved) h = h
own (event.Back k c) h = h

pub calm_mine : (events : List Event) → AreCalm events → mine 0 events ≡ events
calm_mine [] h = refl
calm_mine (e ∷ events) h = let parts = both_true _ _ h in rw (own e parts.0) (ap (λ es. e ∷ es) (calm_mine events parts.1))

misses_calm : (cell n : ℕ) → AreCalm (misses 0 cell n)
misses_calm cell zero = refl
misses_calm cell (suc n) = misses_calm cell n

turn_calm : (turn more : List Event) → IsTurnOut 0 turn → AreCalm more → AreCalm (turn ++ more)
turn_calm turn more (inl none) h = subst (λ t. AreCalm (t ++ more)) (sym none) h
turn_calm turn more (inr (v, saved, is)) h = subst (λ t. AreCalm (t ++ more)) (sym is) h

-- the pieces of acquires
pub granted_calm : (cell : ℕ) (loaded : Bool) (events : List Event) → IsGranted true 0 cell loaded events → AreCalm events
granted_calm cell false events (n, few, is) = subst AreCalm (sym is) (both_calm (misses 0 cell n) (event.Pin 0 cell ∷ []) (misses_calm cell n) refl)
granted_calm cell true events (n, few, slot, turn, out, is) = subst AreCalm (sym is)
    (both_calm (misses 0 cell (suc n)) (event.Claim 0 cell ∷ (turn ++ event.Live 0 cell slot ∷ [])) (misses_calm cell (suc n)) (turn_calm turn (event.Live 0 cell slot ∷ []) out refl))

dropped_calm : (cell : ℕ) (events : List Event) → IsDropped true 0 cell events → AreCalm events
dropped_calm cell events (n, few, turn, out, is) = subst AreCalm (sym is)
    (both_calm (misses 0 cell (suc n)) (event.Claim 0 cell ∷ (turn ++ event.Drop 0 cell ∷ [])) (misses_calm cell (suc n)) (turn_calm turn (event.Drop 0 cell ∷ []) out refl))

held_up_calm : (cell : ℕ) (events : List Event) → IsHeldUp true 0 cell events → AreCalm events
held_up_calm cell events (n, few, v, is) = subst AreCalm (sym is)
    (both_calm (misses 0 cell (suc n)) (event.Claim 0 cell ∷ event.Close 0 v ∷ event.Back 0 v ∷ event.Drop 0 cell ∷ []) (misses_calm cell (suc n)) refl)

pub refused_calm : (cell : ℕ) (err : AcquireErr) (events : List Event) → IsRefused true 0 cell err events → AreCalm events
refused_calm cell refusal.ReadFault events h = dropped_calm cell events h
refused_calm cell refusal.WriteFault events h = held_up_calm cell events h
refused_calm cell (refusal.Malformed edited err) events h = dropped_calm cell events h
refused_calm cell (refusal.TooLong edited len limit) events h = dropped_calm cell events h
refused_calm cell refusal.Full events h = subst AreCalm (sym h) refl
refused_calm cell refusal.Memory events (inl h) = dropped_calm cell events h
refused_calm cell refusal.Memory events (inr h) = held_up_calm cell events h

back_calm : (held : Option ℕ) → AreCalm (given_back 0 held)
back_calm None = refl
back_calm (Some cell) = refl

ready_calm : (X Y : Type 0) (loads : Bool) (cell : ℕ) (loaded : Bool) (piece : List Event) → MatchBool loads (IsGranted true 0 cell loaded piece × X) ((loaded ≡ false) × (piece ≡ event.Pin 0 cell ∷ []) × Y) → AreCalm piece
ready_calm X Y true cell loaded piece h = granted_calm cell loaded piece h.0
ready_calm X Y false cell loaded piece h = subst AreCalm (sym h.1) refl

module _ (viewer : ℕ) (levels : List Level) where
  found_calm : (s : Sight) (level cell : ℕ) (ready : Bool) (s' : Sight) (events : List Event) (calls : List Asked) → Finds (sole viewer levels) s level cell ready s' events calls → AreCalm events
  found_calm s level cell true s' events calls (inl idle) = subst AreCalm (sym idle.1.none) refl
  found_calm s level cell true s' events calls (inr look) = subst AreCalm (sym look.events_are) (both_calm (given_back 0 s.held) look.piece (back_calm s.held) (ready_calm _ _ _ cell look.loaded look.piece look.look.pinned))
  found_calm s level cell false s' events calls (inl idle) = subst AreCalm (sym idle.2.none) refl
  found_calm s level cell false s' events calls (inr look) = subst AreCalm (sym look.events_are) (both_calm (given_back 0 s.held) look.piece (back_calm s.held) (subst AreCalm (sym look.look.missed) refl))

  visit_calm : (s : Sight) (level : ℕ) (seen : Note) (s' : Sight) (events : List Event) (calls : List Asked) → IsVisit (sole viewer levels) s level seen s' events calls → AreCalm events
  visit_calm s level (note.Read cell at x) s' events calls (found, finds, is) = subst AreCalm (sym is) (both_calm found (event.Read 0 cell at x ∷ []) (found_calm s level cell true s' found calls finds) refl)
  visit_calm s level (note.NotReady cell) s' events calls finds = found_calm s level cell false s' events calls finds

  visits_calm : (s : Sight) (visits : List Visit) (s' : Sight) (events : List Event) (calls : List Asked) → AreVisits (sole viewer levels) s visits s' events calls → AreCalm events
  visits_calm s [] s' events calls idle = subst AreCalm (sym idle.none) refl
  visits_calm s (v ∷ visits) s' events calls (t, first, rest, asked, more, one, others, split, asks) =
      subst AreCalm (sym split) (both_calm first rest (visit_calm s v.level v.note t first asked one) (visits_calm t visits s' rest more others))

  -- frames, whole or up to a refused look
  pub frame_calm : (view : View) (picture : Pixels) (events : List Event) → IsVisited (sole viewer levels) view picture events → AreCalm events
  frame_calm view picture events v = subst AreCalm (sym v.events_are) (both_calm v.looks (given_back 0 v.last.held) (visits_calm _ v.visits v.last v.looks v.calls v.are) (back_calm v.last.held))

  pub cut_calm : (view : View) (picture : Pixels) (cell : ℕ) (events : List Event) → IsVisitedTo (sole viewer levels) view picture cell events → AreCalm events
  cut_calm view picture cell events v = subst AreCalm (sym v.events_are) (both_calm v.looks (given_back 0 v.last.held) (visits_calm _ v.visits v.last v.looks v.calls v.are) (back_calm v.last.held))

serving_calm : (a b : Desk) (s : Served) (events : List Event) (calls : List Asked) → IsDeskServing a s events calls b → AreCalm events
serving_calm a b served.Idle events calls h = subst AreCalm (sym h.none) refl
serving_calm a b served.Held events calls h = subst AreCalm (sym h.given_back) (both_calm h.piece (event.Unpin 0 h.request.cell ∷ []) (granted_calm h.request.cell false h.piece h.granted) refl)
serving_calm a b served.Loaded events calls h = subst AreCalm (sym h.given_back) (both_calm h.piece (event.Unpin 0 h.request.cell ∷ []) (granted_calm h.request.cell true h.piece h.granted) refl)
serving_calm a b (served.Refused err) events calls h = refused_calm h.request.cell err events h.refused

pub servings_calm : (a b : Desk) (servings : List Served) (events : List Event) (calls : List Asked) → AreDeskServings a servings events calls b → AreCalm events
servings_calm a b [] events calls h = subst AreCalm (sym h.0) refl
servings_calm a b (s ∷ servings) events calls (mid, first, rest, asked, more, one, others, split, asks) =
    subst AreCalm (sym split) (both_calm first rest (serving_calm a mid s first asked one) (servings_calm mid b servings rest more others))
