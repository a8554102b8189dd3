-- What the pieces of calls write: nothing, but for a voxel that is set.
use Rattle.std.proofs.Common.{◌≡◌, inl, inr, ℕ, zero, suc, Bool, true, false, List, [], ◌∷◌, ◌++◌, Option, None, Some}
use Rattle.std.specs.Bool.{MatchBool}
use Rattle.arr_history.specs.declared.event.Event.{Event}
use Rattle.arr_history.specs.declared.event.Event.TheVariants as event
use Rattle.call_events.specs.Pieces.{misses, IsTurnOut, IsGranted, IsRefused, IsDropped, IsHeldUp}
use Rattle.cell_file.specs.declared.errors.AcquireErr.{AcquireErr}
use Rattle.cell_file.specs.declared.errors.AcquireErr.TheVariants as refusal
use Rattle.fetchers.specs.declared.served.Served.{Served}
use Rattle.fetchers.specs.declared.served.Served.TheVariants as served
use Rattle.hier_paint.specs.Frames.{IsVisited, IsVisitedTo}
use Rattle.hier_paint.specs.Sight.{Sight, given_back}
use Rattle.hier_paint.specs.Visits.{Visit, Finds, IsVisit, AreVisits}
use Rattle.scale_pick.specs.declared.note.Note.{Note}
use Rattle.scale_pick.specs.declared.note.Note.TheVariants as note
use Rattle.scale_pick.specs.declared.view.View.{View}
use Rattle.scale_pick.specs.Picture.{Pixels}
use Rattle.team_run.specs.Commands.{IsServingOf, AreServingsOf}
use Rattle.volatile_cell.specs.Asked.{Asked}
use Rattle.volatile_cell.specs.Front.{Looker}
use Rattle.demo_frames.proofs.Each.{each_append, each_same}
use Rattle.demo_frames.proofs.Written.{WritesBy, AreWritesBy}

module _ (Allowed : ℕ → ℕ → ℕ → Type 0) where
  pub both_fit : (p q : List Event) → AreWritesBy Allowed p → AreWritesBy Allowed q → AreWritesBy Allowed (p ++ q)
  both_fit p q first rest = each_append (WritesBy Allowed) p q first rest

  pub same_fit : (p q : List Event) → p ≡ q → AreWritesBy Allowed q → AreWritesBy Allowed p
  same_fit p q same fit = each_same (WritesBy Allowed) p q same fit

  misses_fit : (k cell n : ℕ) → AreWritesBy Allowed (misses k cell n)
  misses_fit k cell zero = tt
  misses_fit k cell (suc n) = (tt, misses_fit k cell n)

  turn_fits : (k : ℕ) (turn more : List Event) → IsTurnOut k turn → AreWritesBy Allowed more → AreWritesBy Allowed (turn ++ more)
  turn_fits k turn more (inl none) rest = both_fit turn more (same_fit turn [] none tt) rest
  turn_fits k turn more (inr (v, saved, is)) rest = both_fit turn more (same_fit turn _ is (tt, (tt, tt))) rest

  module _ (alone : Bool) (k : ℕ) where
    pub granted_fits : (cell : ℕ) (loaded : Bool) (events : List Event) → IsGranted alone k cell loaded events → AreWritesBy Allowed events
    granted_fits cell false events (n, few, is) = same_fit events _ is (both_fit (misses k cell n) (event.Pin k cell ∷ []) (misses_fit k cell n) (tt, tt))
    granted_fits cell true events (n, few, slot, turn, out, is) = same_fit events _ is
        (both_fit (misses k cell (suc n)) (event.Claim k cell ∷ (turn ++ event.Live k cell slot ∷ [])) (misses_fit k cell (suc n)) (tt, turn_fits k turn (event.Live k cell slot ∷ []) out (tt, tt)))

    dropped_fits : (cell : ℕ) (events : List Event) → IsDropped alone k cell events → AreWritesBy Allowed events
    dropped_fits cell events (n, few, turn, out, is) = same_fit events _ is
        (both_fit (misses k cell (suc n)) (event.Claim k cell ∷ (turn ++ event.Drop k cell ∷ [])) (misses_fit k cell (suc n)) (tt, turn_fits k turn (event.Drop k cell ∷ []) out (tt, tt)))

    held_up_fits : (cell : ℕ) (events : List Event) → IsHeldUp alone k cell events → AreWritesBy Allowed events
    held_up_fits cell events (n, few, v, is) = same_fit events _ is
        (both_fit (misses k cell (suc n)) (event.Claim k cell ∷ event.Close k v ∷ event.Back k v ∷ event.Drop k cell ∷ []) (misses_fit k cell (suc n)) (tt, (tt, (tt, (tt, tt)))))

    pub refused_fits : (cell : ℕ) (err : AcquireErr) (events : List Event) → IsRefused alone k cell err events → AreWritesBy Allowed events
    refused_fits cell refusal.ReadFault events h = dropped_fits cell events h
    refused_fits cell refusal.WriteFault events h = held_up_fits cell events h
    refused_fits cell (refusal.Malformed edited err) events h = dropped_fits cell events h
    refused_fits cell (refusal.TooLong edited len limit) events h = dropped_fits cell events h
    refused_fits cell refusal.Full events h = same_fit events _ h (tt, tt)
    refused_fits cell refusal.Memory events (inl h) = dropped_fits cell events h
    refused_fits cell refusal.Memory events (inr h) = held_up_fits cell events h

    back_fits : (held : Option ℕ) → AreWritesBy Allowed (given_back k held)
    back_fits None = tt
    back_fits (Some cell) = (tt, tt)

    ready_fits : (X Y : Type 0) (loads : Bool) (cell : ℕ) (loaded : Bool) (piece : List Event) → MatchBool loads (IsGranted alone k cell loaded piece × X) ((loaded ≡ false) × (piece ≡ event.Pin k cell ∷ []) × Y) → AreWritesBy Allowed piece
    ready_fits X Y true cell loaded piece h = granted_fits cell loaded piece h.0
    ready_fits X Y false cell loaded piece h = same_fit piece _ h.1 (tt, tt)

  module _ (who : Looker) where
    found_fits : (s : Sight) (level cell : ℕ) (ready : Bool) (s' : Sight) (events : List Event) (calls : List Asked) → Finds who s level cell ready s' events calls → AreWritesBy Allowed events
    found_fits s level cell true s' events calls (inl idle) = same_fit events [] idle.1.none tt
    found_fits s level cell true s' events calls (inr look) = same_fit events _ look.events_are
        (both_fit (given_back who.pass s.held) look.piece (back_fits who.alone who.pass s.held) (ready_fits who.alone who.pass _ _ _ cell look.loaded look.piece look.look.pinned))
    found_fits s level cell false s' events calls (inl idle) = same_fit events [] idle.2.none tt
    found_fits s level cell false s' events calls (inr look) = same_fit events _ look.events_are
        (both_fit (given_back who.pass s.held) look.piece (back_fits who.alone who.pass s.held) (same_fit look.piece _ look.look.missed (tt, tt)))

    visit_fits : (s : Sight) (level : ℕ) (seen : Note) (s' : Sight) (events : List Event) (calls : List Asked) → IsVisit who s level seen s' events calls → AreWritesBy Allowed events
    visit_fits s level (note.Read cell at x) s' events calls (found, finds, is) = same_fit events _ is (both_fit found (event.Read who.pass cell at x ∷ []) (found_fits s level cell true s' found calls finds) (tt, tt))
    visit_fits s level (note.NotReady cell) s' events calls finds = found_fits s level cell false s' events calls finds

    visits_fit : (s : Sight) (visits : List Visit) (s' : Sight) (events : List Event) (calls : List Asked) → AreVisits who s visits s' events calls → AreWritesBy Allowed events
    visits_fit s [] s' events calls idle = same_fit events [] idle.none tt
    visits_fit s (v ∷ visits) s' events calls (t, first, rest, asked, more, one, others, split, asks) =
        same_fit events _ split (both_fit first rest (visit_fits s v.level v.note t first asked one) (visits_fit t visits s' rest more others))

    -- frames, whole or up to a refused look
    pub frame_fits : (view : View) (picture : Pixels) (events : List Event) → IsVisited who view picture events → AreWritesBy Allowed events
    frame_fits view picture events v = same_fit events _ v.events_are (both_fit v.looks (given_back who.pass v.last.held) (visits_fit _ v.visits v.last v.looks v.calls v.are) (back_fits who.alone who.pass v.last.held))

    pub cut_fits : (view : View) (picture : Pixels) (cell : ℕ) (events : List Event) → IsVisitedTo who view picture cell events → AreWritesBy Allowed events
    cut_fits view picture cell events v = same_fit events _ v.events_are (both_fit v.looks (given_back who.pass v.last.held) (visits_fit _ v.visits v.last v.looks v.calls v.are) (back_fits who.alone who.pass v.last.held))

    serving_fits : (s : Served) (events : List Event) (calls : List Asked) → IsServingOf who s events calls → AreWritesBy Allowed events
    serving_fits served.Idle events calls (none, asks) = same_fit events [] none tt
    serving_fits served.Held events calls (r, range, asks, piece, granted, is) = same_fit events _ is (both_fit piece (event.Unpin who.pass r.cell ∷ []) (granted_fits who.alone who.pass r.cell false piece granted) (tt, tt))
    serving_fits served.Loaded events calls (r, range, asks, piece, granted, is) = same_fit events _ is (both_fit piece (event.Unpin who.pass r.cell ∷ []) (granted_fits who.alone who.pass r.cell true piece granted) (tt, tt))
    serving_fits (served.Refused err) events calls (r, range, asks, refused) = refused_fits who.alone who.pass r.cell err events refused

    pub servings_fit : (servings : List Served) (events : List Event) (calls : List Asked) → AreServingsOf who servings events calls → AreWritesBy Allowed events
    servings_fit [] events calls (none, asks) = same_fit events [] none tt
    servings_fit (s ∷ servings) events calls (first, rest, asked, more, one, others, split, asks) =
        same_fit events _ split (both_fit first rest (serving_fits s first asked one) (servings_fit servings rest more others))
