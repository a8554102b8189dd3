-- How the events of an acquire make a piece.
use Rattle.std.proofs.Common.{◌≡◌, ◌<◌, ◌∙◌, ◌==◌, ◌||◌, eq-eqb, ℕ, zero, suc, Bool, true, false, true≢false, List, [], ◌∷◌, ◌++◌, append_assoc, Option, Result, Ok, Err, IfOk, inl, inr, refl, ap, subst, sym, arith}
use Rattle.std.specs.List.{list_any}
use Rattle.std.proofs.lemmas.Bool.{eqb-true}
use Rattle.std.proofs.lemmas.List.Folds.{list_any-append}
use Rattle.arr_history.specs.declared.event.Event.{Event}
use Rattle.arr_history.specs.declared.event.Event.TheVariants.{Pin, Claim, Close, Back, Live, Drop}
use Rattle.call_events.specs.Pieces.{misses, IsTurnOut, IsDropped, IsHeldUp, IsGranted}
use Rattle.cell_file.specs.declared.errors.SaveErr.{SaveErr}
use Rattle.cell_file.specs.declared.errors.SaveErr.TheVariants as saving
use Rattle.cell_file.specs.declared.errors.FetchErr.{FetchErr}
use Rattle.cell_file.specs.declared.errors.FetchErr.TheVariants as fetching
use Rattle.cell_file.specs.declared.errors.AcquireErr.{AcquireErr}
use Rattle.cell_store.specs.Store.{Contents}
use Rattle.pin_words.specs.declared.doing.Doing.{Doing}
use Rattle.pin_words.specs.Plan.{Plan, lane_of}
use Rattle.pin_words.specs.Account.{rise}
use Rattle.pin_rule.specs.Parts.{PinnedCell}
use Rattle.pin_rule.specs.declared.made.Made.{Made}
use Rattle.pin_rule.specs.declared.pins.Pins.{Pins}
use Rattle.pin_rule.specs.Calls.{plan_at}
use Rattle.pin_rule.specs.Going.{Goes}
use Rattle.pin_rule.proofs.Goings.{goes_by}
use Rattle.live_cells.specs.Turning.{closes, HasScannedFor, ScansForEach}
use Rattle.live_cells.specs.Loads.{IsUngot, IsRoomless, IsLoaded, Loads, IsCauseOfFetch, refusal_of_fetch, refusal_of_save}
use Rattle.live_cells.specs.Cells.{Acquires}
use Rattle.live_cells.proofs.Goings.{goes_as}
use Rattle.live_cells.proofs.Rooming.{scanned_since}

-- no miss closes a cell
closes_missed : (k c n v : ℕ) (events : List Event) → list_any (closes v) (misses k c n ++ events) ≡ list_any (closes v) events
closes_missed k c zero v events = refl
closes_missed k c (suc n) v events = closes_missed k c n v events

-- nor does the last event of a load
closes_last : (v : ℕ) (e : Event) → closes v e ≡ false → (events : List Event) → list_any (closes v) (events ++ e ∷ []) ≡ true → list_any (closes v) events ≡ true
closes_last v e none events is = strip (list_any (closes v) events) (ap (λ b. list_any (closes v) events || (b || false)) (sym none) ∙ (sym (list_any-append (closes v) events (e ∷ [])) ∙ is))
  where
    strip : (b : Bool) → (b || (false || false)) ≡ true → b ≡ true
    strip true h = refl
    strip false h = h

module _ {S : Type 0} (shows : S → Contents) (t : Pins S) (c : ℕ) (a d : Doing S (Option (Made S))) where
  abbrev p : Plan S (Option (Made S))
  p = plan_at shows t

  pub acquired_hit : (n : ℕ) (h : PinnedCell) → h.loaded ≡ false → Goes p a (misses a.number c n ++ Pin a.number c ∷ []) d → Acquires shows t c a d (Ok h)
  acquired_hit n h loaded g = record {
    events = misses a.number c n ++ Pin a.number c ∷ [];
    piece = subst (λ b. IsGranted false a.number c b (misses a.number c n ++ Pin a.number c ∷ [])) (sym loaded) (n, λ e. absurd (true≢false (sym e)), refl);
    went = g;
    scans = λ v e. absurd (true≢false (sym e ∙ closes_missed a.number c n v (Pin a.number c ∷ [])));
    caused = tt;
  }

  module _ (b : Doing S (Option (Made S))) (n : ℕ) (g : Goes p a (misses a.number c (suc n) ++ Claim a.number c ∷ []) b) where
    abbrev front : List Event
    front = misses a.number c (suc n)

    -- the misses and the claim, and what followed
    events_so : (f : ℕ → List Event) → Goes p b (f b.number) d → Goes p a (front ++ Claim a.number c ∷ f a.number) d
    events_so f h = goes_as p a d _ _ (append_assoc front (Claim a.number c ∷ []) (f a.number)) (goes_by p f a b d (front ++ Claim a.number c ∷ []) g h)

    later : (l : ℕ) → rise l b < rise l d → rise l a < rise l d
    later l h = let u = g.rises l in omega (arith, u, h)

    turn_so : (turn : List Event) → IsTurnOut b.number turn → IsTurnOut a.number turn
    turn_so turn h = subst (λ k. IsTurnOut k turn) g.number h

    scans_so : (turn : List Event) (e : Event) → ((v : ℕ) → closes v e ≡ false) → ScansForEach p.slots turn b d → ScansForEach p.slots (front ++ Claim a.number c ∷ (turn ++ e ∷ [])) a d
    scans_so turn e none h v is = scanned_since p a b d p.slots v g.tries.0 g.tries.1 (h v (closes_last v e (none v) turn (sym (closes_missed a.number c (suc n) v (Claim a.number c ∷ (turn ++ e ∷ []))) ∙ is)))

    dropped : (turn : List Event) → IsTurnOut a.number turn → IsDropped false a.number c (front ++ Claim a.number c ∷ (turn ++ Drop a.number c ∷ []))
    dropped turn h = (n, λ e. absurd (true≢false (sym e)), turn, h, refl)

    by_fetch : (e : AcquireErr) (u : IsUngot shows t c b d e) → Acquires shows t c a d (Err e)
    by_fetch e u = subst (λ x. Acquires shows t c a d (Err x)) (sym u.answer) (go u.err u.cause)
      where
        piece : IsDropped false a.number c (front ++ Claim a.number c ∷ (u.turn ++ Drop a.number c ∷ []))
        piece = dropped u.turn (turn_so u.turn u.is_turn)

        went : Goes p a (front ++ Claim a.number c ∷ (u.turn ++ Drop a.number c ∷ [])) d
        went = events_so (λ k. u.turn ++ Drop k c ∷ []) u.went

        scans : ScansForEach p.slots (front ++ Claim a.number c ∷ (u.turn ++ Drop a.number c ∷ [])) a d
        scans = scans_so u.turn (Drop a.number c) (λ v. refl) u.scans

        go : (err : FetchErr) → IsCauseOfFetch shows t c b d err → Acquires shows t c a d (Err (refusal_of_fetch err))
        go fetching.ReadFault k = record { events = _; piece = piece; went = went; scans = scans; caused = later (lane_of p c) k }
        go (fetching.Malformed edited err) k = record { events = _; piece = piece; went = went; scans = scans; caused = k }
        go (fetching.TooLong edited len limit) k = record { events = _; piece = piece; went = went; scans = scans; caused = k }
        go fetching.Memory k = record { events = _; piece = inl piece; went = went; scans = scans; caused = tt }

    abbrev held_events : ℕ → List Event
    held_events v = front ++ Claim a.number c ∷ Close a.number v ∷ Back a.number v ∷ Drop a.number c ∷ []

    by_save : (e : AcquireErr) (u : IsRoomless shows t c b d e) → Acquires shows t c a d (Err e)
    by_save e u = subst (λ x. Acquires shows t c a d (Err x)) (sym u.answer) (go u.err u.fault)
      where
        piece : IsHeldUp false a.number c (held_events u.victim)
        piece = (n, λ e. absurd (true≢false (sym e)), u.victim, refl)

        went : Goes p a (held_events u.victim) d
        went = events_so (λ k. Close k u.victim ∷ Back k u.victim ∷ Drop k c ∷ []) u.went

        victim_closed : list_any (closes u.victim) (held_events u.victim) ≡ true
        victim_closed = closes_missed a.number c (suc n) u.victim (Claim a.number c ∷ Close a.number u.victim ∷ Back a.number u.victim ∷ Drop a.number c ∷ []) ∙ ap (λ b. b || (false || (false || false))) (eq-eqb u.victim u.victim refl)

        scans : ScansForEach p.slots (held_events u.victim) a d
        scans v is = subst (λ m. HasScannedFor p.slots m a d) (one (u.victim == v) refl (sym (closes_missed a.number c (suc n) v (Claim a.number c ∷ Close a.number u.victim ∷ Back a.number u.victim ∷ Drop a.number c ∷ [])) ∙ is)) (scanned_since p a b d p.slots u.victim g.tries.0 g.tries.1 u.scans)
          where
            one : (b : Bool) → (u.victim == v) ≡ b → (b || (false || (false || false))) ≡ true → u.victim ≡ v
            one true e h = eqb-true u.victim v e
            one false e h = absurd (true≢false (sym h))

        go : (err : SaveErr) → (err ≡ saving.WriteFault → rise (lane_of p u.victim) b < rise (lane_of p u.victim) d) → Acquires shows t c a d (Err (refusal_of_save err))
        go saving.WriteFault fault = record { events = _; piece = piece; went = went; scans = scans; caused = (u.victim, victim_closed, later (lane_of p u.victim) (fault refl)) }
        go saving.Memory fault = record { events = _; piece = inr piece; went = went; scans = scans; caused = tt }

    by_load : (h : PinnedCell) → h.loaded ≡ true → IsLoaded shows t c b d h → Acquires shows t c a d (Ok h)
    by_load h is_loaded u = record {
      events = front ++ Claim a.number c ∷ (u.turn ++ Live a.number c h.slot ∷ []);
      piece = subst (λ x. IsGranted false a.number c x (front ++ Claim a.number c ∷ (u.turn ++ Live a.number c h.slot ∷ []))) (sym is_loaded) (n, λ e. absurd (true≢false (sym e)), h.slot, u.turn, turn_so u.turn u.is_turn, refl);
      went = events_so (λ k. u.turn ++ Live k c h.slot ∷ []) u.went;
      scans = scans_so u.turn (Live a.number c h.slot) (λ v. refl) u.scans;
      caused = tt;
    }

    pub acquired_load : (r : Result PinnedCell AcquireErr) → IfOk r (λ h. h.loaded ≡ true) → Loads shows t c b d r → Acquires shows t c a d r
    acquired_load (Ok h) k l = by_load h k l
    acquired_load (Err e) k (inl u) = by_fetch e u
    acquired_load (Err e) k (inr u) = by_save e u
