-- The events of a cache's calls.
use Rattle.std.proofs.Common.{◌≡◌, ◌∙◌, ◌⊎◌, inl, inr, ℕ, ◌-◌, ◌<◌, ◌≢◌, ◌==◌, true≢false, Bool, true, false, cond, List, [], ◌∷◌, Option, None, Some, Result, refl, sym, ap, subst, arith}
use Rattle.std.specs.declared.result.Result.TheVariants.{Ok, Err}
use Rattle.std.specs.Bool.{MatchBool}
use Rattle.std.proofs.lemmas.Bool.Decides.{nat_tests}
use Rattle.cell_file.specs.declared.errors.AcquireErr.{AcquireErr}
use Rattle.cell_file.specs.declared.errors.AcquireErr.TheVariants as refusal
use Rattle.arr_history.specs.declared.event.Event.{Event}
use Rattle.arr_history.specs.declared.event.Event.TheVariants.{Unpin}
use Rattle.arr_history.specs.declared.cell_state.CellState.TheVariants as cell
use Rattle.arr_history.specs.History.{after}
use Rattle.sole_cache.specs.Slot.{SlotValue}
use Rattle.sole_cache.specs.Cached.{Cached, slot_of, slot_at, state_at, pins_at, state_of}
use Rattle.sole_cache.specs.Handle.{Handle, IsHandleOf}
use Rattle.sole_cache.specs.Moves.{Runs}
use Rattle.sole_cache.specs.Acquires.{MakesRoom, Drops, HoldsUp, IsAcquire}
use Rattle.sole_cache.specs.Pieces as piece
use Rattle.sole_cache.proofs.Pieces.{no_read_fault, no_write_fault, not_malformed, not_too_long}
use Rattle.store_calls.specs.Calls.{StoreCall}
use Rattle.call_events.specs.Pieces.{IsTurnOut, IsGranted, IsDropped, IsHeldUp, IsRefused, IsAcquired}
use Rattle.sole_eyes.specs.SoleEyes.{EyesLeadOn}

turn_of : (c : Cached) (slot : ℕ) (turn : List Event) (calls : List StoreCall) → MakesRoom c slot turn calls → IsTurnOut 0 turn
turn_of c slot turn calls (inl free) = inl free.1
turn_of c slot turn calls (inr out) = inr (out.0, (slot_at c slot).marked, out.2)

-- what gave a handle
pub hit : (c : Cached) (cell : ℕ) (h : Handle) (events : List Event) → piece.IsHit c cell h events → IsGranted true 0 cell h.loaded events
hit c cell h events is = subst (λ b. IsGranted true 0 cell b events) (sym is.found) (0, λ _. refl, is.events_are)

dropped : (c : Cached) (cell : ℕ) (err : AcquireErr) (events : List Event) (calls : List StoreCall) → Drops c cell err events calls → IsDropped true 0 cell events
dropped c cell err events calls d = (0, λ _. refl, d.turn, turn_of c d.slot d.turn d.puts d.room, d.events_are)

held_up : (c : Cached) (cell : ℕ) (err : AcquireErr) (events : List Event) (calls : List StoreCall) → HoldsUp c cell err events calls → IsHeldUp true 0 cell events
held_up c cell err events calls d = (0, λ _. refl, d.due, d.events_are)

-- the events of an acquire
pub acquired : (c : Cached) (cell : ℕ) (r : Result Handle AcquireErr) (events : List Event) (calls : List StoreCall) → IsAcquire c cell r events calls → IsAcquired (λ h. h.loaded) true 0 cell r events
acquired c cell (Ok h) events calls (same, inl is) = hit c cell h events is.0
acquired c cell (Ok h) events calls (same, inr load) =
    subst (λ b. IsGranted true 0 cell b events) (sym load.loaded) (0, λ _. refl, h.slot, load.turn, turn_of c h.slot load.turn load.puts load.room, load.events_are)
acquired c cell (Err refusal.Full) events calls (absent, full, are, none) = are
acquired c cell (Err refusal.ReadFault) events calls (inl d) = dropped c cell _ events calls d
acquired c cell (Err refusal.ReadFault) events calls (inr h) = absurd (no_read_fault h.answer h.err_is)
acquired c cell (Err refusal.WriteFault) events calls (inl d) = absurd (no_write_fault d.cause d.err_is)
acquired c cell (Err refusal.WriteFault) events calls (inr h) = held_up c cell _ events calls h
acquired c cell (Err (refusal.Malformed edited err)) events calls (inl d) = dropped c cell _ events calls d
acquired c cell (Err (refusal.Malformed edited err)) events calls (inr h) = absurd (not_malformed h.answer edited err h.err_is)
acquired c cell (Err (refusal.TooLong edited len limit)) events calls (inl d) = dropped c cell _ events calls d
acquired c cell (Err (refusal.TooLong edited len limit)) events calls (inr h) = absurd (not_too_long h.answer edited len limit h.err_is)
acquired c cell (Err refusal.Memory) events calls (inl d) = inl (dropped c cell _ events calls d)
acquired c cell (Err refusal.Memory) events calls (inr h) = inr (held_up c cell _ events calls h)

pub on_true : (t : Bool) (P Q : Type 0) → t ≡ true → P → MatchBool t P Q
on_true t P Q e p = subst (λ b. MatchBool b P Q) (sym e) p

pub on_false : (t : Bool) (P Q : Type 0) → t ≡ false → Q → MatchBool t P Q
on_false t P Q e q = subst (λ b. MatchBool b P Q) (sym e) q

-- a run of a cache
pub leads_by_run : (a b : Cached) (p : List Event) → Runs a p b → EyesLeadOn a p b
leads_by_run a b p r = record { moves = r.moves; tally = λ _. r.tally }

live_slot : (slots : List SlotValue) (o : Option ℕ) (slot : ℕ) (m : Bool) → state_at slots o ≡ cell.Live slot m → o ≡ Some slot
live_slot slots None slot m h = cc
live_slot slots (Some i) slot m h = let same : i ≡ slot = cc in ap Some same

other_cell : (m n : ℕ) → n ≢ m → (m == n) ≡ false
other_cell m n h = grind (arith, nat_tests)

-- a pin is left on a cell that had more than one, and on another cell
pin_left : (t : Bool) (x y : ℕ) → (t ≡ false) ⊎ (1 < x) → 0 < y → 0 < cond t (x - 1) y
pin_left false x y other some = some
pin_left true x y (inl other) some = absurd (true≢false other)
pin_left true x y (inr more) some = omega (arith, more)

not_given : (m n : ℕ) (more : Type 0) → (n ≢ m) ⊎ more → ((m == n) ≡ false) ⊎ more
not_given m n more (inl other) = inl (other_cell m n other)
not_given m n more (inr p) = inr p

-- a handle stays one when a handle on another cell is given back, or one of several on its own
pub kept_after_unpin : (a b : Cached) (n : ℕ) (h : Handle) → Runs a (Unpin 0 n ∷ []) b → (h.cell ≢ n) ⊎ (1 < (state_of a).pins 0 n) → IsHandleOf a h → IsHandleOf b h
kept_after_unpin a b n h runs other handle =
    let reached = runs.moves.led.reached in
    let state : state_at b.slots (slot_of b h.cell) ≡ cell.Live h.slot (slot_at a h.slot).marked = sym (reached.cells h.cell) ∙ ap (state_at a.slots) handle.live in
    let live : slot_of b h.cell ≡ Some h.slot = live_slot b.slots (slot_of b h.cell) h.slot (slot_at a h.slot).marked state in
    let pins : (after (state_of a) (Unpin 0 n ∷ [])).pins 0 h.cell ≡ (slot_at b h.slot).pins = reached.pins 0 h.cell ∙ ap (pins_at b.slots) live in
    let before : (state_of a).pins 0 h.cell ≡ (slot_at a h.slot).pins = ap (pins_at a.slots) handle.live in
    let left = pin_left (n == h.cell) ((state_of a).pins 0 n) ((state_of a).pins 0 h.cell) (not_given n h.cell _ other) (subst (λ x. 0 < x) (sym before) handle.pinned) in
    record { live = live; pinned = subst (λ x. 0 < x) pins left }
