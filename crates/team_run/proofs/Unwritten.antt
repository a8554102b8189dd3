-- Which events of a cache write no voxel.
use Rattle.std.proofs.Common.{◌≡◌, ◌∙◌, ◌⊎◌, inl, inr, ℕ, List, [], ◌∷◌, ◌++◌, Option, Some, None, Ok, Err, refl, sym, ap, subst}
use Rattle.arr_history.specs.declared.closed.Unsaved.{Unsaved}
use Rattle.arr_history.specs.declared.event.Event.{Event}
use Rattle.arr_history.specs.declared.event.Event.TheVariants as event
use Rattle.arr_history.specs.History.{after, AreLegal}
use Rattle.arr_history.specs.Next.{next}
use Rattle.arr_history.specs.Shape.{Shape}
use Rattle.arr_history.specs.State.{State}
use Rattle.cell_file.specs.declared.errors.AcquireErr.{AcquireErr}
use Rattle.cell_file.specs.declared.errors.AcquireErr.TheVariants as refusal
use Rattle.sole_cache.specs.Cached.{Cached, slot_at}
use Rattle.sole_cache.specs.Handle.{Handle}
use Rattle.sole_cache.specs.Acquires.{MakesRoom, Drops, HoldsUp, IsAcquire}
use Rattle.std.specs.Prelude.{Result}
use Rattle.store_calls.specs.Calls.{StoreCall}
use Rattle.sole_cache.specs.Shut.{AreClosed, IsClosedAt}
use Rattle.sole_cache.specs.Slot.{SlotValue}

-- these events leave every array as it was
abbrev pub Unwritten : List Event → Type 0
Unwritten events = (s : State) → (after s events).arrays ≡ s.arrays

-- the state after more events, and their legality there
pub after-append : (s : State) (p q : List Event) → after s (p ++ q) ≡ after (after s p) q
after-append s [] q = refl
after-append s (e ∷ p) q = after-append (next s e) p q

pub legal_behind : (b : Shape) (s : State) (p q : List Event) → AreLegal b s (p ++ q) → AreLegal b (after s p) q
legal_behind b s [] q h = h
legal_behind b s (e ∷ p) q h = legal_behind b (next s e) p q h.1

room_unwritten : (c : Cached) (slot : ℕ) (turn more : List Event) (calls : List StoreCall) → MakesRoom c slot turn calls → Unwritten more → Unwritten (turn ++ more)
room_unwritten c slot turn more calls (inl free) rest s = subst (λ t. (after s (t ++ more)).arrays ≡ s.arrays) (sym free.1) (rest s)
room_unwritten c slot turn more calls (inr (due, victim, turned, put)) rest s =
    subst (λ t. (after s (t ++ more)).arrays ≡ s.arrays) (sym turned) (rest (next (next s (event.Close 0 due)) (event.Gone 0 due (slot_at c slot).marked)))

refused_unwritten : (c : Cached) (cell : ℕ) (err : AcquireErr) (piece : List Event) (calls : List StoreCall) → Drops c cell err piece calls ⊎ HoldsUp c cell err piece calls → Unwritten piece
refused_unwritten c cell err piece calls (inl d) s = subst (λ p. (after s p).arrays ≡ s.arrays) (sym d.events_are)
    (room_unwritten c d.slot d.turn (event.Drop 0 cell ∷ []) d.puts d.room (λ t. refl) (next (next s (event.Miss 0 cell)) (event.Claim 0 cell)))
refused_unwritten c cell err piece calls (inr h) s = subst (λ p. (after s p).arrays ≡ s.arrays) (sym h.events_are) refl

-- an acquire
pub acquire_unwritten : (c : Cached) (cell : ℕ) (r : Result Handle AcquireErr) (piece : List Event) (calls : List StoreCall) → IsAcquire c cell r piece calls → Unwritten piece
acquire_unwritten c cell (Ok h) piece calls (same, inl (hit, none)) s = subst (λ p. (after s p).arrays ≡ s.arrays) (sym hit.events_are) refl
acquire_unwritten c cell (Ok h) piece calls (same, inr load) s = subst (λ p. (after s p).arrays ≡ s.arrays) (sym load.events_are)
    (room_unwritten c h.slot load.turn (event.Live 0 cell h.slot ∷ []) load.puts load.room (λ t. refl) (next (next s (event.Miss 0 cell)) (event.Claim 0 cell)))
acquire_unwritten c cell (Err refusal.Full) piece calls (absent, full, are, none) s = subst (λ p. (after s p).arrays ≡ s.arrays) (sym are) refl
acquire_unwritten c cell (Err refusal.WriteFault) piece calls h s = refused_unwritten c cell _ piece calls h s
acquire_unwritten c cell (Err refusal.ReadFault) piece calls h s = refused_unwritten c cell _ piece calls h s
acquire_unwritten c cell (Err (refusal.Malformed edited err)) piece calls h s = refused_unwritten c cell _ piece calls h s
acquire_unwritten c cell (Err (refusal.TooLong edited len limit)) piece calls h s = refused_unwritten c cell _ piece calls h s
acquire_unwritten c cell (Err refusal.Memory) piece calls h s = refused_unwritten c cell _ piece calls h s

slot_unwritten : (slot : SlotValue) (cell : Option ℕ) (unsaved : List Unsaved) (events : List Event) → IsClosedAt slot cell unsaved events → Unwritten events
slot_unwritten slot None unsaved events closed s = subst (λ p. (after s p).arrays ≡ s.arrays) (sym closed.1) refl
slot_unwritten slot (Some cell) unsaved events (inl gone) s = subst (λ p. (after s p).arrays ≡ s.arrays) (sym gone.1) refl
slot_unwritten slot (Some cell) unsaved events (inr (marked, (memory, back))) s = subst (λ p. (after s p).arrays ≡ s.arrays) (sym back.1) refl

-- the shutting
pub closing_unwritten : (slots : List SlotValue) (unsaved : List Unsaved) (events : List Event) → AreClosed slots unsaved events → Unwritten events
closing_unwritten [] unsaved events closed s = subst (λ p. (after s p).arrays ≡ s.arrays) (sym closed.1) refl
closing_unwritten (slot ∷ slots) unsaved events (u, (more, (e, (rest, (named, split, one, others))))) s = subst (λ p. (after s p).arrays ≡ s.arrays) (sym split)
    (ap (λ t. t.arrays) (after-append s e rest) ∙ closing_unwritten slots more rest others (after s e) ∙ slot_unwritten slot slot.cell u e one s)
