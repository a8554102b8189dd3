-- Where steps of eyes lead.
use Rattle.std.proofs.Common.{◌≡◌, ◌∙◌, ◌⊎◌, ℕ, zero, suc, inl, inr, List, [], ◌∷◌, ◌++◌, refl, sym, ap, subst}
use Rattle.std.proofs.lemmas.List.{append-nil}
use Rattle.std.specs.Prelude.{Result, IfErr, OnErr}
use Rattle.std.specs.declared.result.Result.TheVariants.{Ok, Err}
use Rattle.cell_file.specs.declared.errors.AcquireErr.{AcquireErr}
use Rattle.cell_file.specs.declared.errors.AcquireErr.TheVariants as refusal
use Rattle.store_calls.specs.Calls.{StoreCall, AreCalled}
use Rattle.store_calls.proofs.Composed.{called_on}
use Rattle.arr_history.specs.declared.cell_state.Seen.{Seen}
use Rattle.arr_history.specs.declared.event.Event.{Event}
use Rattle.arr_history.specs.declared.event.Event.TheVariants.{Read, Unpin}
use Rattle.sole_cache.specs.Cached.{Cached, handles_out}
use Rattle.sole_cache.specs.Handle.{Handle}
use Rattle.sole_cache.specs.Acquires.{Acquires, IsAcquire, Looks, Quiet, Drops, HoldsUp}
use Rattle.sole_cache.specs.Moves.{Runs}
use Rattle.sole_cache.specs.Pieces.{IsLook, IsCaused}
use Rattle.sole_eyes.specs.SoleEyes.{EyesLead, IsRefusal}
use Rattle.sole_eyes.specs.Steps.{IsStep, AreSteps, FollowsStep}
use Rattle.sole_eyes.proofs.Looking.{leads_by_run}

module _ (c d : Cached) where
  eyes_step : (events : List Event) (calls : List StoreCall) → Runs c events d → IsStep c events calls d → EyesLead c events d
  eyes_step events calls runs step = record {
    leads = leads_by_run c d events runs;
    calls = calls;
    follows = record { count = 1; steps = (d, events, [], calls, [], step, (refl, refl, refl), sym (append-nil events), sym (append-nil calls)) };
  }

  -- an acquire, a look, a read and a giving back
  pub eyes_acquire : (cell : ℕ) (result : Result Handle AcquireErr) (events : List Event) (calls : List StoreCall) → Acquires c cell result events calls d → EyesLead c events d
  eyes_acquire cell result events calls done = eyes_step events calls done.runs (inl (cell, result, done))

  pub eyes_look : (cell : ℕ) (result : Result Handle Seen) (events : List Event) → Looks c cell result events d → EyesLead c events d
  eyes_look cell result events done = eyes_step events [] done.quiet.runs (inr (inl (cell, result, done, refl)))

  pub eyes_read : (cell at x : ℕ) → Quiet c (Read 0 cell at x ∷ []) d → EyesLead c (Read 0 cell at x ∷ []) d
  eyes_read cell at x quiet = eyes_step (Read 0 cell at x ∷ []) [] quiet.runs (inr (inr (inl (cell, at, x, refl, quiet, refl))))

  pub eyes_release : (cell : ℕ) → Quiet c (Unpin 0 cell ∷ []) d → EyesLead c (Unpin 0 cell ∷ []) d
  eyes_release cell quiet = eyes_step (Unpin 0 cell ∷ []) [] quiet.runs (inr (inr (inr (cell, refl, quiet, refl))))

  -- why an acquire was refused
  full_of : (cell : ℕ) (err : AcquireErr) (events : List Event) (calls : List StoreCall) → IsAcquire c cell (Err err) events calls → (same : err ≡ refusal.Full) → IsAcquire c cell (Err refusal.Full) events calls
  full_of cell err events calls is same = subst (λ (e : AcquireErr). IsAcquire c cell (Err e) events calls) same is

  pub refusal_as : (cell : ℕ) (err : AcquireErr) (events : List Event) (calls : List StoreCall) → IsCaused c d cell (Err err) → Acquires c cell (Err err) events calls d → handles_out d ≡ handles_out c → IsRefusal c d cell err
  refusal_as cell err events calls caused done handles =
      record { caused = caused; full = λ same. (full_of cell err events calls done.is same).1; handles = handles; events = events; calls = calls; acquires = done }

  pub refused_by : (cell : ℕ) (result : Result Handle AcquireErr) (events : List Event) (calls : List StoreCall) → IsCaused c d cell result → Acquires c cell result events calls d
      → OnErr result (handles_out d ≡ handles_out c) → IfErr result (λ err. IsRefusal c d cell err)
  refused_by cell (Ok h) events calls caused done handles = tt
  refused_by cell (Err err) events calls caused done handles = refusal_as cell err events calls caused done handles

  -- what a step asks of the stores leads from what they showed to what they show
  quiet_called : (events : List Event) (calls : List StoreCall) → Quiet c events d → calls ≡ [] → AreCalled calls c.shown d.shown
  quiet_called events calls quiet none = subst (λ (k : List StoreCall). AreCalled k c.shown d.shown) (sym none) quiet.shown

  step_called : (events : List Event) (calls : List StoreCall) → IsStep c events calls d → AreCalled calls c.shown d.shown
  step_called events calls (inl (cell, result, done)) = done.called
  step_called events calls (inr (inl (cell, result, done, none))) = quiet_called events calls done.quiet none
  step_called events calls (inr (inr (inl (cell, at, x, is, quiet, none)))) = quiet_called events calls quiet none
  step_called events calls (inr (inr (inr (cell, is, quiet, none)))) = quiet_called events calls quiet none

steps_called : (n : ℕ) (c d : Cached) (events : List Event) (calls : List StoreCall) → AreSteps n c events calls d → AreCalled calls c.shown d.shown
steps_called zero c d events calls (same, none, silent) = subst (λ (k : List StoreCall). AreCalled k c.shown d.shown) (sym silent) (ap (λ (e : Cached). e.shown) same)
steps_called (suc n) c d events calls (mid, first, rest, asked, more, step, steps, split, asks) =
    subst (λ (k : List StoreCall). AreCalled k c.shown d.shown) (sym asks)
    (called_on c.shown mid.shown d.shown asked more (step_called c mid first asked step) (steps_called n mid d rest more steps))

pub follows_called : (c d : Cached) (events : List Event) (calls : List StoreCall) → FollowsStep c events calls d → AreCalled calls c.shown d.shown
follows_called c d events calls follows = steps_called follows.count c d events calls follows.steps

-- a step has an event
abbrev HasEvent : List Event → Type 0
HasEvent events = (e : Event) × (rest : List Event) × (events ≡ e ∷ rest)

dropped_event : (c : Cached) (cell : ℕ) (err : AcquireErr) (events : List Event) (calls : List StoreCall) → Drops c cell err events calls ⊎ HoldsUp c cell err events calls → HasEvent events
dropped_event c cell err events calls (inl dropped) = (_, _, dropped.events_are)
dropped_event c cell err events calls (inr held) = (_, _, held.events_are)

acquire_event : (c : Cached) (cell : ℕ) (result : Result Handle AcquireErr) (events : List Event) (calls : List StoreCall) → IsAcquire c cell result events calls → HasEvent events
acquire_event c cell (Ok h) events calls (same, inl hit) = (_, _, hit.0.events_are)
acquire_event c cell (Ok h) events calls (same, inr load) = (_, _, load.events_are)
acquire_event c cell (Err refusal.Full) events calls (absent, full, is, none) = (_, _, is)
acquire_event c cell (Err refusal.ReadFault) events calls is = dropped_event c cell refusal.ReadFault events calls is
acquire_event c cell (Err refusal.WriteFault) events calls is = dropped_event c cell refusal.WriteFault events calls is
acquire_event c cell (Err (refusal.Malformed edited err)) events calls is = dropped_event c cell (refusal.Malformed edited err) events calls is
acquire_event c cell (Err (refusal.TooLong edited len limit)) events calls is = dropped_event c cell (refusal.TooLong edited len limit) events calls is
acquire_event c cell (Err refusal.Memory) events calls is = dropped_event c cell refusal.Memory events calls is

look_event : (c : Cached) (cell : ℕ) (result : Result Handle Seen) (events : List Event) → IsLook c cell result events → HasEvent events
look_event c cell (Ok h) events (same, hit) = (_, _, hit.events_are)
look_event c cell (Err seen) events (absent, (none, is)) = (_, _, is)

step_event : (c d : Cached) (events : List Event) (calls : List StoreCall) → IsStep c events calls d → HasEvent events
step_event c d events calls (inl (cell, result, done)) = acquire_event c cell result events calls done.is
step_event c d events calls (inr (inl (cell, result, done, none))) = look_event c cell result events done.is
step_event c d events calls (inr (inr (inl (cell, at, x, is, quiet, none)))) = (_, _, is)
step_event c d events calls (inr (inr (inr (cell, is, quiet, none)))) = (_, _, is)

-- where there was no event there was no step
pub follows_nothing : (c d : Cached) (calls : List StoreCall) → FollowsStep c [] calls d → (d ≡ c) × (calls ≡ [])
follows_nothing c d calls follows = go follows.count follows.steps
  where
    go : (n : ℕ) → AreSteps n c [] calls d → (d ≡ c) × (calls ≡ [])
    go zero (same, none, silent) = (same, silent)
    go (suc n) (mid, first, rest, asked, more, step, steps, split, asks) =
        let some = step_event c mid first asked step in
        let both : [] ≡ some.0 ∷ (some.1 ++ rest) = split ∙ ap (λ (e : List Event). e ++ rest) some.2 in
        cc
