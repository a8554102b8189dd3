-- A cell that is loaded in another's place.
use Rattle.std.proofs.Common.{◌≡◌, ◌≢◌, ◌∙◌, inl, inr, ℕ, ◌+◌, ◌<◌, true, List, [], ◌∷◌, ◌++◌, length, None, Some, Result, Ok, Err, IfOk, IfErr, OnOk, OnErr, slice_index_or, slice_set, get_or-set_same, get_or-set_other, refl, sym, ap, subst, arith}
use Rattle.std.proofs.lemmas.List.{length-set}
use Rattle.cell_grid.specs.declared.level.Level.{Level}
use Rattle.cell_grid.specs.Pyramid.{lane_of}
use Rattle.cell_store.specs.declared.store.Put.{Put}
use Rattle.cell_store.specs.declared.store.Put.TheVariants as put
use Rattle.store_calls.specs.Calls.{StoreCall, AreCalled}
use Rattle.store_calls.proofs.Composed.{called_on}
use Rattle.cell_file.specs.Asks.{AreFetch, save_answer}
use Rattle.cell_file.specs.Keys.{KeyNames}
use Rattle.cell_file.specs.declared.errors.FetchErr.{FetchErr}
use Rattle.cell_file.specs.declared.errors.SaveErr.{SaveErr}
use Rattle.cell_file.specs.declared.errors.SaveErr.TheVariants as saving
use Rattle.cell_file.specs.declared.errors.AcquireErr.{AcquireErr}
use Rattle.cell_file.specs.declared.errors.AcquireErr.TheVariants as refusal
use Rattle.arr_history.specs.declared.event.Event.{Event}
use Rattle.arr_history.specs.declared.event.Event.TheVariants as event
use Rattle.arr_history.proofs.Lists.{set_cases}
use Rattle.sole_cache.specs.Slot.{SlotValue, no_slot, slot_in, loaded_with, emptied}
use Rattle.sole_cache.specs.Cached.{Cached, slot_of, slot_at, handles_out, state_at}
use Rattle.sole_cache.specs.Valid.{IsCache}
use Rattle.sole_cache.specs.Room.{IsLowestFree}
use Rattle.sole_cache.specs.Moves.{Runs}
use Rattle.sole_cache.specs.Handle.{Handle, IsHandleOf}
use Rattle.sole_cache.specs.Pieces.{IsReplacedBy, IsCaused}
use Rattle.sole_cache.specs.Acquires.{refusal_of_put}
use Rattle.sole_cache.specs.Asked.{IsCellGot, IsTurnedOut, IsReplaced}
use Rattle.sole_cache.proofs.Composed.{runs_on}
use Rattle.sole_cache.proofs.Claims.{runs_claim_first, runs_claim_round}
use Rattle.sole_cache.proofs.Steps.{none_some, some_none}
use Rattle.sole_cache.proofs.Acquires.{rose_on, falls, told_then}
use Rattle.sole_cache.proofs.Handles.{all_pins, pins_loaded, pins_emptied, handle_placed, others_same}

-- a cell that isn't live isn't the one that leaves
pub not_due : (c : Cached) (n due i : ℕ) → slot_of c n ≡ None → slot_of c due ≡ Some i → n ≢ due
not_due c n due i absent live e = none_some i (sym absent ∙ ap (slot_of c) e ∙ live)

-- once a cell left, another that wasn't live still isn't, and its slot is the one that is free
pub still_absent : (c : Cached) (n due i : ℕ) → IsCache c → slot_of c n ≡ None → slot_of c due ≡ Some i → slice_index_or (slice_set c.table due None) n None ≡ None
still_absent c n due i valid absent live = get_or-set_other c.table due n None None (not_due c n due i absent live) ∙ absent

pub now_free : (c : Cached) (due i : ℕ) → IsCache c → slot_of c due ≡ Some i → (slot_in (slice_set c.slots i (emptied (slot_at c i))) i).cell ≡ None
now_free c due i valid live = ap (λ (s : SlotValue). s.cell) (get_or-set_same c.slots i (emptied (slot_at c i)) no_slot (valid.seated.in_slot due i live).0)

pub others_taken : (c : Cached) (i : ℕ) → IsLowestFree c.slots None → (j : ℕ) → j < length (slice_set c.slots i (emptied (slot_at c i))) → j ≢ i → (slot_in (slice_set c.slots i (emptied (slot_at c i))) j).cell ≢ None
others_taken c i taken j lt ne = subst (λ (s : SlotValue). s.cell ≢ None) (sym (get_or-set_other c.slots i j (emptied (slot_at c i)) no_slot ne)) (taken j (subst (λ k. j < k) (length-set c.slots i (emptied (slot_at c i))) lt))

-- each slot has a cell once the free one was filled
pub all_filled : (slots : List SlotValue) (i n : ℕ) (frame : List ℕ) → i < length slots → ((j : ℕ) → j < length slots → j ≢ i → (slot_in slots j).cell ≢ None) → IsLowestFree (slice_set slots i (loaded_with n frame)) None
all_filled slots i n frame lt others j h = set_cases (λ (s : SlotValue). s.cell ≢ None) slots i (loaded_with n frame) j no_slot lt (λ _ e. some_none n e) (λ ne. others j (subst (λ k. j < k) (length-set slots i (loaded_with n frame)) h) (λ e. ne (sym e)))

-- the pins of a slot that was emptied
pub emptied_pins : (slots : List SlotValue) (i : ℕ) (s : SlotValue) → i < length slots → (slot_in (slice_set slots i (emptied s)) i).pins ≡ 0
emptied_pins slots i s lt = ap (λ (t : SlotValue). t.pins) (get_or-set_same slots i (emptied s) no_slot lt)

-- a fetch by the same key names, of the same of as many stores
fetch_same : (levels levels' : List Level) (keys keys' : KeyNames) (lanes lanes' n : ℕ) (r : Result (Unit {0}) FetchErr) (calls : List StoreCall) → levels ≡ levels' → keys ≡ keys' → lanes ≡ lanes'
    → AreFetch levels keys (lane_of n lanes) n r calls → AreFetch levels' keys' (lane_of n lanes') n r calls
fetch_same levels levels' keys keys' lanes lanes' n r calls l k s f =
    subst (λ m. AreFetch levels' keys' (lane_of n m) n r calls) s (subst (λ x. AreFetch levels' x (lane_of n lanes) n r calls) k (subst (λ x. AreFetch x keys (lane_of n lanes) n r calls) l f))

-- what was got after events was got of the same store
got_same : (a b : Cached) (n : ℕ) (events : List Event) (r : Result Handle AcquireErr) (calls : List StoreCall) → Runs a events b → IsCellGot b n r calls → IsCellGot a n r calls
got_same a b n events (Ok h) calls runs got = fetch_same b.levels a.levels b.keys a.keys (length b.shown) (length a.shown) n (Ok tt) calls runs.moves.levels runs.moves.keys runs.moves.stores.lanes got
got_same a b n events (Err e) calls runs (cause, fetched, is) =
    (cause, fetch_same b.levels a.levels b.keys a.keys (length b.shown) (length a.shown) n (Err cause) calls runs.moves.levels runs.moves.keys runs.moves.stores.lanes fetched, is)

-- a cell left, and another was loaded in its place, or not
pub replaced : (a b d : Cached) (n due i : ℕ) (r : Result Handle AcquireErr) → slot_of a n ≡ None → slot_of a due ≡ Some i → Runs a (event.Close 0 due ∷ event.Gone 0 due (slot_at a i).marked ∷ []) b
    → (puts : List StoreCall) × IsTurnedOut a due i (Ok tt) puts × AreCalled puts a.shown b.shown → IfOk r (λ h. h ≡ record { cell = n; slot = i; loaded = true })
    → OnOk r (Runs b (event.Claim 0 n ∷ event.Live 0 n i ∷ []) d) → OnErr r (Runs b (event.Claim 0 n ∷ event.Drop 0 n ∷ []) d) → (gets : List StoreCall) × IsCellGot b n r gets × AreCalled gets b.shown d.shown
    → (events : List Event) × (calls : List StoreCall) × IsReplaced a n due i r events calls × Runs a events d × AreCalled calls a.shown d.shown
replaced a b d n due i r absent live gone (puts, turned, put) handle loaded dropped (gets, got, called) = go r handle loaded dropped got
  where
    all : AreCalled (puts ++ gets) a.shown d.shown
    all = called_on a.shown b.shown d.shown puts gets put called

    go : (r : Result Handle AcquireErr) → IfOk r (λ h. h ≡ record { cell = n; slot = i; loaded = true }) → OnOk r (Runs b (event.Claim 0 n ∷ event.Live 0 n i ∷ []) d) → OnErr r (Runs b (event.Claim 0 n ∷ event.Drop 0 n ∷ []) d)
        → IsCellGot b n r gets → (events : List Event) × (calls : List StoreCall) × IsReplaced a n due i r events calls × Runs a events d × AreCalled calls a.shown d.shown
    go (Ok h) handle loaded dropped got = (
      event.Claim 0 n ∷ event.Close 0 due ∷ event.Gone 0 due (slot_at a i).marked ∷ event.Live 0 n i ∷ [],
      puts ++ gets,
      (handle, record { gets = gets; got = got_same a b n _ (Ok h) gets gone got; events_are = refl; calls_are = ap (λ l. l ++ gets) turned }),
      runs_claim_first a d n due (slot_at a i).marked (event.Live 0 n i) (not_due a n due i absent live) (λ _ _ _. refl) (runs_on a b d _ _ gone loaded),
      all,
    )
    go (Err err) handle loaded dropped got = (
      event.Claim 0 n ∷ event.Close 0 due ∷ event.Gone 0 due (slot_at a i).marked ∷ event.Drop 0 n ∷ [],
      puts ++ gets,
      inl (record { gets = gets; got = got_same a b n _ (Err err) gets gone got; events_are = refl; calls_are = ap (λ l. l ++ gets) turned }),
      runs_claim_first a d n due (slot_at a i).marked (event.Drop 0 n) (not_due a n due i absent live) (λ _ _ _. refl) (runs_on a b d _ _ gone dropped),
      all,
    )

-- the handle on what was loaded there
pub seated_after : (a b d : Cached) (n i : ℕ) (r : Result Handle AcquireErr) → i < length a.slots → n < length b.table → b.slots ≡ slice_set a.slots i (emptied (slot_at a i)) → IfOk r (λ h. h ≡ record { cell = n; slot = i; loaded = true })
    → OnOk r ((d.table ≡ slice_set b.table n (Some i)) × ((frame : List ℕ) × (d.slots ≡ slice_set b.slots i (loaded_with n frame)))) → IfOk r (λ h. IsHandleOf d h)
seated_after a b d n i (Ok h) lt inside left handle seated = subst (IsHandleOf d) (sym handle) (handle_placed d n i b.slots (loaded_with n seated.1.0) (subst (λ k. i < k) (sym (ap length left ∙ length-set a.slots i (emptied (slot_at a i)))) lt) seated.1.1
    (ap (λ t. slice_index_or t n None) seated.0 ∙ get_or-set_same b.table n (Some i) None inside) (omega arith) true)
seated_after a b d n i (Err e) lt inside left handle seated = tt

-- the pins of its slot then
pub pinned_after : (a b d : Cached) (n i : ℕ) (r : Result Handle AcquireErr) → i < length a.slots → b.slots ≡ slice_set a.slots i (emptied (slot_at a i))
    → OnOk r ((d.table ≡ slice_set b.table n (Some i)) × ((frame : List ℕ) × (d.slots ≡ slice_set b.slots i (loaded_with n frame)))) → OnOk r ((slot_at d i).pins ≡ 1)
pinned_after a b d n i (Ok h) lt left seated = ap (λ l. (slot_in l i).pins) seated.1.1
    ∙ ap (λ (t : SlotValue). t.pins) (get_or-set_same b.slots i (loaded_with n seated.1.0) no_slot (subst (λ k. i < k) (sym (ap length left ∙ length-set a.slots i (emptied (slot_at a i)))) lt))
pinned_after a b d n i (Err e) lt left seated = tt

pub unpinned_after : (a b d : Cached) (i : ℕ) (r : Result Handle AcquireErr) → i < length a.slots → b.slots ≡ slice_set a.slots i (emptied (slot_at a i)) → OnErr r ((d.table ≡ b.table) × (d.slots ≡ b.slots)) → OnErr r ((slot_at d i).pins ≡ 0)
unpinned_after a b d i (Ok h) lt left stayed = tt
unpinned_after a b d i (Err e) lt left stayed = ap (λ l. (slot_in l i).pins) (stayed.1 ∙ left) ∙ emptied_pins a.slots i (slot_at a i) lt

-- the refusal of an acquire by that of a save
abbrev pub refused_put : SaveErr → AcquireErr
refused_put saving.WriteFault = refusal.WriteFault
refused_put saving.Memory = refusal.Memory

refused : (cause : SaveErr) (answer : Put) → Err cause ≡ save_answer answer → refusal_of_put answer ≡ Some (refused_put cause)
refused saving.WriteFault put.Done e = absurd (cc)
refused saving.WriteFault put.Failed e = refl
refused saving.WriteFault put.NoMemory e = absurd (cc)
refused saving.Memory put.Done e = absurd (cc)
refused saving.Memory put.Failed e = absurd (cc)
refused saving.Memory put.NoMemory e = refl

-- a cell could not be put, and came back
pub held_back : (a b : Cached) (n due i : ℕ) (cause err : SaveErr) → cause ≡ err → IsCache a → n < length a.table → slot_of a n ≡ None → slot_of a due ≡ Some i → (slot_at a i).marked ≡ true → Runs a (event.Close 0 due ∷ event.Back 0 due ∷ []) b
    → (puts : List StoreCall) × IsTurnedOut a due i (Err cause) puts × AreCalled puts a.shown b.shown
    → (events : List Event) × (calls : List StoreCall) × IsReplaced a n due i (Err (refused_put err)) events calls × Runs a events b × AreCalled calls a.shown b.shown
held_back a b n due i cause err same valid inside absent live mark back (puts, (answer, told, are), put) = (
  event.Claim 0 n ∷ event.Close 0 due ∷ event.Back 0 due ∷ event.Drop 0 n ∷ [],
  puts,
  inr (record { marked = mark; answer = answer; err_is = refused cause answer told ∙ ap (λ e. Some (refused_put e)) same; events_are = refl; calls_are = are }),
  runs_claim_round a b n due (not_due a n due i absent live) (subst (λ k. n < k) valid.fitted.cells inside) (ap (state_at a.slots) absent) back,
  put,
)

-- the causes of what was refused after a cell left
pub caused_on : (a b d : Cached) (n due i : ℕ) (events : List Event) (r : Result Handle AcquireErr) → Runs a events b → IsCaused b d n r → IfErr r (λ err. (err ≢ refusal.Full) × (err ≢ refusal.WriteFault)) → IsReplacedBy a d n due r
caused_on a b d n due i events (Ok h) runs caused own = tt
caused_on a b d n due i events (Err refusal.ReadFault) runs caused own = rose_on _ _ _ (falls a b n events runs) caused
caused_on a b d n due i events (Err refusal.WriteFault) runs caused own = absurd (own.1 refl)
caused_on a b d n due i events (Err (refusal.Malformed edited err)) runs caused own = λ told. caused (told_then a b n events runs told)
caused_on a b d n due i events (Err (refusal.TooLong edited len limit)) runs caused own = λ told. caused (told_then a b n events runs told)
caused_on a b d n due i events (Err refusal.Full) runs caused own = tt
caused_on a b d n due i events (Err refusal.Memory) runs caused own = tt

-- the slots that a replacing leaves alone, and the handles that are out after it
pub others_after : (a b d : Cached) (n i : ℕ) (r : Result Handle AcquireErr) → b.slots ≡ slice_set a.slots i (emptied (slot_at a i)) → OnOk r ((d.table ≡ slice_set b.table n (Some i)) × ((frame : List ℕ) × (d.slots ≡ slice_set b.slots i (loaded_with n frame))))
    → OnErr r ((d.table ≡ b.table) × (d.slots ≡ b.slots)) → (j : ℕ) → j ≢ i → slot_at d j ≡ slot_at a j
others_after a b d n i (Ok h) left seated stayed j ne = ap (λ l. slot_in l j) seated.1.1 ∙ others_same b.slots i (loaded_with n seated.1.0) j ne ∙ ap (λ l. slot_in l j) left ∙ others_same a.slots i (emptied (slot_at a i)) j ne
others_after a b d n i (Err e) left seated stayed j ne = ap (λ l. slot_in l j) (stayed.1 ∙ left) ∙ others_same a.slots i (emptied (slot_at a i)) j ne

pub granted_after : (a b d : Cached) (n i : ℕ) (r : Result Handle AcquireErr) → i < length a.slots → (slot_at a i).pins ≡ 0 → b.slots ≡ slice_set a.slots i (emptied (slot_at a i))
    → OnOk r ((d.table ≡ slice_set b.table n (Some i)) × ((frame : List ℕ) × (d.slots ≡ slice_set b.slots i (loaded_with n frame)))) → OnOk r (handles_out d ≡ handles_out a + 1)
granted_after a b d n i (Ok h) lt none left seated =
    ap all_pins seated.1.1 ∙ pins_loaded b.slots i n seated.1.0 (subst (λ k. i < k) (sym (ap length left ∙ length-set a.slots i (emptied (slot_at a i)))) lt) (ap (λ l. (slot_in l i).pins) left ∙ emptied_pins a.slots i (slot_at a i) lt)
    ∙ ap (λ k. k + 1) (ap all_pins left ∙ pins_emptied a.slots i (slot_at a i) lt none)
granted_after a b d n i (Err e) lt none left seated = tt

pub refused_after : (a b d : Cached) (i : ℕ) (r : Result Handle AcquireErr) → i < length a.slots → (slot_at a i).pins ≡ 0 → b.slots ≡ slice_set a.slots i (emptied (slot_at a i)) → OnErr r ((d.table ≡ b.table) × (d.slots ≡ b.slots))
    → OnErr r (handles_out d ≡ handles_out a)
refused_after a b d i (Ok h) lt none left stayed = tt
refused_after a b d i (Err e) lt none left stayed = ap all_pins (stayed.1 ∙ left) ∙ pins_emptied a.slots i (slot_at a i) lt none
