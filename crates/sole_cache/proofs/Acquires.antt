-- An acquire, from its steps.
use Rattle.std.proofs.Common.{◌≡◌, ◌≢◌, ◌∙◌, ◌⊎◌, inl, inr, ℕ, ◌≤◌, true, false, IsTrue, List, [], ◌∷◌, length, Option, None, Some, Result, Ok, Err, IfOk, IfErr, OnOk, OnErr, refl, sym, ap, subst, arith}
use Rattle.cell_grid.specs.Pyramid.{lane_of}
use Rattle.cell_store.specs.Faults.{Rose}
use Rattle.cell_store.specs.declared.store.Put.{Put}
use Rattle.cell_store.specs.declared.store.Put.TheVariants as put
use Rattle.store_calls.specs.Calls.{StoreCall, AreCalled}
use Rattle.cell_file.specs.declared.errors.FetchErr.{FetchErr}
use Rattle.cell_file.specs.declared.errors.FetchErr.TheVariants as fetching
use Rattle.arr_history.specs.declared.tally.Tally.{Tally}
use Rattle.cell_file.specs.declared.errors.AcquireErr.{AcquireErr}
use Rattle.cell_file.specs.declared.errors.AcquireErr.TheVariants as refusal
use Rattle.cell_file.specs.Keys.{KeyNames, edited_key, base_key}
use Rattle.cell_file.specs.Standing.{refusal_of, refused_by}
use Rattle.cell_grid.specs.declared.level.Level.{Level}
use Rattle.arr_history.specs.declared.event.Event.{Event}
use Rattle.arr_history.specs.declared.event.Event.TheVariants as event
use Rattle.sole_cache.specs.Cached.{Cached, store_in, store_of, slot_of, slot_at}
use Rattle.sole_cache.specs.Valid.{IsCache}
use Rattle.sole_cache.specs.Room.{IsLowestFree, IsFull, IsVictim}
use Rattle.sole_cache.specs.Moves.{Runs}
use Rattle.sole_cache.specs.Handle.{Handle}
use Rattle.sole_cache.specs.Pieces.{IsCaused, IsReplacedBy}
use Rattle.sole_cache.specs.Acquires.{acquire_refusal_by, refusal_of_put, Drops, HoldsUp, IsAcquire, Acquires}
use Rattle.sole_cache.specs.Asked.{IsCellGot, leaving_calls, IsReplaced}
use Rattle.sole_cache.proofs.Composed.{runs_on}
use Rattle.cell_store.specs.Store.{held_of}

-- a cache with other counts
abbrev pub counted : Cached → Tally → Cached
counted c tally = record { levels = c.levels; keys = c.keys; shown = c.shown; table = c.table; slots = c.slots; order = c.order; tally = tally; unsaved = c.unsaved }

-- an acquire that isn't refused because every slot is pinned
refused : (c : Cached) (n : ℕ) (err : AcquireErr) (events : List Event) (calls : List StoreCall) → (err ≡ refusal.Full → ⊥) → Drops c n err events calls ⊎ HoldsUp c n err events calls → IsAcquire c n (Err err) events calls
refused c n refusal.ReadFault events calls other h = h
refused c n refusal.WriteFault events calls other h = h
refused c n (refusal.Malformed edited err) events calls other h = h
refused c n (refusal.TooLong edited len limit) events calls other h = h
refused c n refusal.Full events calls other h = absurd (other refl)
refused c n refusal.Memory events calls other h = h

not_full : (cause : FetchErr) (err : AcquireErr) → err ≡ acquire_refusal_by cause → err ≡ refusal.Full → ⊥
not_full fetching.ReadFault err e f = cc
not_full (fetching.Malformed edited broken) err e f = cc
not_full (fetching.TooLong edited len limit) err e f = cc
not_full fetching.Memory err e f = cc

put_not_full : (answer : Put) (err : AcquireErr) → refusal_of_put answer ≡ Some err → err ≡ refusal.Full → ⊥
put_not_full put.Done err e f = cc
put_not_full put.Failed err e f = cc
put_not_full put.NoMemory err e f = cc

-- a live cell was pinned
pub acquired_hit : (a d : Cached) (n i : ℕ) (h : Handle) → slot_of a n ≡ Some i → h ≡ record { cell = n; slot = i; loaded = false } → Runs a (event.Pin 0 n ∷ []) d → d.shown ≡ a.shown → IsCache d
    → (events : List Event) × (calls : List StoreCall) × Acquires a n (Ok h) events calls d
acquired_hit a d n i h live is runs shown valid = subst (λ h. (events : List Event) × (calls : List StoreCall) × Acquires a n (Ok h) events calls d) (sym is)
    (event.Pin 0 n ∷ [], [], record { is = (refl, inl (record { live = live; found = refl; events_are = refl }, refl)); runs = runs; called = shown; valid = valid })

-- a load into the lowest free slot, after a miss
pub acquired_free : (a b d : Cached) (tally : Tally) (n i : ℕ) (r : Result Handle AcquireErr) → b ≡ counted a tally → slot_of a n ≡ None → IsLowestFree a.slots (Some i) → Runs a (event.Miss 0 n ∷ []) b
    → IfOk r (λ h. h ≡ record { cell = n; slot = i; loaded = true }) → OnOk r (Runs b (event.Claim 0 n ∷ event.Live 0 n i ∷ []) d) → OnErr r (Runs b (event.Claim 0 n ∷ event.Drop 0 n ∷ []) d)
    → (gets : List StoreCall) × IsCellGot b n r gets × AreCalled gets b.shown d.shown → IsCache d → (events : List Event) × (calls : List StoreCall) × Acquires a n r events calls d
acquired_free a b d tally n i r same absent lowest miss handle loaded dropped (gets, got, called) valid = go r handle loaded dropped (subst (λ x. IsCellGot x n r gets) same got)
  where
    all : AreCalled gets a.shown d.shown
    all = subst (λ x. AreCalled gets x d.shown) (ap (λ (x : Cached). x.shown) same) called

    go : (r : Result Handle AcquireErr) → IfOk r (λ h. h ≡ record { cell = n; slot = i; loaded = true }) → OnOk r (Runs b (event.Claim 0 n ∷ event.Live 0 n i ∷ []) d) → OnErr r (Runs b (event.Claim 0 n ∷ event.Drop 0 n ∷ []) d)
        → IsCellGot (counted a tally) n r gets → (events : List Event) × (calls : List StoreCall) × Acquires a n r events calls d
    go (Ok h) handle loaded dropped got = subst (λ h. (events : List Event) × (calls : List StoreCall) × Acquires a n (Ok h) events calls d) (sym handle) (
      event.Miss 0 n ∷ event.Claim 0 n ∷ event.Live 0 n i ∷ [],
      gets,
      record {
        is = (refl, inr (record { absent = absent; loaded = refl; turn = []; puts = []; room = inl (lowest, refl, refl); gets = gets; fetched = got; events_are = refl; calls_are = refl }));
        runs = runs_on a b d _ _ miss loaded;
        called = all;
        valid = valid;
      },
    )
    go (Err err) handle loaded dropped (cause, fetched, is) = (
      event.Miss 0 n ∷ event.Claim 0 n ∷ event.Drop 0 n ∷ [],
      gets,
      record {
        is = refused a n err _ _ (not_full cause err is) (inl (record { absent = absent; slot = i; turn = []; puts = []; room = inl (lowest, refl, refl); gets = gets; cause = cause; fetched = fetched; err_is = is; events_are = refl; calls_are = refl }));
        runs = runs_on a b d _ _ miss dropped;
        called = all;
        valid = valid;
      },
    )

-- a load in place of the cell that was due, after a miss
pub acquired_replaced : (a b d : Cached) (tally : Tally) (n due i : ℕ) (r : Result Handle AcquireErr) → b ≡ counted a tally → slot_of a n ≡ None → IsVictim a i due → Runs a (event.Miss 0 n ∷ []) b
    → (events : List Event) × (calls : List StoreCall) × IsReplaced b n due i r events calls × Runs b events d × AreCalled calls b.shown d.shown → IsCache d
    → (events : List Event) × (calls : List StoreCall) × Acquires a n r events calls d
acquired_replaced a b d tally n due i r same absent victim miss (e, calls, is, runs, called) valid = go r (subst (λ x. IsReplaced x n due i r e calls) same is)
  where
    all : AreCalled calls a.shown d.shown
    all = subst (λ x. AreCalled calls x d.shown) (ap (λ (x : Cached). x.shown) same) called

    on : Runs a (event.Miss 0 n ∷ e) d
    on = runs_on a b d (event.Miss 0 n ∷ []) e miss runs

    go : (r : Result Handle AcquireErr) → IsReplaced (counted a tally) n due i r e calls → (events : List Event) × (calls : List StoreCall) × Acquires a n r events calls d
    go (Ok h) (handle, done) = subst (λ h. (events : List Event) × (calls : List StoreCall) × Acquires a n (Ok h) events calls d) (sym handle) (
      event.Miss 0 n ∷ e,
      calls,
      record {
        is = (refl, inr (record { absent = absent; loaded = refl; turn = event.Close 0 due ∷ event.Gone 0 due (slot_at a i).marked ∷ []; puts = leaving_calls a due i; room = inr (due, victim, refl, refl); gets = done.gets; fetched = done.got; events_are = ap (λ l. event.Miss 0 n ∷ l) done.events_are; calls_are = done.calls_are }));
        runs = on;
        called = all;
        valid = valid;
      },
    )
    go (Err err) (inl done) = (
      event.Miss 0 n ∷ e,
      calls,
      record {
        is = refused a n err _ _ (not_full done.got.0 err done.got.2) (inl (record {
          absent = absent;
          slot = i;
          turn = event.Close 0 due ∷ event.Gone 0 due (slot_at a i).marked ∷ [];
          puts = leaving_calls a due i;
          room = inr (due, victim, refl, refl);
          gets = done.gets;
          cause = done.got.0;
          fetched = done.got.1;
          err_is = done.got.2;
          events_are = ap (λ l. event.Miss 0 n ∷ l) done.events_are;
          calls_are = done.calls_are;
        }));
        runs = on;
        called = all;
        valid = valid;
      },
    )
    go (Err err) (inr held) = (
      event.Miss 0 n ∷ e,
      calls,
      record {
        is = refused a n err _ _ (put_not_full held.answer err held.err_is) (inr (record {
          absent = absent;
          slot = i;
          due = due;
          victim = victim;
          marked = held.marked;
          answer = held.answer;
          err_is = held.err_is;
          events_are = ap (λ l. event.Miss 0 n ∷ l) held.events_are;
          calls_are = held.calls_are;
        }));
        runs = on;
        called = all;
        valid = valid;
      },
    )

-- nothing is taken where every slot has a pin
pub acquired_full : (a b : Cached) (n : ℕ) → slot_of a n ≡ None → IsFull a → Runs a (event.Miss 0 n ∷ []) b → b.shown ≡ a.shown → IsCache b
    → (events : List Event) × (calls : List StoreCall) × Acquires a n (Err refusal.Full) events calls b
acquired_full a b n absent full miss shown valid = (event.Miss 0 n ∷ [], [], record { is = (absent, full, refl, refl); runs = miss; called = shown; valid = valid })

-- a rise after a count that never falls is a rise
pub rose_on : (x y z : ℕ) → x ≤ y → Rose y z → Rose x z
rose_on x y z h r = grind arith

-- the refusal of a cell is the same where its two keys hold the same
pub refusal_same : (levels : List Level) (keys : KeyNames) (n : ℕ) (h k : List ℕ → Option (List ℕ)) → ((key : List ℕ) → k key ≡ h key) → refusal_of levels keys k n ≡ refusal_of levels keys h n
unfolding refusal_of
refusal_same levels keys n h k same = ap (λ x. refused_by levels n x (k (base_key levels keys n))) (same (edited_key levels n)) ∙ ap (refused_by levels n (h (edited_key levels n))) (same (base_key levels keys n))

-- and so it is after steps that put nothing
pub refused_now : (b d : Cached) (n : ℕ) (err : FetchErr) → Runs b (event.Claim 0 n ∷ event.Drop 0 n ∷ []) d → IsTrue (store_of b n).told → refusal_of b.levels b.keys (held_of (store_of b n)) n ≡ Some err
    → refusal_of d.levels d.keys (held_of (store_of d n)) n ≡ Some err
refused_now b d n err runs told is =
    let stores = runs.moves.stores in
    let at : store_of d n ≡ store_in d.shown (lane_of n (length b.shown)) = ap (λ l. store_in d.shown (lane_of n l)) stores.lanes in
    let same : (key : List ℕ) → (held_of (store_of d n)) key ≡ (held_of (store_of b n)) key = λ key. ap (λ (s : Rattle.cell_store.specs.Store.Contents). (held_of s) key) at ∙ stores.kept (lane_of n (length b.shown)) key told (λ m _ _ _. refl) in
    refusal_same d.levels d.keys n (held_of (store_of b n)) (held_of (store_of d n)) same ∙ ap (λ l. refusal_of l d.keys (held_of (store_of b n)) n) runs.moves.levels ∙ ap (λ k. refusal_of b.levels k (held_of (store_of b n)) n) runs.moves.keys ∙ is

-- the count of a store's faults never falls, and a store that tells goes on to tell
pub falls : (a b : Cached) (n : ℕ) (events : List Event) → Runs a events b → (store_of a n).faults ≤ (store_of b n).faults
falls a b n events runs = subst (λ l. (store_of a n).faults ≤ (store_in b.shown (lane_of n l)).faults) (sym runs.moves.stores.lanes) (runs.moves.stores.each (lane_of n (length a.shown))).never_falls

pub told_then : (a b : Cached) (n : ℕ) (events : List Event) → Runs a events b → IsTrue (store_of a n).told → IsTrue (store_of b n).told
told_then a b n events runs told = subst (λ l. IsTrue (store_in b.shown (lane_of n l)).told) (sym runs.moves.stores.lanes) (subst IsTrue (sym (runs.moves.stores.each (lane_of n (length a.shown))).told) told)

-- what a replacing was caused by
pub caused_by : (a b d : Cached) (n due i : ℕ) (r : Result Handle AcquireErr) → IsVictim a i due → Runs a (event.Miss 0 n ∷ []) b → IsReplacedBy b d n due r → IsCaused a d n r
caused_by a b d n due i (Ok h) victim runs caused = tt
caused_by a b d n due i (Err refusal.ReadFault) victim runs caused = rose_on _ _ _ (falls a b n _ runs) caused
caused_by a b d n due i (Err refusal.WriteFault) victim runs caused = (i, (due, (victim, rose_on _ _ _ (falls a b due _ runs) caused)))
caused_by a b d n due i (Err (refusal.Malformed edited err)) victim runs caused = λ told. caused (told_then a b n _ runs told)
caused_by a b d n due i (Err (refusal.TooLong edited len limit)) victim runs caused = λ told. caused (told_then a b n _ runs told)
caused_by a b d n due i (Err refusal.Full) victim runs caused = tt
caused_by a b d n due i (Err refusal.Memory) victim runs caused = tt

-- and a load after a miss
pub caused_after : (a b d : Cached) (n : ℕ) (r : Result Handle AcquireErr) → Runs a (event.Miss 0 n ∷ []) b → IsCaused b d n r → IfErr r (λ err. (err ≢ refusal.Full) × (err ≢ refusal.WriteFault)) → IsCaused a d n r
caused_after a b d n (Ok h) runs caused own = tt
caused_after a b d n (Err refusal.ReadFault) runs caused own = rose_on _ _ _ (falls a b n _ runs) caused
caused_after a b d n (Err refusal.WriteFault) runs caused own = absurd (own.1 refl)
caused_after a b d n (Err (refusal.Malformed edited err)) runs caused own = λ told. caused (told_then a b n _ runs told)
caused_after a b d n (Err (refusal.TooLong edited len limit)) runs caused own = λ told. caused (told_then a b n _ runs told)
caused_after a b d n (Err refusal.Full) runs caused own = tt
caused_after a b d n (Err refusal.Memory) runs caused own = tt
