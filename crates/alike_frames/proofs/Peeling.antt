-- Steps of eyes, told apart by their events.
use Rattle.std.proofs.Common.{◌≡◌, ◌∙◌, ◌⊎◌, inl, inr, ℕ, zero, suc, true, false, List, [], ◌∷◌, ◌++◌, None, Some, Result, refl, sym, ap, subst}
use Rattle.std.proofs.Common.{true≢false}
use Rattle.std.specs.Bool.{MatchBool}
use Rattle.std.specs.declared.result.Result.TheVariants.{Ok, Err}
use Rattle.cell_file.specs.declared.errors.AcquireErr.{AcquireErr}
use Rattle.cell_file.specs.declared.errors.AcquireErr.TheVariants as refusal
use Rattle.store_calls.specs.Calls.{StoreCall, AreCalled}
use Rattle.arr_history.specs.declared.cell_state.Seen.{Seen}
use Rattle.arr_history.specs.declared.event.Event.{Event}
use Rattle.arr_history.specs.declared.event.Event.TheVariants.{Pin, Miss, Unpin, Read, Claim, Drop, Live, Close, Back}
use Rattle.sole_cache.specs.Cached.{Cached, slot_of}
use Rattle.sole_cache.specs.Handle.{Handle}
use Rattle.sole_cache.specs.Moves.{Runs}
use Rattle.sole_cache.specs.Pieces.{IsHit, IsLook}
use Rattle.sole_cache.specs.Acquires.{MakesRoom, Loads, Drops, HoldsUp, IsAcquire, Acquires, Quiet}
use Rattle.sole_eyes.specs.Steps.{IsStep, AreSteps, FollowsStep}
use Rattle.alike_frames.proofs.Parts.{is_end, IsEnded, is_missing, is_calm, same_tail, same_head, ended_same}

-- what is known of a cache where a step is one event
abbrev pub Tells : Cached → Event → Type 0
Tells c (Pin k n) = (slot : ℕ) × (slot_of c n ≡ Some slot)
Tells c (Miss k n) = slot_of c n ≡ None
Tells c (Read k n at x) = Unit {0}
Tells c (Unpin k n) = Unit {0}
Tells c other = ⊥

-- a step of one event
record IsOneEvent (c : Cached) (events : List Event) (calls : List StoreCall) (d : Cached) : Type 0 where
  event : Event
  is : events ≡ event ∷ []
  quiet : Quiet c (event ∷ []) d
  tells : Tells c event
  no_calls : calls ≡ []

-- a step by which a cell is loaded, or can't be
record IsLoading (c : Cached) (events : List Event) (calls : List StoreCall) (d : Cached) : Type 0 where
  cell : ℕ
  rest : List Event
  result : Result Handle AcquireErr
  is : events ≡ Miss 0 cell ∷ Claim 0 cell ∷ rest
  ended : IsEnded rest
  absent : slot_of c cell ≡ None
  acquires : Acquires c cell result (Miss 0 cell ∷ Claim 0 cell ∷ rest) calls d

last_ended : (e : Event) → is_end e ≡ true → IsEnded (e ∷ [])
last_ended e end = let nothing : List Event = [] in subst (λ t. MatchBool t (nothing ≡ []) ⊥) (sym end) refl

-- after the turn of another cell the end comes
room_ended : (c : Cached) (slot : ℕ) (turn : List Event) (calls : List StoreCall) (e : Event) → is_end e ≡ true → MakesRoom c slot turn calls → IsEnded (turn ++ e ∷ [])
room_ended c slot turn calls e end (inl free) = subst (λ (t : List Event). IsEnded (t ++ e ∷ [])) (sym free.1) (last_ended e end)
room_ended c slot turn calls e end (inr out) = subst (λ (t : List Event). IsEnded (t ++ e ∷ [])) (sym out.2) (last_ended e end)

quiet_by : (c : Cached) (cell : ℕ) (result : Result Handle AcquireErr) (events : List Event) (calls : List StoreCall) (d : Cached) (e : Event)
    → Acquires c cell result events calls d → events ≡ e ∷ [] → calls ≡ [] → Quiet c (e ∷ []) d
quiet_by c cell result events calls d e a is none = record {
  runs = subst (λ (es : List Event). Runs c es d) is a.runs;
  shown = subst (λ (k : List StoreCall). AreCalled k c.shown d.shown) none a.called;
  valid = a.valid;
}

abbrev IsForm : Cached → List Event → List StoreCall → Cached → Type 0
IsForm c events calls d = IsOneEvent c events calls d ⊎ IsLoading c events calls d

loading_by : (c : Cached) (cell : ℕ) (result : Result Handle AcquireErr) (events rest : List Event) (calls : List StoreCall) (d : Cached)
    → Acquires c cell result events calls d → slot_of c cell ≡ None → IsEnded rest → events ≡ Miss 0 cell ∷ Claim 0 cell ∷ rest → IsForm c events calls d
loading_by c cell result events rest calls d a absent ended is = inr (record {
  cell = cell;
  rest = rest;
  result = result;
  is = is;
  ended = ended;
  absent = absent;
  acquires = subst (λ (es : List Event). Acquires c cell result es calls d) is a;
})

-- an acquire that was refused
refusing : (c : Cached) (cell : ℕ) (err : AcquireErr) (events : List Event) (calls : List StoreCall) (d : Cached)
    → Acquires c cell (Err err) events calls d → Drops c cell err events calls ⊎ HoldsUp c cell err events calls → IsForm c events calls d
refusing c cell err events calls d a (inl drop) =
    loading_by c cell (Err err) events (drop.turn ++ Drop 0 cell ∷ []) calls d a drop.absent (room_ended c drop.slot drop.turn drop.puts (Drop 0 cell) refl drop.room) drop.events_are
refusing c cell err events calls d a (inr held) =
    loading_by c cell (Err err) events (Close 0 held.due ∷ Back 0 held.due ∷ Drop 0 cell ∷ []) calls d a held.absent refl held.events_are

granting : (c : Cached) (cell : ℕ) (h : Handle) (events : List Event) (calls : List StoreCall) (d : Cached)
    → Acquires c cell (Ok h) events calls d → (IsHit c cell h events × (calls ≡ [])) ⊎ Loads c cell h events calls → IsForm c events calls d
granting c cell h events calls d a (inl hit) = inl (record {
  event = Pin 0 cell;
  is = hit.0.events_are;
  quiet = quiet_by c cell (Ok h) events calls d (Pin 0 cell) a hit.0.events_are hit.1;
  tells = (h.slot, hit.0.live);
  no_calls = hit.1;
})
granting c cell h events calls d a (inr load) =
    loading_by c cell (Ok h) events (load.turn ++ Live 0 cell h.slot ∷ []) calls d a load.absent (room_ended c h.slot load.turn load.puts (Live 0 cell h.slot) refl load.room) load.events_are

acquire_form : (c : Cached) (cell : ℕ) (r : Result Handle AcquireErr) (events : List Event) (calls : List StoreCall) (d : Cached)
    → Acquires c cell r events calls d → IsAcquire c cell r events calls → IsForm c events calls d
acquire_form c cell (Ok h) events calls d a is = granting c cell h events calls d a is.1
acquire_form c cell (Err refusal.Full) events calls d a is = inl (record {
  event = Miss 0 cell;
  is = is.2;
  quiet = quiet_by c cell (Err refusal.Full) events calls d (Miss 0 cell) a is.2 is.3;
  tells = is.0;
  no_calls = is.3;
})
acquire_form c cell (Err err) events calls d a is = refusing c cell err events calls d a is

quiet_one : (c : Cached) (events : List Event) (d : Cached) (e : Event) → Quiet c events d → events ≡ e ∷ [] → Quiet c (e ∷ []) d
quiet_one c events d e q is = subst (λ (es : List Event). Quiet c es d) is q

look_form : (c : Cached) (cell : ℕ) (r : Result Handle Seen) (events : List Event) (calls : List StoreCall) (d : Cached)
    → Quiet c events d → IsLook c cell r events → calls ≡ [] → IsForm c events calls d
look_form c cell (Ok h) events calls d q is none = inl (record { event = Pin 0 cell; is = is.1.events_are; quiet = quiet_one c events d (Pin 0 cell) q is.1.events_are; tells = (h.slot, is.1.live); no_calls = none })
look_form c cell (Err seen) events calls d q is none = inl (record { event = Miss 0 cell; is = is.1.1; quiet = quiet_one c events d (Miss 0 cell) q is.1.1; tells = is.1.0; no_calls = none })

step_form : (c : Cached) (events : List Event) (calls : List StoreCall) (d : Cached) → IsStep c events calls d → IsForm c events calls d
step_form c events calls d (inl (cell, result, a)) = acquire_form c cell result events calls d a a.is
step_form c events calls d (inr (inl (cell, result, look, none))) = look_form c cell result events calls d look.quiet look.is none
step_form c events calls d (inr (inr (inl (cell, at, x, is, quiet, none)))) = inl (record { event = Read 0 cell at x; is = is; quiet = quiet_one c events d (Read 0 cell at x) quiet is; tells = tt; no_calls = none })
step_form c events calls d (inr (inr (inr (cell, is, quiet, none)))) = inl (record { event = Unpin 0 cell; is = is; quiet = quiet_one c events d (Unpin 0 cell) quiet is; tells = tt; no_calls = none })

-- the first of some steps is one event
pub record BeginsSmall (c : Cached) (e : Event) (rest : List Event) (calls : List StoreCall) (d : Cached) : Type 0 where
  pub mid : Cached
  pub quiet : Quiet c (e ∷ []) mid
  pub tells : Tells c e
  pub follows : FollowsStep mid rest calls d

-- the first of some steps loads a cell, or can't
pub record BeginsLarge (c : Cached) (e : Event) (rest : List Event) (calls : List StoreCall) (d : Cached) : Type 0 where
  pub cell : ℕ
  pub part : List Event
  pub later : List Event
  pub mid : Cached
  pub result : Result Handle AcquireErr
  pub asked : List StoreCall
  pub more : List StoreCall
  pub is_miss : e ≡ Miss 0 cell
  pub rest_is : rest ≡ Claim 0 cell ∷ (part ++ later)
  pub ended : IsEnded part
  pub absent : slot_of c cell ≡ None
  pub acquires : Acquires c cell result (Miss 0 cell ∷ Claim 0 cell ∷ part) asked mid
  pub follows : FollowsStep mid later more d
  pub calls_are : calls ≡ asked ++ more

abbrev Begins : Cached → Event → List Event → List StoreCall → Cached → Type 0
Begins c e rest calls d = BeginsSmall c e rest calls d ⊎ BeginsLarge c e rest calls d

begins_by : (c mid d : Cached) (e : Event) (rest first later : List Event) (calls asked more : List StoreCall) → IsForm c first asked mid → FollowsStep mid later more d
    → e ∷ rest ≡ first ++ later → calls ≡ asked ++ more → Begins c e rest calls d
begins_by c mid d e rest first later calls asked more (inl one) follows are called =
    let joined : e ∷ rest ≡ one.event ∷ later = are ∙ ap (λ (es : List Event). es ++ later) one.is in
    let same : one.event ≡ e = sym (same_head e one.event rest later joined) in
    let left : later ≡ rest = sym (same_tail e one.event rest later joined) in
    let calls_are : more ≡ calls = sym (called ∙ ap (λ (k : List StoreCall). k ++ more) one.no_calls) in
    inl (record {
      mid = mid;
      quiet = subst (λ (v : Event). Quiet c (v ∷ []) mid) same one.quiet;
      tells = subst (Tells c) same one.tells;
      follows = subst (λ (k : List StoreCall). FollowsStep mid rest k d) calls_are (subst (λ (es : List Event). FollowsStep mid es more d) left follows);
    })
begins_by c mid d e rest first later calls asked more (inr load) follows are called =
    let joined : e ∷ rest ≡ Miss 0 load.cell ∷ Claim 0 load.cell ∷ (load.rest ++ later) = are ∙ ap (λ (es : List Event). es ++ later) load.is in
    inr (record {
      cell = load.cell;
      part = load.rest;
      later = later;
      mid = mid;
      result = load.result;
      asked = asked;
      more = more;
      is_miss = same_head e (Miss 0 load.cell) rest (Claim 0 load.cell ∷ (load.rest ++ later)) joined;
      rest_is = same_tail e (Miss 0 load.cell) rest (Claim 0 load.cell ∷ (load.rest ++ later)) joined;
      ended = load.ended;
      absent = load.absent;
      acquires = load.acquires;
      follows = follows;
      calls_are = called;
    })

-- some steps begin by one of these forms
begins : (c : Cached) (e : Event) (rest : List Event) (calls : List StoreCall) (d : Cached) → FollowsStep c (e ∷ rest) calls d → Begins c e rest calls d
begins c e rest calls d f = go f.count f.steps
  where
    go : (count : ℕ) → AreSteps count c (e ∷ rest) calls d → Begins c e rest calls d
    go zero s = absurd (cc s.1)
    go (suc n) (mid, first, later, asked, more, step, steps, are, called) =
        begins_by c mid d e rest first later calls asked more (step_form c first asked mid step) (record { count = n; steps = steps }) are called

-- no events are no steps
pub nothing_left : (c : Cached) (calls : List StoreCall) (d : Cached) → FollowsStep c [] calls d → (d ≡ c) × (calls ≡ [])
nothing_left c calls d f = go f.count f.steps
  where
    go : (count : ℕ) → AreSteps count c [] calls d → (d ≡ c) × (calls ≡ [])
    go zero s = (s.0, s.2)
    go (suc n) (mid, first, later, asked, more, step, steps, are, called) = absurd (none (step_form c first asked mid step))
      where
        none : IsForm c first asked mid → ⊥
        none (inl one) = let joined : [] ≡ one.event ∷ later = are ∙ ap (λ (es : List Event). es ++ later) one.is in cc joined
        none (inr load) = let joined : [] ≡ Miss 0 load.cell ∷ Claim 0 load.cell ∷ (load.rest ++ later) = are ∙ ap (λ (es : List Event). es ++ later) load.is in cc joined

-- an event that is no miss is a step
pub begins_small : (c : Cached) (e : Event) (rest : List Event) (calls : List StoreCall) (d : Cached) → is_missing e ≡ false → FollowsStep c (e ∷ rest) calls d → BeginsSmall c e rest calls d
begins_small c e rest calls d other f = go (begins c e rest calls d f)
  where
    go : Begins c e rest calls d → BeginsSmall c e rest calls d
    go (inl small) = small
    go (inr large) = absurd (true≢false (sym (ap is_missing large.is_miss) ∙ other))

-- so is a miss, where no loading goes on from it
pub begins_missing : (c : Cached) (e : Event) (rest : List Event) (calls : List StoreCall) (d : Cached) → is_calm rest ≡ true → FollowsStep c (e ∷ rest) calls d → BeginsSmall c e rest calls d
begins_missing c e rest calls d calm f = go (begins c e rest calls d f)
  where
    go : Begins c e rest calls d → BeginsSmall c e rest calls d
    go (inl small) = small
    go (inr large) = absurd (true≢false (sym calm ∙ ap is_calm large.rest_is))

-- some steps that begin by the loading of a cell
pub record BeginsLoading (c : Cached) (cell : ℕ) (part later : List Event) (calls : List StoreCall) (d : Cached) : Type 0 where
  pub mid : Cached
  pub result : Result Handle AcquireErr
  pub asked : List StoreCall
  pub more : List StoreCall
  pub absent : slot_of c cell ≡ None
  pub acquires : Acquires c cell result (Miss 0 cell ∷ Claim 0 cell ∷ part) asked mid
  pub follows : FollowsStep mid later more d
  pub calls_are : calls ≡ asked ++ more

-- a miss and a claim are the beginning of a loading
pub begins_loading : (c : Cached) (cell : ℕ) (part later : List Event) (calls : List StoreCall) (d : Cached) → IsEnded part
    → FollowsStep c (Miss 0 cell ∷ Claim 0 cell ∷ (part ++ later)) calls d → BeginsLoading c cell part later calls d
begins_loading c cell part later calls d ended f = go (begins c (Miss 0 cell) (Claim 0 cell ∷ (part ++ later)) calls d f)
  where
    no_claim : (b : Cached) → FollowsStep b (Claim 0 cell ∷ (part ++ later)) calls d → ⊥
    no_claim b g = (begins_small b (Claim 0 cell) (part ++ later) calls d refl g).tells

    go : Begins c (Miss 0 cell) (Claim 0 cell ∷ (part ++ later)) calls d → BeginsLoading c cell part later calls d
    go (inl small) = absurd (no_claim small.mid small.follows)
    go (inr large) =
        let same : large.cell ≡ cell = cc large.is_miss in
        let parts = ended_same large.part large.later part later large.ended ended (sym (same_tail (Claim 0 cell) (Claim 0 large.cell) (part ++ later) (large.part ++ large.later) large.rest_is)) in
        record {
          mid = large.mid;
          result = large.result;
          asked = large.asked;
          more = large.more;
          absent = subst (λ n. slot_of c n ≡ None) same large.absent;
          acquires = subst (λ (es : List Event). Acquires c cell large.result (Miss 0 cell ∷ Claim 0 cell ∷ es) large.asked large.mid) parts.0 (subst (λ n. Acquires c n large.result (Miss 0 n ∷ Claim 0 n ∷ large.part) large.asked large.mid) same large.acquires);
          follows = subst (λ (es : List Event). FollowsStep large.mid es large.more d) parts.1 large.follows;
          calls_are = large.calls_are;
        }
