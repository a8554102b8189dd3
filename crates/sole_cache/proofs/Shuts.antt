-- The closing of slots one after another.
use Rattle.std.proofs.Common.{◌≡◌, ◌≢◌, ◌∙◌, inl, inr, ℕ, ◌+◌, ◌<◌, ◌≤◌, Bool, true, false, List, [], ◌∷◌, ◌++◌, length, take, Option, None, Some, Ok, Err, refl, sym, ap, subst, arith}
use Rattle.std.specs.List.{count_by}
use Rattle.std.proofs.lemmas.List.{append-nil, append_assoc, length-append, take_more, take_all, length-take-le}
use Rattle.store_calls.specs.Calls.{StoreCall, AreCalled}
use Rattle.store_calls.proofs.Composed.{called_on}
use Rattle.cell_file.specs.declared.errors.SaveErr.{SaveErr}
use Rattle.cell_file.specs.declared.errors.SaveErr.TheVariants as saving
use Rattle.arr_history.specs.declared.closed.Unsaved.{Unsaved}
use Rattle.arr_history.specs.declared.tally.Tally.{Tally}
use Rattle.arr_history.specs.declared.event.Event.{Event}
use Rattle.arr_history.specs.Tally.{is_hit, is_miss, is_load, is_gone, is_writeback, cut, tally_raised}
use Rattle.arr_history.specs.declared.event.Event.TheVariants as event
use Rattle.arr_history.proofs.Counts.{count_by-append, same_tallies, raised_none}
use Rattle.sole_cache.specs.Slot.{SlotValue, no_slot, slot_in}
use Rattle.cell_store.specs.Faults.{Rose}
use Rattle.sole_cache.specs.Cached.{Cached, slot_at, store_of, handles_out}
use Rattle.sole_cache.specs.Valid.{IsCache}
use Rattle.sole_cache.specs.Moves.{Moves}
use Rattle.sole_cache.specs.Shut.{IsClosedAt, IsClosedSlot, AreClosed, failed_puts, AreCaused, Licenses, ClosesSlot, IsShut}
use Rattle.sole_cache.specs.Asked.{IsTurnedOut}
use Rattle.sole_cache.specs.Puts.{IsPutWhere, IsPutAt, IsPutSlot, ArePut}
use Rattle.sole_cache.proofs.Puts.{put_more, put_gone, named}
use Rattle.sole_cache.proofs.Composed.{runs_none, moves_on}
use Rattle.sole_cache.proofs.Faults.{caused_before, caused_later, caused_both, none_failed, both_failed, one_failed}
use Rattle.sole_cache.proofs.Handles.{moves_counted, cache_counted}
use Rattle.sole_cache.proofs.Kept.{few_pins}
use Rattle.sole_cache.proofs.Still.{uncounted_back}
use Rattle.sole_cache.proofs.Stood.{stood}

-- one slot more was closed
closed_last : (slots : List SlotValue) (s : SlotValue) (u v : List Unsaved) (d e : List Event) → AreClosed slots u d → IsClosedSlot s v e → AreClosed (slots ++ s ∷ []) (u ++ v) (d ++ e)
closed_last [] s u v d e h k = (v, ([], (e, ([], (ap (λ x. x ++ v) h.0 ∙ sym (append-nil v), ap (λ x. x ++ e) h.1 ∙ sym (append-nil e), k, (refl, refl))))))
closed_last (x ∷ slots) s u v d e (a, (more, (b, (rest, (pu, pe, one, others))))) k =
    (a, (more ++ v, (b, (rest ++ e, (ap (λ y. y ++ v) pu ∙ append_assoc a more v, ap (λ y. y ++ e) pe ∙ append_assoc b rest e, one, closed_last slots s more v rest e others k)))))

pub closed_more : (slots : List SlotValue) (i : ℕ) (u v : List Unsaved) (d e : List Event) → i < length slots → AreClosed (take i slots) u d → IsClosedSlot (slot_in slots i) v e → AreClosed (take (i + 1) slots) (u ++ v) (d ++ e)
closed_more slots i u v d e lt h k = subst (λ l. AreClosed l (u ++ v) (d ++ e)) (sym (take_more slots i no_slot lt)) (closed_last (take i slots) (slot_in slots i) u v d e h k)

-- at most one cell a slot is named
one_named : (s : SlotValue) (o : Option ℕ) (u : List Unsaved) (e : List Event) → IsClosedAt s o u e → length u ≤ 1
one_named s None u e h = let same = ap length h.0 in omega (arith, same)
one_named s (Some n) u e (inl h) = let same = ap length h.0 in omega (arith, same)
one_named s (Some n) u e (inr (m, (memory, (is, events)))) = let same = ap length is in omega (arith, same)

pub few_named : (slots : List SlotValue) (u : List Unsaved) (e : List Event) → AreClosed slots u e → length u ≤ length slots
few_named [] u e h = let same = ap length h.0 in omega (arith, same)
few_named (s ∷ slots) u e (a, (more, (b, (rest, (pu, pe, one, others))))) =
    let first = one_named s s.cell a b one in
    let after = few_named slots more rest others in
    let both = ap length pu ∙ length-append a more in
    omega (arith, first, after, both)

-- counts that are raised twice in the shutting
cut_cut : (a b : ℕ) → cut (cut a + b) ≡ cut (a + b)
cut_cut a b = grind arith

shut_twice : {X : Type 0} (p : X → Bool) (a : ℕ) (xs ys : List X) → cut (cut (a + count_by p xs) + count_by p ys) ≡ cut (a + count_by p (xs ++ ys))
shut_twice p a xs ys = cut_cut (a + count_by p xs) (count_by p ys) ∙ ap cut (shift a (count_by p xs) (count_by p ys) ∙ ap (λ n. a + n) (sym (count_by-append p xs ys)))
  where
    shift : (a b c : ℕ) → (a + b) + c ≡ a + (b + c)
    shift a b c = omega arith

pub shut_more : (t : Tally) (p q : List Event) → tally_raised (tally_raised t [] p) [] q ≡ tally_raised t [] (p ++ q)
shut_more t p q = same_tallies _ _ _ _ _ _ _ _ _ _ _ _ (shut_twice is_hit t.hits p q) (shut_twice is_miss t.misses p q) (shut_twice is_load t.loads p q)
    (shut_twice is_gone t.evictions [] []) (shut_twice is_writeback t.writebacks p q) (shut_twice is_gone t.closed p q)

-- the closing of a slot without a cell
pub closes_none : (c : Cached) (i : ℕ) (was : List Unsaved) → IsCache c → (slot_at c i).cell ≡ None → ClosesSlot c c i was was
closes_none c i was valid none = record {
  events = [];
  more = [];
  closed = subst (λ o. IsClosedAt (slot_at c i) o [] []) (sym none) (refl, refl);
  moves = (runs_none c valid).moves;
  named = sym (append-nil was);
  tally = (runs_none c valid).tally;
  caused = tt;
  licensed = none_failed c c [] (runs_none c valid).moves.stores;
  calls = [];
  called = refl;
  puts = subst (λ o. IsPutAt c.levels (length c.shown) (slot_at c i) o [] []) (sym none) (refl, refl);
}

-- of one whose cell is gone
pub closes_gone : (c b : Cached) (i n : ℕ) (saved : Bool) (was : List Unsaved) → (slot_at c i).cell ≡ Some n → saved ≡ (slot_at c i).marked → Moves c (event.Close 0 n ∷ event.Gone 0 n (slot_at c i).marked ∷ []) b → b.tally ≡ c.tally
    → (calls : List StoreCall) × IsTurnedOut c n i (Ok tt) calls × AreCalled calls c.shown b.shown
    → ClosesSlot c (record { levels = b.levels; keys = b.keys; shown = b.shown; table = b.table; slots = b.slots; order = b.order; tally = tally_raised b.tally [] (event.Gone 0 n saved ∷ []); unsaved = b.unsaved }) i was was
closes_gone c b i n saved was cell mark moves same (calls, turned, called) = record {
  events = event.Close 0 n ∷ event.Gone 0 n (slot_at c i).marked ∷ [];
  more = [];
  closed = subst (λ o. IsClosedAt (slot_at c i) o [] (event.Close 0 n ∷ event.Gone 0 n (slot_at c i).marked ∷ [])) (sym cell) (inl (refl, refl));
  moves = moves_counted c b (event.Close 0 n ∷ event.Gone 0 n (slot_at c i).marked ∷ []) (tally_raised b.tally [] (event.Gone 0 n saved ∷ [])) b.unsaved moves;
  named = sym (append-nil was);
  tally = ap (λ t. tally_raised t [] (event.Gone 0 n saved ∷ [])) same ∙ ap (λ m. tally_raised c.tally [] (event.Gone 0 n m ∷ [])) mark;
  caused = tt;
  licensed = none_failed c b (event.Close 0 n ∷ event.Gone 0 n (slot_at c i).marked ∷ []) moves.stores;
  calls = calls;
  called = called;
  puts = subst (λ o. IsPutAt c.levels (length c.shown) (slot_at c i) o [] calls) (sym cell) (put_gone c.levels (length c.shown) (slot_at c i).marked n (slot_at c i).frame calls turned);
}

-- and of one whose cell came back
pub closes_back : (c b : Cached) (i n : ℕ) (memory : Bool) (was unsaved : List Unsaved) → IsCache c → (slot_at c i).cell ≡ Some n → (slot_at c i).marked ≡ true → Moves c (event.Close 0 n ∷ event.Back 0 n ∷ []) b → b.tally ≡ c.tally
    → (memory ≡ false → Rose (store_of c n).faults (store_of b n).faults) → (cause : SaveErr) → (memory ≡ true → cause ≡ saving.Memory) → (memory ≡ false → cause ≡ saving.WriteFault)
    → (calls : List StoreCall) × IsTurnedOut c n i (Err cause) calls × AreCalled calls c.shown b.shown
    → ClosesSlot c (record { levels = b.levels; keys = b.keys; shown = b.shown; table = b.table; slots = b.slots; order = b.order; tally = b.tally; unsaved = unsaved }) i was (was ++ record { cell = n; memory = memory } ∷ [])
closes_back c b i n memory was unsaved valid cell mark moves same rose cause wanting failed (calls, (answer, told, are), called) = record {
  events = event.Close 0 n ∷ event.Back 0 n ∷ [];
  more = record { cell = n; memory = memory } ∷ [];
  closed = subst (λ o. IsClosedAt (slot_at c i) o (record { cell = n; memory = memory } ∷ []) (event.Close 0 n ∷ event.Back 0 n ∷ [])) (sym cell) (inr (mark, (memory, (refl, refl))));
  moves = moves_counted c b (event.Close 0 n ∷ event.Back 0 n ∷ []) b.tally unsaved moves;
  named = refl;
  tally = same ∙ sym (raised_none c.tally (event.Close 0 n ∷ event.Back 0 n ∷ []) valid.counted (uncounted_back n));
  caused = (rose, tt);
  licensed = one_failed c b (event.Close 0 n ∷ event.Back 0 n ∷ []) n memory moves.stores rose;
  calls = calls;
  called = called;
  puts = subst (λ o. IsPutAt c.levels (length c.shown) (slot_at c i) o (record { cell = n; memory = memory } ∷ []) calls) (sym cell)
      (subst (λ m. IsPutWhere c.levels (length c.shown) m n (slot_at c i).frame (record { cell = n; memory = memory } ∷ []) calls) (sym mark) (answer, named n memory cause answer wanting failed told, are));
}

-- how far a shutting has come: so many slots were closed
pub record ShutSoFar (start now : Cached) (unsaved : List Unsaved) (k : ℕ) : Type 0 where
  pub events : List Event
  pub closed : AreClosed (take k start.slots) unsaved events
  pub moves : Moves start events now
  pub tally : now.tally ≡ tally_raised start.tally [] events
  pub others : (i : ℕ) → k ≤ i → slot_at now i ≡ slot_at start i
  pub size : length now.slots ≡ length start.slots
  pub valid : IsCache now
  pub caused : AreCaused start now unsaved
  pub licensed : Licenses start.shown (failed_puts unsaved) now.shown
  pub calls : List StoreCall
  pub called : AreCalled calls start.shown now.shown
  pub puts : ArePut start.levels (length start.shown) (take k start.slots) unsaved calls
  pub begun : IsCache start

pub shut_begun : (c : Cached) → IsCache c → ShutSoFar c (record { levels = c.levels; keys = c.keys; shown = c.shown; table = c.table; slots = c.slots; order = c.order; tally = c.tally; unsaved = [] }) [] 0
shut_begun c valid = record {
  events = [];
  closed = (refl, refl);
  moves = moves_counted c c [] c.tally [] (runs_none c valid).moves;
  tally = (runs_none c valid).tally;
  others = λ _ _. refl;
  size = refl;
  valid = cache_counted c c.tally [] valid valid.counted;
  caused = tt;
  licensed = none_failed c c [] (runs_none c valid).moves.stores;
  calls = [];
  called = refl;
  puts = (refl, refl);
  begun = valid;
}

pub shut_one : (a b d : Cached) (was is : List Unsaved) (k : ℕ) → k < length a.slots → ShutSoFar a b was k → ClosesSlot b d k was is → ((i : ℕ) → i ≢ k → slot_at d i ≡ slot_at b i) → length d.slots ≡ length b.slots → IsCache d → ShutSoFar a d is (k + 1)
shut_one a b d was is k lt far one others size valid = record {
  events = far.events ++ one.events;
  closed = subst (λ u. AreClosed (take (k + 1) a.slots) u (far.events ++ one.events)) (sym one.named)
      (closed_more a.slots k was one.more far.events one.events lt far.closed (subst (λ s. IsClosedSlot s one.more one.events) (far.others k (omega arith)) one.closed));
  moves = moves_on a b d far.events one.events far.moves one.moves;
  tally = one.tally ∙ ap (λ t. tally_raised t [] one.events) far.tally ∙ shut_more a.tally far.events one.events;
  others = λ i le. others i (λ e. absurd (omega (arith, le, e))) ∙ far.others i (omega (arith, le));
  size = size ∙ far.size;
  valid = valid;
  caused = subst (λ u. AreCaused a d u) (sym one.named) (caused_both a d was one.more (caused_later b d one.events one.moves.stores a was far.caused) (caused_before a b far.events far.moves.stores d one.more one.caused));
  licensed = subst (λ u. Licenses a.shown (failed_puts u) d.shown) (sym one.named) (both_failed a b d one.events was one.more one.moves.stores far.licensed one.licensed);
  calls = far.calls ++ one.calls;
  called = called_on a.shown b.shown d.shown far.calls one.calls far.called one.called;
  puts = subst (λ u. ArePut a.levels (length a.shown) (take (k + 1) a.slots) u (far.calls ++ one.calls)) (sym one.named)
      (put_more a.levels (length a.shown) a.slots k was one.more far.calls one.calls lt far.puts (subst (λ x. IsPutSlot x (length a.shown) (slot_at a k) one.more one.calls) far.moves.levels
      (subst (λ l. IsPutSlot b.levels l (slot_at a k) one.more one.calls) far.moves.stores.lanes (subst (λ s. IsPutSlot b.levels (length b.shown) s one.more one.calls) (far.others k (omega arith)) one.puts))));
  begun = far.begun;
}

-- all slots were closed
pub shut_done : (a b : Cached) (unsaved : List Unsaved) (k : ℕ) → length a.slots ≤ k → ShutSoFar a b unsaved k → IsShut a b.shown unsaved b.tally
shut_done a b unsaved k all far = record {
  closing = far.events;
  closed = subst (λ l. AreClosed l unsaved far.events) (take_all k a.slots all) far.closed;
  last = b;
  moves = far.moves;
  shown = refl;
  counts = far.tally;
  stood = stood b far.valid;
  caused = far.caused;
  licensed = far.licensed;
  calls = far.calls;
  called = far.called;
  puts = subst (λ l. ArePut a.levels (length a.shown) l unsaved far.calls) (take_all k a.slots all) far.puts;
  valid = far.begun;
}

-- no slot has a pin where no handle is out
pub no_pin : (c : Cached) (i : ℕ) → i < length c.slots → handles_out c ≡ 0 → (slot_at c i).pins ≡ 0
no_pin c i lt none = let few = few_pins c i lt in omega (arith, few, none)

-- fewer cells are named than slots were closed
pub room_left : (a b : Cached) (unsaved : List Unsaved) (k : ℕ) → k < length a.slots → ShutSoFar a b unsaved k → length unsaved < length b.slots
room_left a b unsaved k lt far =
    let few = few_named (take k a.slots) unsaved far.events far.closed in
    let taken = length-take-le k a.slots (omega (arith, lt)) in
    let size = far.size in
    omega (arith, lt, few, taken, size)
