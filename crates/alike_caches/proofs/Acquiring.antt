-- Acquires of caches that are alike.
use Rattle.std.proofs.Common.{◌≡◌, ◌∙◌, inl, inr, ℕ, ◌<◌, true, false, cond, List, [], ◌∷◌, ◌++◌, Some, Result, append_assoc, refl, sym, ap, subst}
use Rattle.std.specs.List.{list_any}
use Rattle.std.specs.Str.{bytes_eq}
use Rattle.std.specs.declared.result.Result.TheVariants as outcome
use Rattle.cell_grid.specs.declared.level.Level.{Level}
use Rattle.cell_grid.specs.Pyramid.{cells_of, lane_of}
use Rattle.cell_store.specs.Store.{Contents}
use Rattle.cell_store.specs.declared.store.Put.{Put}
use Rattle.cell_store.specs.declared.store.Put.TheVariants as put
use Rattle.store_calls.specs.Calls.{StoreCall, AreCalled, FailAlike}
use Rattle.store_calls.proofs.Parts.{called_apart, fail_after}
use Rattle.store_calls.proofs.Dues.{same_put_answer}
use Rattle.store_calls.proofs.Holds.{HoldAlike, hold_fewer, AfterPut, same_put}
use Rattle.cell_file.specs.Asks.{AreFetch}
use Rattle.cell_file.specs.Keys.{KeyNames, edited_key}
use Rattle.cell_file.specs.declared.errors.FetchErr.{FetchErr}
use Rattle.cell_file.specs.declared.errors.AcquireErr.{AcquireErr}
use Rattle.arr_history.specs.declared.cell_state.CellState.TheVariants as cell_state
use Rattle.arr_history.specs.declared.event.Event.{Event}
use Rattle.arr_history.specs.declared.event.Event.TheVariants.{Miss, Claim, Drop, Close, Back}
use Rattle.arr_history.specs.Legal.{IsMarked}
use Rattle.sole_cache.specs.Cached.{Cached, slot_of, slot_at, state_of, state_at}
use Rattle.sole_cache.specs.Handle.{Handle}
use Rattle.sole_cache.specs.Moves.{saves, Moves, Runs}
use Rattle.sole_cache.specs.Room.{IsFull}
use Rattle.sole_cache.specs.Acquires.{lane_at, put_call, HoldsUp, Acquires, refusal_of_put}
use Rattle.alike_caches.specs.Alike.{AreAlike, IsSettled}
use Rattle.alike_caches.proofs.After.{hold_alike, alike_after, settled_before}
use Rattle.alike_caches.proofs.Asking.{FetchesAlike, fetches_alike, settled_edited, settled_base}
use Rattle.alike_caches.proofs.Courses.{Fetches, Course, Hit, Full, Fetch, HeldUp, course_of, answer_by, last_event, fetch_saves}
use Rattle.alike_caches.proofs.Looking.{hit_same, not_absent_first, not_absent_second}
use Rattle.alike_caches.proofs.Rooms.{IsSettledBut, settled_but, RoomsAlike, rooms_alike, full_too, full_no_room, full_no_victim, victim_live, put_same}
use Rattle.alike_caches.proofs.Seats.{some_same, marked_same, victim_same, not_free_first, not_free_second}

-- what two acquires have in common
pub record AcquiresSame (r s : Result Handle AcquireErr) (e f : List Event) (k l : List StoreCall) (P : ℕ → List ℕ → Type 0) (stores others : List Contents) : Type 0 where
  pub results : s ≡ r
  pub events : f ≡ e
  pub calls : l ≡ k
  pub hold : HoldAlike P stores others

-- puts of a cell that failed alike
put_answers : (c : Cached) (cell slot : ℕ) (a b : Put) (m n : List StoreCall) → FailAlike (put_call c cell slot a ∷ m) (put_call c cell slot b ∷ n) → b ≡ a
put_answers c cell slot a b m n fail = same_put_answer 0 [] [] a b fail.0 fail.1

-- a put that is done refuses nothing
done_refuses : (answer : Put) (err : AcquireErr) → refusal_of_put answer ≡ Some err → answer ≡ put.Done → ⊥
done_refuses put.Done err e f = absurd (cc)
done_refuses put.Failed err e f = absurd (cc)
done_refuses put.NoMemory err e f = absurd (cc)

-- where a put wasn't done, its key is settled no more
after_refused : (answer : Put) (err : AcquireErr) (P : ℕ → List ℕ → Type 0) (lane : ℕ) (key : List ℕ) (l : ℕ) (k : List ℕ) → refusal_of_put answer ≡ Some err → (lane ≡ l → bytes_eq key k ≡ false) → P l k → AfterPut answer P lane key l k
after_refused put.Done err P lane key l k e h p = absurd (done_refuses put.Done err e refl)
after_refused put.Failed err P lane key l k e h p = (h, p)
after_refused put.NoMemory err P lane key l k e h p = (h, p)

module _ (c d c' d' : Cached) (cell : ℕ) (a : AreAlike c d) (inside : cell < cells_of c.levels) where
  -- acquires that ask no store
  asks_none : (r s : Result Handle AcquireErr) (e f : List Event) (k l : List StoreCall) → s ≡ r → f ≡ e → k ≡ [] → l ≡ [] → ((n : ℕ) → list_any (saves n) e ≡ false) → Moves c e c' → AreCalled k c.shown c'.shown → AreCalled l d.shown d'.shown
      → AcquiresSame r s e f k l (IsSettled c') c'.shown d'.shown
  asks_none r s e f k l results events none also unsaved moves p q = record {
    results = results;
    events = events;
    calls = also ∙ sym none;
    hold = subst (λ shown. HoldAlike (IsSettled c') shown d'.shown) (sym (subst (λ x. AreCalled x c.shown c'.shown) none p))
        (subst (λ shown. HoldAlike (IsSettled c') c.shown shown) (sym (subst (λ x. AreCalled x d.shown d'.shown) also q))
        (hold_fewer (IsSettled c) (IsSettled c') c.shown d.shown (λ lane key settled. settled_before c c' e lane key moves unsaved settled) (hold_alike c d a)));
  }

  -- the fetch of the other cache, in the words of this one
  fetch_in : (r : Result (Unit {0}) FetchErr) (k : List StoreCall) → AreFetch d.levels d.keys (lane_at d cell) cell r k → AreFetch c.levels c.keys (lane_at c cell) cell r k
  fetch_in r k p =
      subst (λ (x : List Level). AreFetch x c.keys (lane_at c cell) cell r k) a.levels
      (subst (λ (x : KeyNames). AreFetch d.levels x (lane_at c cell) cell r k) a.keys
      (subst (λ x. AreFetch d.levels d.keys (lane_of cell x) cell r k) a.lanes p))

  both_fetch : (r s : Result Handle AcquireErr) (e f : List Event) (k l m n : List StoreCall) → Fetches c cell r e k → Fetches d cell s f l → Moves c e c' → AreCalled k c.shown c'.shown → AreCalled l d.shown d'.shown → FailAlike (k ++ m) (l ++ n)
      → AcquiresSame r s e f k l (IsSettled c') c'.shown d'.shown
  both_fetch r s e f k l m n p q moves asked others fail = record {
    results = q.result_is ∙ ap (λ i. answer_by cell i q.outcome) room.slot_same ∙ ap (λ x. answer_by cell p.slot x) got.result ∙ sym p.result_is;
    events = q.events_are ∙ ap (λ t. Miss 0 cell ∷ Claim 0 cell ∷ (t ++ last_event cell q.slot q.outcome ∷ [])) room.turn_same
        ∙ ap (λ i. Miss 0 cell ∷ Claim 0 cell ∷ (p.turn ++ last_event cell i q.outcome ∷ [])) room.slot_same
        ∙ ap (λ x. Miss 0 cell ∷ Claim 0 cell ∷ (p.turn ++ last_event cell p.slot x ∷ [])) got.result ∙ sym p.events_are;
    calls = q.calls_are ∙ ap (λ x. x ++ q.gets) room.puts_same ∙ ap (λ x. p.puts ++ x) got.calls ∙ sym p.calls_are;
    hold = hold_fewer (IsSettledBut c p.turn) (IsSettled c') c'.shown d'.shown but got.hold;
  }
    where
      room : RoomsAlike c p.slot q.slot p.turn q.turn p.puts q.puts
      room = rooms_alike c d a p.slot q.slot p.turn q.turn p.puts q.puts p.room q.room

      first : (mid : List Contents) × AreCalled p.puts c.shown mid × AreCalled p.gets mid c'.shown
      first = called_apart p.puts p.gets c.shown c'.shown (subst (λ x. AreCalled x c.shown c'.shown) p.calls_are asked)

      second : (mid : List Contents) × AreCalled q.puts d.shown mid × AreCalled q.gets mid d'.shown
      second = called_apart q.puts q.gets d.shown d'.shown (subst (λ x. AreCalled x d.shown d'.shown) q.calls_are others)

      mids : HoldAlike (IsSettledBut c p.turn) first.0 second.0
      mids = room.hold c.shown d.shown first.0 second.0 (hold_alike c d a) first.1 second.1

      split : FailAlike (p.puts ++ (p.gets ++ m)) (p.puts ++ (q.gets ++ n))
      split = subst (λ x. FailAlike x (p.puts ++ (q.gets ++ n))) (append_assoc p.puts p.gets m)
          (subst (λ y. FailAlike ((p.puts ++ p.gets) ++ m) y) (append_assoc p.puts q.gets n)
          (subst (λ x. FailAlike ((p.puts ++ p.gets) ++ m) ((x ++ q.gets) ++ n)) room.puts_same
          (subst (λ x. FailAlike (x ++ m) ((q.puts ++ q.gets) ++ n)) p.calls_are (subst (λ y. FailAlike (k ++ m) (y ++ n)) q.calls_are fail))))

      got : FetchesAlike (IsSettledBut c p.turn) p.outcome q.outcome p.gets q.gets c'.shown d'.shown
      got = fetches_alike (IsSettledBut c p.turn) c.levels c.keys (lane_at c cell) cell
          (λ i below there marked _. settled_edited c d a cell (lane_at c cell) inside p.absent i below there marked)
          (λ i below there marked _. settled_base c d a cell (lane_at c cell) inside p.absent i below there marked)
          first.0 second.0 c'.shown d'.shown p.outcome q.outcome p.gets q.gets m n mids p.fetched (fetch_in q.outcome q.gets q.fetched) first.2 second.2 (fail_after p.puts (p.gets ++ m) (q.gets ++ n) split)

      but : (lane : ℕ) (key : List ℕ) → IsSettled c' lane key → IsSettledBut c p.turn lane key
      but lane key settled i below there marked none = settled_but c c' e lane key moves settled i below there marked (subst (λ x. list_any (saves i) x ≡ false) (sym p.events_are) (fetch_saves i cell p.slot p.turn p.outcome none))

  both_held : (v w : AcquireErr) (e f : List Event) (k l m n : List StoreCall) → HoldsUp c cell v e k → HoldsUp d cell w f l → Moves c e c' → AreCalled k c.shown c'.shown → AreCalled l d.shown d'.shown → FailAlike (k ++ m) (l ++ n)
      → AcquiresSame (outcome.Err v) (outcome.Err w) e f k l (IsSettled c') c'.shown d'.shown
  both_held v w e f k l m n p q moves asked others fail = record {
    results = ap outcome.Err (some_same w v (sym q.err_is ∙ ap refusal_of_put answer ∙ p.err_is));
    events = q.events_are ∙ ap (λ x. Miss 0 cell ∷ Claim 0 cell ∷ Close 0 x ∷ Back 0 x ∷ Drop 0 cell ∷ []) same.1 ∙ sym p.events_are;
    calls = q.calls_are ∙ ap (λ x. x ∷ []) call ∙ sym p.calls_are;
    hold = hold_fewer (AfterPut p.answer (IsSettled c) (lane_at c p.due) (edited_key c.levels p.due)) (IsSettled c') c'.shown d'.shown fewer put_both;
  }
    where
      same : (q.slot ≡ p.slot) × (q.due ≡ p.due)
      same = victim_same c d a p.slot p.due q.slot q.due p.victim q.victim

      live : slot_of c p.due ≡ Some p.slot
      live = victim_live c p.slot p.due a.first p.victim

      there : put_call d q.due q.slot q.answer ≡ put_call c p.due p.slot q.answer
      there = ap (λ x. put_call d x q.slot q.answer) same.1 ∙ ap (λ x. put_call d p.due x q.answer) same.0 ∙ put_same c d a p.slot p.due q.answer live

      heads : FailAlike (put_call c p.due p.slot p.answer ∷ m) (put_call c p.due p.slot q.answer ∷ n)
      heads = subst (λ x. FailAlike (put_call c p.due p.slot p.answer ∷ m) (x ∷ n)) there (subst (λ x. FailAlike (x ++ m) (put_call d q.due q.slot q.answer ∷ n)) p.calls_are (subst (λ y. FailAlike (k ++ m) (y ++ n)) q.calls_are fail))

      answer : q.answer ≡ p.answer
      answer = put_answers c p.due p.slot p.answer q.answer m n heads

      call : put_call d q.due q.slot q.answer ≡ put_call c p.due p.slot p.answer
      call = there ∙ ap (put_call c p.due p.slot) answer

      first : AreCalled (put_call c p.due p.slot p.answer ∷ []) c.shown c'.shown
      first = subst (λ x. AreCalled x c.shown c'.shown) p.calls_are asked

      second : AreCalled (put_call c p.due p.slot p.answer ∷ []) d.shown d'.shown
      second = subst (λ x. AreCalled (x ∷ []) d.shown d'.shown) call (subst (λ x. AreCalled x d.shown d'.shown) q.calls_are others)

      put_both : HoldAlike (AfterPut p.answer (IsSettled c) (lane_at c p.due) (edited_key c.levels p.due)) c'.shown d'.shown
      put_both = subst (λ s. HoldAlike (AfterPut p.answer (IsSettled c) (lane_at c p.due) (edited_key c.levels p.due)) s d'.shown) (sym first.2)
          (subst (λ o. HoldAlike (AfterPut p.answer (IsSettled c) (lane_at c p.due) (edited_key c.levels p.due)) first.0 o) (sym second.2)
          (same_put (IsSettled c) c.shown d.shown first.0 second.0 _ _ _ p.answer (hold_alike c d a) first.1 second.1))

      unsaved : (i : ℕ) → list_any (saves i) e ≡ false
      unsaved i = rw p.events_are refl

      marked : IsMarked ((state_of c).cells p.due)
      marked = subst (λ o. IsMarked (state_at c.slots o)) (sym live) (subst (λ b. IsMarked (cell_state.Live p.slot b)) (sym p.marked) tt)

      range : p.due < cells_of c.levels
      range = subst (λ x. p.due < x) a.first.fitted.cells (a.first.seated.in_table p.slot p.due p.victim.2).0

      fewer : (lane : ℕ) (key : List ℕ) → IsSettled c' lane key → AfterPut p.answer (IsSettled c) (lane_at c p.due) (edited_key c.levels p.due) lane key
      fewer lane key settled = let before = settled_before c c' e lane key moves unsaved settled in after_refused p.answer v (IsSettled c) (lane_at c p.due) (edited_key c.levels p.due) lane key p.err_is (λ t. before p.due range t marked) before

  -- a cell that is due is put in one cache, and can't be put in the other
  fetch_not_held : (r : Result Handle AcquireErr) (w : AcquireErr) (e f : List Event) (k l m n : List StoreCall) → Fetches c cell r e k → HoldsUp d cell w f l → FailAlike (k ++ m) (l ++ n) → ⊥
  fetch_not_held r w e f k l m n p q fail = elim p.room [
    | inl free ↦ not_free_second c d a p.slot free.0 q.victim.0
    | inr out ↦
        let same = victim_same c d a p.slot out.0 q.slot q.due out.1 q.victim in
        let live = victim_live c p.slot out.0 a.first out.1 in
        let marked : (slot_at c p.slot).marked ≡ true = sym (marked_same c d a out.0 p.slot live) ∙ ap (λ i. (slot_at d i).marked) (sym same.0) ∙ q.marked in
        let puts : p.puts ≡ put_call c out.0 p.slot put.Done ∷ [] = out.3 ∙ ap (λ b. cond b (put_call c out.0 p.slot put.Done ∷ []) []) marked in
        let heads : FailAlike (put_call c out.0 p.slot put.Done ∷ (p.gets ++ m)) (put_call d q.due q.slot q.answer ∷ n) =
        subst (λ x. FailAlike ((x ++ p.gets) ++ m) (put_call d q.due q.slot q.answer ∷ n)) puts (subst (λ x. FailAlike (x ++ m) (put_call d q.due q.slot q.answer ∷ n)) p.calls_are (subst (λ y. FailAlike (k ++ m) (y ++ n)) q.calls_are fail)) in
        done_refuses q.answer w q.err_is (same_put_answer 0 [] [] put.Done q.answer heads.0 heads.1)
  ]

  held_not_fetch : (v : AcquireErr) (s : Result Handle AcquireErr) (e f : List Event) (k l m n : List StoreCall) → HoldsUp c cell v e k → Fetches d cell s f l → FailAlike (k ++ m) (l ++ n) → ⊥
  held_not_fetch v s e f k l m n p q fail = elim q.room [
    | inl free ↦ not_free_first c d a q.slot p.victim.0 free.0
    | inr out ↦
        let same = victim_same c d a p.slot p.due q.slot out.0 p.victim out.1 in
        let live = victim_live c p.slot p.due a.first p.victim in
        let marked : (slot_at d q.slot).marked ≡ true = ap (λ i. (slot_at d i).marked) same.0 ∙ marked_same c d a p.due p.slot live ∙ p.marked in
        let puts : q.puts ≡ put_call d out.0 q.slot put.Done ∷ [] = out.3 ∙ ap (λ b. cond b (put_call d out.0 q.slot put.Done ∷ []) []) marked in
        let heads : FailAlike (put_call c p.due p.slot p.answer ∷ m) (put_call d out.0 q.slot put.Done ∷ (q.gets ++ n)) =
        subst (λ y. FailAlike (put_call c p.due p.slot p.answer ∷ m) ((y ++ q.gets) ++ n)) puts (subst (λ y. FailAlike (put_call c p.due p.slot p.answer ∷ m) (y ++ n)) q.calls_are (subst (λ x. FailAlike (x ++ m) (l ++ n)) p.calls_are fail)) in
        done_refuses p.answer v p.err_is (sym (same_put_answer 0 [] [] p.answer put.Done heads.0 heads.1))
  ]

  full_back : IsFull d → IsFull c
  full_back full i lt = subst (λ n. 0 < n) (Rattle.alike_caches.proofs.Seats.all_pins_same c d a i) (full i (subst (λ n. i < n) (sym a.slots) lt))

  -- the courses are the same
  courses_same : (r s : Result Handle AcquireErr) (e f : List Event) (k l m n : List StoreCall) → Course c cell r e k → Course d cell s f l → Moves c e c' → AreCalled k c.shown c'.shown → AreCalled l d.shown d'.shown → FailAlike (k ++ m) (l ++ n)
      → AcquiresSame r s e f k l (IsSettled c') c'.shown d'.shown
  courses_same r s e f k l m n (Hit g is there hit none) (Hit h also here too nothing) moves asked others fail =
      let same = hit_same c d cell g h e f a there here hit too in
      asks_none r s e f k l (also ∙ ap outcome.Ok same.0 ∙ sym is) same.1 none nothing (λ i. subst (λ x. list_any (saves i) x ≡ false) (sym hit.events_are) refl) moves asked others
  courses_same r s e f k l m n (Hit g is there hit none) (Full also absent full events nothing) moves asked others fail = absurd (not_absent_second c d cell g.slot a hit.live absent)
  courses_same r s e f k l m n (Hit g is there hit none) (Fetch q) moves asked others fail = absurd (not_absent_second c d cell g.slot a hit.live q.absent)
  courses_same r s e f k l m n (Hit g is there hit none) (HeldUp w also q) moves asked others fail = absurd (not_absent_second c d cell g.slot a hit.live q.absent)
  courses_same r s e f k l m n (Full is absent full events none) (Hit h also here too nothing) moves asked others fail = absurd (not_absent_first c d cell h.slot a absent too.live)
  courses_same r s e f k l m n (Full is absent full events none) (Full also gone packed too nothing) moves asked others fail =
      asks_none r s e f k l (also ∙ sym is) (too ∙ sym events) none nothing (λ i. subst (λ x. list_any (saves i) x ≡ false) (sym events) refl) moves asked others
  courses_same r s e f k l m n (Full is absent full events none) (Fetch q) moves asked others fail = absurd (full_no_room d q.slot q.turn q.puts a.second (full_too c d a full) q.room)
  courses_same r s e f k l m n (Full is absent full events none) (HeldUp w also q) moves asked others fail = absurd (full_no_victim d q.slot q.due a.second (full_too c d a full) q.victim)
  courses_same r s e f k l m n (Fetch p) (Hit h also here too nothing) moves asked others fail = absurd (not_absent_first c d cell h.slot a p.absent too.live)
  courses_same r s e f k l m n (Fetch p) (Full also gone packed too nothing) moves asked others fail = absurd (full_no_room c p.slot p.turn p.puts a.first (full_back packed) p.room)
  courses_same r s e f k l m n (Fetch p) (Fetch q) moves asked others fail = both_fetch r s e f k l m n p q moves asked others fail
  courses_same r s e f k l m n (Fetch p) (HeldUp w also q) moves asked others fail = absurd (fetch_not_held r w e f k l m n p q fail)
  courses_same r s e f k l m n (HeldUp v is p) (Hit h also here too nothing) moves asked others fail = absurd (not_absent_first c d cell h.slot a p.absent too.live)
  courses_same r s e f k l m n (HeldUp v is p) (Full also gone packed too nothing) moves asked others fail = absurd (full_no_victim c p.slot p.due a.first (full_back packed) p.victim)
  courses_same r s e f k l m n (HeldUp v is p) (Fetch q) moves asked others fail = absurd (held_not_fetch v s e f k l m n p q fail)
  courses_same r s e f k l m n (HeldUp v is p) (HeldUp w also q) moves asked others fail =
      subst (λ x. AcquiresSame x s e f k l (IsSettled c') c'.shown d'.shown) (sym is) (subst (λ x. AcquiresSame (outcome.Err v) x e f k l (IsSettled c') c'.shown d'.shown) (sym also) (both_held v w e f k l m n p q moves asked others fail))

-- Acquires of a cell give the same answer, by the same events and calls.
pub acquires_alike : (c d c' d' : Cached) (cell : ℕ) (r s : Result Handle AcquireErr) (e f : List Event) (k l m n : List StoreCall)
    → AreAlike c d → cell < cells_of c.levels → Acquires c cell r e k c' → Acquires d cell s f l d' → FailAlike (k ++ m) (l ++ n)
    → (s ≡ r) × (f ≡ e) × AreAlike c' d' × FailAlike m n
acquires_alike c d c' d' cell r s e f k l m n a inside p q fail =
    let same = courses_same c d c' d' cell a inside r s e f k l m n (course_of c cell r e k p.is) (course_of d cell s f l q.is) p.runs.moves p.called q.called fail in (
      same.results,
      same.events,
      alike_after c d c' d' e a p.runs (subst (λ x. Runs d x d') same.events q.runs) p.valid q.valid same.hold,
      fail_after k m n (subst (λ x. FailAlike (k ++ m) (x ++ n)) same.calls fail),
    )
