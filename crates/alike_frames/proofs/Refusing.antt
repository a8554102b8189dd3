-- The events of a refused acquire are one thing.
use Rattle.std.proofs.Common.{◌≡◌, ◌∙◌, ◌⊎◌, inl, inr, ℕ, suc, ◌==◌, Bool, true, false, cond, List, [], ◌∷◌, ◌++◌, Some, Result, refl, sym, ap, subst, subst₂, append-nil, true≢false, arith}
use Rattle.std.proofs.lemmas.Bool.Decides.{nat_tests}
use Rattle.std.specs.declared.result.Result.TheVariants.{Ok, Err}
use Rattle.cell_file.specs.declared.errors.AcquireErr.{AcquireErr}
use Rattle.cell_file.specs.declared.errors.AcquireErr.TheVariants as refusal
use Rattle.store_calls.specs.Calls.{StoreCall}
use Rattle.arr_history.specs.declared.cell_state.CellState.{CellState}
use Rattle.arr_history.specs.declared.cell_state.CellState.TheVariants as state
use Rattle.arr_history.specs.declared.event.Event.{Event}
use Rattle.arr_history.specs.declared.event.Event.TheVariants.{Miss, Claim, Drop, Close, Gone, Back, Live}
use Rattle.arr_history.specs.State.{State}
use Rattle.arr_history.specs.Shape.{Shape}
use Rattle.arr_history.specs.Next.{leaving, returned}
use Rattle.arr_history.specs.Legal.{IsLive, IsLeaving}
use Rattle.arr_history.specs.History.{after, AreLegal}
use Rattle.sole_cache.specs.Cached.{Cached, slot_at, state_of, shape_of}
use Rattle.sole_cache.specs.Handle.{Handle}
use Rattle.sole_cache.specs.Moves.{Runs}
use Rattle.sole_cache.specs.Room.{IsLowestFree, IsVictim}
use Rattle.sole_cache.specs.Pieces.{IsHit}
use Rattle.sole_cache.specs.Acquires.{MakesRoom, Loads, Drops, HoldsUp, IsAcquire, Acquires}
use Rattle.call_events.specs.Pieces.{misses, IsTurnOut, IsDropped, IsHeldUp, IsRefused}
use Rattle.sole_eyes.specs.Steps.{FollowsStep}
use Rattle.alike_frames.proofs.Parts.{IsEnded, has_live}
use Rattle.alike_frames.proofs.Peeling.{begins_loading, nothing_left}

one_victim : (c : Cached) (slot slot' v v' : ℕ) → IsVictim c slot v → IsVictim c slot' v' → (slot' ≡ slot) × (v' ≡ v)
one_victim c slot slot' v v' h g =
    let same : slot' ≡ slot = cc (h.1, g.1) in
    let cell : Some v' ≡ Some v = sym g.2 ∙ ap (λ i. (slot_at c i).cell) same ∙ h.2 in
    (same, cc cell)

not_free_victim : (c : Cached) (slot slot' v : ℕ) → IsLowestFree c.slots (Some slot) → IsVictim c slot' v → ⊥
not_free_victim c slot slot' v free victim = victim.0 slot free.0 free.1

-- room is made in one way
one_turn : (c : Cached) (slot slot' : ℕ) (turn turn' : List Event) (k l : List StoreCall) → MakesRoom c slot turn k → MakesRoom c slot' turn' l → turn' ≡ turn
one_turn c slot slot' turn turn' k l (inl h) (inl g) = g.1 ∙ sym h.1
one_turn c slot slot' turn turn' k l (inl h) (inr g) = absurd (not_free_victim c slot slot' g.0 h.0 g.1)
one_turn c slot slot' turn turn' k l (inr h) (inl g) = absurd (not_free_victim c slot' slot h.0 g.0 h.1)
one_turn c slot slot' turn turn' k l (inr h) (inr g) =
    let same = one_victim c slot slot' h.0 g.0 h.1 g.1 in
    g.2 ∙ ap (λ v. Close 0 v ∷ Gone 0 v (slot_at c slot').marked ∷ []) same.1 ∙ ap (λ i. Close 0 h.0 ∷ Gone 0 h.0 (slot_at c i).marked ∷ []) same.0 ∙ sym h.2

same_number : (n : ℕ) → (n == n) ≡ true
same_number n = grind (arith, nat_tests)

abbrev is_live_state : CellState → Bool
is_live_state (state.Live slot mark) = true
is_live_state other = false

-- the cell that left is absent
gone_absent : (s : State) (n v : ℕ) (saved : Bool) → is_live_state ((after s (Miss 0 n ∷ Claim 0 n ∷ Close 0 v ∷ Gone 0 v saved ∷ Drop 0 n ∷ [])).cells v) ≡ false
gone_absent s n v saved = go (n == v) (v == v) (same_number v)
  where
    go : (t u : Bool) → u ≡ true → is_live_state (cond t state.Absent (cond u state.Absent (cond u (leaving 0 (cond t (state.Loading 0) (s.cells v))) (cond t (state.Loading 0) (s.cells v))))) ≡ false
    go true u h = refl
    go false true h = refl
    go false false h = absurd (true≢false (sym h))

-- the one that came back is live
back_live : (b : Shape) (s : State) (n v : ℕ) → AreLegal b s (Miss 0 n ∷ Claim 0 n ∷ Close 0 v ∷ Back 0 v ∷ Drop 0 n ∷ []) → is_live_state ((after s (Miss 0 n ∷ Claim 0 n ∷ Close 0 v ∷ Back 0 v ∷ Drop 0 n ∷ [])).cells v) ≡ true
back_live b s n v legal = go (n == v) (v == v) (same_number v) legal.1.1.0.1 legal.1.1.1.0.1
  where
    go : (t u : Bool) → u ≡ true → IsLive (cond t (state.Loading 0) (s.cells v)) → IsLeaving 0 true (cond u (leaving 0 (cond t (state.Loading 0) (s.cells v))) (cond t (state.Loading 0) (s.cells v)))
        → is_live_state (cond t state.Absent (cond u (returned (cond u (leaving 0 (cond t (state.Loading 0) (s.cells v))) (cond t (state.Loading 0) (s.cells v)))) (cond u (leaving 0 (cond t (state.Loading 0) (s.cells v))) (cond t (state.Loading 0) (s.cells v))))) ≡ true
    go true u h live left = absurd live
    go false false h live left = absurd (true≢false (sym h))
    go false true h live left = came (s.cells v) live
      where
        came : (x : CellState) → IsLive x → is_live_state (returned (leaving 0 x)) ≡ true
        came (state.Live slot mark) live = refl
        came _ live = absurd live

-- not both: the one that was due left, and came back
not_gone_back : (c d : Cached) (n : ℕ) (err cause : AcquireErr) (e f : List Event) (k l : List StoreCall) → Drops c n err e k → HoldsUp c n cause f l → Runs c e d → Runs c f d → ⊥
not_gone_back c d n err cause e f k l drop held went came = go drop.room drop.events_are
  where
    live : is_live_state ((state_of d).cells held.due) ≡ true
    live =
        let runs : Runs c (Miss 0 n ∷ Claim 0 n ∷ Close 0 held.due ∷ Back 0 held.due ∷ Drop 0 n ∷ []) d = subst (λ (es : List Event). Runs c es d) held.events_are came in
        sym (ap is_live_state (runs.moves.led.reached.cells held.due)) ∙ back_live (shape_of c) (state_of c) n held.due runs.moves.led.legal

    go : MakesRoom c drop.slot drop.turn drop.puts → e ≡ Miss 0 n ∷ Claim 0 n ∷ (drop.turn ++ Drop 0 n ∷ []) → ⊥
    go (inl free) is = not_free_victim c drop.slot held.slot held.due free.0 held.victim
    go (inr out) is =
        let v = (one_victim c held.slot drop.slot held.due out.0 held.victim out.1).1 in
        let events : e ≡ Miss 0 n ∷ Claim 0 n ∷ Close 0 held.due ∷ Gone 0 held.due (slot_at c drop.slot).marked ∷ Drop 0 n ∷ [] =
        is ∙ ap (λ (t : List Event). Miss 0 n ∷ Claim 0 n ∷ (t ++ Drop 0 n ∷ [])) out.2 ∙ ap (λ i. Miss 0 n ∷ Claim 0 n ∷ Close 0 i ∷ Gone 0 i (slot_at c drop.slot).marked ∷ Drop 0 n ∷ []) v in
        let runs : Runs c (Miss 0 n ∷ Claim 0 n ∷ Close 0 held.due ∷ Gone 0 held.due (slot_at c drop.slot).marked ∷ Drop 0 n ∷ []) d = subst (λ (es : List Event). Runs c es d) events went in
        let absent : is_live_state ((state_of d).cells held.due) ≡ false =
        sym (ap is_live_state (runs.moves.led.reached.cells held.due)) ∙ gone_absent (state_of c) n held.due (slot_at c drop.slot).marked in
        true≢false (sym live ∙ absent)

-- two ways from one cache to another by a refused acquire have the same events
one_way : (c d : Cached) (n : ℕ) (err cause : AcquireErr) (e f : List Event) (k l : List StoreCall) → Drops c n err e k ⊎ HoldsUp c n err e k → Drops c n cause f l ⊎ HoldsUp c n cause f l → Runs c e d → Runs c f d → f ≡ e
one_way c d n err cause e f k l (inl h) (inl g) went came =
    g.events_are ∙ ap (λ (t : List Event). Miss 0 n ∷ Claim 0 n ∷ (t ++ Drop 0 n ∷ [])) (one_turn c h.slot g.slot h.turn g.turn h.puts g.puts h.room g.room) ∙ sym h.events_are
one_way c d n err cause e f k l (inr h) (inr g) went came =
    g.events_are ∙ ap (λ v. Miss 0 n ∷ Claim 0 n ∷ Close 0 v ∷ Back 0 v ∷ Drop 0 n ∷ []) (one_victim c h.slot g.slot h.due g.due h.victim g.victim).1 ∙ sym h.events_are
one_way c d n err cause e f k l (inl h) (inr g) went came = absurd (not_gone_back c d n err cause e f k l h g went came)
one_way c d n err cause e f k l (inr h) (inl g) went came = absurd (not_gone_back c d n cause err f e l k g h came went)

-- the events of a refusal that goes on from a miss
abbrev IsTried : ℕ → List Event → Type 0
IsTried n piece = (part : List Event) × IsEnded part × (has_live part ≡ false) × (piece ≡ Miss 0 n ∷ Claim 0 n ∷ part)

dropped_tried : (n : ℕ) (piece : List Event) → IsDropped true 0 n piece → IsTried n piece
dropped_tried n piece d = go d.3
  where
    is : piece ≡ Miss 0 n ∷ Claim 0 n ∷ (d.2 ++ Drop 0 n ∷ [])
    is = d.4 ∙ ap (λ m. misses 0 n (suc m) ++ (Claim 0 n ∷ (d.2 ++ Drop 0 n ∷ []))) (d.1 refl)

    go : IsTurnOut 0 d.2 → IsTried n piece
    go (inl none) = (Drop 0 n ∷ [], refl, refl, is ∙ ap (λ (t : List Event). Miss 0 n ∷ Claim 0 n ∷ (t ++ Drop 0 n ∷ [])) none)
    go (inr (v, saved, out)) = (Close 0 v ∷ Gone 0 v saved ∷ Drop 0 n ∷ [], refl, refl, is ∙ ap (λ (t : List Event). Miss 0 n ∷ Claim 0 n ∷ (t ++ Drop 0 n ∷ [])) out)

held_tried : (n : ℕ) (piece : List Event) → IsHeldUp true 0 n piece → IsTried n piece
held_tried n piece h = (Close 0 h.2 ∷ Back 0 h.2 ∷ Drop 0 n ∷ [], refl, refl, h.3 ∙ ap (λ m. misses 0 n (suc m) ++ (Claim 0 n ∷ Close 0 h.2 ∷ Back 0 h.2 ∷ Drop 0 n ∷ [])) (h.1 refl))

-- where they lead, a cell was dropped or held up
tried_way : (c d : Cached) (n : ℕ) (piece : List Event) (k : List StoreCall) → IsTried n piece → FollowsStep c piece k d → (err : AcquireErr) × (asked : List StoreCall) × (Drops c n err piece asked ⊎ HoldsUp c n err piece asked) × Runs c piece d
tried_way c d n piece k (part, ended, no_live, is) follows =
    let b = begins_loading c n part [] k d ended (subst (λ (es : List Event). FollowsStep c es k d) (is ∙ ap (λ (t : List Event). Miss 0 n ∷ Claim 0 n ∷ t) (sym (append-nil part))) follows) in
    let here = nothing_left b.mid b.more d b.follows in
    let runs : Runs c piece d = subst₂ (Runs c) (sym is) (sym here.0) b.acquires.runs in
    go b.result b.asked b.acquires.is runs
  where
    whole : List Event
    whole = Miss 0 n ∷ Claim 0 n ∷ part

    lives : (h : Handle) (turn : List Event) (slot : ℕ) (puts : List StoreCall) → MakesRoom c slot turn puts → has_live (turn ++ Live 0 n h.slot ∷ []) ≡ true
    lives h turn slot puts (inl free) = ap (λ (t : List Event). has_live (t ++ Live 0 n h.slot ∷ [])) free.1
    lives h turn slot puts (inr out) = ap (λ (t : List Event). has_live (t ++ Live 0 n h.slot ∷ [])) out.2

    not_got : (h : Handle) (asked : List StoreCall) → (IsHit c n h whole × (asked ≡ [])) ⊎ Loads c n h whole asked → ⊥
    not_got h asked (inl hit) = cc hit.0.events_are
    not_got h asked (inr load) = true≢false (sym (lives h load.turn h.slot load.puts load.room) ∙ sym (ap has_live load.events_are) ∙ no_live)

    go : (r : Result Handle AcquireErr) (asked : List StoreCall) → IsAcquire c n r whole asked → Runs c piece d → (err : AcquireErr) × (asked : List StoreCall) × (Drops c n err piece asked ⊎ HoldsUp c n err piece asked) × Runs c piece d
    go (Ok h) asked is_so runs = absurd (not_got h asked is_so.1)
    go (Err refusal.Full) asked is_so runs = absurd (cc is_so.2)
    go (Err err) asked is_so runs = (err, asked, subst (λ (es : List Event). Drops c n err es asked ⊎ HoldsUp c n err es asked) (sym is) is_so, runs)

-- a refusal that goes on from a miss
tried_of : (n : ℕ) (err : AcquireErr) (piece : List Event) → (err ≡ refusal.Full → ⊥) → IsRefused true 0 n err piece → IsTried n piece
tried_of n refusal.ReadFault piece other r = dropped_tried n piece r
tried_of n refusal.WriteFault piece other r = held_tried n piece r
tried_of n (refusal.Malformed edited err) piece other r = dropped_tried n piece r
tried_of n (refusal.TooLong edited len limit) piece other r = dropped_tried n piece r
tried_of n refusal.Full piece other r = absurd (other refl)
tried_of n refusal.Memory piece other (inl r) = dropped_tried n piece r
tried_of n refusal.Memory piece other (inr r) = held_tried n piece r

-- The events of a refused look are those of the acquire that was refused, where both lead from one cache to another.
pub one_piece : (c d : Cached) (n : ℕ) (err : AcquireErr) (piece events : List Event) (k l : List StoreCall) → IsRefused true 0 n err piece → FollowsStep c piece k d → Acquires c n (Err err) events l d → events ≡ piece
one_piece c d n refusal.Full piece events k l r follows a = a.is.2 ∙ sym r
one_piece c d n err piece events k l r follows a =
    let way = tried_way c d n piece k (tried_of n err piece (λ e. cc e) r) follows in
    one_way c d n way.0 err piece events way.1 l way.2 a.is way.3 a.runs
