-- Looks from two caches that are alike.
use Rattle.std.proofs.Common.{◌≡◌, ◌∙◌, inl, inr, ℕ, suc, ◌<◌, Bool, true, false, cond, List, [], ◌∷◌, ◌++◌, None, refl, sym, ap, subst, subst₂, append_assoc, true≢false}
use Rattle.std.specs.Bool.{MatchBool}
use Rattle.std.specs.declared.result.Result.TheVariants.{Err}
use Rattle.cell_grid.specs.declared.level.Level.{Level}
use Rattle.cell_grid.specs.Pyramid.{cells_of}
use Rattle.cell_file.specs.declared.errors.AcquireErr.{AcquireErr}
use Rattle.cell_file.specs.declared.errors.AcquireErr.TheVariants as refusal
use Rattle.store_calls.specs.Calls.{StoreCall, FailAlike}
use Rattle.arr_history.specs.declared.event.Event.{Event}
use Rattle.arr_history.specs.declared.event.Event.TheVariants.{Pin, Miss, Claim, Drop, Live}
use Rattle.sole_cache.specs.Cached.{Cached, slot_of}
use Rattle.sole_cache.specs.Acquires.{MakesRoom, IsAcquire, Acquires}
use Rattle.volatile_cell.specs.Asked.{Asked}
use Rattle.volatile_cell.specs.Budget.{Allowance, loads_by, spent}
use Rattle.call_events.specs.Pieces.{misses, IsTurnOut, IsGranted}
use Rattle.volatile_cell.specs.Looks.{IsReadyLook}
use Rattle.sole_eyes.specs.Steps.{FollowsStep}
use Rattle.alike_frames.proofs.Parts.{IsEnded, has_live, is_calm}
use Rattle.alike_frames.proofs.Peeling.{begins_small, begins_missing, begins_loading, nothing_left}
use Rattle.alike_frames.proofs.Tandem.{AlikeLaws, Ends, Tandem, Onward, live_absent, absent_live, refused_absent, both_pin, both_load}
use Rattle.sole_eyes.specs.SoleEyes.{sole}

-- the events that give a handle
abbrev pub Gets : ℕ → Bool → List Event → Type 0
Gets cell false piece = piece ≡ Pin 0 cell ∷ []
Gets cell true piece = (part : List Event) × IsEnded part × (has_live part ≡ true) × (piece ≡ Miss 0 cell ∷ Claim 0 cell ∷ part)

load_ended : (cell slot : ℕ) (turn : List Event) → IsTurnOut 0 turn → IsEnded (turn ++ Live 0 cell slot ∷ []) × (has_live (turn ++ Live 0 cell slot ∷ []) ≡ true)
load_ended cell slot turn (inl none) = subst (λ (t : List Event). IsEnded (t ++ Live 0 cell slot ∷ []) × (has_live (t ++ Live 0 cell slot ∷ []) ≡ true)) (sym none) (refl, refl)
load_ended cell slot turn (inr out) = subst (λ (t : List Event). IsEnded (t ++ Live 0 cell slot ∷ []) × (has_live (t ++ Live 0 cell slot ∷ []) ≡ true)) (sym out.2) (refl, refl)

pub gets_of : (cell : ℕ) (loaded : Bool) (piece : List Event) → IsGranted true 0 cell loaded piece → Gets cell loaded piece
gets_of cell false piece g = g.2 ∙ ap (λ n. misses 0 cell n ++ Pin 0 cell ∷ []) (g.1 refl)
gets_of cell true piece g =
    let ended = load_ended cell g.2 g.3 g.4 in
    (g.3 ++ Live 0 cell g.2 ∷ [], ended.0, ended.1, g.5 ∙ ap (λ n. misses 0 cell (suc n) ++ (Claim 0 cell ∷ (g.3 ++ Live 0 cell g.2 ∷ []))) (g.1 refl))

-- a look that gave a handle
pub record IsReady (cell : ℕ) (b : Allowance) (loaded : Bool) (left : Allowance) (piece : List Event) : Type 0 where
  pub gets : Gets cell loaded piece
  pub left_is : left ≡ cond (loads_by b.strategy b.left) (spent b loaded) b
  pub unloaded : loads_by b.strategy b.left ≡ false → loaded ≡ false

pub ready_of : {viewer : ℕ} {levels : List Level} (cell : ℕ) (b : Allowance) (loaded : Bool) (left : Allowance) (piece : List Event) (calls : List Asked) → IsReadyLook (sole viewer levels) cell b loaded left piece calls → IsReady cell b loaded left piece
ready_of cell b loaded left piece calls look =
    let parts = go (loads_by b.strategy b.left) look.pinned in
    record { gets = parts.0; left_is = parts.1; unloaded = parts.2 }
  where
    go : (t : Bool) → MatchBool t (IsGranted true 0 cell loaded piece × (left ≡ spent b loaded)) ((loaded ≡ false) × (piece ≡ Pin 0 cell ∷ []) × (left ≡ b))
        → Gets cell loaded piece × (left ≡ cond t (spent b loaded) b) × (t ≡ false → loaded ≡ false)
    go true h = (gets_of cell loaded piece h.0, h.1, λ t. absurd (true≢false t))
    go false h = (subst (λ v. Gets cell v piece) (sym h.0) h.1, h.2, λ _. h.0)

-- a refused acquire loaded nothing
pub refused_no_live : (c : Cached) (cell : ℕ) (err : AcquireErr) (events : List Event) (calls : List StoreCall) → IsAcquire c cell (Err err) events calls → has_live events ≡ false
refused_no_live c cell refusal.Full events calls is = ap has_live is.2
refused_no_live c cell err events calls (inl drop) = ap has_live drop.events_are ∙ go drop.room
  where
    go : MakesRoom c drop.slot drop.turn drop.puts → has_live (drop.turn ++ Drop 0 cell ∷ []) ≡ false
    go (inl free) = ap (λ (t : List Event). has_live (t ++ Drop 0 cell ∷ [])) free.1
    go (inr out) = ap (λ (t : List Event). has_live (t ++ Drop 0 cell ∷ [])) out.2
refused_no_live c cell err events calls (inr held) = ap has_live held.events_are

-- a cell of a cache is refused, with the first of these calls
pub record Refuses (c : Cached) (cell : ℕ) (left : List StoreCall) : Type 0 where
  pub err : AcquireErr
  pub events : List Event
  pub asked : List StoreCall
  pub more : List StoreCall
  pub after : Cached
  pub acquires : Acquires c cell (Err err) events asked after
  pub calls_are : left ≡ asked ++ more

module _ (laws : AlikeLaws) (z : Ends) where
  -- both get a cell
  pub both_get : (c d : Cached) (cell : ℕ) (loaded told : Bool) (p q e f : List Event) → cell < cells_of z.levels → Gets cell loaded p → Gets cell told q → Tandem z c d (p ++ e) (q ++ f)
      → (told ≡ loaded) × (q ≡ p) × Onward z e f
  both_get c d cell false false p q e f inside h g t =
      (refl, g ∙ sym h, both_pin laws z c d cell e f (subst₂ (λ (a b : List Event). Tandem z c d (a ++ e) (b ++ f)) h g t))
  both_get c d cell false true p q e f inside h (part, ended, lives, is) t =
      let live = begins_small c (Pin 0 cell) e t.calls z.first refl (subst (λ (a : List Event). FollowsStep c (a ++ e) t.calls z.first) h t.follows) in
      let load = begins_loading d cell part f t.others z.second ended (subst (λ (a : List Event). FollowsStep d (a ++ f) t.others z.second) is t.goes) in
      absurd (live_absent c d cell live.tells.0 t.alike live.tells.1 load.absent)
  both_get c d cell true false p q e f inside (part, ended, lives, is) g t =
      let load = begins_loading c cell part e t.calls z.first ended (subst (λ (a : List Event). FollowsStep c (a ++ e) t.calls z.first) is t.follows) in
      let live = begins_small d (Pin 0 cell) f t.others z.second refl (subst (λ (a : List Event). FollowsStep d (a ++ f) t.others z.second) g t.goes) in
      absurd (absent_live c d cell live.tells.0 t.alike load.absent live.tells.1)
  both_get c d cell true true p q e f inside (part, ended, lives, is) (part', ended', lives', is') t =
      let on = both_load laws z c d cell part part' e f inside ended ended' (subst₂ (λ (a b : List Event). Tandem z c d (a ++ e) (b ++ f)) is is' t) in
      (refl, is' ∙ on.0 ∙ sym is, on.1)

  -- not one live and the other absent
  pub not_pin_miss : (c d : Cached) (cell : ℕ) (e f : List Event) → is_calm f ≡ true → Tandem z c d (Pin 0 cell ∷ e) (Miss 0 cell ∷ f) → ⊥
  not_pin_miss c d cell e f calm t =
      let live = begins_small c (Pin 0 cell) e t.calls z.first refl t.follows in
      let miss = begins_missing d (Miss 0 cell) f t.others z.second calm t.goes in
      live_absent c d cell live.tells.0 t.alike live.tells.1 miss.tells

  pub not_miss_pin : (c d : Cached) (cell : ℕ) (e f : List Event) → is_calm e ≡ true → Tandem z c d (Miss 0 cell ∷ e) (Pin 0 cell ∷ f) → ⊥
  not_miss_pin c d cell e f calm t =
      let miss = begins_missing c (Miss 0 cell) e t.calls z.first calm t.follows in
      let live = begins_small d (Pin 0 cell) f t.others z.second refl t.goes in
      absent_live c d cell live.tells.0 t.alike miss.tells live.tells.1

  -- not one got and the other refused
  pub not_get_refused : (c d : Cached) (cell : ℕ) (loaded : Bool) (p e : List Event) → cell < cells_of z.levels → Gets cell loaded p → Tandem z c d (p ++ e) [] → Refuses z.second cell z.other → ⊥
  not_get_refused c d cell false p e inside h t r =
      let live = begins_small c (Pin 0 cell) e t.calls z.first refl (subst (λ (a : List Event). FollowsStep c (a ++ e) t.calls z.first) h t.follows) in
      let absent = refused_absent z.second cell r.err r.events r.asked r.acquires.is in
      let here = nothing_left d t.others z.second t.goes in
      live_absent c d cell live.tells.0 t.alike live.tells.1 (subst (λ (b : Cached). slot_of b cell ≡ None) here.0 absent)
  not_get_refused c d cell true p e inside (part, ended, lives, is) t r =
      let load = begins_loading c cell part e t.calls z.first ended (subst (λ (a : List Event). FollowsStep c (a ++ e) t.calls z.first) is t.follows) in
      let here = nothing_left d t.others z.second t.goes in
      let acquires : Acquires d cell (Err r.err) r.events r.asked r.after = subst (λ (b : Cached). Acquires b cell (Err r.err) r.events r.asked r.after) here.0 r.acquires in
      let fail : FailAlike (load.asked ++ (load.more ++ z.left)) (r.asked ++ r.more) =
      subst₂ FailAlike (ap (λ (v : List StoreCall). v ++ z.left) load.calls_are ∙ append_assoc load.asked load.more z.left) (ap (λ (v : List StoreCall). v ++ z.other) here.1 ∙ r.calls_are) t.fail in
      let same = laws.acquires c d load.mid r.after cell load.result (Err r.err) (Miss 0 cell ∷ Claim 0 cell ∷ part) r.events load.asked r.asked (load.more ++ z.left) r.more
      t.alike (subst (λ (ls : List Level). cell < cells_of ls) (sym t.levels) inside) load.acquires acquires fail in
      true≢false (sym lives ∙ sym (ap has_live same.1) ∙ refused_no_live d cell r.err r.events r.asked acquires.is)

  pub not_refused_get : (c d : Cached) (cell : ℕ) (loaded : Bool) (p e : List Event) → cell < cells_of z.levels → Gets cell loaded p → Tandem z c d [] (p ++ e) → Refuses z.first cell z.left → ⊥
  not_refused_get c d cell false p e inside h t r =
      let live = begins_small d (Pin 0 cell) e t.others z.second refl (subst (λ (a : List Event). FollowsStep d (a ++ e) t.others z.second) h t.goes) in
      let absent = refused_absent z.first cell r.err r.events r.asked r.acquires.is in
      let here = nothing_left c t.calls z.first t.follows in
      absent_live c d cell live.tells.0 t.alike (subst (λ (b : Cached). slot_of b cell ≡ None) here.0 absent) live.tells.1
  not_refused_get c d cell true p e inside (part, ended, lives, is) t r =
      let load = begins_loading d cell part e t.others z.second ended (subst (λ (a : List Event). FollowsStep d (a ++ e) t.others z.second) is t.goes) in
      let here = nothing_left c t.calls z.first t.follows in
      let acquires : Acquires c cell (Err r.err) r.events r.asked r.after = subst (λ (b : Cached). Acquires b cell (Err r.err) r.events r.asked r.after) here.0 r.acquires in
      let fail : FailAlike (r.asked ++ r.more) (load.asked ++ (load.more ++ z.other)) =
      subst₂ FailAlike (ap (λ (v : List StoreCall). v ++ z.left) here.1 ∙ r.calls_are) (ap (λ (v : List StoreCall). v ++ z.other) load.calls_are ∙ append_assoc load.asked load.more z.other) t.fail in
      let same = laws.acquires c d r.after load.mid cell (Err r.err) load.result r.events (Miss 0 cell ∷ Claim 0 cell ∷ part) r.asked load.asked r.more (load.more ++ z.other)
      t.alike (subst (λ (ls : List Level). cell < cells_of ls) (sym t.levels) inside) acquires load.acquires fail in
      true≢false (sym lives ∙ ap has_live same.1 ∙ refused_no_live c cell r.err r.events r.asked acquires.is)
