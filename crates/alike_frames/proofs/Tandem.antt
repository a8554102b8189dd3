-- Two caches that steps lead on in the same way.
use Rattle.std.proofs.Common.{◌≡◌, ◌∙◌, inl, inr, ℕ, ◌<◌, true, false, List, [], ◌∷◌, ◌++◌, Option, None, Some, Result, refl, sym, ap, subst, subst₂, append_assoc}
use Rattle.std.specs.declared.result.Result.TheVariants.{Err}
use Rattle.cell_grid.specs.declared.level.Level.{Level}
use Rattle.cell_grid.specs.Pyramid.{cells_of}
use Rattle.cell_file.specs.declared.errors.AcquireErr.{AcquireErr}
use Rattle.cell_file.specs.declared.errors.AcquireErr.TheVariants as refusal
use Rattle.store_calls.specs.Calls.{StoreCall, FailAlike}
use Rattle.arr_history.specs.declared.cell_state.CellState.TheVariants as state
use Rattle.arr_history.specs.declared.event.Event.{Event}
use Rattle.arr_history.specs.declared.event.Event.TheVariants.{Pin, Miss, Unpin, Read, Claim}
use Rattle.sole_cache.specs.Slot.{SlotValue}
use Rattle.sole_cache.specs.Cached.{Cached, slot_of, state_at}
use Rattle.sole_cache.specs.Handle.{Handle}
use Rattle.sole_cache.specs.Acquires.{Acquires, IsAcquire}
use Rattle.sole_eyes.specs.Steps.{FollowsStep}
use Rattle.hier_paint.specs.Sight.{given_back}
use Rattle.alike_caches.specs.Alike.{AreAlike}
use Rattle.arr_history.specs.Tally.{is_writeback}
use Rattle.std.specs.List.{list_any}
use Rattle.alike_caches.specs.Laws.{AcquiresAreAlike, ReadsAreAlike, QuietIsAlike}
use Rattle.alike_frames.proofs.Parts.{IsEnded, is_calm}
use Rattle.alike_frames.proofs.Peeling.{BeginsSmall, begins_small, begins_missing, begins_loading}

-- the laws of caches that are alike
pub record AlikeLaws : Type 0 where
  pub acquires : AcquiresAreAlike
  pub reads : ReadsAreAlike
  pub quiet : QuietIsAlike

-- where two caches lead, and the calls of their stores that are left then
pub record Ends : Type 0 where
  pub levels : List Level
  pub first : Cached
  pub second : Cached
  pub left : List StoreCall
  pub other : List StoreCall

-- two caches that are alike, with these events ahead of them, and calls that fail alike
pub record Tandem (z : Ends) (c d : Cached) (e f : List Event) : Type 0 where
  pub alike : AreAlike c d
  pub levels : c.levels ≡ z.levels
  pub calls : List StoreCall
  pub others : List StoreCall
  pub follows : FollowsStep c e calls z.first
  pub goes : FollowsStep d f others z.second
  pub fail : FailAlike (calls ++ z.left) (others ++ z.other)

pub record Onward (z : Ends) (e f : List Event) : Type 0 where
  pub c : Cached
  pub d : Cached
  pub pair : Tandem z c d e f

absent_at : (slots others : List SlotValue) (o p : Option ℕ) (slot : ℕ) → o ≡ None → p ≡ Some slot → state_at slots o ≡ state_at others p → ⊥
absent_at slots others o p slot none some same =
    let here : state.Absent ≡ state_at others (Some slot) = sym (ap (state_at slots) none) ∙ same ∙ ap (state_at others) some in
    cc here

-- a cell that is absent in one cache is not live in the other
pub absent_live : (c d : Cached) (cell slot : ℕ) → AreAlike c d → slot_of c cell ≡ None → slot_of d cell ≡ Some slot → ⊥
absent_live c d cell slot a none some = absent_at c.slots d.slots (slot_of c cell) (slot_of d cell) slot none some (a.same.cells cell)

pub live_absent : (c d : Cached) (cell slot : ℕ) → AreAlike c d → slot_of c cell ≡ Some slot → slot_of d cell ≡ None → ⊥
live_absent c d cell slot a some none = absent_at d.slots c.slots (slot_of d cell) (slot_of c cell) slot none some (sym (a.same.cells cell))

-- a refused acquire found the cell absent
pub refused_absent : (c : Cached) (cell : ℕ) (err : AcquireErr) (events : List Event) (calls : List StoreCall) → IsAcquire c cell (Err err) events calls → slot_of c cell ≡ None
refused_absent c cell refusal.Full events calls is = is.0
refused_absent c cell err events calls (inl drop) = drop.absent
refused_absent c cell err events calls (inr held) = held.absent

module _ (laws : AlikeLaws) (z : Ends) where
  -- two steps of the same event
  both_small : (c d : Cached) (x : Event) (e f : List Event) (k l : List StoreCall) → list_any is_writeback (x ∷ []) ≡ false → AreAlike c d → c.levels ≡ z.levels → BeginsSmall c x e k z.first → BeginsSmall d x f l z.second
      → FailAlike (k ++ z.left) (l ++ z.other) → Onward z e f
  both_small c d x e f k l calm a levels s t fail = record {
    c = s.mid;
    d = t.mid;
    pair = record {
      alike = laws.quiet c d s.mid t.mid (x ∷ []) calm a s.quiet t.quiet;
      levels = s.quiet.runs.moves.levels ∙ levels;
      calls = k;
      others = l;
      follows = s.follows;
      goes = t.follows;
      fail = fail;
    };
  }

  -- both give a cell back
  pub both_unpin : (c d : Cached) (cell : ℕ) (e f : List Event) → Tandem z c d (Unpin 0 cell ∷ e) (Unpin 0 cell ∷ f) → Onward z e f
  both_unpin c d cell e f t =
      both_small c d (Unpin 0 cell) e f t.calls t.others refl t.alike t.levels
      (begins_small c (Unpin 0 cell) e t.calls z.first refl t.follows) (begins_small d (Unpin 0 cell) f t.others z.second refl t.goes) t.fail

  pub both_give_back : (c d : Cached) (held : Option ℕ) (e f : List Event) → Tandem z c d (given_back 0 held ++ e) (given_back 0 held ++ f) → Onward z e f
  both_give_back c d None e f t = record { c = c; d = d; pair = t }
  both_give_back c d (Some cell) e f t = both_unpin c d cell e f t

  -- both read a voxel
  pub both_read : (c d : Cached) (cell at x y : ℕ) (e f : List Event) → Tandem z c d (Read 0 cell at x ∷ e) (Read 0 cell at y ∷ f) → (y ≡ x) × Onward z e f
  both_read c d cell at x y e f t =
      let s = begins_small c (Read 0 cell at x) e t.calls z.first refl t.follows in
      let u = begins_small d (Read 0 cell at y) f t.others z.second refl t.goes in
      let same : y ≡ x = laws.reads c d s.mid u.mid cell at x y t.alike s.quiet u.quiet in
      (same, both_small c d (Read 0 cell at x) e f t.calls t.others refl t.alike t.levels s (subst (λ n. BeginsSmall d (Read 0 cell at n) f t.others z.second) same u) t.fail)

  -- both find a cell live
  pub both_pin : (c d : Cached) (cell : ℕ) (e f : List Event) → Tandem z c d (Pin 0 cell ∷ e) (Pin 0 cell ∷ f) → Onward z e f
  both_pin c d cell e f t =
      both_small c d (Pin 0 cell) e f t.calls t.others refl t.alike t.levels
      (begins_small c (Pin 0 cell) e t.calls z.first refl t.follows) (begins_small d (Pin 0 cell) f t.others z.second refl t.goes) t.fail

  -- both find a cell absent
  pub both_miss : (c d : Cached) (cell : ℕ) (e f : List Event) → is_calm e ≡ true → is_calm f ≡ true → Tandem z c d (Miss 0 cell ∷ e) (Miss 0 cell ∷ f) → Onward z e f
  both_miss c d cell e f calm quiet t =
      both_small c d (Miss 0 cell) e f t.calls t.others refl t.alike t.levels
      (begins_missing c (Miss 0 cell) e t.calls z.first calm t.follows) (begins_missing d (Miss 0 cell) f t.others z.second quiet t.goes) t.fail

  -- two acquires lead on
  after_acquires : (c d mid nid : Cached) (cell : ℕ) (r s : Result Handle AcquireErr) (p q e f : List Event) (k l asked more asked' more' : List StoreCall)
      → AreAlike c d → c.levels ≡ z.levels → cell < cells_of z.levels → Acquires c cell r p asked mid → Acquires d cell s q asked' nid → k ≡ asked ++ more → l ≡ asked' ++ more'
      → FollowsStep mid e more z.first → FollowsStep nid f more' z.second → FailAlike (k ++ z.left) (l ++ z.other) → (s ≡ r) × (q ≡ p) × Onward z e f
  after_acquires c d mid nid cell r s p q e f k l asked more asked' more' a levels inside acq bcq k_is l_is follows goes fail =
      let joined : FailAlike (asked ++ (more ++ z.left)) (asked' ++ (more' ++ z.other)) =
      subst₂ FailAlike (ap (λ (v : List StoreCall). v ++ z.left) k_is ∙ append_assoc asked more z.left) (ap (λ (v : List StoreCall). v ++ z.other) l_is ∙ append_assoc asked' more' z.other) fail in
      let same = laws.acquires c d mid nid cell r s p q asked asked' (more ++ z.left) (more' ++ z.other) a (subst (λ (ls : List Level). cell < cells_of ls) (sym levels) inside) acq bcq joined in (
        same.0,
        same.1,
        record {
          c = mid;
          d = nid;
          pair = record { alike = same.2; levels = acq.runs.moves.levels ∙ levels; calls = more; others = more'; follows = follows; goes = goes; fail = same.3 };
        },
      )

  pub both_load : (c d : Cached) (cell : ℕ) (p q e f : List Event) → cell < cells_of z.levels → IsEnded p → IsEnded q → Tandem z c d (Miss 0 cell ∷ Claim 0 cell ∷ (p ++ e)) (Miss 0 cell ∷ Claim 0 cell ∷ (q ++ f))
      → (Miss 0 cell ∷ Claim 0 cell ∷ q ≡ Miss 0 cell ∷ Claim 0 cell ∷ p) × Onward z e f
  both_load c d cell p q e f inside ended stopped t =
      let s = begins_loading c cell p e t.calls z.first ended t.follows in
      let u = begins_loading d cell q f t.others z.second stopped t.goes in
      let on = after_acquires c d s.mid u.mid cell s.result u.result (Miss 0 cell ∷ Claim 0 cell ∷ p) (Miss 0 cell ∷ Claim 0 cell ∷ q) e f t.calls t.others s.asked s.more u.asked u.more
      t.alike t.levels inside s.acquires u.acquires s.calls_are u.calls_are s.follows u.follows t.fail in
      (on.1, on.2)
