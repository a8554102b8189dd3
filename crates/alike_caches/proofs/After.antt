-- Caches that are alike, after the same events.
use Rattle.std.proofs.Common.{◌≡◌, ◌∙◌, ℕ, ◌<◌, ◌==◌, ◌&&◌, ◌||◌, Bool, true, false, List, [], ◌∷◌, refl, sym, ap, subst}
use Rattle.std.specs.List.{list_any}
use Rattle.std.specs.Str.{bytes_eq}
use Rattle.cell_grid.specs.declared.level.Level.{Level}
use Rattle.cell_grid.specs.Pyramid.{cells_of, voxels_of, lane_of}
use Rattle.cell_file.specs.Keys.{AreKeys, edited_key}
use Rattle.arr_history.specs.declared.event.Event.{Event}
use Rattle.arr_history.specs.declared.event.Event.TheVariants as event
use Rattle.arr_history.specs.State.{State}
use Rattle.arr_history.specs.Tally.{tally_raised, is_writeback}
use Rattle.arr_history.specs.History.{IsSame}
use Rattle.arr_history.proofs.Leads.{same_after, same_sym, same_trans, same_in}
use Rattle.store_calls.proofs.Holds.{HoldAlike, hold_fewer}
use Rattle.sole_cache.specs.Cached.{Cached, state_of, shape_of}
use Rattle.sole_cache.specs.Valid.{IsCache}
use Rattle.sole_cache.specs.Turns.{order_after}
use Rattle.sole_cache.specs.Moves.{saves, Moves, Runs}
use Rattle.sole_cache.proofs.Composed.{order_same}
use Rattle.sole_cache.specs.Acquires.{Quiet}
use Rattle.alike_caches.specs.Alike.{AreAlike, IsSettled}
use Rattle.alike_caches.proofs.Marks.{mark_stays}
use Rattle.alike_caches.proofs.Seats.{told_second}

-- The stores of a cache that is alike hold the same under settled keys.
pub hold_alike : (c d : Cached) → AreAlike c d → HoldAlike (IsSettled c) c.shown d.shown
hold_alike c d a = record { lanes = a.lanes; told = a.told; held = a.held }

-- The same events lead to caches that are alike, if their stores hold alike.
module _ (c d c' d' : Cached) (events : List Event) (a : AreAlike c d) (first : Runs c events c') (second : Runs d events d') where
  same_in_first : (s t : State) → IsSame (shape_of d) s t → IsSame (shape_of c) s t
  same_in_first s t same = record {
    cells = same.cells;
    pins = same.pins;
    arrays = λ n inside told i few. same.arrays n (subst (λ (l : List Level). n < cells_of l) (sym a.levels) inside) (told_second c d a n) i (subst (λ (l : List Level). i < voxels_of l n) (sym a.levels) few);
  }

  levels_after : d'.levels ≡ c'.levels
  levels_after = second.moves.levels ∙ a.levels ∙ sym first.moves.levels

  order_after_both : d'.order ≡ c'.order
  order_after_both = second.moves.order ∙ ap (λ o. order_after (state_of d) o events) a.order
      ∙ sym (order_same (shape_of c) (state_of c) (state_of d) c.order events a.same) ∙ sym first.moves.order

  pub alike_after : IsCache c' → IsCache d' → HoldAlike (IsSettled c') c'.shown d'.shown → AreAlike c' d'
  alike_after valid also h = record {
    levels = levels_after;
    keys = second.moves.keys ∙ a.keys ∙ sym first.moves.keys;
    own = subst AreKeys (sym first.moves.keys) a.own;
    lanes = h.lanes;
    slots = sym second.moves.shape.slots ∙ a.slots ∙ first.moves.shape.slots;
    same = same_in (shape_of c) (shape_of c') (state_of c') (state_of d') first.moves.shape
        (same_trans (shape_of c) _ _ _ (same_sym (shape_of c) _ _ first.moves.led.reached)
        (same_trans (shape_of c) _ _ _ (same_after (shape_of c) _ _ events a.same) (same_in_first _ _ second.moves.led.reached)));
    order = order_after_both;
    tally = second.tally ∙ ap (λ t. tally_raised t events []) a.tally ∙ sym first.tally;
    told = h.told;
    held = h.held;
    first = valid;
    second = also;
  }

-- keys that are settled after events by which no cell leaves with a put were settled before them
pub settled_before : (c c' : Cached) (events : List Event) (lane : ℕ) (key : List ℕ) → Moves c events c' → ((n : ℕ) → list_any (saves n) events ≡ false) → IsSettled c' lane key → IsSettled c lane key
settled_before c c' events lane key moves none settled n inside there marked =
    subst (λ (l : List Level). bytes_eq (edited_key l n) key ≡ false) moves.levels
    (settled n (subst (λ (l : List Level). n < cells_of l) (sym moves.levels) inside) (ap (lane_of n) moves.stores.lanes ∙ there) (mark_stays c c' events n moves (none n) marked))

-- no cell leaves with a put by events of which none is a leaving with a put
none_saved : (n : ℕ) (events : List Event) → list_any is_writeback events ≡ false → list_any (saves n) events ≡ false
none_saved n [] none = refl
none_saved n (event.Gone k c saved ∷ events) none = go saved none (none_saved n events)
  where
    go : (b : Bool) → (b || list_any is_writeback events) ≡ false → (list_any is_writeback events ≡ false → list_any (saves n) events ≡ false) → ((b && (c == n)) || list_any (saves n) events) ≡ false
    go true h more = absurd (cc)
    go false h more = more h
none_saved n (_ ∷ events) none = none_saved n events none

pub quiet_alike : (c d c' d' : Cached) (events : List Event) → list_any is_writeback events ≡ false → AreAlike c d → Quiet c events c' → Quiet d events d' → AreAlike c' d'
quiet_alike c d c' d' events none a p q = alike_after c d c' d' events a p.runs q.runs p.valid q.valid
    (subst (λ shown. HoldAlike (IsSettled c') shown d'.shown) (sym p.shown) (subst (λ shown. HoldAlike (IsSettled c') c.shown shown) (sym q.shown)
    (hold_fewer (IsSettled c) (IsSettled c') c.shown d.shown (λ lane key settled. settled_before c c' events lane key p.runs.moves (λ n. none_saved n events none) settled) (hold_alike c d a))))
