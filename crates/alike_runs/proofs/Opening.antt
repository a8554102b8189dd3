-- Caches as they were made over stores that hold the same are alike.
use Rattle.std.proofs.Common.{◌≡◌, ◌∙◌, ℕ, ◌<◌, ◌==◌, cond, List, [], length, Option, sym, ap, subst}
use Rattle.std.specs.Prelude.{unwrap_or, slice_index}
use Rattle.std.proofs.Math.Nat.{mod-lt}
use Rattle.cell_grid.specs.declared.level.Level.{Level}
use Rattle.cell_grid.specs.Pyramid.{lane_of}
use Rattle.cell_file.specs.Keys.{KeyNames, AreKeys, edited_key, base_key}
use Rattle.cell_file.specs.Standing.{standing, stands_by}
use Rattle.arr_history.specs.History.{IsSame}
use Rattle.sole_cache.specs.Cached.{Cached, store_in, store_of, stands, state_at, pins_at, array_at, state_of, shape_of}
use Rattle.sole_cache.specs.Open.{IsOpened}
use Rattle.sole_cache.specs.Valid.{IsCache}
use Rattle.alike_caches.specs.Alike.{AreAlike}
use Rattle.alike_runs.specs.Holding.{HoldAlike}
use Rattle.cell_store.specs.Store.{held_of}

-- what a store stands for is decided by the two keys of a cell
standing_same : (levels : List Level) (keys : KeyNames) (n : ℕ) (h k : List ℕ → Option (List ℕ)) → ((key : List ℕ) → k key ≡ h key) → standing levels keys k n ≡ standing levels keys h n
unfolding standing
standing_same levels keys n h k same = ap (λ x. stands_by levels n x (k (base_key levels keys n))) (same (edited_key levels n)) ∙ ap (stands_by levels n (h (edited_key levels n))) (same (base_key levels keys n))

module _ (levels : List Level) (keys : KeyNames) (slots : ℕ) (c d : Cached) (o : IsOpened levels keys slots c) (p : IsOpened levels keys slots d) (own : AreKeys keys) (first : IsCache c) (second : IsCache d) (hold : HoldAlike c.shown d.shown) where
  same_levels : d.levels ≡ c.levels
  same_levels = p.levels_are ∙ sym o.levels_are

  same_keys : d.keys ≡ c.keys
  same_keys = p.keys_are ∙ sym o.keys_are

  stands_same : (n : ℕ) → stands d n ≡ stands c n
  stands_same n =
      let lane = lane_of n (length c.shown) in
      let there : lane < length c.shown = mod-lt n first.fitted.some_stores in
      let store : store_of d n ≡ store_in d.shown lane = ap (λ k. store_in d.shown (lane_of n k)) hold.lanes in
      ap (λ s. standing d.levels d.keys (held_of s) n) store
      ∙ standing_same d.levels d.keys n (held_of (store_in c.shown lane)) (held_of (store_in d.shown lane)) (λ key. hold.held lane key there)
      ∙ ap (λ l. standing l d.keys (held_of (store_in c.shown lane)) n) same_levels ∙ ap (λ k. standing c.levels k (held_of (store_in c.shown lane)) n) same_keys

  same_states : IsSame (shape_of c) (state_of c) (state_of d)
  same_states = record {
    cells = λ n. ap (state_at c.slots) (o.absent n) ∙ sym (ap (state_at d.slots) (p.absent n));
    pins = λ k n. ap (λ s. cond (k == 0) (pins_at c.slots s) 0) (o.absent n) ∙ sym (ap (λ s. cond (k == 0) (pins_at d.slots s) 0) (p.absent n));
    arrays = λ n lt told i few. ap (λ s. slice_index (array_at c.slots s (stands c n)) i) (o.absent n) ∙ ap (λ v. slice_index (unwrap_or v []) i) (sym (stands_same n))
        ∙ sym (ap (λ s. slice_index (array_at d.slots s (stands d n)) i) (p.absent n));
  }

  pub opened_alike : AreAlike c d
  opened_alike = record {
    levels = same_levels;
    keys = same_keys;
    own = subst AreKeys (sym o.keys_are) own;
    lanes = hold.lanes;
    slots = p.slot_count ∙ sym o.slot_count;
    same = same_states;
    order = p.order ∙ sym o.order;
    tally = p.tally ∙ sym o.tally;
    told = hold.told;
    held = λ lane key there settled. hold.held lane key there;
    first = first;
    second = second;
  }
