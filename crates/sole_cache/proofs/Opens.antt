-- A cache as it is made.
use Rattle.std.proofs.Common.{◌≡◌, ◌∙◌, ℕ, zero, suc, ◌+◌, ◌*◌, ◌<◌, ◌≤◌, Bool, true, false, List, [], ◌∷◌, length, replicate, sum_by, Option, None, Some, slice_index, slice_index_or, refl, sym, ap, subst, arith}
use Rattle.std.proofs.lemmas.List.{length-replicate}
use Rattle.cell_grid.specs.declared.level.Level.{Level}
use Rattle.cell_grid.specs.Pyramid.{cells_of, voxels_of, kind_of, frame_of, IsPyramid}
use Rattle.cell_grid.proofs.FrameLemmas.{frame_bounds}
use Rattle.cell_store.specs.Store.{Contents}
use Rattle.cell_file.specs.Keys.{KeyNames, AreKeys}
use Rattle.cell_file.proofs.Widths.{bytes_le}
use Rattle.recency.specs.Order.{opening_order}
use Rattle.arr_history.specs.declared.tally.Tally.{Tally}
use Rattle.arr_history.specs.Tally.{tally_of}
use Rattle.sole_cache.specs.Slot.{SlotValue, no_slot, slot_in}
use Rattle.sole_cache.specs.Cached.{Cached, slot_of, slot_at, state_at, handles_out, stands}
use Rattle.sole_cache.specs.Valid.{IsCache, IsFrameKept}
use Rattle.sole_cache.specs.Room.{pinned}
use Rattle.sole_cache.specs.Open.{free_slot, IsOpened}
use Rattle.sole_cache.proofs.Steps.{none_some}

-- what holds of a free slot and of none holds of each of a list of free slots
at_fresh : (P : SlotValue → Type 0) (n f i : ℕ) → P (free_slot f) → P no_slot → P (slot_in (replicate n (free_slot f)) i)
at_fresh P zero f i free none = none
at_fresh P (suc n) f zero free none = free
at_fresh P (suc n) f (suc i) free none = at_fresh P n f i free none

abbrev nothing : Option ℕ
nothing = None

none_at : (n i : ℕ) → slice_index_or (replicate n nothing) i nothing ≡ nothing
none_at zero i = refl
none_at (suc n) zero = refl
none_at (suc n) (suc i) = none_at n i

no_flags : (n f : ℕ) → replicate n false ≡ pinned (replicate n (free_slot f))
no_flags zero f = refl
no_flags (suc n) f = ap (λ l. false ∷ l) (no_flags n f)

no_pins : (n f : ℕ) → sum_by (λ (s : SlotValue). s.pins) (replicate n (free_slot f)) ≡ 0
no_pins n f = Rattle.std.proofs.lemmas.List.Folds.sum_by-replicate (λ (s : SlotValue). s.pins) n (free_slot f) ∙ omega arith

-- no cell is live, and nothing was counted
abbrev pub fresh : List Level → KeyNames → List Contents → ℕ → Tally → Cached
fresh levels keys shown slots tally = record {
  unsaved = [];
  levels = levels;
  keys = keys;
  shown = shown;
  table = replicate (cells_of levels) None;
  slots = replicate slots (free_slot (frame_of levels));
  order = opening_order slots;
  tally = tally;
}

module _ (levels : List Level) (keys : KeyNames) (shown : List Contents) (slots : ℕ) (tally : Tally) (pyramid : IsPyramid levels) (made : keys.levels ≡ levels) (some_slots : 2 ≤ slots) (few_slots : slots ≤ 4096) (some : 1 ≤ length shown)
    (few : length shown ≤ 16) (zeros : tally ≡ tally_of [] []) where
  pub cache_fresh : IsCache (fresh levels keys shown slots tally)
  cache_fresh = record {
    counted = subst Rattle.arr_history.specs.Tally.IsTally (sym zeros) (record { hits = omega arith; misses = omega arith; loads = omega arith; evictions = omega arith; writebacks = omega arith; closed = omega arith });
    fitted = record {
      pyramid = pyramid;
      keyed = made;
      cells = length-replicate (cells_of levels) None;
      some_slots = subst (λ k. 2 ≤ k) (sym (length-replicate slots (free_slot (frame_of levels)))) some_slots;
      few_slots = subst (λ k. k ≤ 4096) (sym (length-replicate slots (free_slot (frame_of levels)))) few_slots;
      some_stores = some;
      few_stores = few;
      ordered = sym (length-replicate slots (free_slot (frame_of levels)));
    };
    seated = record {
      in_slot = λ n i h. absurd (none_some i (sym (none_at (cells_of levels) n) ∙ h));
      in_table = λ i n h. absurd (at_fresh (λ s. s.cell ≡ Some n → ⊥) slots (frame_of levels) i (λ e. none_some n e) (λ e. none_some n e) h);
      unpinned = λ i _. at_fresh (λ s. s.pins ≡ 0) slots (frame_of levels) i refl refl;
      listed = λ i. at_fresh (λ s. false ≡ Rattle.std.specs.Option.is_some s.cell) slots (frame_of levels) i refl refl;
    };
    framed = record {
      frames = λ i lt. frame_at slots i (subst (λ k. i < k) (length-replicate slots (free_slot (frame_of levels))) lt);
      small = λ n i h. absurd (none_some i (sym (none_at (cells_of levels) n) ∙ h));
    };
    clean = λ n i told h. absurd (none_some i (sym (none_at (cells_of levels) n) ∙ h));
  }
    where
      frame_at : (n i : ℕ) → i < n → length (slot_in (replicate n (free_slot (frame_of levels))) i).frame ≡ frame_of levels
      frame_at zero i lt = absurd (omega (arith, lt))
      frame_at (suc n) zero lt = length-replicate (frame_of levels) 0
      frame_at (suc n) (suc i) lt = frame_at n i (omega (arith, lt))

  pub kept_fresh : (spare put : List ℕ) (room : ℕ) → length spare ≡ frame_of levels → length put ≡ 16 + 8 * frame_of levels → slots ≤ room → IsFrameKept (fresh levels keys shown slots tally) (replicate slots false) 0 spare put room
  kept_fresh spare put room spare_is put_is enough = record {
    cache = cache_fresh;
    flags_are = no_flags slots (frame_of levels);
    from = omega arith;
    taken = λ i lt. absurd (omega (arith, lt));
    spare_frame = spare_is;
    put_fits = λ n lt. let width = bytes_le (kind_of levels n) (voxels_of levels n) in let bound = frame_bounds levels n lt in omega (arith, width, bound, put_is);
    unsaved_fit = subst (λ k. k ≤ room) (sym (length-replicate slots (free_slot (frame_of levels)))) enough;
  }

  pub is_opened : AreKeys keys → IsOpened levels keys slots (fresh levels keys shown slots tally)
  is_opened own = record {
    levels_are = refl;
    keys_are = refl;
    slot_count = length-replicate slots (free_slot (frame_of levels));
    absent = λ n. none_at (cells_of levels) n;
    free = λ i. at_fresh (λ s. s.cell ≡ None) slots (frame_of levels) i refl refl;
    handles = no_pins slots (frame_of levels);
    order = refl;
    tally = zeros;
    state = record {
      cells = λ n. sym (ap (state_at (replicate slots (free_slot (frame_of levels)))) (none_at (cells_of levels) n));
      pins = λ k n. sym (nobody k n);
      arrays = λ n _ _ i _. sym (ap (λ o. slice_index (Rattle.sole_cache.specs.Cached.array_at (replicate slots (free_slot (frame_of levels))) o (stands (fresh levels keys shown slots tally) n)) i) (none_at (cells_of levels) n));
    };
    own = own;
    valid = cache_fresh;
  }
    where
      zero_if : (b : Bool) (x : ℕ) → x ≡ 0 → Rattle.std.specs.Prelude.cond b x 0 ≡ 0
      zero_if true x e = e
      zero_if false x e = refl

      nobody : (k n : ℕ) → (Rattle.sole_cache.specs.Cached.state_of (fresh levels keys shown slots tally)).pins k n ≡ 0
      nobody k n = zero_if _ _ (ap (Rattle.sole_cache.specs.Cached.pins_at (replicate slots (free_slot (frame_of levels)))) (none_at (cells_of levels) n))

pub zero_tally : (t : Tally) → (t.hits ≡ 0) × ((t.misses ≡ 0) × ((t.loads ≡ 0) × ((t.evictions ≡ 0) × ((t.writebacks ≡ 0) × (t.closed ≡ 0))))) → t ≡ tally_of [] []
zero_tally t (a, (b, (c, (d, (e, f))))) = Rattle.arr_history.proofs.Counts.same_tallies _ _ _ _ _ _ _ _ _ _ _ _ a b c d e f
