-- What stores show, before and after.
use Rattle.std.proofs.Common.{◌≡◌, ◌≢◌, ◌∙◌, ℕ, ◌+◌, ◌<◌, ◌≤◌, ◌==◌, Bool, true, false, cond, IsTrue, List, length, slice_set, refl, sym, ap, subst, arith}
use Rattle.std.specs.List.{count_by, list_any}
use Rattle.std.specs.Str.{bytes_eq}
use Rattle.std.proofs.lemmas.List.{length-set}
use Rattle.std.proofs.lemmas.Bool.{eqb-true, false_from_ne_true}
use Rattle.std.proofs.lemmas.Bool.Decides.{nat_tests}
use Rattle.cell_grid.specs.declared.level.Level.{Level}
use Rattle.cell_grid.specs.Pyramid.{cells_of, lane_of, IsPyramid}
use Rattle.cell_store.specs.Store.{Contents, held_of, untold}
use Rattle.std.proofs.lemmas.Slice.Eq.{bytes_eq-Decides}
use Rattle.cell_file.proofs.KeyLemmas.{one_edited_key}
use Rattle.cell_file.specs.Keys.{edited_key}
use Rattle.cell_file.specs.Standing.{standing}
use Rattle.arr_history.specs.declared.event.Event.{Event}
use Rattle.arr_history.specs.Laws.{puts}
use Rattle.arr_history.proofs.Lists.{set_cases}
use Rattle.sole_cache.specs.Cached.{Cached, store_in, store_of}
use Rattle.sole_cache.specs.Value.{with_shown}
use Rattle.sole_cache.proofs.Places.{SameElsewhere}
use Rattle.sole_cache.specs.Moves.{is_put, is_get, saves, loads, StoreMoves, StoresMove, Fetched, Saved}

pub store_stays : (s : Contents) → StoreMoves s s
store_stays s = record { told = refl; told_log = refl; never_falls = omega arith }

-- stores that stayed as they were, by events that neither save nor load
pub stores_still : (c d : Cached) (events : List Event) → d.shown ≡ c.shown → ((n : ℕ) → count_by (saves n) events ≡ 0) → ((n : ℕ) → count_by (loads n) events ≡ 0) → StoresMove c events d
stores_still c d events same saved loaded = subst (λ shown. StoresMove c events (with_shown d shown)) (sym same) (record {
  lanes = refl;
  each = λ lane. store_stays (store_in c.shown lane);
  kept = λ lane key told none. refl;
  put_count = λ n _ _. rw (saved n) (omega arith);
  get_count = λ n _ _. rw (loaded n) (omega arith);
})

-- one store of a list changed
module _ (c : Cached) (n : ℕ) (after : Contents) (some : 0 < length c.shown) where
  -- the number of a cell's store is in range
  pub lane_in : lane_of n (length c.shown) < length c.shown
  lane_in = grind arith

  -- the store of each cell is the changed one, or what it was
  pub store_cases : (P : Contents → Type 0) (l : ℕ) → (lane_of n (length c.shown) ≡ l → P after) → ((lane_of n (length c.shown) ≡ l → ⊥) → P (store_in c.shown l)) → P (store_in (slice_set c.shown (lane_of n (length c.shown)) after) l)
  store_cases P l here there = set_cases P c.shown (lane_of n (length c.shown)) after l (untold 0) lane_in here there

-- the number of a cell's store, in a list with one store changed
at_lane : (c : Cached) (n m : ℕ) (after : Contents) (P : Contents → Type 0) → 0 < length c.shown
    → (lane_of n (length c.shown) ≡ lane_of m (length c.shown) → P after) → ((lane_of n (length c.shown) ≡ lane_of m (length c.shown) → ⊥) → P (store_of c m))
    → P (store_in (slice_set c.shown (lane_of n (length c.shown)) after) (lane_of m (length (slice_set c.shown (lane_of n (length c.shown)) after))))
at_lane c n m after P some here there = subst (λ l. P (store_in (slice_set c.shown (lane_of n (length c.shown)) after) (lane_of m l))) (sym (length-set c.shown (lane_of n (length c.shown)) after))
    (store_cases c n after some P (lane_of m (length c.shown)) here there)

-- The stores after a fetch, by events that save nothing, and load at most the cell fetched, where it gave values.
pub fetched_stores : (c d : Cached) (n : ℕ) (gave : Bool) (after : Contents) (events : List Event) → 0 < length c.shown → d.shown ≡ slice_set c.shown (lane_of n (length c.shown)) after
    → Fetched (edited_key c.levels n) gave (store_of c n) after → ((m : ℕ) → count_by (saves m) events ≡ 0) → ((m : ℕ) → (n ≡ m → ⊥) → count_by (loads m) events ≡ 0)
    → count_by (loads n) events ≡ cond gave 1 0 → StoresMove c events d
fetched_stores c d n gave after events some is f saved others loaded = subst (λ shown. StoresMove c events (with_shown d shown)) (sym is) (record {
  lanes = length-set c.shown (lane_of n (length c.shown)) after;
  each = λ l. store_cases c n after some (λ s. StoreMoves (store_in c.shown l) s) l (λ e. subst (λ k. StoreMoves (store_in c.shown k) after) e f.moves) (λ _. store_stays (store_in c.shown l));
  kept = λ l key told none. store_cases c n after some (λ s. (held_of s) key ≡ (held_of (store_in c.shown l)) key) l
      (λ e. subst (λ k. IsTrue (store_in c.shown k).told → (held_of after) key ≡ (held_of (store_in c.shown k)) key) e (λ t. ap (λ h. h key) (f.held t)) told) (λ _. refl);
  put_count = λ m lt told. at_lane c n m after (λ s. count_by (is_put (edited_key c.levels m)) s.log ≡ count_by (is_put (edited_key c.levels m)) (store_of c m).log + count_by (saves m) events) some
      (λ e. subst (λ k. IsTrue (store_in c.shown k).told_log → count_by (is_put (edited_key c.levels m)) after.log ≡ count_by (is_put (edited_key c.levels m)) (store_in c.shown k).log + count_by (saves m) events) e
      (λ t. let a = f.no_put (edited_key c.levels m) t in let b = saved m in omega (arith, a, b)) told)
      (λ _. let b = saved m in omega (arith, b));
  get_count = λ m lt told. at_lane c n m after (λ s. count_by (is_get (edited_key c.levels m)) (store_of c m).log + count_by (loads m) events ≤ count_by (is_get (edited_key c.levels m)) s.log) some
      (λ e. subst (λ k. IsTrue (store_in c.shown k).told_log → count_by (is_get (edited_key c.levels m)) (store_in c.shown k).log + count_by (loads m) events ≤ count_by (is_get (edited_key c.levels m)) after.log) e (λ t. got m t) told)
      (λ ne. let b = others m (λ nm. ne (ap (λ k. lane_of k (length c.shown)) nm)) in omega (arith, b));
})
  where
    got : (m : ℕ) → IsTrue (store_of c n).told_log → count_by (is_get (edited_key c.levels m)) (store_of c n).log + count_by (loads m) events ≤ count_by (is_get (edited_key c.levels m)) after.log
    got m told = decide (n == m) refl
      where
        here : (b : Bool) → gave ≡ b → count_by (is_get (edited_key c.levels n)) (store_of c n).log + cond b 1 0 ≤ count_by (is_get (edited_key c.levels n)) after.log
        here true g = f.got g told
        here false g = let a = f.gets (edited_key c.levels n) told in omega (arith, a)

        decide : (b : Bool) → (n == m) ≡ b → count_by (is_get (edited_key c.levels m)) (store_of c n).log + count_by (loads m) events ≤ count_by (is_get (edited_key c.levels m)) after.log
        decide true e = subst (λ k. count_by (is_get (edited_key c.levels k)) (store_of c n).log + count_by (loads k) events ≤ count_by (is_get (edited_key c.levels k)) after.log) (eqb-true n m e)
            (let a = here gave refl in omega (arith, a, loaded))
        decide false e = let a = f.gets (edited_key c.levels m) told in let b = others m (λ nm. clash n m nm e) in omega (arith, a, b)
          where
            clash : (n m : ℕ) → n ≡ m → (n == m) ≡ false → ⊥
            clash n m p q = grind (arith, nat_tests)

-- The stores after a save, by events that load nothing, put the cell saved, and save it where that was done.
pub saved_stores : (c d : Cached) (n : ℕ) (done : Bool) (after : Contents) (events : List Event) → 0 < length c.shown → n < cells_of c.levels → d.shown ≡ slice_set c.shown (lane_of n (length c.shown)) after
    → Saved (edited_key c.levels n) done (store_of c n) after → ((m : ℕ) → m < cells_of c.levels → (n ≡ m → ⊥) → bytes_eq (edited_key c.levels n) (edited_key c.levels m) ≡ false)
    → ((m : ℕ) → count_by (loads m) events ≡ 0) → ((m : ℕ) → (n ≡ m → ⊥) → count_by (saves m) events ≡ 0) → count_by (saves n) events ≡ cond done 1 0 → list_any (puts n) events ≡ true → StoresMove c events d
saved_stores c d n done after events some inside is f own loaded others saved put = subst (λ shown. StoresMove c events (with_shown d shown)) (sym is) (record {
  lanes = length-set c.shown (lane_of n (length c.shown)) after;
  each = λ l. store_cases c n after some (λ s. StoreMoves (store_in c.shown l) s) l (λ e. subst (λ k. StoreMoves (store_in c.shown k) after) e f.moves) (λ _. store_stays (store_in c.shown l));
  kept = λ l key told none. store_cases c n after some (λ s. (held_of s) key ≡ (held_of (store_in c.shown l)) key) l
      (λ e. subst (λ k. IsTrue (store_in c.shown k).told → (held_of after) key ≡ (held_of (store_in c.shown k)) key) e (λ t. f.held t key (other_key l key e none)) told) (λ _. refl);
  put_count = λ m lt told. at_lane c n m after (λ s. count_by (is_put (edited_key c.levels m)) s.log ≡ count_by (is_put (edited_key c.levels m)) (store_of c m).log + count_by (saves m) events) some
      (λ e. subst (λ k. IsTrue (store_in c.shown k).told_log → count_by (is_put (edited_key c.levels m)) after.log ≡ count_by (is_put (edited_key c.levels m)) (store_in c.shown k).log + count_by (saves m) events) e (λ t. done_puts m lt t) told)
      (λ ne. let b = others m (λ nm. ne (ap (λ k. lane_of k (length c.shown)) nm)) in omega (arith, b));
  get_count = λ m lt told. at_lane c n m after (λ s. count_by (is_get (edited_key c.levels m)) (store_of c m).log + count_by (loads m) events ≤ count_by (is_get (edited_key c.levels m)) s.log) some
      (λ e. subst (λ k. IsTrue (store_in c.shown k).told_log → count_by (is_get (edited_key c.levels m)) (store_in c.shown k).log + count_by (loads m) events ≤ count_by (is_get (edited_key c.levels m)) after.log) e
      (λ t. let a = f.gets (edited_key c.levels m) t in let b = loaded m in omega (arith, a, b)) told)
      (λ _. let b = loaded m in omega (arith, b));
})
  where
    true_false : true ≡ false → ⊥
    true_false e = cc

    other_key : (l : ℕ) (key : List ℕ) → lane_of n (length c.shown) ≡ l → ((m : ℕ) → m < cells_of c.levels → lane_of m (length c.shown) ≡ l → bytes_eq (edited_key c.levels m) key ≡ true → list_any (puts m) events ≡ false)
        → bytes_eq (edited_key c.levels n) key ≡ false
    other_key l key e none = false_from_ne_true (bytes_eq (edited_key c.levels n) key) (λ same. true_false (sym put ∙ none n inside e same))

    done_puts : (m : ℕ) → m < cells_of c.levels → IsTrue (store_of c n).told_log → count_by (is_put (edited_key c.levels m)) after.log ≡ count_by (is_put (edited_key c.levels m)) (store_of c n).log + count_by (saves m) events
    done_puts m lt told = decide (n == m) refl
      where
        decide : (b : Bool) → (n == m) ≡ b → count_by (is_put (edited_key c.levels m)) after.log ≡ count_by (is_put (edited_key c.levels m)) (store_of c n).log + count_by (saves m) events
        decide true e = subst (λ k. count_by (is_put (edited_key c.levels k)) after.log ≡ count_by (is_put (edited_key c.levels k)) (store_of c n).log + count_by (saves k) events) (eqb-true n m e)
            (let a = f.puts told in omega (arith, a, saved))
        decide false e = let ne : n ≡ m → ⊥ = λ nm. clash n m nm e in let a = f.other_puts (edited_key c.levels m) (own m lt ne) told in let b = others m ne in omega (arith, a, b)
          where
            clash : (n m : ℕ) → n ≡ m → (n == m) ≡ false → ⊥
            clash n m p q = grind (arith, nat_tests)

-- Stores that tell the same, and stand for the same of all cells.
pub record SameStores (c : Cached) (shown : List Contents) : Type 0 where
  pub lanes : length shown ≡ length c.shown
  pub told : (m : ℕ) → (store_in shown (lane_of m (length shown))).told ≡ (store_of c m).told
  pub stands : (m : ℕ) → IsTrue (store_of c m).told → standing c.levels c.keys (held_of (store_in shown (lane_of m (length shown)))) m ≡ standing c.levels c.keys (held_of (store_of c m)) m

-- whether the store of a cell tells is the same where one store changed
told_same : (c : Cached) (n : ℕ) (after : Contents) → 0 < length c.shown → after.told ≡ (store_of c n).told → (m : ℕ)
    → (store_in (slice_set c.shown (lane_of n (length c.shown)) after) (lane_of m (length (slice_set c.shown (lane_of n (length c.shown)) after)))).told ≡ (store_of c m).told
told_same c n after some told m = at_lane c n m after (λ s. s.told ≡ (store_of c m).told) some (λ e. told ∙ ap (λ k. (store_in c.shown k).told) e) (λ _. refl)

pub fetched_same : (c : Cached) (n : ℕ) (gave : Bool) (after : Contents) (shown : List Contents) → 0 < length c.shown → shown ≡ slice_set c.shown (lane_of n (length c.shown)) after
    → Fetched (edited_key c.levels n) gave (store_of c n) after → SameStores c shown
fetched_same c n gave after shown some is f = subst (SameStores c) (sym is) (record {
  lanes = length-set c.shown (lane_of n (length c.shown)) after;
  told = told_same c n after some f.moves.told;
  stands = λ m told. at_lane c n m after (λ s. standing c.levels c.keys (held_of s) m ≡ standing c.levels c.keys (held_of (store_of c m)) m) some
      (λ e. subst (λ k. IsTrue (store_in c.shown k).told → standing c.levels c.keys (held_of after) m ≡ standing c.levels c.keys (held_of (store_in c.shown k)) m) e (λ t. ap (λ h. standing c.levels c.keys h m) (f.held t)) told) (λ _. refl);
})

-- Stores after a put: they stand for the same of all cells but one.
pub saved_elsewhere : (c : Cached) (n : ℕ) (after : Contents) (shown : List Contents) → 0 < length c.shown → length c.table ≡ cells_of c.levels → shown ≡ slice_set c.shown (lane_of n (length c.shown)) after
    → after.told ≡ (store_of c n).told → (IsTrue (store_of c n).told → (m : ℕ) → m < cells_of c.levels → m ≢ n → standing c.levels c.keys (held_of after) m ≡ standing c.levels c.keys (held_of (store_of c n)) m) → SameElsewhere c n shown
saved_elsewhere c n after shown some cells is told others = subst (SameElsewhere c n) (sym is) (record {
  lanes = length-set c.shown (lane_of n (length c.shown)) after;
  told = told_same c n after some told;
  others = λ m lt ne t. at_lane c n m after (λ s. standing c.levels c.keys (held_of s) m ≡ standing c.levels c.keys (held_of (store_of c m)) m) some
      (λ e. subst (λ k. IsTrue (store_in c.shown k).told → standing c.levels c.keys (held_of after) m ≡ standing c.levels c.keys (held_of (store_in c.shown k)) m) e (λ u. others u m (subst (λ k. m < k) cells lt) (λ mn. ne (sym mn))) t) (λ _. refl);
})

-- The edited keys of two cells differ.
pub own_keys : (levels : List Level) (n : ℕ) → IsPyramid levels → n < cells_of levels → (m : ℕ) → m < cells_of levels → (n ≡ m → ⊥) → bytes_eq (edited_key levels n) (edited_key levels m) ≡ false
own_keys levels n pyramid inside m lt ne = false_from_ne_true (bytes_eq (edited_key levels n) (edited_key levels m)) (λ e. ne (one_edited_key levels n m pyramid inside lt ((bytes_eq-Decides (edited_key levels n) (edited_key levels m)).0 e)))
