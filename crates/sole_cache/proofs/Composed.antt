-- Steps that follow one another.
use Rattle.std.proofs.Common.{◌≡◌, ◌∙◌, ℕ, ◌+◌, ◌<◌, ◌≤◌, ◌||◌, Bool, true, false, IsTrue, List, [], ◌∷◌, ◌++◌, length, refl, sym, ap, subst, arith}
use Rattle.std.specs.List.{count_by, list_any}
use Rattle.std.specs.Str.{bytes_eq}
use Rattle.cell_grid.specs.declared.level.Level.{Level}
use Rattle.cell_grid.specs.Pyramid.{cells_of, lane_of}
use Rattle.cell_store.specs.Store.{Contents}
use Rattle.cell_file.specs.Keys.{edited_key}
use Rattle.recency.specs.Order.{Order}
use Rattle.arr_history.specs.declared.event.Event.{Event}
use Rattle.arr_history.specs.declared.event.Event.TheVariants as event
use Rattle.arr_history.specs.State.{State}
use Rattle.arr_history.specs.Shape.{Shape}
use Rattle.arr_history.specs.Next.{next}
use Rattle.arr_history.specs.History.{after, IsSame}
use Rattle.arr_history.specs.Laws.{puts}
use Rattle.arr_history.specs.Tally.{tally_raised, AreUncounted}
use Rattle.arr_history.proofs.Leads.{same_next, composes, shape_trans}
use Rattle.arr_history.proofs.Counts.{count_by-append, raised_more, raised_none}
use Rattle.sole_cache.specs.Cached.{Cached, store_in, store_of, state_of, shape_of}
use Rattle.sole_cache.specs.Valid.{IsCache}
use Rattle.sole_cache.proofs.Stores.{stores_still}
use Rattle.sole_cache.specs.Turns.{order_next, order_after, touched_by, left_by}
use Rattle.sole_cache.specs.Moves.{is_put, is_get, saves, loads, StoreMoves, StoresMove, Moves, Runs}

pub store_moves_on : (a b c : Contents) → StoreMoves a b → StoreMoves b c → StoreMoves a c
store_moves_on a b c p q = record { told = q.told ∙ p.told; told_log = q.told_log ∙ p.told_log; never_falls = omega (arith, p.never_falls, q.never_falls) }

list_any-append : {X : Type 0} (test : X → Bool) (xs ys : List X) → list_any test (xs ++ ys) ≡ (list_any test xs || list_any test ys)
list_any-append test [] ys = refl
list_any-append test (x ∷ xs) ys = ap (λ b. test x || b) (list_any-append test xs ys) ∙ sym (or_assoc (test x) (list_any test xs) (list_any test ys))
  where
    or_assoc : (a b c : Bool) → ((a || b) || c) ≡ (a || (b || c))
    or_assoc true b c = refl
    or_assoc false b c = refl

or_none : (x y : Bool) → (x || y) ≡ false → (x ≡ false) × (y ≡ false)
or_none true y h = cc
or_none false y h = (refl, h)

module _ (a b d : Cached) (p q : List Event) (levels : b.levels ≡ a.levels) (l : StoresMove a p b) (m : StoresMove b q d) where
  -- the store of a cell in the middle
  middle : (n : ℕ) → store_of b n ≡ store_in b.shown (lane_of n (length a.shown))
  middle n = ap (λ k. store_in b.shown (lane_of n k)) l.lanes

  log_told : (n : ℕ) → IsTrue (store_of a n).told_log → IsTrue (store_of b n).told_log
  log_told n told = subst (λ (s : Contents). IsTrue s.told_log) (sym (middle n)) (subst IsTrue (sym (l.each (lane_of n (length a.shown))).told_log) told)

  in_b : (n : ℕ) → n < cells_of a.levels → n < cells_of b.levels
  in_b n lt = subst (λ (x : List Level). n < cells_of x) (sym levels) lt

  neither : (lane : ℕ) (key : List ℕ) → ((n : ℕ) → n < cells_of a.levels → lane_of n (length a.shown) ≡ lane → bytes_eq (edited_key a.levels n) key ≡ true → list_any (puts n) (p ++ q) ≡ false)
      → (n : ℕ) → n < cells_of a.levels → lane_of n (length a.shown) ≡ lane → bytes_eq (edited_key a.levels n) key ≡ true → (list_any (puts n) p ≡ false) × (list_any (puts n) q ≡ false)
  neither lane key none n lt there same = or_none _ _ (sym (list_any-append (puts n) p q) ∙ none n lt there same)

  puts_on : (n : ℕ) → n < cells_of a.levels → IsTrue (store_of a n).told_log
      → count_by (is_put (edited_key a.levels n)) (store_of d n).log ≡ count_by (is_put (edited_key a.levels n)) (store_of a n).log + count_by (saves n) (p ++ q)
  puts_on n lt told =
      let first = l.put_count n lt told in
      let second = subst (λ (x : List Level). count_by (is_put (edited_key x n)) (store_of d n).log ≡ count_by (is_put (edited_key x n)) (store_of b n).log + count_by (saves n) q) levels (m.put_count n (in_b n lt) (log_told n told)) in
      let both = count_by-append (saves n) p q in
      omega (arith, first, second, both)

  gets_on : (n : ℕ) → n < cells_of a.levels → IsTrue (store_of a n).told_log
      → count_by (is_get (edited_key a.levels n)) (store_of a n).log + count_by (loads n) (p ++ q) ≤ count_by (is_get (edited_key a.levels n)) (store_of d n).log
  gets_on n lt told =
      let first = l.get_count n lt told in
      let second = subst (λ (x : List Level). count_by (is_get (edited_key x n)) (store_of b n).log + count_by (loads n) q ≤ count_by (is_get (edited_key x n)) (store_of d n).log) levels (m.get_count n (in_b n lt) (log_told n told)) in
      let both = count_by-append (loads n) p q in
      omega (arith, first, second, both)

  -- The stores, over steps that follow one another.
  pub stores_on : StoresMove a (p ++ q) d
  stores_on = record {
    lanes = m.lanes ∙ l.lanes;
    each = λ lane. store_moves_on _ _ _ (l.each lane) (m.each lane);
    kept = λ lane key told none.
        let told_then : IsTrue (store_in b.shown lane).told = subst IsTrue (sym (l.each lane).told) told in
        m.kept lane key told_then (λ n lt there same. (neither lane key none n (subst (λ (x : List Level). n < cells_of x) levels lt) (ap (lane_of n) (sym l.lanes) ∙ there) (ap (λ (x : List Level). bytes_eq (edited_key x n) key) (sym levels) ∙ same)).1)
        ∙ l.kept lane key told (λ n lt there same. (neither lane key none n lt there same).0);
    put_count = puts_on;
    get_count = gets_on;
  }

-- the order after more events
order_after-append : (s : State) (o : Order) (p q : List Event) → order_after s o (p ++ q) ≡ order_after (after s p) (order_after s o p) q
order_after-append s o [] q = refl
order_after-append s o (e ∷ p) q = order_after-append (next s e) (order_next s o e) p q

-- is the same in states that are the same
order_same_next : (b : Shape) (s t : State) (o : Order) (e : Event) → IsSame b s t → order_next s o e ≡ order_next t o e
order_same_next b s t o (event.Pin k c) same = ap (touched_by o) (same.cells c)
order_same_next b s t o (event.Gone k c saved) same = ap (left_by o) (same.cells c)
order_same_next b s t o (event.Back k c) same = ap (touched_by o) (same.cells c)
order_same_next b s t o _ same = refl

pub order_same : (b : Shape) (s t : State) (o : Order) (events : List Event) → IsSame b s t → order_after s o events ≡ order_after t o events
order_same b s t o [] same = refl
order_same b s t o (e ∷ events) same = ap (λ x. order_after (next s e) x events) (order_same_next b s t o e same) ∙ order_same b (next s e) (next t e) (order_next t o e) events (same_next b s t e same)

-- Steps that follow one another are one.
pub moves_on : (a b d : Cached) (p q : List Event) → Moves a p b → Moves b q d → Moves a (p ++ q) d
moves_on a b d p q l m = record {
  levels = m.levels ∙ l.levels;
  keys = m.keys ∙ l.keys;
  shape = shape_trans _ _ _ l.shape m.shape;
  led = composes (shape_of a) (shape_of b) (state_of a) (state_of b) (state_of d) p q l.shape l.led m.led;
  order = m.order ∙ ap (λ o. order_after (state_of b) o q) l.order
      ∙ sym (order_after-append (state_of a) a.order p q ∙ order_same (shape_of a) _ _ (order_after (state_of a) a.order p) q l.led.reached);
  stores = stores_on a b d p q l.levels l.stores m.stores;
}

pub runs_on : (a b d : Cached) (p q : List Event) → Runs a p b → Runs b q d → Runs a (p ++ q) d
runs_on a b d p q l m = record {
  moves = moves_on a b d p q l.moves m.moves;
  tally = m.tally ∙ ap (λ t. tally_raised t q []) l.tally ∙ raised_more a.tally p q;
}

uncounted_none : AreUncounted []
uncounted_none = record { hits = refl; misses = refl; loads = refl; evictions = refl; writebacks = refl }

-- No events lead from a cache to itself.
pub moves_none : (a : Cached) → Moves a [] a
moves_none a = record {
  levels = refl;
  keys = refl;
  shape = record { cells = refl; slots = refl; voxels = λ _. refl; greatest = λ _. refl; told = λ _. refl; void = λ _ _ _. refl };
  led = record { legal = tt; reached = record { cells = λ _. refl; pins = λ _ _. refl; arrays = λ _ _ _ _ _. refl } };
  order = refl;
  stores = stores_still a a [] refl (λ _. refl) (λ _. refl);
}

pub runs_none : (a : Cached) → IsCache a → Runs a [] a
runs_none a valid = record { moves = moves_none a; tally = sym (raised_none a.tally [] valid.counted uncounted_none) }
