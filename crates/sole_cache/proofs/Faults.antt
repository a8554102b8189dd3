-- Counts of faults: they never fall, and each fault that is told is one rise.
use Rattle.std.proofs.Common.{◌≡◌, ℕ, zero, suc, ◌+◌, ◌-◌, ◌^◌, ◌<◌, ◌≤◌, Bool, true, false, not, List, [], ◌∷◌, ◌++◌, length, refl, sym, ap, subst, arith}
use Rattle.std.proofs.lemmas.List.Sums.{sum_by-cons}
use Rattle.arr_history.specs.declared.closed.Unsaved.{Unsaved}
use Rattle.arr_history.specs.declared.event.Event.{Event}
use Rattle.arr_history.proofs.Counts.{count_by-append}
use Rattle.cell_grid.specs.Pyramid.{lane_of}
use Rattle.cell_store.specs.Faults.{Rose}
use Rattle.cell_store.specs.Store.{Contents}
use Rattle.sole_cache.specs.Cached.{Cached, store_in, store_of}
use Rattle.sole_cache.specs.Moves.{StoresMove}
use Rattle.sole_cache.specs.Shut.{all_faults, failed_puts, AreCaused, AreCounting, Licenses}

rose_before : (x y z : ℕ) → x ≤ y → Rose y z → Rose x z
rose_before x y z le rose = grind arith

rose_later : (x y z : ℕ) → Rose x y → y ≤ z → Rose x z
rose_later x y z rose le = grind arith

-- a count that rose, and doesn't stand at its last value, is greater
rose_more : (x y : ℕ) → Rose x y → y < 2 ^ 64 - 1 → x + 1 ≤ y
rose_more x y rose few = grind arith

none_rose : (x : ℕ) → Rose x 0 → ⊥
none_rose x rose = grind arith

all_of : (x : Contents) (xs : List Contents) → all_faults (x ∷ xs) ≡ x.faults + all_faults xs
all_of x xs = sum_by-cons (λ (s : Contents). s.faults) x xs

-- counts that never fall have no smaller sum
pub sum_grows : (xs ys : List Contents) → length ys ≡ length xs → ((i : ℕ) → (store_in xs i).faults ≤ (store_in ys i).faults) → all_faults xs ≤ all_faults ys
sum_grows [] ys same each = omega arith
sum_grows (x ∷ xs) [] same each = absurd (omega (arith, same))
sum_grows (x ∷ xs) (y ∷ ys) same each =
    let head : x.faults ≤ y.faults = each 0 in
    let rest : all_faults xs ≤ all_faults ys = sum_grows xs ys (omega (arith, same)) (λ i. each (suc i)) in
    omega (arith, head, rest, all_of x xs, all_of y ys)

-- and where one of them rose, a greater one
pub sum_rises : (xs ys : List Contents) (lane : ℕ) → length ys ≡ length xs → ((i : ℕ) → (store_in xs i).faults ≤ (store_in ys i).faults) → Rose (store_in xs lane).faults (store_in ys lane).faults
    → (store_in ys lane).faults < 2 ^ 64 - 1 → all_faults xs + 1 ≤ all_faults ys
sum_rises [] [] lane same each rose few = absurd (none_rose 0 rose)
sum_rises [] (y ∷ ys) lane same each rose few = absurd (omega (arith, same))
sum_rises (x ∷ xs) [] lane same each rose few = absurd (omega (arith, same))
sum_rises (x ∷ xs) (y ∷ ys) zero same each rose few =
    let head : x.faults + 1 ≤ y.faults = rose_more x.faults y.faults rose few in
    let rest : all_faults xs ≤ all_faults ys = sum_grows xs ys (omega (arith, same)) (λ i. each (suc i)) in
    omega (arith, head, rest, all_of x xs, all_of y ys)
sum_rises (x ∷ xs) (y ∷ ys) (suc lane) same each rose few =
    let head : x.faults ≤ y.faults = each 0 in
    let rest : all_faults xs + 1 ≤ all_faults ys = sum_rises xs ys lane (omega (arith, same)) (λ i. each (suc i)) rose few in
    omega (arith, head, rest, all_of x xs, all_of y ys)

module _ (a b : Cached) (events : List Event) (m : StoresMove a events b) where
  -- what the store of a cell shows after the events
  then_store : (n : ℕ) → store_of b n ≡ store_in b.shown (lane_of n (length a.shown))
  then_store n = ap (λ k. store_in b.shown (lane_of n k)) m.lanes

  pub faults_grow : all_faults a.shown ≤ all_faults b.shown
  faults_grow = sum_grows a.shown b.shown m.lanes (λ i. (m.each i).never_falls)

  -- no fault of one store falls
  pub fault_grows : (n : ℕ) → (store_of a n).faults ≤ (store_of b n).faults
  fault_grows n = subst (λ (s : Contents). (store_of a n).faults ≤ s.faults) (sym (then_store n)) (m.each (lane_of n (length a.shown))).never_falls

  -- a store that failed is a rise of the sum
  pub fault_rises : (n : ℕ) → Rose (store_of a n).faults (store_of b n).faults → AreCounting b.shown → all_faults a.shown + 1 ≤ all_faults b.shown
  fault_rises n rose few = sum_rises a.shown b.shown (lane_of n (length a.shown)) m.lanes (λ i. (m.each i).never_falls)
      (subst (λ (s : Contents). Rose (store_of a n).faults s.faults) (then_store n) rose) (few (lane_of n (length a.shown)))

  -- where no count stands at its last value now, none did before
  pub counting_before : AreCounting b.shown → AreCounting a.shown
  counting_before few lane = let now = few lane in let grew = (m.each lane).never_falls in omega (arith, now, grew)

  pub caused_before : (d : Cached) (unsaved : List Unsaved) → AreCaused b d unsaved → AreCaused a d unsaved
  caused_before d [] h = tt
  caused_before d (u ∷ unsaved) h = (λ fault. rose_before _ _ _ (fault_grows u.cell) (h.0 fault), caused_before d unsaved h.1)

  pub caused_later : (d : Cached) (unsaved : List Unsaved) → AreCaused d a unsaved → AreCaused d b unsaved
  caused_later d [] h = tt
  caused_later d (u ∷ unsaved) h = (λ fault. rose_later _ _ _ (h.0 fault) (fault_grows u.cell), caused_later d unsaved h.1)

  -- events by which nothing failed
  pub none_failed : Licenses a.shown 0 b.shown
  none_failed few = let grew = faults_grow in omega (arith, grew)

pub caused_both : (a b : Cached) (u v : List Unsaved) → AreCaused a b u → AreCaused a b v → AreCaused a b (u ++ v)
caused_both a b [] v h k = k
caused_both a b (x ∷ u) v h k = (h.0, caused_both a b u v h.1 k)

-- faults of two parts one after another
pub licenses_on : (a b d : Cached) (events : List Event) (k l : ℕ) → StoresMove b events d → Licenses a.shown k b.shown → Licenses b.shown l d.shown → Licenses a.shown (k + l) d.shown
licenses_on a b d events k l m first second few =
    let before = first (counting_before b d events m few) in
    let after = second few in
    omega (arith, before, after)

pub both_failed : (a b d : Cached) (events : List Event) (u v : List Unsaved) → StoresMove b events d → Licenses a.shown (failed_puts u) b.shown → Licenses b.shown (failed_puts v) d.shown
    → Licenses a.shown (failed_puts (u ++ v)) d.shown
both_failed a b d events u v m first second = subst (λ k. Licenses a.shown k d.shown) (sym (count_by-append (λ (x : Unsaved). not x.memory) u v))
    (licenses_on a b d events (failed_puts u) (failed_puts v) m first second)

-- the cell that came back
pub one_failed : (a b : Cached) (events : List Event) (n : ℕ) (memory : Bool) → StoresMove a events b → (memory ≡ false → Rose (store_of a n).faults (store_of b n).faults)
    → Licenses a.shown (failed_puts (record { cell = n; memory = memory } ∷ [])) b.shown
one_failed a b events n true m rose few = let grew = faults_grow a b events m in omega (arith, grew)
one_failed a b events n false m rose few = let grew = fault_rises a b events m n (rose refl) few in omega (arith, grew)
