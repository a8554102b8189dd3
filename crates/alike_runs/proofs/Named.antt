-- No cell is named twice by the shutting of a cache.
use Rattle.std.proofs.Common.{◌≡◌, ◌∙◌, ℕ, ◌<◌, ◌≤◌, ◌==◌, Bool, true, false, cond, List, [], ◌∷◌, length, count_by, Option, None, Some, sym, ap, subst, arith}
use Rattle.std.proofs.lemmas.Bool.{eqb-true}
use Rattle.std.proofs.lemmas.List.Sums.{sum_by-cons, sum_by-append}
use Rattle.cell_grid.specs.declared.level.Level.{Level}
use Rattle.cell_store.specs.declared.store.Put.{Put}
use Rattle.cell_store.specs.declared.store.Put.TheVariants as put
use Rattle.store_calls.specs.Calls.{StoreCall}
use Rattle.arr_history.specs.declared.closed.Unsaved.{Unsaved}
use Rattle.sole_cache.specs.Slot.{SlotValue, no_slot}
use Rattle.sole_cache.specs.Cached.{Cached, slot_of, slot_at}
use Rattle.sole_cache.specs.Valid.{IsCache}
use Rattle.sole_cache.specs.Puts.{named_by, IsPutWhere, IsPutAt, ArePut}
use Rattle.alike_runs.proofs.Ascending.{count, AreApart}
use Rattle.alike_runs.proofs.Once.{passes_once}

-- whether a slot has a cell
unfoldable pub owns_at : ℕ → Option ℕ → Bool
owns_at k None = false
owns_at k (Some n) = n == k

unfoldable pub owns : ℕ → SlotValue → Bool
owns k s = owns_at k s.cell

number_of : Unsaved → ℕ
number_of u = u.cell

module _ (levels : List Level) (lanes k : ℕ) where
  named_once : (n : ℕ) (answer : Put) → count (λ (u : Unsaved). u.cell) k (named_by n answer) ≤ cond (n == k) 1 0
  named_once n put.Done = omega arith
  named_once n put.Failed = let one = sum_by-cons (λ (u : Unsaved). cond (u.cell == k) 1 0) (record { cell = n; memory = false }) [] in omega (arith, one)
  named_once n put.NoMemory = let one = sum_by-cons (λ (u : Unsaved). cond (u.cell == k) 1 0) (record { cell = n; memory = true }) [] in omega (arith, one)

  where_once : (marked : Bool) (n : ℕ) (frame : List ℕ) (u : List Unsaved) (calls : List StoreCall) → IsPutWhere levels lanes marked n frame u calls → count (λ (u : Unsaved). u.cell) k u ≤ cond (n == k) 1 0
  where_once false n frame u calls (none, asked) = subst (λ l. count (λ (u : Unsaved). u.cell) k l ≤ cond (n == k) 1 0) (sym none) (omega arith)
  where_once true n frame u calls (answer, is, asked) = subst (λ l. count (λ (u : Unsaved). u.cell) k l ≤ cond (n == k) 1 0) (sym is) (named_once n answer)

  at_once : (s : SlotValue) (o : Option ℕ) (u : List Unsaved) (calls : List StoreCall) → IsPutAt levels lanes s o u calls → count (λ (u : Unsaved). u.cell) k u ≤ cond (owns_at k o) 1 0
  unfolding owns_at
  at_once s None u calls (none, asked) = subst (λ l. count (λ (u : Unsaved). u.cell) k l ≤ 0) (sym none) (omega arith)
  at_once s (Some n) u calls put = where_once s.marked n s.frame u calls put

  named_by_owners : (slots : List SlotValue) (u : List Unsaved) (calls : List StoreCall) → ArePut levels lanes slots u calls → count (λ (u : Unsaved). u.cell) k u ≤ count_by (owns k) slots
  unfolding owns
  named_by_owners [] u calls (none, asked) = subst (λ l. count (λ (u : Unsaved). u.cell) k l ≤ 0) (sym none) (omega arith)
  named_by_owners (s ∷ slots) u calls (first, more, asked, rest, one, others, split, asks) =
      let here = at_once s s.cell first asked one in
      let then_on = named_by_owners slots more rest others in
      let both = sum_by-append (λ (u : Unsaved). cond (u.cell == k) 1 0) first more in
      let owners = sum_by-cons (λ s. cond (owns k s) 1 0) s slots in
      subst (λ l. count (λ (u : Unsaved). u.cell) k l ≤ count_by (owns k) (s ∷ slots)) (sym split) (omega (arith, here, then_on, both, owners))

-- a slot that has the cell
owner_is : (k : ℕ) (o : Option ℕ) → owns_at k o ≡ true → o ≡ Some k
unfolding owns_at
owner_is k None h = cc
owner_is k (Some n) h = ap Some (eqb-true n k h)

-- A cell is in one slot.
pub owned_once : (c : Cached) (k : ℕ) → IsCache c → count_by (owns k) c.slots ≤ 1
unfolding owns
owned_once c k valid = passes_once (owns k) no_slot c.slots same
  where
    in_table : (i : ℕ) → owns k (slot_at c i) ≡ true → slot_of c k ≡ Some i
    in_table i h = (valid.seated.in_table i k (owner_is k (slot_at c i).cell h)).1

    some_same : (i j : ℕ) → Some i ≡ Some j → i ≡ j
    some_same i j e = cc

    same : (i j : ℕ) → i < length c.slots → j < length c.slots → owns k (slot_at c i) ≡ true → owns k (slot_at c j) ≡ true → i ≡ j
    same i j li lj hi hj = some_same i j (sym (in_table i hi) ∙ in_table j hj)

-- No two cells that a shutting names are the same.
pub named_apart : (c : Cached) (lanes : ℕ) (u : List Unsaved) (calls : List StoreCall) → IsCache c → ArePut c.levels lanes c.slots u calls → AreApart (λ (u : Unsaved). u.cell) u
named_apart c lanes u calls valid put k = let few = named_by_owners c.levels lanes k c.slots u calls put in let one = owned_once c k valid in omega (arith, few, one)
