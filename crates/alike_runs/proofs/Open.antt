-- A cell that shutting names has a put of its own that was not done, and no later one.
use Rattle.std.proofs.Common.{◌≡◌, ◌∙◌, ℕ, ◌<◌, ◌≤◌, ◌==◌, ◌&&◌, Bool, true, false, cond, List, [], ◌∷◌, ◌++◌, length, take, count_by, Option, None, Some, suc, slice_index_or, refl, sym, ap, subst, arith}
use Rattle.std.specs.Str.{bytes_eq}
use Rattle.std.proofs.lemmas.Bool.{eqb-true}
use Rattle.std.proofs.lemmas.Slice.Eq.{bytes_eq-Decides}
use Rattle.std.proofs.lemmas.Bool.Decides.{nat_tests}
use Rattle.std.proofs.lemmas.List.Sums.{sum_by-cons}
use Rattle.cell_file.specs.Asks.{save_call}
use Rattle.cell_file.specs.Keys.{edited_key}
use Rattle.cell_grid.specs.declared.level.Level.{Level}
use Rattle.cell_grid.specs.Pyramid.{cells_of, lane_of, voxels_of}
use Rattle.cell_store.specs.declared.store.Put.{Put}
use Rattle.cell_store.specs.declared.store.Put.TheVariants as put
use Rattle.arr_history.specs.declared.closed.Unsaved.{Unsaved}
use Rattle.store_calls.specs.Calls.{StoreCall, is_undone, is_left_open}
use Rattle.store_calls.proofs.Leaving.{open_on}
use Rattle.sole_cache.specs.Slot.{SlotValue, no_slot}
use Rattle.sole_cache.specs.Cached.{Cached, slot_at}
use Rattle.sole_cache.specs.Valid.{IsCache}
use Rattle.cell_file.specs.Keys.{AreKeys}
use Rattle.cell_store.specs.Store.{Contents}
use Rattle.store_calls.specs.Calls.{AreCalled}
use Rattle.store_calls.proofs.Parts.{called_lanes}
use Rattle.cell_file.proofs.KeyLemmas.{are_their_own}
use Rattle.sole_cache.specs.Puts.{named_by, IsPutWhere, IsPutAt, ArePut}
use Rattle.alike_caches.specs.Alike.{IsUnnamedKey}
use Rattle.alike_runs.proofs.Named.{owns_at, owns, owned_once}

same_lane : (a b : ℕ) → a ≡ b → (a == b) ≡ true
same_lane a b e = grind (arith, nat_tests)

true_false : true ≡ false → ⊥
true_false e = cc

same_bytes : (a b : List ℕ) → bytes_eq a b ≡ true → a ≡ b
same_bytes a b e = (bytes_eq-Decides a b).0 e

abbrev number : Bool → ℕ
number b = cond b 1 0

-- a slot that has a cell owns it, and one that doesn't own it has another
is_owned : (n : ℕ) (s : SlotValue) → s.cell ≡ Some n → owns n s ≡ true
unfolding owns owns_at
is_owned n s is = ap (owns_at n) is ∙ same_lane n n refl

not_owned : (n : ℕ) (s : SlotValue) → number (owns n s) ≡ 0 → s.cell ≡ Some n → ⊥
not_owned n s none is = let hit : number (owns n s) ≡ 1 = ap number (is_owned n s is) in omega (arith, none, hit)

module _ (levels : List Level) (lanes lane : ℕ) (key : List ℕ) where
  -- the cell's key is another one, or of another store
  abbrev IsAway : ℕ → Type 0
  IsAway n = lane_of n lanes ≡ lane → bytes_eq (edited_key levels n) key ≡ false

  -- no slot has a cell with this key
  abbrev AreAway : List SlotValue → Type 0
  AreAway [] = Unit {0}
  AreAway (s ∷ slots) = ((n : ℕ) → s.cell ≡ Some n → IsAway n) × AreAway slots

  one_call : (n : ℕ) (values : List ℕ) (answer : Put) (b : Bool) → IsAway n → is_left_open lane key b (save_call levels (lane_of n lanes) n values answer ∷ []) ≡ b
  one_call n values answer b away = go (lane_of n lanes == lane) refl
    where
      go : (t : Bool) → (lane_of n lanes == lane) ≡ t → cond ((lane_of n lanes == lane) && bytes_eq (edited_key levels n) key) (is_undone answer) b ≡ b
      go true e = ap (λ x. cond (x && bytes_eq (edited_key levels n) key) (is_undone answer) b) e ∙ ap (λ x. cond x (is_undone answer) b) (away (eqb-true (lane_of n lanes) lane e))
      go false e = ap (λ x. cond (x && bytes_eq (edited_key levels n) key) (is_undone answer) b) e

  where_away : (marked : Bool) (n : ℕ) (frame : List ℕ) (u : List Unsaved) (calls : List StoreCall) (b : Bool) → IsAway n → IsPutWhere levels lanes marked n frame u calls → is_left_open lane key b calls ≡ b
  where_away false n frame u calls b away (none, asked) = ap (is_left_open lane key b) asked
  where_away true n frame u calls b away (answer, named, asked) = ap (is_left_open lane key b) asked ∙ one_call n (take (voxels_of levels n) frame) answer b away

  at_away : (s : SlotValue) (o : Option ℕ) (u : List Unsaved) (calls : List StoreCall) (b : Bool) → ((n : ℕ) → o ≡ Some n → IsAway n) → IsPutAt levels lanes s o u calls → is_left_open lane key b calls ≡ b
  at_away s None u calls b away (none, asked) = ap (is_left_open lane key b) asked
  at_away s (Some n) u calls b away put = where_away s.marked n s.frame u calls b (away n refl) put

  all_away : (slots : List SlotValue) (u : List Unsaved) (calls : List StoreCall) (b : Bool) → AreAway slots → ArePut levels lanes slots u calls → is_left_open lane key b calls ≡ b
  all_away [] u calls b away (none, asked) = ap (is_left_open lane key b) asked
  all_away (s ∷ slots) u calls b (here, there) (first, more, asked, rest, one, others, split, asks) =
      ap (is_left_open lane key b) asks ∙ open_on lane key b asked rest ∙ ap (λ x. is_left_open lane key x rest) (at_away s s.cell first asked b here one) ∙ all_away slots more rest b there others

  -- every cell in these slots is one of the pyramid
  abbrev pub AreCells : List SlotValue → Type 0
  AreCells [] = Unit {0}
  AreCells (s ∷ slots) = ((n : ℕ) → s.cell ≡ Some n → n < cells_of levels) × AreCells slots

  module _ (own : (m n : ℕ) → m < cells_of levels → n < cells_of levels → edited_key levels m ≡ edited_key levels n → m ≡ n) where
    -- a slot without the cell has a cell with another key
    other_away : (n m : ℕ) → n < cells_of levels → m < cells_of levels → bytes_eq (edited_key levels n) key ≡ true → (m ≡ n → ⊥) → IsAway m
    other_away n m ln lm hit differ there = go (bytes_eq (edited_key levels m) key) refl
      where
        go : (t : Bool) → bytes_eq (edited_key levels m) key ≡ t → bytes_eq (edited_key levels m) key ≡ false
        go true e = absurd (differ (own m n lm ln (same_bytes (edited_key levels m) key e ∙ sym (same_bytes (edited_key levels n) key hit))))
        go false e = e

    away_from : (n : ℕ) (slots : List SlotValue) → n < cells_of levels → bytes_eq (edited_key levels n) key ≡ true → count_by (owns n) slots ≡ 0 → AreCells slots → AreAway slots
    away_from n [] ln hit none cells = tt
    away_from n (s ∷ slots) ln hit none (here, there) =
        let all = sum_by-cons (λ s. cond (owns n s) 1 0) s slots in
        (λ m is. other_away n m ln (here m is) hit (λ e. not_owned n s (omega (arith, all, none)) (is ∙ ap Some e)), away_from n slots ln hit (omega (arith, all, none)) there)

    -- a cell whose put was not done has another key, where that key isn't left open
    named_away : (n : ℕ) (slots : List SlotValue) (more : List Unsaved) (rest : List StoreCall) (values : List ℕ) (answer : Put) (b : Bool) → n < cells_of levels → AreCells slots → count_by (owns n) slots ≡ 0
        → ArePut levels lanes slots more rest → is_undone answer ≡ true → is_left_open lane key (is_left_open lane key b (save_call levels (lane_of n lanes) n values answer ∷ [])) rest ≡ false → IsAway n
    named_away n slots more rest values answer b ln cells only others undone closed there = go (bytes_eq (edited_key levels n) key) refl
      where
        go : (t : Bool) → bytes_eq (edited_key levels n) key ≡ t → bytes_eq (edited_key levels n) key ≡ false
        go false e = e
        go true e =
            let hit : cond ((lane_of n lanes == lane) && bytes_eq (edited_key levels n) key) (is_undone answer) b ≡ true =
            ap (λ x. cond (x && bytes_eq (edited_key levels n) key) (is_undone answer) b) (same_lane (lane_of n lanes) lane there) ∙ ap (λ x. cond x (is_undone answer) b) e ∙ undone in
            let stays = all_away slots more rest true (away_from n slots ln e only cells) others in
            absurd (true_false (sym stays ∙ ap (λ x. is_left_open lane key x rest) (sym hit) ∙ closed))

    by_answer : (n : ℕ) (slots : List SlotValue) (more : List Unsaved) (rest : List StoreCall) (values : List ℕ) (answer : Put) (b : Bool) → n < cells_of levels → AreCells slots → count_by (owns n) slots ≡ 0
        → ArePut levels lanes slots more rest → is_left_open lane key (is_left_open lane key b (save_call levels (lane_of n lanes) n values answer ∷ [])) rest ≡ false → IsUnnamedKey levels lanes (named_by n answer) lane key
    by_answer n slots more rest values put.Done b ln cells only others closed = tt
    by_answer n slots more rest values put.Failed b ln cells only others closed = (named_away n slots more rest values put.Failed b ln cells only others refl closed, tt)
    by_answer n slots more rest values put.NoMemory b ln cells only others closed = (named_away n slots more rest values put.NoMemory b ln cells only others refl closed, tt)

    by_mark : (marked : Bool) (n : ℕ) (frame : List ℕ) (slots : List SlotValue) (first more : List Unsaved) (asked rest : List StoreCall) (b : Bool) → n < cells_of levels → AreCells slots → count_by (owns n) slots ≡ 0
        → IsPutWhere levels lanes marked n frame first asked → ArePut levels lanes slots more rest → is_left_open lane key (is_left_open lane key b asked) rest ≡ false → IsUnnamedKey levels lanes first lane key
    by_mark false n frame slots first more asked rest b ln cells only (none, nothing) others closed = subst (λ (l : List Unsaved). IsUnnamedKey levels lanes l lane key) (sym none) tt
    by_mark true n frame slots first more asked rest b ln cells only (answer, named, is) others closed =
        subst (λ (l : List Unsaved). IsUnnamedKey levels lanes l lane key) (sym named)
        (by_answer n slots more rest (take (voxels_of levels n) frame) answer b ln cells only others (ap (λ x. is_left_open lane key (is_left_open lane key b x) rest) (sym is) ∙ closed))

    by_slot : (s : SlotValue) (o : Option ℕ) (slots : List SlotValue) (first more : List Unsaved) (asked rest : List StoreCall) (b : Bool) → ((n : ℕ) → o ≡ Some n → (n < cells_of levels) × (count_by (owns n) slots ≡ 0)) → AreCells slots
        → IsPutAt levels lanes s o first asked → ArePut levels lanes slots more rest → is_left_open lane key (is_left_open lane key b asked) rest ≡ false → IsUnnamedKey levels lanes first lane key
    by_slot s None slots first more asked rest b owner cells (none, nothing) others closed = subst (λ (l : List Unsaved). IsUnnamedKey levels lanes l lane key) (sym none) tt
    by_slot s (Some n) slots first more asked rest b owner cells put others closed = by_mark s.marked n s.frame slots first more asked rest b (owner n refl).0 cells (owner n refl).1 put others closed

    unnamed_on : (us vs : List Unsaved) → IsUnnamedKey levels lanes us lane key → IsUnnamedKey levels lanes vs lane key → IsUnnamedKey levels lanes (us ++ vs) lane key
    unnamed_on [] vs g h = h
    unnamed_on (u ∷ us) vs (here, g) h = (here, unnamed_on us vs g h)

    -- A key that the shutting doesn't leave open is of no cell that it names.
    pub named_open : (slots : List SlotValue) (u : List Unsaved) (calls : List StoreCall) (b : Bool) → ((k : ℕ) → count_by (owns k) slots ≤ 1) → AreCells slots → ArePut levels lanes slots u calls
        → is_left_open lane key b calls ≡ false → IsUnnamedKey levels lanes u lane key
    named_open [] u calls b once cells (none, asked) closed = subst (λ (l : List Unsaved). IsUnnamedKey levels lanes l lane key) (sym none) tt
    named_open (s ∷ slots) u calls b once (here, there) (first, more, asked, rest, one, others, split, asks) closed =
        let then : is_left_open lane key (is_left_open lane key b asked) rest ≡ false = sym (open_on lane key b asked rest) ∙ ap (is_left_open lane key b) (sym asks) ∙ closed in
        let later = named_open slots more rest (is_left_open lane key b asked) fewer there others then in
        subst (λ (l : List Unsaved). IsUnnamedKey levels lanes l lane key) (sym split) (unnamed_on first more (by_slot s s.cell slots first more asked rest b (λ n is. (here n is, only n is)) there one others then) later)
      where
        fewer : (k : ℕ) → count_by (owns k) slots ≤ 1
        fewer k = let all = sum_by-cons (λ s. cond (owns k s) 1 0) s slots in let few = once k in omega (arith, all, few)

        only : (n : ℕ) → s.cell ≡ Some n → count_by (owns n) slots ≡ 0
        only n is = let all = sum_by-cons (λ s. cond (owns n s) 1 0) s slots in let hit : number (owns n s) ≡ 1 = ap number (is_owned n s is) in let few = once n in omega (arith, all, few, hit)

cells_from : (levels : List Level) (lanes lane : ℕ) (key : List ℕ) (d : SlotValue) (slots : List SlotValue) → ((i n : ℕ) → i < length slots → (slice_index_or slots i d).cell ≡ Some n → n < cells_of levels)
    → AreCells levels lanes lane key slots
cells_from levels lanes lane key d [] all = tt
cells_from levels lanes lane key d (s ∷ slots) all = ((λ n is. all 0 n (omega arith) is), cells_from levels lanes lane key d slots (λ i n lt is. all (suc i) n (omega (arith, lt)) is))

-- A key that the shutting of a cache doesn't leave open is of no cell that it names.
pub unnamed_after : (c : Cached) (after : List Contents) (u : List Unsaved) (calls : List StoreCall) (b : Bool) (lane : ℕ) (key : List ℕ) → AreKeys c.keys → IsCache c → ArePut c.levels (length c.shown) c.slots u calls
    → AreCalled calls c.shown after → is_left_open lane key b calls ≡ false → IsUnnamedKey c.levels (length after) u lane key
unnamed_after c after u calls b lane key own valid put called closed =
    subst (λ n. IsUnnamedKey c.levels n u lane key) (sym (called_lanes calls c.shown after called))
    (named_open c.levels (length c.shown) lane key distinct c.slots u calls b (λ k. owned_once c k valid) (cells_from c.levels (length c.shown) lane key no_slot c.slots (λ i n lt is. in_range i n is)) put closed)
  where
    distinct : (m n : ℕ) → m < cells_of c.levels → n < cells_of c.levels → edited_key c.levels m ≡ edited_key c.levels n → m ≡ n
    distinct = subst (λ (l : List Level). (m n : ℕ) → m < cells_of l → n < cells_of l → edited_key l m ≡ edited_key l n → m ≡ n) valid.fitted.keyed (are_their_own c.keys own).edited

    in_range : (i n : ℕ) → (slot_at c i).cell ≡ Some n → n < cells_of c.levels
    in_range i n is = subst (λ k. n < k) valid.fitted.cells (valid.seated.in_table i n is).0
