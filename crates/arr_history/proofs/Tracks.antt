-- What a checker keeps when one cell changes.
use Rattle.std.proofs.Common.{◌≡◌, ◌∙◌, ◌↔◌, ℕ, ◌<◌, Bool, false, List, length, EachIndex, IfNone, IfSome, inl, inr, Option, None, Some, slice_index, slice_index_or, slice_set, refl, sym, ap, subst, arith}
use Rattle.std.proofs.lemmas.List.{length-set, get_or_past}
use Rattle.std.proofs.lemmas.Bool.{cases_lt}
use Rattle.arr_history.specs.declared.cell_state.CellState.{CellState}
use Rattle.arr_history.specs.declared.cell_state.CellState.TheVariants as cell
use Rattle.arr_history.specs.State.{with_at, with_cell, with_pins, with_voxel}
use Rattle.arr_history.specs.Shape.{IsSameShape}
use Rattle.arr_history.specs.Legal.{IsLive, HasSlot}
use Rattle.arr_history.specs.Tracked.{Tracked, untracked, tracked_at, in_state, with_pins_of, lived, with_value}
use Rattle.arr_history.specs.Checked.{Checked, checked_shape, checked_state, IsChecked, Becomes}
use Rattle.arr_history.proofs.Sound.{at_cases}
use Rattle.arr_history.proofs.Lists.{set_cases, read_set}

-- a checker with other cells
abbrev pub with_cells : Checked → List Tracked → Checked
with_cells c cells = record { levels = c.levels; cells = cells; slots = c.slots; passes = c.passes }

-- what a cell may become
pub record MayBecome (c : Checked) (n : ℕ) (t : Tracked) : Type 0 where
  pub inside : n < length c.cells
  pub void : t.void ≡ (tracked_at c.cells n).void
  pub pins : length t.pins ≡ length (tracked_at c.cells n).pins
  pub array : length t.array ≡ length (tracked_at c.cells n).array
  pub pinned : (k : ℕ) → 0 < slice_index t.pins k → IsLive t.state

-- every other fact of a checker stays, where owners and slots agree
pub keeps : (c : Checked) (n : ℕ) (t : Tracked) (old new : List (Option ℕ)) → IsChecked c old → MayBecome c n t → length new ≡ length old
    → ((slot : ℕ) → HasSlot t.state slot → (slot < c.slots) × (slice_index_or new slot None ≡ Some n))
    → ((m slot : ℕ) → (n ≡ m → ⊥) → HasSlot (tracked_at c.cells m).state slot → slice_index_or new slot None ≡ Some m)
    → ((slot : ℕ) → slice_index_or new slot None ≡ Some n → HasSlot t.state slot)
    → ((m slot : ℕ) → (n ≡ m → ⊥) → slice_index_or new slot None ≡ Some m → HasSlot (tracked_at c.cells m).state slot)
    → IsChecked (with_cells c (slice_set c.cells n t)) new
keeps c n t old new valid may size takes others owned owns = record {
  cells = length-set c.cells n t ∙ valid.cells;
  slots = size ∙ valid.slots;
  pins = λ m h. set_cases (λ (x : Tracked). length x.pins ≡ c.passes) c.cells n t m untracked may.inside (λ _. may.pins ∙ valid.pins n may.inside) (λ _. valid.pins m (rw length-set at h));
  arrays = λ m h. set_cases (λ (x : Tracked). length x.array ≡ Rattle.cell_grid.specs.Pyramid.voxels_of c.levels m) c.cells n t m untracked may.inside
      (λ e. may.array ∙ subst (λ k. length (tracked_at c.cells n).array ≡ Rattle.cell_grid.specs.Pyramid.voxels_of c.levels k) e (valid.arrays n may.inside)) (λ _. valid.arrays m (rw length-set at h));
  pinned = λ m k. set_cases (λ (x : Tracked). 0 < slice_index x.pins k → IsLive x.state) c.cells n t m untracked may.inside (λ _. may.pinned k) (λ _. valid.pinned m k);
  owner = λ m slot. set_cases (λ (x : Tracked). HasSlot x.state slot → (slot < c.slots) × (slice_index_or new slot None ≡ Some m)) c.cells n t m untracked may.inside
      (λ e h. ((takes slot h).0, (takes slot h).1 ∙ ap Some e)) (λ ne h. ((valid.owner m slot h).0, others m slot ne h));
  owned = λ m slot. set_cases (λ (x : Tracked). slice_index_or new slot None ≡ Some m → HasSlot x.state slot) c.cells n t m untracked may.inside
      (λ e h. owned slot (h ∙ ap Some (sym e))) (λ ne h. owns m slot ne h);
}

-- a cell that keeps its slot, or has none, may change
pub keeps_slot : (c : Checked) (n : ℕ) (t : Tracked) (owners : List (Option ℕ)) → IsChecked c owners → MayBecome c n t
    → ((slot : ℕ) → HasSlot t.state slot ↔ HasSlot (tracked_at c.cells n).state slot) → IsChecked (with_cells c (slice_set c.cells n t)) owners
keeps_slot c n t owners valid may same = keeps c n t owners owners valid may refl
    (λ slot h. valid.owner n slot ((same slot).0 h)) (λ m slot _ h. (valid.owner m slot h).1) (λ slot h. (same slot).1 (valid.owned n slot h)) (λ m slot _ h. valid.owned m slot h)

-- what is fixed of a checker
pub same_shape : (c : Checked) (n : ℕ) (t : Tracked) → n < length c.cells → t.void ≡ (tracked_at c.cells n).void → IsSameShape (checked_shape c) (checked_shape (with_cells c (slice_set c.cells n t)))
same_shape c n t lt void = record {
  cells = refl;
  slots = refl;
  voxels = λ _. refl;
  greatest = λ _. refl;
  told = λ _. refl;
  void = λ m _ _. set_cases (λ (x : Tracked). (tracked_at c.cells m).void ≡ x.void) c.cells n t m untracked lt (λ e. ap (λ k. (tracked_at c.cells k).void) (sym e) ∙ sym void) (λ _. refl);
}

pub becomes_state : (c : Checked) (n : ℕ) (state : CellState) → n < length c.cells → Becomes c (with_cell (checked_state c) n state) (with_cells c (slice_set c.cells n (in_state (tracked_at c.cells n) state)))
becomes_state c n state lt = record {
  reached = record {
    cells = λ m. read_set (λ (x : Tracked). x.state) c.cells n (in_state (tracked_at c.cells n) state) m untracked lt;
    pins = λ k m. set_cases (λ (x : Tracked). slice_index (tracked_at c.cells m).pins k ≡ slice_index x.pins k) c.cells n (in_state (tracked_at c.cells n) state) m untracked lt (λ e. ap (λ j. slice_index (tracked_at c.cells j).pins k) (sym e)) (λ _. refl);
    arrays = λ m _ _ i _. set_cases (λ (x : Tracked). slice_index (tracked_at c.cells m).array i ≡ slice_index x.array i) c.cells n (in_state (tracked_at c.cells n) state) m untracked lt (λ e. ap (λ j. slice_index (tracked_at c.cells j).array i) (sym e)) (λ _. refl);
  };
  shape = same_shape c n (in_state (tracked_at c.cells n) state) lt refl;
  passes = refl;
}

-- the pins of a pass on one cell are changed
pins_set : (c : Checked) (n k : ℕ) (t : Tracked) (pins j m : ℕ) → n < length c.cells → k < length (tracked_at c.cells n).pins → t.pins ≡ slice_set (tracked_at c.cells n).pins k pins
    → with_at (checked_state c).pins k (with_at ((checked_state c).pins k) n pins) j m ≡ slice_index (tracked_at (slice_set c.cells n t) m).pins j
pins_set c n k t pins j m lt inside is = at_cases (λ (f : ℕ → ℕ). f m ≡ slice_index (tracked_at (slice_set c.cells n t) m).pins j) (checked_state c).pins k (with_at ((checked_state c).pins k) n pins) j
    (λ e. at_cases (λ x. x ≡ slice_index (tracked_at (slice_set c.cells n t) m).pins j) ((checked_state c).pins k) n pins m
    (λ nm. set_cases (λ (x : Tracked). pins ≡ slice_index x.pins j) c.cells n t m untracked lt
    (λ _. subst (λ l. pins ≡ slice_index l j) (sym is) (set_cases (λ x. pins ≡ x) (tracked_at c.cells n).pins k pins j 0 inside (λ _. refl) (λ ne. absurd (ne e)))) (λ ne. absurd (ne nm)))
    (λ ne. set_cases (λ (x : Tracked). slice_index (tracked_at c.cells m).pins k ≡ slice_index x.pins j) c.cells n t m untracked lt (λ nm. absurd (ne nm)) (λ _. ap (slice_index (tracked_at c.cells m).pins) e)))
    (λ ne. set_cases (λ (x : Tracked). slice_index (tracked_at c.cells m).pins j ≡ slice_index x.pins j) c.cells n t m untracked lt
    (λ nm. subst (λ l. slice_index (tracked_at c.cells m).pins j ≡ slice_index l j) (sym is) (set_cases (λ x. slice_index (tracked_at c.cells m).pins j ≡ x) (tracked_at c.cells n).pins k pins j 0 inside (λ e. absurd (ne e)) (λ _. ap (λ i. slice_index (tracked_at c.cells i).pins j) (sym nm)))) (λ _. refl))

pub becomes_pins : (c : Checked) (n k pins : ℕ) → n < length c.cells → k < length (tracked_at c.cells n).pins
    → Becomes c (with_pins (checked_state c) k n pins) (with_cells c (slice_set c.cells n (with_pins_of (tracked_at c.cells n) k pins)))
becomes_pins c n k pins lt inside = record {
  reached = record {
    cells = λ m. set_cases (λ (x : Tracked). (tracked_at c.cells m).state ≡ x.state) c.cells n (with_pins_of (tracked_at c.cells n) k pins) m untracked lt (λ e. ap (λ j. (tracked_at c.cells j).state) (sym e)) (λ _. refl);
    pins = λ j m. pins_set c n k (with_pins_of (tracked_at c.cells n) k pins) pins j m lt inside refl;
    arrays = λ m _ _ i _. set_cases (λ (x : Tracked). slice_index (tracked_at c.cells m).array i ≡ slice_index x.array i) c.cells n (with_pins_of (tracked_at c.cells n) k pins) m untracked lt (λ e. ap (λ j. slice_index (tracked_at c.cells j).array i) (sym e)) (λ _. refl);
  };
  shape = same_shape c n (with_pins_of (tracked_at c.cells n) k pins) lt refl;
  passes = refl;
}

pub becomes_voxel : (c : Checked) (n at x : ℕ) → n < length c.cells → at < length (tracked_at c.cells n).array
    → Becomes c (with_voxel (checked_state c) n at x) (with_cells c (slice_set c.cells n (with_value (tracked_at c.cells n) at x)))
becomes_voxel c n at x lt inside = record {
  reached = record {
    cells = λ m. set_cases (λ (y : Tracked). (tracked_at c.cells m).state ≡ y.state) c.cells n (with_value (tracked_at c.cells n) at x) m untracked lt (λ e. ap (λ j. (tracked_at c.cells j).state) (sym e)) (λ _. refl);
    pins = λ k m. set_cases (λ (y : Tracked). slice_index (tracked_at c.cells m).pins k ≡ slice_index y.pins k) c.cells n (with_value (tracked_at c.cells n) at x) m untracked lt (λ e. ap (λ j. slice_index (tracked_at c.cells j).pins k) (sym e)) (λ _. refl);
    arrays = λ m _ _ i _. at_cases (λ (f : ℕ → ℕ). f i ≡ slice_index (tracked_at (slice_set c.cells n (with_value (tracked_at c.cells n) at x)) m).array i) (checked_state c).arrays n (with_at ((checked_state c).arrays n) at x) m
        (λ nm. set_cases (λ (y : Tracked). with_at ((checked_state c).arrays n) at x i ≡ slice_index y.array i) c.cells n (with_value (tracked_at c.cells n) at x) m untracked lt
        (λ _. read_set (λ y. y) (tracked_at c.cells n).array at x i 0 inside) (λ ne. absurd (ne nm)))
        (λ ne. set_cases (λ (y : Tracked). slice_index (tracked_at c.cells m).array i ≡ slice_index y.array i) c.cells n (with_value (tracked_at c.cells n) at x) m untracked lt (λ nm. absurd (ne nm)) (λ _. refl));
  };
  shape = same_shape c n (with_value (tracked_at c.cells n) at x) lt refl;
  passes = refl;
}

-- where each pass in range has no pin, no pass has one
pub all_none : (pins : List ℕ) → EachIndex pins (λ k. slice_index pins k ≡ 0) → (k : ℕ) → slice_index pins k ≡ 0
all_none pins each k = elim (cases_lt k (length pins)) [ inl h ↦ each k h | inr h ↦ get_or_past pins k 0 h ]

pub some_same : {X : Type 0} (x y : X) → Some x ≡ Some y → x ≡ y
some_same x y e = cc

pub none_some : {X : Type 0} (x : X) → None ≡ Some x → ⊥
none_some x e = cc

-- what a loading cell may become
pub may_seat : (c : Checked) (n k slot pins : ℕ) (owners : List (Option ℕ)) → IsChecked c owners → n < length c.cells
    → MayBecome c n (lived (tracked_at c.cells n) slot k pins)
may_seat c n k slot pins owners valid lt = record { inside = lt; void = refl; pins = length-set (tracked_at c.cells n).pins k pins; array = refl; pinned = λ _ _. tt }

-- a loading cell becomes live in a slot that is free
pub keeps_seat : (c : Checked) (n slot : ℕ) (t : Tracked) (owners : List (Option ℕ)) → IsChecked c owners → MayBecome c n t → t.state ≡ cell.Live slot false → slot < length owners
    → ((d : ℕ) → ¬ HasSlot (tracked_at c.cells d).state slot) → ((s : ℕ) → ¬ HasSlot (tracked_at c.cells n).state s) → IsChecked (with_cells c (slice_set c.cells n t)) (slice_set owners slot (Some n))
keeps_seat c n slot t owners valid may is lt free none = keeps c n t owners (slice_set owners slot (Some n)) valid may (length-set owners slot (Some n))
    (λ s h. let e : slot ≡ s = subst (λ x. HasSlot x s) is h in (subst (λ m. m < c.slots) e (subst (λ m. slot < m) valid.slots lt), set_cases (λ (o : Option ℕ). o ≡ Some n) owners slot (Some n) s None lt (λ _. refl) (λ ne. absurd (ne e))))
    (λ m s ne h. set_cases (λ (o : Option ℕ). o ≡ Some m) owners slot (Some n) s None lt (λ e. absurd (free m (subst (λ x. HasSlot (tracked_at c.cells m).state x) (sym e) h))) (λ _. (valid.owner m s h).1))
    (λ s h. subst (λ x. HasSlot x s) (sym is) (set_cases (λ (o : Option ℕ). o ≡ Some n → slot ≡ s) owners slot (Some n) s None lt (λ e _. e)
    (λ _ h. absurd (none s (valid.owned n s h))) h))
    (λ m s ne h. set_cases (λ (o : Option ℕ). o ≡ Some m → HasSlot (tracked_at c.cells m).state s) owners slot (Some n) s None lt (λ _ e. absurd (ne (some_same n m e))) (λ _ e. valid.owned m s e) h)

-- a leaving cell leaves its slot
pub keeps_vacate : (c : Checked) (n slot : ℕ) (t : Tracked) (owners : List (Option ℕ)) → IsChecked c owners → MayBecome c n t → ((s : ℕ) → ¬ HasSlot t.state s)
    → HasSlot (tracked_at c.cells n).state slot → IsChecked (with_cells c (slice_set c.cells n t)) (slice_set owners slot None)
keeps_vacate c n slot t owners valid may none had =
    let was = valid.owner n slot had in
    let lt : slot < length owners = subst (λ m. slot < m) (sym valid.slots) was.0 in
    keeps c n t owners (slice_set owners slot None) valid may (length-set owners slot None)
    (λ s h. absurd (none s h))
    (λ m s ne h. set_cases (λ (o : Option ℕ). o ≡ Some m) owners slot None s None lt (λ e. absurd (ne (some_same n m (sym was.1 ∙ ap (λ x. slice_index_or owners x None) e ∙ (valid.owner m s h).1)))) (λ _. (valid.owner m s h).1))
    (λ s h. absurd (set_cases (λ (o : Option ℕ). o ≡ Some n → ⊥) owners slot None s None lt (λ _ e. none_some n e) (λ ne e. ne (one_slot (tracked_at c.cells n).state slot s had (valid.owned n s e))) h))
    (λ m s ne h. set_cases (λ (o : Option ℕ). o ≡ Some m → HasSlot (tracked_at c.cells m).state s) owners slot None s None lt (λ _ e. absurd (none_some m e)) (λ _ e. valid.owned m s e) h)
  where
    one_slot : (x : CellState) (s t : ℕ) → HasSlot x s → HasSlot x t → s ≡ t
    one_slot (cell.Live slot m) s t p q = sym p ∙ q
    one_slot (cell.Leaving k slot m) s t p q = sym p ∙ q
    one_slot cell.Absent s t p q = absurd p
    one_slot (cell.Loading k) s t p q = absurd p

pub becomes_live : (c : Checked) (n k slot pins : ℕ) → n < length c.cells → k < length (tracked_at c.cells n).pins
    → Becomes c (with_pins (with_cell (checked_state c) n (cell.Live slot false)) k n pins) (with_cells c (slice_set c.cells n (lived (tracked_at c.cells n) slot k pins)))
becomes_live c n k slot pins lt inside = record {
  reached = record {
    cells = λ m. read_set (λ (x : Tracked). x.state) c.cells n (lived (tracked_at c.cells n) slot k pins) m untracked lt;
    pins = λ j m. pins_set c n k (lived (tracked_at c.cells n) slot k pins) pins j m lt inside refl;
    arrays = λ m _ _ i _. set_cases (λ (x : Tracked). slice_index (tracked_at c.cells m).array i ≡ slice_index x.array i) c.cells n (lived (tracked_at c.cells n) slot k pins) m untracked lt (λ e. ap (λ j. slice_index (tracked_at c.cells j).array i) (sym e)) (λ _. refl);
  };
  shape = same_shape c n (lived (tracked_at c.cells n) slot k pins) lt refl;
  passes = refl;
}

-- nobody has a pin on a loading cell
pub no_pins : (c : Checked) (n k j : ℕ) (owners : List (Option ℕ)) → IsChecked c owners → (tracked_at c.cells n).state ≡ cell.Loading j → slice_index (tracked_at c.cells n).pins k ≡ 0
no_pins c n k j owners valid is = elim (cases_lt 0 (slice_index (tracked_at c.cells n).pins k)) [
  | inl h ↦ absurd (subst IsLive is (valid.pinned n k h))
  | inr h ↦ omega (arith, h)
]

-- a free slot is no cell's, and a taken one is its owner's
pub owner_none : (c : Checked) (owners : List (Option ℕ)) (slot : ℕ) (o : Option ℕ) → IsChecked c owners → slice_index_or owners slot None ≡ o → IfNone o ((d : ℕ) → ¬ HasSlot (tracked_at c.cells d).state slot)
owner_none c owners slot None valid is = λ d h. none_some d (sym is ∙ (valid.owner d slot h).1)
owner_none c owners slot (Some n) valid is = tt

pub owner_some : (c : Checked) (owners : List (Option ℕ)) (slot : ℕ) (o : Option ℕ) → IsChecked c owners → slice_index_or owners slot None ≡ o → IfSome o (λ d. HasSlot (tracked_at c.cells d).state slot)
owner_some c owners slot None valid is = tt
owner_some c owners slot (Some n) valid is = valid.owned n slot is

-- nobody has a pin on a leaving cell
pub leaving_unpinned : (pins : ℕ → ℕ) (x : CellState) (j slot : ℕ) (m : Bool) → ((k : ℕ) → 0 < pins k → IsLive x) → x ≡ cell.Leaving j slot m → (k : ℕ) → pins k ≡ 0
leaving_unpinned pins x j slot m live is k = elim (cases_lt 0 (pins k)) [
  | inl h ↦ absurd (subst IsLive is (live k h))
  | inr h ↦ omega (arith, h)
]
