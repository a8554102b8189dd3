-- How a load meets the conditions of its calls: what was got is due, the store may come home, and a refused block is refused from the first.
use Rattle.std.proofs.Common.{◌≡◌, ◌≢◌, ◌∙◌, ℕ, zero, suc, ◌+◌, ◌<◌, ◌≤◌, ◌==◌, cond, Bool, true, false, true≢false, List, [], ◌∷◌, length, Option, Some, None, slice_index, refl, sym, ap, subst, arith}
use Rattle.std.specs.Prelude.{IsTrue, is_none}
use Rattle.std.proofs.lemmas.Bool.{eqb-true}
use mathlib.Core.Option.{some}
use lib.ListN.{get_elem?}
use Rattle.arr_history.specs.declared.event.Event.{Event}
use Rattle.arr_history.specs.History.{after}
use Rattle.cell_store.specs.Store.{held_of}
use Rattle.stood_arrays.specs.Moves.{Fetched}
use Rattle.pin_words.specs.declared.holding.Held.{Held}
use Rattle.pin_words.specs.declared.lane.Taken.{Taken}
use Rattle.pin_words.specs.declared.doing.Doing.{Doing}
use Rattle.pin_words.specs.Plan.{Plan, is_void, start_of}
use Rattle.pin_words.specs.Standing.{StandsFor, gets_under}
use Rattle.pin_words.specs.Account.{times_in, has_mark, InLane, Stood, Returns}
use Rattle.pin_words.specs.Cells.{held, IsFilled}
use Rattle.pin_words.specs.Lanes.{taken}
use Rattle.pin_rule.specs.declared.made.Made.{Made}
use Rattle.pin_rule.specs.Parts.{OwnLane}
use Rattle.pin_rule.specs.Calls.{MayFill, MayReturn}
use Rattle.live_cells.specs.Lanes.{JustTook}
use Rattle.live_cells.proofs.Laning.{took_hands, took_clean}

some_is : {A : Type 0} (a b : A) → Some a ≡ Some b → a ≡ b
some_is a b e = cc

none_some : {A B : Type 0} (a : A) → None ≡ Some a → B
none_some a e = absurd (true≢false (ap is_none e))

-- a list has an element at each place below its length
pub first_at : {A : Type 0} (xs : List A) (l : ℕ) → l < length xs → (x : A) × (get_elem? xs l ≡ some x)
first_at [] l h = absurd (omega arith)
first_at (x ∷ xs) zero h = (x, refl)
first_at (x ∷ xs) (suc l) h = first_at xs l (omega arith)

-- The cell c was claimed, and the lane l of its store taken; x is the store, and first the one that the cells were made with.
module _ {S : Type 0} (p : Plan S (Option (Made S))) (l : ℕ) (x first : S) (c : ℕ) (slots : List Held) (d : Doing S (Option (Made S))) (is_first : get_elem? p.stores l ≡ some first) (k : JustTook p l x (c ∷ []) slots [] d) where
  abbrev own_lane : ℕ → S → OwnLane S
  own_lane m y = record { lane = m; store = y }

  abbrev now : ℕ → ℕ → ℕ
  now = (after (start_of p) d.seen).arrays

  pub was_stood : IsTrue (p.shows x).told → Stood p l (p.shows first) (p.shows x) d.seen
  was_stood h = let s = k.took.stood first is_first in s.2 (sym s.0 ∙ h)

  lane_is : d.lane ≡ Some (taken l x d.seen)
  lane_is = (took_hands p l x (c ∷ []) slots [] d k).lane_is

  -- an array is due only of a cell that isn't marked
  one_due : (b : Bool) (here array : ℕ → ℕ) → cond b None (Some here) ≡ Some array → (b ≡ false) × (here ≡ array)
  one_due true here array e = none_some array e
  one_due false here array e = (refl, some_is here array e)

  -- The store that was only got from may come home.
  returns_read : (seen : List Event) (y : S) (key : List ℕ) (gave : Bool) (fills : List ℕ) → Fetched key gave (p.shows x) (p.shows y)
      → ((m : ℕ) → IsTrue (p.shows x).told_log → gets_under (p.edited m) (p.shows x).log + times_in m fills ≤ gets_under (p.edited m) (p.shows y).log)
      → Returns p (record { lane = l; store = x; at = d.seen; changes = []; fills = fills }) seen y
  returns_read seen y key gave fills f enough = record {
    told = f.moves.told;
    told_log = f.moves.told_log;
    never_falls = f.moves.never_falls;
    arrays = λ h m near v array is. let a = one_due (has_mark ((after (start_of p) d.seen).cells m)) (now m) array is in
        subst (λ (q : (ℕ → ℕ) × (List ℕ → Option (List ℕ))). StandsFor p q.1 m q.0) (λ i. (a.1 i, sym (f.held h) i)) ((was_stood h).arrays m near v a.0);
    voids = λ h m near v. ap (λ (held : List ℕ → Option (List ℕ)). p.standing held m) (f.held h) ∙ (was_stood h).voids m near v;
    keys = λ h key u. ap (λ (held : List ℕ → Option (List ℕ)). held key) (f.held h);
    puts = λ h m near. let g = f.no_put (p.edited m) h in omega (arith, g);
    gets = λ h m near. enough m h;
  }

  -- nothing was filled
  pub may_return : (y : S) (key : List ℕ) (gave : Bool) → Fetched key gave (p.shows x) (p.shows y) → MayReturn p d (own_lane l y)
  may_return y key gave f = (taken l x d.seen, lane_is, refl, returns_read d.seen y key gave [] f (λ m h. let g = f.gets (p.edited m) h in omega (arith, g)))

  module _ (y : S) (values : List ℕ) (own : InLane p l c) (f : Fetched (p.edited c) true (p.shows x) (p.shows y)) (gave : IsTrue (p.shows x).told → p.standing (held_of (p.shows x)) c ≡ Some values) where
    clean : has_mark ((after (start_of p) d.seen).cells c) ≡ false
    clean = took_clean p l x (c ∷ []) slots [] d k c [] refl

    not_void : IsTrue (p.shows x).told → is_void p c ≡ false
    not_void h = go (is_void p c) refl
      where
        go : (b : Bool) → is_void p c ≡ b → b ≡ false
        go false e = refl
        go true e = none_some values (sym ((was_stood h).voids c own e) ∙ gave h)

    numbers : IsTrue (p.shows x).told → (i : ℕ) → i < p.voxels c → slice_index values i ≡ now c i
    numbers h i lt = let s = (was_stood h).arrays c own (not_void h) clean in ap (λ (v : List ℕ). slice_index v i) (some_is values s.0 (sym (gave h) ∙ s.1)) ∙ s.2 i lt

    pub may_fill : MayFill p d c (own_lane l y) values
    may_fill = (
      taken l x d.seen,
      lane_is,
      refl,
      own.1,
      λ h. (not_void h, now c, ap (λ (b : Bool). cond b None (Some (now c))) clean, numbers h),
      λ h. f.got refl h,
    )

    enough : (m : ℕ) → IsTrue (p.shows x).told_log → gets_under (p.edited m) (p.shows x).log + times_in m (c ∷ []) ≤ gets_under (p.edited m) (p.shows y).log
    enough m h = go (c == m) refl
      where
        go : (b : Bool) → (c == m) ≡ b → gets_under (p.edited m) (p.shows x).log + (cond b 1 0 + 0) ≤ gets_under (p.edited m) (p.shows y).log
        go true e = subst (λ (n : ℕ). gets_under (p.edited n) (p.shows x).log + (1 + 0) ≤ gets_under (p.edited n) (p.shows y).log) (eqb-true c m e) (let q = f.got refl h in omega (arith, q))
        go false e = let q = f.gets (p.edited m) h in omega (arith, q)

    pub may_return_filled : (s : ℕ) (e : Doing S (Option (Made S))) → IsFilled d c s values e → MayReturn p e (own_lane l y)
    may_return_filled s e q = (
      record (taken l x d.seen) { fills = c ∷ [] },
      ap (λ v. v.lane) q.2 ∙ ap (λ (o : Taken S). Some (record o { fills = c ∷ o.fills })) (some_is q.0 (taken l x d.seen) (sym q.1 ∙ lane_is)),
      refl,
      returns_read e.seen y (p.edited c) true (c ∷ []) f enough,
    )
