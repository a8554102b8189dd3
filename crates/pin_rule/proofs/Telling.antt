-- How a load from a store that tells meets the conditions of its calls: what the store stands for is due, and it comes home with a get more.
use Rattle.std.proofs.Common.{◌≡◌, ◌∙◌, inl, inr, ℕ, ◌+◌, ◌%◌, ◌<◌, ◌≤◌, ◌==◌, eq-eqb, take, cond, Bool, true, false, true≢false, List, [], ◌∷◌, ◌++◌, length, Option, Some, None, slice_index, refl, sym, ap, subst, arith}
use Rattle.std.specs.Prelude.{IsTrue, is_none}
use Rattle.std.specs.List.{count_by}
use Rattle.std.specs.Str.{bytes_eq}
use Rattle.std.proofs.lemmas.Bool.{eqb-true}
use Rattle.std.proofs.Math.Nat.{mod-one}
use Rattle.std.proofs.lemmas.List.{take_all}
use Rattle.std.proofs.lemmas.List.Sums.{sum_by-cons}
use Rattle.std.proofs.lemmas.Slice.Eq.{bytes_eq-Decides}
use mathlib.Core.Option.{some}
use lib.ListN.{get_elem?}
use Rattle.arr_history.specs.History.{after}
use Rattle.arr_history.proofs.Counts.{count_by-append}
use Rattle.cell_store.specs.Store.{Contents, Entry, held_of}
use Rattle.cell_grid.specs.declared.level.Level.{Level}
use Rattle.cell_grid.specs.Pyramid.{cells_of, voxels_of}
use Rattle.cell_file.specs.File.{got_entry, LogsFetch}
use Rattle.cell_file.specs.Keys.{KeyNames, edited_key}
use Rattle.cell_file.specs.Standing.{standing}
use Rattle.pin_words.specs.declared.lane.Taken.{Taken}
use Rattle.pin_words.specs.declared.doing.Doing.{Doing}
use Rattle.pin_words.specs.Plan.{Plan, is_void, start_of}
use Rattle.pin_words.specs.Standing.{StandsFor, is_put, is_get, puts_under, gets_under}
use Rattle.pin_words.specs.Account.{times_in, has_mark, InLane, Stood}
use Rattle.pin_words.specs.Cells.{IsFilled}
use Rattle.pin_words.specs.Lanes.{taken, TakesLane}
use Rattle.pin_rule.specs.declared.made.Made.{Made}
use Rattle.pin_rule.specs.Parts.{OwnLane}
use Rattle.pin_rule.specs.Plans.{plan_of}
use Rattle.pin_rule.specs.Calls.{MayFill, MayReturn}

some_is : {A : Type 0} (a b : A) → Some a ≡ Some b → a ≡ b
some_is a b e = cc

none_some : {A B : Type 0} (a : A) → None ≡ Some a → B
none_some a e = absurd (true≢false (ap is_none e))

pub first_store : {A : Type 0} (xs : List A) → length xs ≡ 1 → (x : A) × (get_elem? xs 0 ≡ some x)
first_store [] e = absurd (omega arith)
first_store (x ∷ xs) e = (x, refl)

counted_one : (p : Entry → Bool) (log : List Entry) (e : Entry) → count_by p (log ++ e ∷ []) ≡ count_by p log + cond (p e) 1 0
counted_one p log e = let a = count_by-append p log (e ∷ []) in let b = sum_by-cons (λ x. cond (p x) 1 0) e [] in omega (arith, a, b)

counted_two : (p : Entry → Bool) (log : List Entry) (e f : Entry) → count_by p (log ++ e ∷ f ∷ []) ≡ count_by p log + cond (p e) 1 0 + cond (p f) 1 0
counted_two p log e f =
    let a = count_by-append p log (e ∷ f ∷ []) in
    let b = sum_by-cons (λ x. cond (p x) 1 0) e (f ∷ []) in
    let c = sum_by-cons (λ x. cond (p x) 1 0) f [] in
    omega (arith, a, b, c)

same_key : (key : List ℕ) → bytes_eq key key ≡ true
same_key key = (bytes_eq-Decides key key).1 refl

-- gets alone were logged, and one at least of the key
record AreGets (old new : List Entry) (key : List ℕ) : Type 0 where
  pub puts : (other : List ℕ) → puts_under other new ≡ puts_under other old
  pub gets : (other : List ℕ) → gets_under other old ≤ gets_under other new
  pub more : gets_under key old + 1 ≤ gets_under key new

fetch_gets : (old new : List Entry) (key base : List ℕ) → LogsFetch old new key base → AreGets old new key
fetch_gets old new key base (inl h) = record {
  puts = λ other. ap (count_by (is_put other)) h ∙ counted_one (is_put other) old (got_entry key true) ∙ omega arith;
  gets = λ other. let same = ap (count_by (is_get other)) h ∙ counted_one (is_get other) old (got_entry key true) in omega (arith, same);
  more = let same = ap (count_by (is_get key)) h ∙ counted_one (is_get key) old (got_entry key true) ∙ ap (λ b. count_by (is_get key) old + cond b 1 0) (same_key key) in omega (arith, same);
}
fetch_gets old new key base (inr h) = record {
  puts = λ other. ap (count_by (is_put other)) h ∙ counted_two (is_put other) old (got_entry key true) (got_entry base true) ∙ omega arith;
  gets = λ other. let same = ap (count_by (is_get other)) h ∙ counted_two (is_get other) old (got_entry key true) (got_entry base true) in omega (arith, same);
  more = let same = ap (count_by (is_get key)) h ∙ counted_two (is_get key) old (got_entry key true) (got_entry base true) ∙ ap (λ b. count_by (is_get key) old + cond b 1 0 + cond (is_get key (got_entry base true)) 1 0) (same_key key) in omega (arith, same);
}

module _ {S : Type 0} (p : Plan S (Option (Made S))) where
  -- what a fetch of the cell says, with the values that it gave, of the store before it and after it
  pub record Fetched (c : ℕ) (base : List ℕ) (x y : S) (values : List ℕ) : Type 0 where
    pub told : (p.shows y).told ≡ (p.shows x).told
    pub told_log : (p.shows y).told_log ≡ (p.shows x).told_log
    pub never_falls : (p.shows x).faults ≤ (p.shows y).faults
    pub held : IsTrue (p.shows x).told → (held_of (p.shows y)) ≡ (held_of (p.shows x))
    pub gave : IsTrue (p.shows x).told → p.standing (held_of (p.shows x)) c ≡ Some values
    pub logged : IsTrue (p.shows x).told_log → LogsFetch (p.shows x).log (p.shows y).log (p.edited c) base

  module _ (l c : ℕ) (base : List ℕ) (x y first : S) (values : List ℕ) (d d' : Doing S (Option (Made S))) (is_first : get_elem? p.stores l ≡ some first) (own : InLane p l c)
      (claimed : 0 < times_in c d.claims) (t : TakesLane p d l x d') (f : Fetched c base x y values) where
    abbrev now : ℕ → ℕ
    now = (after (start_of p) d'.seen).arrays c

    stood : IsTrue (p.shows x).told → Stood p l (p.shows first) (p.shows x) d'.seen
    stood h = let s = t.stood first is_first in s.2 (sym s.0 ∙ h)

    not_void : IsTrue (p.shows x).told → is_void p c ≡ false
    not_void h = go (is_void p c) refl
      where
        go : (b : Bool) → is_void p c ≡ b → b ≡ false
        go false e = refl
        go true e = none_some values (sym ((stood h).voids c own e) ∙ f.gave h)

    numbers : IsTrue (p.shows x).told → (i : ℕ) → i < p.voxels c → slice_index values i ≡ now i
    numbers h i lt = let s = (stood h).arrays c own (not_void h) (t.unmarked c claimed) in ap (λ (v : List ℕ). slice_index v i) (some_is values s.0 (sym (f.gave h) ∙ s.1)) ∙ s.2 i lt

    pub told_fill : MayFill p d' c (record { lane = l; store = y }) values
    told_fill = (
      taken l x d'.seen,
      ap (λ v. v.lane) t.sees.is,
      refl,
      own.1,
      λ h. (not_void h, now, ap (λ (b : Bool). cond b None (Some now)) (t.unmarked c claimed), numbers h),
      λ h. (fetch_gets (p.shows x).log (p.shows y).log (p.edited c) base (f.logged h)).more,
    )

    one_due : (b : Bool) (here array : ℕ → ℕ) → cond b None (Some here) ≡ Some array → (b ≡ false) × (here ≡ array)
    one_due true here array e = none_some array e
    one_due false here array e = (refl, some_is here array e)

    -- the gets of a cell are at least its fills
    enough : (m : ℕ) → IsTrue (p.shows x).told_log → gets_under (p.edited m) (p.shows x).log + times_in m (c ∷ []) ≤ gets_under (p.edited m) (p.shows y).log
    enough m h = go (c == m) refl
      where
        g : AreGets (p.shows x).log (p.shows y).log (p.edited c)
        g = fetch_gets (p.shows x).log (p.shows y).log (p.edited c) base (f.logged h)

        go : (b : Bool) → (c == m) ≡ b → gets_under (p.edited m) (p.shows x).log + (cond b 1 0 + 0) ≤ gets_under (p.edited m) (p.shows y).log
        go true e = subst (λ (n : ℕ). gets_under (p.edited n) (p.shows x).log + (1 + 0) ≤ gets_under (p.edited n) (p.shows y).log) (eqb-true c m e) (let k = g.more in omega (arith, k))
        go false e = let k = g.gets (p.edited m) in omega (arith, k)

    pub told_return : (s : ℕ) (d2 : Doing S (Option (Made S))) → IsFilled d' c s values d2 → MayReturn p d2 (record { lane = l; store = y })
    told_return s d2 k = (
      o,
      ap (λ v. v.lane) k.2 ∙ ap (λ (q : Taken S). Some (record q { fills = c ∷ q.fills })) (some_is k.0 (taken l x d'.seen) (sym k.1 ∙ ap (λ v. v.lane) t.sees.is)),
      refl,
      record {
        told = f.told;
        told_log = f.told_log;
        never_falls = f.never_falls;
        arrays = λ h m near v array is. let a = one_due (has_mark ((after (start_of p) d'.seen).cells m)) ((after (start_of p) d'.seen).arrays m) array is in
            subst (λ (q : (ℕ → ℕ) × (List ℕ → Option (List ℕ))). StandsFor p q.1 m q.0) (λ i. (a.1 i, sym (f.held h) i)) ((stood h).arrays m near v a.0);
        voids = λ h m near v. ap (λ (held : List ℕ → Option (List ℕ)). p.standing held m) (f.held h) ∙ (stood h).voids m near v;
        keys = λ h key u. ap (λ (held : List ℕ → Option (List ℕ)). held key) (f.held h);
        puts = λ h m near. let g = (fetch_gets (p.shows x).log (p.shows y).log (p.edited c) base (f.logged h)).puts (p.edited m) in omega (arith, g);
        gets = λ h m near. enough m h;
      },
    )
      where
        o : Taken S
        o = record { lane = l; store = x; at = d'.seen; changes = []; fills = c ∷ [] }

module _ {S : Type 0} (shows : S → Contents) (m : Made S) (levels : List Level) (keys : KeyNames) (over : m.levels.value ≡ levels) (known : m.keys.value ≡ keys) (alone : length m.stores.value.items ≡ 1) where
  abbrev plan : Plan S (Option (Made S))
  plan = plan_of shows (Some m)

  -- what a fetch says of the cell n, in the words of the table
  pub fetched : (n c : ℕ) (base : List ℕ) (x y : S) (out : List ℕ) → n ≡ c → length out ≡ voxels_of levels n
      → (shows y).told ≡ (shows x).told → (shows y).told_log ≡ (shows x).told_log → (shows x).faults ≤ (shows y).faults → (IsTrue (shows x).told → (held_of (shows y)) ≡ (held_of (shows x)))
      → (IsTrue (shows x).told → standing levels keys (held_of (shows x)) n ≡ Some (take (voxels_of levels n) out)) → (IsTrue (shows x).told_log → LogsFetch (shows x).log (shows y).log (edited_key levels n) base)
      → Fetched plan c base x y out
  fetched n c base x y out is long told told_log never_falls held gave logged = record {
    told = told;
    told_log = told_log;
    never_falls = never_falls;
    held = held;
    gave = λ h. subst (λ (q : List Level × KeyNames × ℕ). standing q.0 q.1 (held_of (shows x)) q.2 ≡ Some out) (λ i. (sym over i, sym known i, is i)) (gave h ∙ ap Some (take_all (voxels_of levels n) out (omega (arith, long))));
    logged = λ h. subst (λ (q : List Level × ℕ). LogsFetch (shows x).log (shows y).log (edited_key q.0 q.1) base) (λ i. (sym over i, is i)) (logged h);
  }

  -- A load that holds one claim may fill the slot, and give the lane back then.
  pub told_load : (d d' : Doing S (Option (Made S))) (lane inside : OwnLane S) (y : S) (c : ℕ) (base out : List ℕ) → c < cells_of m.levels.value → d.claims ≡ c ∷ [] → (lane.lane ≡ 0) × TakesLane plan d 0 lane.store d' → inside ≡ lane
      → Fetched plan c base inside.store y out
      → MayFill plan d' c (record inside { store = y }) out × ((s : ℕ) (e : Doing S (Option (Made S))) → IsFilled d' c s out e → MayReturn plan e (record inside { store = y }))
  told_load d d' lane inside y c base out near claims took is f = (
    subst (λ (l : ℕ). MayFill plan d' c (record { lane = l; store = y }) out) zero (told_fill plan 0 c base inside.store y one.0 out d d' one.1 own claimed t f),
    λ s e k. subst (λ (l : ℕ). MayReturn plan e (record { lane = l; store = y })) zero (told_return plan 0 c base inside.store y one.0 out d d' one.1 own claimed t f s e k),
  )
    where
      one : (first : S) × (get_elem? m.stores.value.items 0 ≡ some first)
      one = first_store m.stores.value.items alone

      own : InLane plan 0 c
      own = (near, subst (λ (n : ℕ). c % n ≡ 0) (sym alone) (mod-one c))

      claimed : 0 < times_in c d.claims
      claimed = subst (λ (cs : List ℕ). 0 < times_in c cs) (sym claims) (let k : ◌≡◌ {A = ℕ} (cond (c == c) 1 0) 1 = ap (λ (b : Bool). cond b 1 0) (eq-eqb c c refl) in omega (arith, k))

      t : TakesLane plan d 0 inside.store d'
      t = subst (λ (q : OwnLane S). TakesLane plan d 0 q.store d') (sym is) took.1

      zero : 0 ≡ inside.lane
      zero = sym (ap (λ (q : OwnLane S). q.lane) is ∙ took.0)
