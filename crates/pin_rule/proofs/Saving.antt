-- A store into which a marked cell was put, or couldn't be put, may come home.
use Rattle.std.proofs.Common.{◌≡◌, ◌≢◌, ◌⊎◌, inl, inr, ◌∙◌, ℕ, ◌==◌, eq-eqb, cond, Bool, true, false, true≢false, List, [], ◌∷◌, Option, Some, None, refl, sym, ap, subst, arith}
use Rattle.std.specs.Prelude.{IsTrue, is_none}
use Rattle.std.proofs.lemmas.Bool.{eqb-true}
use Rattle.cell_store.specs.Store.{Contents, held_of}
use Rattle.arr_history.specs.declared.event.Event.{Event}
use Rattle.arr_history.specs.History.{after}
use Rattle.stood_arrays.specs.Opening.{store_in}
use Rattle.pin_words.specs.declared.holding.Left.{Left}
use Rattle.pin_words.specs.declared.doing.Doing.{Doing}
use Rattle.pin_words.specs.Plan.{Plan, shown, is_told, is_void, start_of}
use Rattle.pin_words.specs.Standing.{StandsFor, IsVoid}
use Rattle.pin_words.specs.Account.{one, has_mark, WasMarked, InLane, Stood, due, Untouched, Returns}
use Rattle.pin_words.specs.Words.{Each}
use Rattle.pin_words.specs.Cells.{change, noted, IsGone}
use Rattle.pin_words.specs.Lanes.{taken}
use Rattle.pin_words.proofs.Opened.{store_shown}
use Rattle.pin_rule.specs.declared.made.Made.{Made}
use Rattle.pin_rule.specs.Calls.{MayReturn}
use Rattle.pin_rule.specs.Saving.{HasTriedPut}
use Rattle.pin_rule.proofs.Trying.{one_left}

true_false : {A : Type 0} → true ≡ false → A
true_false e = absurd (true≢false e)

some_is : {A : Type 0} (a b : A) → Some a ≡ Some b → a ≡ b
some_is a b e = cc

eqb_ne : (a b : ℕ) → (a == b) ≡ false → b ≢ a
eqb_ne a b e h = true_false (sym (eq-eqb a b (sym h)) ∙ e)

module _ {S : Type 0} (p : Plan S (Option (Made S))) (l v s : ℕ) (past : List Event) (done : Bool) (x y : S) (d d' : Doing S (Option (Made S))) (k : HasTriedPut p l v s past done x y d d') where
  abbrev now : ℕ → ℕ → ℕ
  now = (after (start_of p) d'.seen).arrays

  stood : IsTrue (p.shows x).told → Stood p l (p.shows k.first) (p.shows x) d'.seen
  stood h = let t = k.took.stood k.first k.is_first in t.2 (sym t.0 ∙ h)

  -- the cell's store tells where the one that the table was made with does
  told_here : IsTrue (p.shows x).told → IsTrue (is_told p v)
  told_here h = (ap (λ n. (store_in (shown p) n).told) k.near.1 ∙ ap (λ (c : Contents). c.told) (store_shown p.shows p.stores l k.first k.is_first)) ∙ (sym (k.took.stood k.first k.is_first).0 ∙ h)

  -- the cell is marked still, when the lane is taken
  marked : has_mark ((after (start_of p) d'.seen).cells v) ≡ true
  marked = (subst (Each (λ (q : Left). has_mark ((after (start_of p) d'.seen).cells q.cell) ≡ q.marked)) k.leaving k.took.closed).0

  stood_other : IsTrue (p.shows x).told → (m : ℕ) → InLane p l m → m ≢ v → is_void p m ≡ false → has_mark ((after (start_of p) d'.seen).cells m) ≡ false → StandsFor p (held_of (p.shows y)) m (now m)
  stood_other h m near ne fresh clean = let w = (stood h).arrays m near fresh clean in (w.0, k.put.others h m near.0 ne ∙ w.1, w.2)

  void_other : IsTrue (p.shows x).told → (m : ℕ) → InLane p l m → is_void p m ≡ true → IsVoid p (held_of (p.shows y)) m
  void_other h m near void = k.put.others h m near.0 (λ e. true_false (sym void ∙ (ap (is_void p) e ∙ k.not_void (told_here h)))) ∙ (stood h).voids m near void

  same_key : IsTrue (p.shows x).told → (seen : List Event) → WasMarked v seen → (key : List ℕ) → Untouched p seen key → held_of (p.shows y) key ≡ held_of (p.shows x) key
  same_key h seen was key u = k.put.keys h key (u v k.near.0 was)

  -- an array is due only of a cell that isn't marked
  one_due : (b : Bool) (here array : ℕ → ℕ) → cond b None (Some here) ≡ Some array → (b ≡ false) × (here ≡ array)
  one_due true here array e = true_false (ap is_none e)
  one_due false here array e = (refl, some_is here array e)

  unmarked_other : (m : ℕ) → has_mark ((after (start_of p) d'.seen).cells m) ≡ false → m ≢ v
  unmarked_other m clean same = true_false (sym marked ∙ (ap (λ n. has_mark ((after (start_of p) d'.seen).cells n)) (sym same) ∙ clean))

  -- what is due once the cell was saved
  abbrev DueNow : ℕ → (ℕ → ℕ) → Type 0
  DueNow m a = ((v ≡ m) × ((after (start_of p) past).arrays m ≡ a)) ⊎ ((m ≢ v) × (has_mark ((after (start_of p) d'.seen).cells m) ≡ false) × (now m ≡ a))

  due_saved : (m : ℕ) (a : ℕ → ℕ) → due p d'.seen (change v true past ∷ []) m ≡ Some a → DueNow m a
  due_saved m a h = go (v == m) refl h
    where
      go : (b : Bool) → (v == m) ≡ b → cond b (Some ((after (start_of p) past).arrays m)) (cond (has_mark ((after (start_of p) d'.seen).cells m)) None (Some (now m))) ≡ Some a → DueNow m a
      go true e q = inl (eqb-true v m e, some_is _ a q)
      go false e q = let r = one_due (has_mark ((after (start_of p) d'.seen).cells m)) (now m) a q in inr (eqb_ne v m e, r.0, r.1)

  lane_now : d'.lane ≡ Some (taken l x d'.seen)
  lane_now = ap (λ (q : Doing _ _). q.lane) k.took.sees.is

  module _ (e : Doing S (Option (Made S))) (was : WasMarked v e.seen) where
    returns_saved : done ≡ true → (IsTrue (p.shows x).told → StandsFor p (held_of (p.shows y)) v ((after (start_of p) past).arrays v))
        → Returns p (record { lane = l; store = x; at = d'.seen; changes = change v true past ∷ []; fills = [] }) e.seen y
    returns_saved is_done stands = record {
      told = k.put.told;
      told_log = k.put.told_log;
      never_falls = k.put.never_falls;
      arrays = λ h m near fresh a is. by h m near fresh a (due_saved m a is);
      voids = void_other;
      keys = λ h key u. same_key h e.seen was key u;
      puts = λ h m near. let q = k.put.puts h m near.0 in let t = ap (λ (b : Bool). cond b (one v m) 0) is_done in omega (arith, q, t);
      gets = λ h m near. let q = k.put.gets h m near.0 in omega (arith, q);
    }
      where
        by : IsTrue (p.shows x).told → (m : ℕ) → InLane p l m → is_void p m ≡ false → (a : ℕ → ℕ) → DueNow m a → StandsFor p (held_of (p.shows y)) m a
        by h m near fresh a (inl q) = subst (StandsFor p (held_of (p.shows y)) m) q.1 (subst (λ n. StandsFor p (held_of (p.shows y)) n ((after (start_of p) past).arrays n)) q.0 (stands h))
        by h m near fresh a (inr q) = subst (StandsFor p (held_of (p.shows y)) m) q.2 (stood_other h m near q.0 fresh q.1)

    returns_not_saved : done ≡ false → Returns p (taken l x d'.seen) e.seen y
    returns_not_saved not_done = record {
      told = k.put.told;
      told_log = k.put.told_log;
      never_falls = k.put.never_falls;
      arrays = λ h m near fresh a is. let q = one_due (has_mark ((after (start_of p) d'.seen).cells m)) (now m) a is in subst (StandsFor p (held_of (p.shows y)) m) q.1 (stood_other h m near (unmarked_other m q.0) fresh q.0);
      voids = void_other;
      keys = λ h key u. same_key h e.seen was key u;
      puts = λ h m near. let q = k.put.puts h m near.0 in let t = ap (λ (b : Bool). cond b (one v m) 0) not_done in omega (arith, q, t);
      gets = λ h m near. let q = k.put.gets h m near.0 in omega (arith, q);
    }

    pub gives_saved : done ≡ true → (IsTrue (p.shows x).told → StandsFor p (held_of (p.shows y)) v ((after (start_of p) past).arrays v)) → IsGone p d' v e → MayReturn p e (record { lane = l; store = y })
    gives_saved is_done stands gone = (record { lane = l; store = x; at = d'.seen; changes = change v true past ∷ []; fills = [] }, lane_after, refl, returns_saved is_done stands)
      where
        lane_after : e.lane ≡ Some (record { lane = l; store = x; at = d'.seen; changes = change v true past ∷ []; fills = [] })
        lane_after = let o = one_left v s true past d' (ap (λ (q : Doing _ _). q.leaving) k.took.sees.is ∙ k.leaving) in
            ap (λ (q : Doing _ _). q.lane) gone.is ∙ (λ i. noted (o.1 i).marked (change v true (o.1 i).at) (lane_now i))

    pub gives_not_saved : done ≡ false → e.lane ≡ d'.lane → MayReturn p e (record { lane = l; store = y })
    gives_not_saved not_done same = (taken l x d'.seen, same ∙ lane_now, refl, returns_not_saved not_done)
