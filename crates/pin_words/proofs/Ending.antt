-- The rule when a table is made, and what the stores are when it is closed.
use Rattle.std.proofs.Common.{◌≡◌, ℕ, zero, suc, ◌+◌, ◌<◌, ◌==◌, true, false, true≢false, List, [], ◌∷◌, length, get_or, map, replicate, sym, refl, ap, ◌∙◌, subst, Option, Some, None, arith}
use mathlib.Core.Option.{some, some-injective, some-ne-none}
use mathlib.Core.Logic.{dite}
use native.Mathlib.Decide.{dec_le, ℕ_discrete}
use lib.ListN.{get_elem?}
use Rattle.std.specs.Prelude.{is_none, unwrap_or, slice_index}
use Rattle.atomic_table.specs.Table.{State as Table, opening as table_opening, Final, Seen}
use Rattle.arr_history.specs.declared.event.Event.{Event}
use Rattle.arr_history.specs.declared.cell_state.CellState.{CellState}
use Rattle.arr_history.specs.declared.cell_state.CellState.TheVariants as cell
use Rattle.arr_history.specs.History.{after, AreLegal}
use Rattle.pass_roster.specs.History.{total}
use Rattle.pass_roster.proofs.Sums.{same_view}
use Rattle.pass_roster.proofs.Endings.{roster_opens, roster_whole}
use Rattle.pin_words.specs.declared.holding.Left.{Left}
use Rattle.pin_words.specs.declared.lane.Taken.{Taken}
use Rattle.pin_words.specs.declared.doing.Doing.{Doing}
use Rattle.pin_words.specs.declared.doing.Stage.TheVariants.{Idle}
use Rattle.pin_words.specs.Plan.{Plan, IsPlan, lane_of, shown, is_void, shape_of, start_of}
use Rattle.pin_words.specs.Standing.{StandsFor, IsVoid}
use Rattle.pin_words.specs.Account.{times_in, lives, times_saved, filled, saved_in, rise, rise_ended, InLane, Stood, Known}
use Rattle.pin_words.specs.Layout.{slot_at, lane_at, word_count}
use Rattle.pin_words.specs.Words.{out_of, out, passes, slots_held, in_slot, given_to, sum_over, Each, HeldOk}
use Rattle.pin_words.specs.Rule.{HoldsOk, Ruled}
use Rattle.pin_words.specs.Tells.{IsLone, IsOwnWork}
use Rattle.pin_words.specs.Finding.{has_by}
use Rattle.pin_words.specs.Lanes.{taken}
use Rattle.pin_words.specs.Ends.{starting, IsBare, IsResting, Settled, IsHistory}
use Rattle.pin_words.proofs.Numbers.{one_is}
use Rattle.pin_words.proofs.Accounts.{clean_same, stands_now}
use Rattle.pin_words.proofs.Lone.{lone_saw, lone_others, lone_work, lone_rise}
use Rattle.pin_words.proofs.Passing.{replicate_long}
use Rattle.stood_arrays.specs.Opening.{store_in, stands_for}
use Rattle.pin_words.proofs.Opened.{store_shown}
use Rattle.cell_store.specs.Store.{held_of}

over_none : (f : ℕ → ℕ) (n : ℕ) → ((a : ℕ) → f a ≡ 0) → sum_over f n ≡ 0
over_none f zero h = refl
over_none f (suc n) h = let r = over_none f n h in let x = h n in omega arith

no_rise : (n l : ℕ) → ◌≡◌ {A = ℕ} (get_or (replicate n 0) l 0) 0
no_rise zero l = refl
no_rise (suc n) zero = refl
no_rise (suc n) (suc l) = no_rise n l

nth : {S : Type 0} → S → List S → ℕ → S
nth x [] l = x
nth x (y ∷ ys) zero = y
nth x (y ∷ ys) (suc l) = nth x ys l

module _ {S : Type 0} where
  nth_is : (x : S) (ys : List S) (l : ℕ) (y : S) → get_elem? ys l ≡ some y → nth x ys l ≡ y
  unfolding nth
  nth_is x [] l y e = absurd (some-ne-none y (sym e))
  nth_is x (z ∷ ys) zero y e = some-injective z y e
  nth_is x (z ∷ ys) (suc l) y e = nth_is x ys l y e

  home_is : (x : S) (ys : List S) (l : ℕ) → l < length ys → get_elem? (map (λ (h : Option S). some h) (map (λ (y : S). Some y) ys)) l ≡ some (some (Some (nth x ys l)))
  unfolding nth
  home_is x [] l h = absurd (omega arith)
  home_is x (y ∷ ys) zero h = refl
  home_is x (y ∷ ys) (suc l) h = home_is x ys l (omega arith)

  homes_long : (ys : List S) → length (map (λ (h : Option S). some h) (map (λ (y : S). Some y) ys)) ≡ length ys
  homes_long [] = refl
  homes_long (y ∷ ys) = ap suc (homes_long ys)

module _ {S M : Type 0} (p : Plan S M) where
  abbrev D : Type 0
  D = Doing S M

  -- what a store stands for at a cell of its lane when the table is made
  opening_stands : (l c : ℕ) (y : S) → get_elem? p.stores l ≡ some y → InLane p l c → is_void p c ≡ false → StandsFor p (held_of (p.shows y)) c ((start_of p).arrays c)
  opening_stands l c y is m v = go (p.standing (held_of (p.shows y)) c) refl
    where
      here : store_in (shown p) (lane_of p c) ≡ p.shows y
      here = ap (store_in (shown p)) m.1 ∙ store_shown p.shows p.stores l y is

      same : stands_for p.standing p.lanes (shown p) c ≡ p.standing (held_of (p.shows y)) c
      same = λ i. p.standing (held_of (here i)) c

      go : (o : Option (List ℕ)) → p.standing (held_of (p.shows y)) c ≡ o → StandsFor p (held_of (p.shows y)) c ((start_of p).arrays c)
      go None e = absurd (true≢false ((λ i. is_none ((sym (same ∙ e)) i)) ∙ v))
      go (Some values) e = (values, e, λ i l. λ k. slice_index (unwrap_or (sym (same ∙ e) k) []) i)

  -- the rule holds when a table is made: all words are 0, and each store is at home
  pub opens : (x : S) (ws : List ℕ) → IsPlan p → length ws ≡ word_count p → ((i : ℕ) → get_or ws i 0 ≡ 0) → Ruled p (table_opening ws (map (λ (y : S). Some y) p.stores) (starting p))
  opens x ws ok_plan wide zeros = record {
    log = [];
    drawn = 1;
    ended = [];
    roster = roster_opens passes d refl refl refl refl refl refl;
    legal = tt;
    holds = λ j f t o. subst (HoldsOk p (start_of p)) (alone j f t).1 record { made = refl; pins = λ c. refl; each_pin = tt; each_claim = tt; each_slot = tt; each_left = tt; few = omega arith; once = λ c. omega arith; once_left = λ c. omega arith; once_filled = λ c. omega arith; each_rise = replicate_long p.lanes; stage = tt };
    spent = λ j f t o. let q : out d ≡ out f = ap out (alone j f t).1 in let a : out d ≡ 1 = refl in let b : out f ≡ 0 = o in absurd (omega arith);
    nobody = λ k c _. refl;
    parts = record {
      owner = λ _. 0;
      entry = λ l. taken l (nth x p.stores l) [];
      wide = wide;
      deep = homes_long p.stores ∙ ok_plan.store_each;
      cells = record { each = λ c l. zeros (1 + c); beyond = λ c _. refl; worked = λ c _. refl };
      slots = record { each = λ s l. zeros (slot_at p s) ∙ (let o = over_none (λ c. in_slot s ((start_of p).cells c)) p.cells (λ a. refl) in let t : total (slots_held s) (d ∷ []) ≡ 0 = refl in omega arith); taken = λ s l. (let h = zeros (slot_at p s) in omega arith); low = λ c s h. absurd (omega arith) };
      frames = record { each = λ c s i h _ _. absurd h; small = λ c s i h _. absurd h; clear = λ c s h _. absurd h; held = λ j f t. subst Held_All (alone j f t).1 tt };
      lanes = record {
        named = λ l _. refl;
        bit = λ l h. (let q = zeros (lane_at p l) in omega arith);
        home = λ l h _. (home_is x p.stores l (let q = ok_plan.store_each in omega arith), refl, refl);
        away = λ l h q. let r = zeros (lane_at p l) in absurd (omega arith);
        holds = λ j f o t h. absurd (none_not o (ap (λ (v : D). v.lane) (alone j f t).1 ∙ h));
      };
      known = λ l y y_is. let same : nth x p.stores l ≡ y = nth_is x p.stores l y y_is in subst (λ (u : S). Known p l y (taken l u []) [] (d ∷ []) []) (sym same) record {
        told = refl;
        told_log = refl;
        begins = ([], refl);
        stood = λ t. record { arrays = λ c m v _. opening_stands l c y y_is m v; voids = λ c m v. opening_void l c y y_is m v; keys = λ key _. refl };
        covers = λ t c m v h. clean_same (start_of p) c refl;
        puts = λ _ c _. omega arith;
        gets = λ _ c _. (let q : total (filled c) (d ∷ []) ≡ 0 = refl in let n : lives c [] ≡ 0 = refl in omega arith);
        counted = λ _. (let q = no_rise p.lanes l in let t : total (rise l) (d ∷ []) ≡ get_or (replicate p.lanes 0) l 0 + 0 = refl in let u : total (rise_ended l) [] ≡ 0 = refl in omega arith);
      };
      given = λ j f l z t _ _ last. absurd (none_given z (ap (given_to l) (ap (λ (v : D). v.given) (alone j f t).1) ∙ last));
    };
  }
    where
      d : D
      d = starting p

      alone : (j : ℕ) (f : D) → get_elem? (d ∷ []) j ≡ some f → (j ≡ 0) × (d ≡ f)
      alone zero f t = (refl, some-injective d f t)
      alone (suc j) f t = absurd (some-ne-none f (sym t))

      none_given : (z : S) → None ≡ Some z → ⊥
      none_given z q = cc

      none_not : (o : Taken S) → None ≡ Some o → ⊥
      none_not o q = cc

      Held_All : D → Type 0
      Held_All v = Each (HeldOk p (start_of p) ws v.number) v.slots

      opening_void : (l c : ℕ) (y : S) → get_elem? p.stores l ≡ some y → InLane p l c → is_void p c ≡ true → IsVoid p (held_of (p.shows y)) c
      opening_void l c y is m v = go (p.standing (held_of (p.shows y)) c) refl
        where
          same : stands_for p.standing p.lanes (shown p) c ≡ p.standing (held_of (p.shows y)) c
          same = λ i. p.standing (held_of ((ap (store_in (shown p)) m.1 ∙ store_shown p.shows p.stores l y is) i)) c

          go : (o : Option (List ℕ)) → p.standing (held_of (p.shows y)) c ≡ o → p.standing (held_of (p.shows y)) c ≡ None
          go None e = e
          go (Some values) e = absurd (true≢false (sym v ∙ (λ i. is_none ((same ∙ e) i))))

  -- where the first pass is alone and has no lane, each store is at home and settled
  pub closes_stores : (id : ℕ) (v : D) (ws : List ℕ) (xs : List (Option S)) → IsLone v → v.stage ≡ Idle → v.lane ≡ None → Final (Seen (Ruled p) id v) ws xs
      → (l : ℕ) (x : S) → l < p.lanes → get_elem? p.stores l ≡ some x → (y : S) × (get_elem? xs l ≡ some (Some y)) × Settled p v l x y
  closes_stores id v ws xs lone idle bare fin l x inside x_is = (
    o.store,
    fin.4 l (Some o.store) home.0,
    record {
      told = k.told;
      told_log = k.told_log;
      stood = λ t. subst (Stood p l (p.shows x) (p.shows o.store)) (sym saw_all) (stands_now p l x o r.log s.views r.ended k home.1 t);
      again = λ y last. r.parts.given id v l y at lv lone last;
      puts = λ t c m. let q = k.puts t c m in let n : saved_in c o.changes ≡ 0 = ap (saved_in c) home.1 in let h : times_saved c v.seen ≡ times_saved c r.log = ap (times_saved c) saw_all in omega arith;
      gets = λ t c m. let q = k.gets t c m in let n : times_in c o.fills ≡ 0 = ap (times_in c) home.2 in let h : lives c v.seen ≡ lives c r.log = ap (lives c) saw_all in omega arith;
      counted = λ few. let q = k.counted few in let n = lone_rise p s r id v at lv lone l in let m : total (rise_ended l) v.ended ≡ total (rise_ended l) r.ended = ap (total (rise_ended l)) ((r.roster.each id v at lv).first lone.0).0 in omega arith;
    },
  )
    where
      s : Table (Option S) D
      s = fin.0

      r : Ruled p s
      r = fin.1.0

      at : get_elem? s.views id ≡ some v
      at = fin.1.1

      lv : out v ≡ 1
      lv = ap out_of idle

      o : Taken S
      o = r.parts.entry l

      saw_all : v.seen ≡ r.log
      saw_all = lone_saw p s r id v at lv lone

      k : Known p l x o r.log s.views r.ended
      k = r.parts.known l x x_is

      none_some : (q : Option (Taken S)) (u : Taken S) → q ≡ None → q ≡ Some u → ⊥
      none_some q u a b = let e : None ≡ Some u = sym a ∙ b in cc

      not_away : get_or s.words (lane_at p l) 0 ≡ 1 → ⊥
      not_away one_is = let a = r.parts.lanes.away l inside one_is in dite (ℕ_discrete (r.parts.owner l) id)
          (λ e. none_some v.lane o bare (ap (λ (u : D). u.lane) (same_view s.views id (r.parts.owner l) v a.0 (sym e) at a.1) ∙ a.2))
          (λ e. none_some a.0.lane o (lone_others p s r id v at lv lone (r.parts.owner l) a.0 a.1 e).0.lane a.2)

      home : (get_elem? s.homes l ≡ some (some (Some o.store))) × (o.changes ≡ []) × (o.fills ≡ [])
      home = r.parts.lanes.home l inside (let b = r.parts.lanes.bit l inside in dite (ℕ_discrete (get_or s.words (lane_at p l) 0) 1) (λ e. absurd (not_away e)) (λ n. omega arith))

  -- a bare pass has no cell in work
  rests : (v : D) (c : ℕ) (t : CellState) → IsBare v → IsOwnWork v c t → IsResting t
  rests v c cell.Absent bare h = tt
  rests v c (cell.Live l m) bare h = tt
  rests v c (cell.Loading k) bare h = absurd (true≢false (sym h.1 ∙ ap (has_by (λ n. n == c)) bare.claims))
  rests v c (cell.Leaving k l m) bare h = absurd (true≢false (sym h.1 ∙ ap (has_by (λ (q : Left). q.cell == c)) bare.leaving))

  -- and what it has seen is the whole history, and legal
  pub closes_history : (id : ℕ) (v : D) (ws : List ℕ) (xs : List (Option S)) → IsLone v → v.stage ≡ Idle → IsBare v → Final (Seen (Ruled p) id v) ws xs → IsHistory p v
  closes_history id v ws xs lone idle bare fin = let s = fin.0 in let r = fin.1.0 in let at = fin.1.1 in let lv : out v ≡ 1 = ap out_of idle in record {
    whole = roster_whole passes r.log r.drawn r.ended s.views id v r.roster at lv lone.0 lone.1;
    legal = subst (AreLegal (shape_of p) (start_of p)) (sym (lone_saw p s r id v at lv lone)) r.legal;
    rest = λ c. subst (λ (seen : List Event). IsResting ((after (start_of p) seen).cells c)) (sym (lone_saw p s r id v at lv lone))
        (dite (dec_le (suc c) p.cells) (λ inside. rests v c ((after (start_of p) r.log).cells c) bare (lone_work p s r id v at lv lone c (omega arith))) (λ n. subst IsResting (sym (r.parts.cells.beyond c (omega arith))) tt));
  }
