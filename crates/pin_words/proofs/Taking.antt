-- The taking and the giving of a lane keep the whole rule.
use Rattle.std.proofs.Common.{◌≡◌, ◌≢◌, ℕ, ◌+◌, ◌<◌, ◌==◌, cond, Bool, List, [], ◌∷◌, get_or, set, sym, refl, ap, ◌∙◌, subst, inl, inr, ⊎_elim, eq-eqb, ne_eqb, Option, Some, None, arith, length-set, get_or-set_other, get_or-set_same}
use mathlib.Core.Option.{none, some}
use mathlib.Core.Logic.{dite}
use native.Mathlib.Decide.{ℕ_discrete}
use lib.ListN.{get_elem?}
use lib.Seq.{set-get_or}
use prog.Atomic.{either}
use Rattle.atomic_table.specs.Table.{State as Table, Act, step, keeps, takes, gives, Valid, stepped, carried_after, Allows}
use Rattle.atomic_table.proofs.Lists.{at_set, exchanged}
use Rattle.arr_history.specs.State.{State, with_at}
use Rattle.pass_roster.proofs.Sums.{same_view}
use Rattle.pin_words.specs.declared.holding.Left.{Left}
use Rattle.pin_words.specs.declared.lane.Taken.{Taken}
use Rattle.pin_words.specs.declared.doing.Doing.{Doing}
use Rattle.pin_words.specs.declared.doing.Stage.TheVariants.{Idle}
use Rattle.pin_words.specs.Plan.{Plan, start_of}
use Rattle.pin_words.specs.Account.{one, times_in, has_mark, rise, rose, Known, Returns}
use Rattle.pin_words.specs.Layout.{lane_at}
use Rattle.pin_words.specs.Words.{out_of, out, given_to, Each, GivenOk}
use Rattle.pin_words.specs.Rule.{ClaimOk, LeftOk, Staged, HoldsOk, Ruled, Sat}
use Rattle.pin_words.specs.Tells.{IsLone, tried}
use Rattle.pin_words.specs.Lanes.{taken, gives as gives_store, TakesLane, MissesLane, GivesLane, took, gave}
use Rattle.pin_words.proofs.Numbers.{put_at, put_other, one_else}
use Rattle.pin_words.proofs.Accounts.{known_stays, stands_now, known_taken, known_returns}
use Rattle.pin_words.proofs.Lists.{all_map}
use Rattle.pin_words.proofs.LaneParts.{lanes_stay, lanes_take, lanes_give, given_put, knowns_put}
use Rattle.pin_words.proofs.Keeping.{now, Shown, holds_as, quiet, knowns_stay, given_stays, unseen, lane_word}
use Rattle.pin_words.proofs.Lone.{lone_others, sees}

claim_in : (w : State) (cells k c : ℕ) (cs : List ℕ) → Each (ClaimOk w cells k) cs → 0 < times_in c cs → ClaimOk w cells k c
claim_in w cells k c [] a h = absurd (omega arith)
claim_in w cells k c (x ∷ xs) a h = dite (ℕ_discrete x c) (λ e. subst (ClaimOk w cells k) e a.0) (λ n. let o = one_else x c n in let h' : 0 < one x c + times_in c xs = h in claim_in w cells k c xs a.1 (omega arith))

module _ {S M : Type 0} (p : Plan S M) (plan : M → Plan S M) (same_plan : plan p.made ≡ p) where
  abbrev D : Type 0
  D = Doing S M

  abbrev Goes : Table (Option S) D → ℕ → ℕ → Sat S M → (ℕ → Sat S M → Type 0) → ℕ → Type 0
  Goes s i id me then n = (w : D) × (a : Act (Option S)) × Valid s.homes me.1 a × Ruled p (stepped s i n id me.1 w a) × then (get_or s.words i 0) (w, carried_after me.1 a)

  some_is : (a b : Taken S) → Some a ≡ Some b → a ≡ b
  some_is a b q = cc

  pub takes_lane : (slots id : ℕ) (me : Sat S M) (l : ℕ) → me.0.stage ≡ Idle → me.0.lane ≡ None → l < p.lanes
      → Allows (Ruled p) slots id me (lane_at p l) (λ n. either (n == 0) 1 n) (took plan (step slots (lane_at p l) 0 1 none) me)
  takes_lane slots id me l idle bare inside s r many at below = exchanged n 0 1 (Goes s (lane_at p l) id me (took plan (step slots (lane_at p l) 0 1 none) me)) hit miss
    where
      d : D
      d = me.0

      n : ℕ
      n = get_or s.words (lane_at p l) 0

      o : Taken S
      o = r.parts.entry l

      lv : out d ≡ 1
      lv = ap out_of idle

      ok : HoldsOk p (now p s r) d
      ok = r.holds id d at lv

      as_plan : p ≡ plan d.made
      as_plan = sym (ap plan ok.made ∙ same_plan)

      lane_is : (k : ℕ) → lane_at p l ≡ lane_at (plan d.made) k → l ≡ k
      lane_is k e = let e' : lane_at p l ≡ lane_at p k = e ∙ (λ i. lane_at (sym as_plan i) k) in omega arith

      hit : n ≡ 0 → Goes s (lane_at p l) id me (took plan (step slots (lane_at p l) 0 1 none) me) 1
      hit free = (
        w,
        takes l (Some o.store),
        home.0,
        quiet p s r id d w (set s.words (lane_at p l) 1) (set s.homes l none) at lv lv (refl, refl, refl) refl (inl refl)
            (holds_as p (now p s r) d w refl refl refl refl refl refl refl (subst (Staged r.log p.cells) (sym idle) tt) ok)
            (length-set s.words (lane_at p l) 1) (length-set s.homes l none) words.0 words.1 words.2
            (with_at r.parts.owner l id) (with_at r.parts.entry l new)
            (lanes_take p r.parts.owner r.parts.entry s.words s.homes s.views id d w l new r.parts.lanes at (let wide = r.parts.wide in omega arith) inside free bare refl refl)
            (knowns_put p r.parts.entry l new r.log (set s.views id w) r.ended (λ m x _ is. knowns_stay p s r id d w at refl refl m x is) taken_known)
            (given_put p r.parts.entry l new (set s.views id w) refl (given_stays p s r id d w r.parts.entry at lv (refl, refl, refl) refl (λ _. refl))),
        λ k is_k. ((λ _. subst (λ (m : ℕ). (x : S) × ((l, Some o.store) ∷ me.1 ≡ (m, Some x) ∷ me.1) × TakesLane (plan d.made) d m x w) (lane_is k is_k) (o.store, refl, subst (λ (q : Plan S M). TakesLane q d l o.store w) as_plan told)), λ m. absurd (m free)),
      )
        where
          home : (get_elem? s.homes l ≡ some (some (Some o.store))) × (o.changes ≡ []) × (o.fills ≡ [])
          home = r.parts.lanes.home l inside free

          new : Taken S
          new = taken l o.store r.log

          w : D
          w = record d { seen = r.log; lane = Some new; tries = tried 15 l 0 ∷ d.tries }

          words : Shown p s r (set s.words (lane_at p l) 1) (set s.views id w)
          words = lane_word p s r id d w l 1 at lv inside refl refl refl refl (λ _. refl)

          taken_known : (x : S) → get_elem? p.stores l ≡ some x → Known p l x new r.log (set s.views id w) r.ended
          taken_known x is = subst (λ (m : ℕ). Known p l x (taken m o.store r.log) r.log (set s.views id w) r.ended) (r.parts.lanes.named l inside)
              (known_taken p l x o r.log (set s.views id w) r.ended (knowns_stay p s r id d w at refl refl l x is) home.1 home.2)

          told : TakesLane p d l o.store w
          told = record {
            sees = sees p s r id d at lv (record d { lane = Some new; tries = tried 15 l 0 ∷ d.tries }) w refl refl refl;
            stood = λ x is. (let k = r.parts.known l x is in (k.told, k.told_log, stands_now p l x o r.log s.views r.ended k home.1));
            again = λ lone y last. r.parts.given id d l y at lv lone last;
            unmarked = λ c b. ap has_mark (claim_in (now p s r) p.cells d.number c d.claims ok.each_claim b).1;
            closed = all_map (LeftOk (start_of p) (now p s r) p.cells d.number) (λ (q : Left). has_mark ((now p s r).cells q.cell) ≡ q.marked) d.leaving (λ q k. ap has_mark k.1) ok.each_left;
          }

      miss : (n ≡ 0 → ⊥) → Goes s (lane_at p l) id me (took plan (step slots (lane_at p l) 0 1 none) me) n
      miss not = (
        w,
        keeps,
        tt,
        subst (λ (ws : List ℕ). Ruled p record { words = ws; homes = s.homes; views = set s.views id w }) (sym (set-get_or s.words (lane_at p l) 0))
            (quiet p s r id d w s.words s.homes at lv lv (refl, refl, refl) refl (inr refl)
            (holds_as p (now p s r) d w refl refl refl refl refl refl refl ok.stage ok)
            refl refl words.0 words.1 words.2 r.parts.owner r.parts.entry (lanes_stay p r.parts.owner r.parts.entry s.words s.words s.homes s.views id d w r.parts.lanes at (λ m _. refl) refl) (knowns_stay p s r id d w at refl refl) (given_stays p s r id d w r.parts.entry at lv (refl, refl, refl) refl (λ _. refl))),
        λ k is_k. ((λ zero_is. absurd (not zero_is)), λ _. (refl, subst (λ (m : ℕ). MissesLane (plan d.made) d m n w) (lane_is k is_k) (one_is', not_lone, refl))),
      )
        where
          w : D
          w = record d { tries = tried 15 l n ∷ d.tries }

          words : Shown p s r s.words (set s.views id w)
          words = unseen p s r id d w at lv refl refl refl refl (λ _. refl)

          one_is' : n ≡ 1
          one_is' = let b = r.parts.lanes.bit l inside in let m : n ≢ 0 = not in omega arith

          none_some : (q : Option (Taken S)) (u : Taken S) → q ≡ None → q ≡ Some u → ⊥
          none_some q u a b = let e : None ≡ Some u = sym a ∙ b in cc

          -- the lane is with another pass
          not_lone : IsLone d → ⊥
          not_lone lone = let a = r.parts.lanes.away l inside one_is' in dite (ℕ_discrete (r.parts.owner l) id)
              (λ e. none_some d.lane o bare (ap (λ (v : D). v.lane) (same_view s.views id (r.parts.owner l) d a.0 (sym e) at a.1) ∙ a.2))
              (λ e. none_some a.0.lane o (lone_others p s r id d at lv lone (r.parts.owner l) a.0 a.1 e).0.lane a.2)

  pub gives_lane : (slots id : ℕ) (me : Sat S M) (o : Taken S) (y : S) → me.0.stage ≡ Idle → me.0.lane ≡ Some o → me.1 ≡ (o.lane, Some y) ∷ [] → Returns p o me.0.seen y
      → Allows (Ruled p) slots id me (lane_at p o.lane) (λ _. 0) (λ _. gave plan (step slots (lane_at p o.lane) 0 0 none) me 0)
  gives_lane slots id me o y idle has carried fits s r many at below = subst Gave (sym carried) (
    w,
    gives,
    tt,
    quiet p s r id d w (set s.words (lane_at p l) 0) (set s.homes l (some (Some y))) at lv lv (refl, refl, refl) refl (inr refl)
        record { made = ok.made; pins = ok.pins; each_pin = ok.each_pin; each_claim = ok.each_claim; each_slot = ok.each_slot; each_left = ok.each_left; few = ok.few; once = ok.once; once_left = ok.once_left; once_filled = ok.once_filled; each_rise = length-set d.rises l risen ∙ ok.each_rise; stage = ok.stage }
        (length-set s.words (lane_at p l) 0) (length-set s.homes l (some (Some y))) words.0 words.1 words.2
        r.parts.owner (with_at r.parts.entry l new)
        (lanes_give p r.parts.owner r.parts.entry s.words s.homes s.views id d w o new r.parts.lanes at (let wide = r.parts.wide in let k = known.0 in omega arith) (let deep = r.parts.deep in let k = known.0 in omega arith) has refl refl refl refl)
        (knowns_put p r.parts.entry l new r.log (set s.views id w) r.ended (λ m x n is. known_stays p m x (r.parts.entry m) r.log s.views r.ended id d w (r.parts.known m x is) at (λ c _. omega arith) (get_or-set_other d.rises l m risen 0 n))
        (λ x is. known_returns p l x o r.log d.seen s.views r.ended id d w y (subst (λ (u : Taken S). Known p l x u r.log s.views r.ended) known.3 (r.parts.known l x is)) at refl (r.roster.each id d at lv).begins fits (λ c. omega arith)
        (get_or-set_same d.rises l risen 0 (let k = known.0 in let many = ok.each_rise in omega arith))))
        given_now,
    (
      refl,
      λ u v h c. let q : o ≡ u = some_is o u (sym has ∙ h) in let c' : (l, Some y) ∷ [] ≡ (u.lane, Some v) ∷ [] = sym carried ∙ c in let e : y ≡ v = store_is l u.lane y v c' in
          subst (λ (b : Plan S M × Taken S × S). GivesLane b.0 d b.1 b.2 w) (λ i. (as_plan i, q i, e i)) refl,
    ),
  )
    where
      d : D
      d = me.0

      l : ℕ
      l = o.lane

      lv : out d ≡ 1
      lv = ap out_of idle

      ok : HoldsOk p (now p s r) d
      ok = r.holds id d at lv

      as_plan : p ≡ plan d.made
      as_plan = sym (ap plan ok.made ∙ same_plan)

      risen : ℕ
      risen = rise l d + rose (p.shows o.store).faults (p.shows y).faults

      new : Taken S
      new = taken l y r.log

      w : D
      w = record d { lane = None; given = gives_store o.lane y ∷ d.given; rises = set d.rises l risen }

      known : (l < p.lanes) × (get_or s.words (lane_at p l) 0 ≡ 1) × (r.parts.owner l ≡ id) × (r.parts.entry l ≡ o)
      known = r.parts.lanes.holds id d o at has

      words : Shown p s r (set s.words (lane_at p l) 0) (set s.views id w)
      words = lane_word p s r id d w l 0 at lv known.0 refl refl refl refl (λ _. refl)

      -- the store that came home is the one that was given last
      given_now : GivenOk p (with_at r.parts.entry l new) (set s.views id w)
      given_now j f m x t out_f lone last = ⊎_elim
          (λ (q : (j ≡ id) × (w ≡ f)). own m x (ap (given_to m) (ap (λ (v : D). v.given) q.1) ∙ last) (subst IsLone (sym q.1) lone))
          (λ (q : (j ≢ id) × (get_elem? s.views j ≡ some f)). let z : out d ≡ 0 = (lone_others p s r j f q.1 out_f lone id d at (λ e. q.0 (sym e))).1 in let o : out d ≡ 1 = lv in absurd (omega arith))
          (at_set s.views id j w f t)
        where
          own : (m : ℕ) (x : S) → given_to m (gives_store l y ∷ d.given) ≡ Some x → IsLone w → (with_at r.parts.entry l new m).store ≡ x
          own m x e h = dite (ℕ_discrete m l)
              (λ q. ap (λ (v : Taken S). v.store) (put_at r.parts.entry l new m q) ∙ (let k : Some y ≡ Some x = sym (ap (λ (b : Bool). cond b (Some y) (given_to m d.given)) (eq-eqb l m (sym q))) ∙ e in cc))
              (λ q. ap (λ (v : Taken S). v.store) (put_other r.parts.entry l new m q) ∙ r.parts.given id d m x at lv h (sym (ap (λ (b : Bool). cond b (Some y) (given_to m d.given)) (ne_eqb l m (λ k. q (sym k)))) ∙ e))

      store_is : (k m : ℕ) (a b : S) → ◌≡◌ {A = List (ℕ × Option S)} ((k, Some a) ∷ []) ((m, Some b) ∷ []) → a ≡ b
      store_is k m a b q = let e1 : ◌≡◌ {A = ℕ × Option S} (k, Some a) (m, Some b) = cc in let e2 : Some a ≡ Some b = ap (λ (q : ℕ × Option S). q.1) e1 in cc

      Gave : List (ℕ × Option S) → Type 0
      Gave cs = (u : D) × (act : Act (Option S)) × Valid s.homes cs act × Ruled p (stepped s (lane_at p l) 0 id cs u act) × gave plan (step slots (lane_at p l) 0 0 none) me 0 (u, carried_after cs act)
