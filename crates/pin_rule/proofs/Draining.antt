-- The stores on their way into a table and out of it.
use Rattle.std.proofs.Common.{◌≡◌, ℕ, zero, suc, ◌+◌, ◌<◌, List, [], ◌∷◌, ◌++◌, length, map, take, replicate, get_or, Option, Some, None, sym, refl, ap, ◌∙◌, subst, arith}
use mathlib.Core.Option.{some, some-injective, some-ne-none}
use lib.ListN.{get_elem?}
use Rattle.std.specs.Option.{IsSome}
use Rattle.atomic_table.specs.Table.{opening, Final, Seen}
use Rattle.cell_store.specs.Store.{Contents}
use Rattle.pass_roster.specs.History.{StartsWith}
use Rattle.pin_words.specs.declared.doing.Doing.{Doing}
use Rattle.pin_words.specs.declared.doing.Stage.TheVariants.{Idle}
use Rattle.pin_words.specs.Plan.{Plan}
use Rattle.pin_words.specs.Layout.{word_count}
use Rattle.pin_words.specs.Rule.{Ruled, Sat}
use Rattle.pin_words.specs.Tells.{IsLone}
use Rattle.pin_words.specs.Tells.{HasSeen, SawOthers}
use Rattle.pin_words.specs.Ends.{starting, IsBare, joined, Rejoined, Told, Settled, IsHistory}
use Rattle.pin_words.proofs.Ending.{opens, closes_stores, closes_history}
use Rattle.pin_rule.specs.declared.made.Made.{Made}
use Rattle.pin_rule.specs.Plans.{plan_of, IsPlanOf}
use Rattle.pin_rule.specs.Calls.{carried, Rests, SamePass, AllSome, AreSettled}
use Rattle.pin_rule.proofs.Resting.{made_plan}

module _ {S : Type 0} where
  pub all_some_at : (xs : List (Option S)) (i : ℕ) (r : Option S) → AllSome xs → get_elem? xs i ≡ some r → IsSome r
  all_some_at [] i r a e = absurd (some-ne-none r (sym e))
  all_some_at (x ∷ xs) zero r a e = subst IsSome (some-injective x r e) a.0
  all_some_at (x ∷ xs) (suc i) r a e = all_some_at xs i r a.1 e

  pub all_some_map : (ys : List S) → AllSome (map (λ (x : S). Some x) ys)
  all_some_map [] = tt
  all_some_map (y ∷ ys) = (refl, all_some_map ys)

  all_some_by : (xs : List (Option S)) → ((l : ℕ) → l < length xs → (y : S) × (get_elem? xs l ≡ some (Some y))) → AllSome xs
  all_some_by [] h = tt
  all_some_by (x ∷ xs) h = let f = h 0 (omega arith) in (subst IsSome (sym (some-injective x (Some f.0) f.1)) refl, all_some_by xs (λ l b. h (suc l) (omega arith)))

  take_next : (xs : List (Option S)) (i : ℕ) (r : Option S) → get_elem? xs i ≡ some r → take (suc i) xs ≡ take i xs ++ r ∷ []
  take_next [] i r e = absurd (some-ne-none r (sym e))
  take_next (x ∷ xs) zero r e = λ k. some-injective x r e k ∷ []
  take_next (x ∷ xs) (suc i) r e = λ k. x ∷ take_next xs i r e k

  map_snoc : (ys : List S) (y : S) → map (λ (x : S). Some x) (ys ++ y ∷ []) ≡ map (λ (x : S). Some x) ys ++ Some y ∷ []
  map_snoc [] y = refl
  map_snoc (x ∷ xs) y = λ k. Some x ∷ map_snoc xs y k

  pub drained : (xs : List (Option S)) (ys zs : List S) (i : ℕ) (r : Option S) (y : S) → map (λ (x : S). Some x) ys ≡ take i xs → get_elem? xs i ≡ some r → r ≡ Some y → zs ≡ ys ++ y ∷ [] → map (λ (x : S). Some x) zs ≡ take (i + 1) xs
  drained xs ys zs i r y h e is q = ap (map (λ (x : S). Some x)) q ∙ (map_snoc ys y ∙ ((λ k. h k ++ sym is k ∷ []) ∙ (sym (take_next xs i r e) ∙ (let j : suc i ≡ i + 1 = omega arith in (λ k. take (j k) xs)))))

  -- lists of which the options are the same
  pub same_stores : (xs ys : List S) → map (λ (x : S). Some x) xs ≡ map (λ (x : S). Some x) ys → xs ≡ ys
  same_stores [] [] e = refl
  same_stores [] (y ∷ ys) e = absurd (cc e)
  same_stores (x ∷ xs) [] e = absurd (cc e)
  same_stores (x ∷ xs) (y ∷ ys) e = let h : ◌≡◌ {A = List (Option S)} (Some x ∷ map (λ (x : S). Some x) xs) (Some y ∷ map (λ (x : S). Some x) ys) = e in let a : Some x ≡ Some y = cc in let b : map (λ (x : S). Some x) xs ≡ map (λ (x : S). Some x) ys = cc in let a' : x ≡ y = cc in
      let r = same_stores xs ys b in λ i. a' i ∷ r i

  map_at : (ys : List S) (l : ℕ) (y : S) → get_elem? ys l ≡ some y → get_elem? (map (λ (x : S). Some x) ys) l ≡ some (Some y)
  map_at [] l y e = absurd (some-ne-none y (sym e))
  map_at (x ∷ xs) zero y e = ap (λ (v : S). some (Some v)) (some-injective x y e)
  map_at (x ∷ xs) (suc l) y e = map_at xs l y e

  map_long : (ys : List S) → length (map (λ (x : S). Some x) ys) ≡ length ys
  map_long [] = refl
  map_long (y ∷ ys) = ap suc (map_long ys)

  there : (ys : List S) (l : ℕ) → l < length ys → (y : S) × (get_elem? ys l ≡ some y)
  there [] l h = absurd (omega arith)
  there (y ∷ ys) zero h = (y, refl)
  there (y ∷ ys) (suc l) h = there ys l (omega arith)

zeros_long : (n : ℕ) → length {A = ℕ} (replicate n 0) ≡ n
zeros_long zero = refl
zeros_long (suc n) = ap suc (zeros_long n)

zeros_at : (n i : ℕ) → ◌≡◌ {A = ℕ} (get_or (replicate n 0) i 0) 0
zeros_at zero i = refl
zeros_at (suc n) zero = refl
zeros_at (suc n) (suc i) = zeros_at n i

module _ {S : Type 0} (shows : S → Contents) (m : Made S) where
  abbrev p : Plan S (Option (Made S))
  p = plan_of shows (Some m)

  -- the rule when the table is made
  pub opens_with : (ws : List ℕ) (hs : List (Option S)) (n : ℕ) → IsPlanOf m → hs ≡ map (λ (x : S). Some x) m.stores.value.items → ws ≡ replicate n 0 → n ≡ word_count p → Ruled p (opening ws hs (starting p))
  opens_with ws hs n made homes words count = subst (λ (q : List ℕ × List (Option S)). Ruled p (opening q.0 q.1 (starting p))) (λ i. (sym words i, sym homes i))
      (opens p (there m.stores.value.items 0 made.some_lanes).0 (replicate n 0) (made_plan shows m made) (zeros_long n ∙ count) (λ i. zeros_at n i))

  -- the stores and the history when it is closed
  module _ (id : ℕ) (u v : Doing S (Option (Made S))) (ws : List ℕ) (xs : List (Option S)) (same : u ≡ v) (lone : IsLone v) (idle : v.stage ≡ Idle) (bare : v.lane ≡ None) (fin : Final (Seen (Ruled p) id u) ws xs) where
    fin_v : Final (Seen (Ruled p) id v) ws xs
    fin_v = subst (λ (y : Doing S (Option (Made S))). Final (Seen (Ruled p) id y) ws xs) same fin

    pub closed_long : length xs ≡ length m.stores.value.items
    closed_long = sym fin_v.3 ∙ fin_v.1.0.parts.deep

    each_closed : (l : ℕ) → l < length xs → (y : S) × (get_elem? xs l ≡ some (Some y))
    each_closed l b = let x = there m.stores.value.items l (let q = closed_long in omega arith) in let k = closes_stores p id v ws xs lone idle bare fin_v l x.0 (let q = closed_long in omega arith) x.1 in (k.0, k.1)

    pub closed_some : AllSome xs
    closed_some = all_some_by xs each_closed

    pub closed_settled : (ys : List S) → map (λ (x : S). Some x) ys ≡ xs → AreSettled p v ys
    closed_settled ys is = record {
      count = sym (map_long ys) ∙ (ap length is ∙ closed_long);
      each = λ l first store f_is s_is. let inside : l < length m.stores.value.items = within m.stores.value.items l first f_is in let k = closes_stores p id v ws xs lone idle bare fin_v l first inside f_is in
          let q : Some store ≡ Some k.0 = some-injective (Some store) (Some k.0) (sym (map_at ys l store s_is) ∙ ((λ i. get_elem? (is i) l) ∙ k.1)) in let e : store ≡ k.0 = cc in subst (Settled p v l first) (sym e) k.2;
    }
      where
        within : (zs : List S) (l : ℕ) (z : S) → get_elem? zs l ≡ some z → l < length zs
        within [] l z e = absurd (some-ne-none z (sym e))
        within (y ∷ zs) zero z e = omega arith
        within (y ∷ zs) (suc l) z e = let r = within zs l z e in omega arith

    pub closed_history : IsBare v → IsHistory p v
    closed_history holds_none = closes_history p id v ws xs lone idle holds_none fin_v

-- the seat after a join
pub rejoined : {S : Type 0} (shows : S → Contents) (m m1 m2 : Sat S (Option (Made S))) (e : Doing S (Option (Made S))) (made : Made S) → Rests m made → m1 ≡ (joined m.0 e, m.1) → (m2 ≡ (record m1.0 { stage = Idle }, m1.1)) × Told (plan_of shows m1.0.made) m1.0 m1.0.stage
    → Rests m2 made × SamePass m.0 m2.0 × Rejoined m.0 e m2.0 × HasSeen (plan_of shows (Some made)) m2.0 × SawOthers 0 m.0.seen m2.0.seen
rejoined {S} shows m m1 m2 e made r is = subst (λ (x : Sat S (Option (Made S))). (m2 ≡ (record x.0 { stage = Idle }, x.1)) × Told (plan_of shows x.0.made) x.0 x.0.stage → Rests m2 made × SamePass m.0 m2.0 × Rejoined m.0 e m2.0 × HasSeen (plan_of shows (Some made)) m2.0 × SawOthers 0 m.0.seen m2.0.seen) (sym is) (λ k. (
  (ap (λ (x : Sat _ _). x.0.made) k.0 ∙ r.0, ap (λ (x : Sat _ _). x.0.stage) k.0, ap (λ (x : Sat _ _). x.1) k.0 ∙ (r.2 ∙ ap (λ (x : Sat _ _). carried x.0.lane) (sym k.0))),
  (ap (λ (x : Sat _ _). x.0.number) k.0, ap (λ (x : Sat _ _). x.0.drawn) k.0, ap (λ (x : Sat _ _). length x.0.rises) k.0),
  (
    ap (λ (x : Sat _ _). x.0) k.0 ∙ (λ i. record (joined m.0 e) { stage = sym r.1 i }),
    subst (λ (l : List _). StartsWith l m.0.seen) (sym (ap (λ (x : Sat _ _). x.0.seen) k.0)) (k.1.0.0, k.1.0.1),
    subst (λ (l : List _). StartsWith l e.seen) (sym (ap (λ (x : Sat _ _). x.0.seen) k.0)) k.1.1,
  ),
  subst (λ (q : Option (Made S) × Doing S (Option (Made S))). HasSeen (plan_of shows q.0) q.1) (λ i. (r.0 i, ap (λ (x : Sat _ _). x.0) (sym k.0) i)) (record { legal = k.1.2.legal; own = k.1.2.own }),
  subst (SawOthers 0 m.0.seen) (sym (ap (λ (x : Sat _ _). x.0.seen) k.0)) k.1.0,
))
