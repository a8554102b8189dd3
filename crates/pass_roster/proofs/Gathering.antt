-- What the first pass knows after phases.
use Rattle.std.proofs.Common.{◌≡◌, ℕ, zero, suc, ◌+◌, ◌<◌, ◌≤◌, List, [], ◌∷◌, ◌++◌, length, sym, refl, ap, subst, ◌∙◌, append_assoc, arith, length-append}
use mathlib.Core.Option.{some, some-injective, some-ne-none}
use lib.ListN.{get_elem?}
use Rattle.std.proofs.lemmas.List.{append-nil}
use Rattle.pass_roster.specs.History.{entries_by, flat}
use Rattle.pass_roster.specs.Roster.{Passes}
use Rattle.pass_roster.specs.Ends.{IsWhole}
use Rattle.pass_roster.proofs.Entries.{by_append, by_others}
use Rattle.pass_roster.specs.Phases.{AreEnded, ArePhases, IsFirst, InPhases}
use Rattle.pass_roster.proofs.Standing.{entry_count, count_append, no_entries, Stages, stands}

module _ {D E X : Type 0} (p : Passes D E X) where
  pub ended_at : (k : ℕ) (works : List (List E)) (xs : List X) → AreEnded p k works xs → (i : ℕ) (own : List E) → get_elem? works i ≡ some own
      → (x : X) × (get_elem? xs i ≡ some x) × (p.ended_number x ≡ k + i) × (p.ended_mine x ≡ own)
  ended_at k [] xs are i own at = absurd (some-ne-none own (sym at))
  ended_at k (w ∷ works) xs are zero own at = (are.0, ap (λ l. get_elem? l 0) are.2, (let e = are.3 in omega arith), are.4 ∙ some-injective w own at)
  ended_at k (w ∷ works) xs are (suc i) own at = let r = ended_at (k + 1) works are.1 are.5 i own at in
      (r.0, ap (λ l. get_elem? l (suc i)) are.2 ∙ r.1, (let e = r.2 in omega arith), r.3)

  pub ended_append : (k : ℕ) (works others : List (List E)) (xs ys : List X) → AreEnded p k works xs → AreEnded p (k + length works) others ys → AreEnded p k (works ++ others) (xs ++ ys)
  ended_append k [] others xs ys are more = subst (λ (l : List X). AreEnded p k others (l ++ ys)) (sym are)
      (subst (λ (n : ℕ). AreEnded p n others ys) (let z : length {A = List E} [] ≡ 0 = refl in let e : k + length {A = List E} [] ≡ k = omega arith in e) more)
  ended_append k (w ∷ works) others xs ys are more = (
    are.0,
    are.1 ++ ys,
    ap (λ l. l ++ ys) are.2,
    are.3,
    are.4,
    ended_append (k + 1) works others are.1 ys are.5
        (subst (λ (n : ℕ). AreEnded p n others ys) (let e : k + length (w ∷ works) ≡ (k + 1) + length works = omega arith in e) more),
  )

  pub record Gathered (d : D) (phases : List (List (List E))) (w : D) : Type 0 where
    pub number : p.number w ≡ p.number d
    pub mine : p.mine w ≡ p.mine d
    pub drawn : p.drawn w ≡ p.drawn d + length (flat phases)
    pub ends : List X
    pub ended : p.ended w ≡ p.ended d ++ ends
    pub are : AreEnded p (p.drawn d) (flat phases) ends
    pub rest : List E
    pub seen : p.seen w ≡ p.seen d ++ rest
    pub staged : Stages p.by (p.drawn d) phases rest

  pub gather : (d : D) (phases : List (List (List E))) (w : D) → ArePhases p d phases w → Gathered d phases w
  gather d [] w are = record {
    number = ap p.number are;
    mine = ap p.mine are;
    drawn = (let z : length {A = List E} [] ≡ 0 = refl in let e : p.drawn w ≡ p.drawn d = ap p.drawn are in omega arith);
    ends = [];
    ended = ap p.ended are ∙ sym (append-nil (p.ended d));
    are = refl;
    rest = [];
    seen = ap p.seen are ∙ sym (append-nil (p.seen d));
    staged = refl;
  }
  gather d (works ∷ phases) w are =
      let mid = are.0 in let one = are.1 in let g = gather mid phases w are.2 in
      record {
        number = g.number ∙ one.number;
        mine = g.mine ∙ one.mine;
        drawn = (let a = g.drawn in let b = one.drawn in let c = length-append works (flat phases) in omega arith);
        ends = one.ends ++ g.ends;
        ended = g.ended ∙ (ap (λ l. l ++ g.ends) one.ended ∙ append_assoc (p.ended d) one.ends g.ends);
        are = ended_append (p.drawn d) works (flat phases) one.ends g.ends one.are (subst (λ (n : ℕ). AreEnded p n (flat phases) g.ends) one.drawn g.are);
        rest = one.part ++ g.rest;
        seen = g.seen ∙ (ap (λ l. l ++ g.rest) one.seen ∙ append_assoc (p.seen d) one.part g.rest);
        staged = (one.part, g.rest, refl, one.made, subst (λ (n : ℕ). Stages p.by n phases g.rest) one.drawn g.staged);
      }

  pub phases_stand : (d w z : D) (phases : List (List (List E))) (closing : List E)
      → IsFirst p d → ArePhases p d phases w → IsWhole p z → p.ended z ≡ p.ended w → p.seen z ≡ p.seen w ++ closing → entries_by p.by 0 closing ≡ closing → p.mine z ≡ p.mine w ++ closing
      → p.drawn z ≡ p.drawn w → InPhases p.by 1 phases (p.seen w)
  phases_stand d w z phases closing first are whole ended seen own mine drawn =
      stands p.by 1 phases [] (p.seen w) staged each low high
    where
      g : Gathered d phases w
      g = gather d phases w are

      seen_is : p.seen w ≡ g.rest
      seen_is = g.seen ∙ ap (λ l. l ++ g.rest) first.seen

      ended_is : p.ended z ≡ g.ends
      ended_is = ended ∙ (g.ended ∙ ap (λ l. l ++ g.ends) first.ended)

      staged : Stages p.by 1 phases (p.seen w)
      staged = subst (λ (l : List E). Stages p.by 1 phases l) (sym seen_is) (subst (λ (n : ℕ). Stages p.by n phases g.rest) first.drawn g.staged)

      counted : (n : ℕ) → entry_count p.by n (p.seen z) ≡ entry_count p.by n (p.seen w) + entry_count p.by n closing
      counted n = ap (entry_count p.by n) seen ∙ count_append p.by n (p.seen w) closing

      each : (i : ℕ) (mine : List E) → get_elem? (flat phases) i ≡ some mine → entries_by p.by (1 + i) ([] ++ p.seen w) ≡ mine
      each i mine at =
          let x = ended_at (p.drawn d) (flat phases) g.ends g.are i mine at in
          let e = whole.each i x.0 ((λ j. get_elem? (ended_is j) i) ∙ x.1) in
          let n : p.ended_number x.0 ≡ 1 + i = (let a = x.2 in let b = first.drawn in omega arith) in
          let all : entries_by p.by (1 + i) (p.seen z) ≡ mine = ap (λ (m : ℕ). entries_by p.by m (p.seen z)) (sym n) ∙ (e.0 ∙ x.3) in
          let none : entries_by p.by (1 + i) closing ≡ [] = by_others p.by (1 + i) 0 closing own (λ q. absurd (omega arith)) in
          sym (ap (entries_by p.by (1 + i)) seen ∙ (by_append p.by (1 + i) (p.seen w) closing ∙ (ap (λ l. entries_by p.by (1 + i) (p.seen w) ++ l) none ∙ append-nil (entries_by p.by (1 + i) (p.seen w))))) ∙ all

      low : (n : ℕ) → n < 1 → entries_by p.by n (p.seen w) ≡ []
      low n l =
          let z0 : n ≡ 0 = omega arith in
          let a = counted 0 in let b : entry_count p.by 0 (p.seen z) ≡ length closing = ap length (whole.own ∙ (mine ∙ ap (λ l. l ++ closing) (g.mine ∙ first.mine))) in let c : entry_count p.by 0 closing ≡ length closing = ap length own in
          ap (λ (m : ℕ). entries_by p.by m (p.seen w)) z0 ∙ no_entries p.by 0 (p.seen w) (omega arith)

      high : (n : ℕ) → 1 + length (flat phases) ≤ n → entries_by p.by n (p.seen w) ≡ []
      high n l =
          let a = counted n in let b : entry_count p.by n (p.seen z) ≡ 0 = ap length (whole.no_other n (let e = g.drawn in let f = first.drawn in let h = drawn in omega arith)) in
          no_entries p.by n (p.seen w) (omega arith)
