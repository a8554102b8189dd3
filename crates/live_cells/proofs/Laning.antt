-- What the taking and the giving of a lane do.
use Rattle.std.proofs.Common.{◌≡◌, ◌≢◌, ℕ, ◌+◌, ◌<◌, ◌≤◌, ◌==◌, cond, Bool, false, List, [], ◌∷◌, length, get_or, set, get_or-set_same, get_or-set_other, length-set, Option, Some, sym, refl, ap, ◌∙◌, subst, arith, eq-eqb}
use mathlib.Core.Logic.{dite}
use native.Mathlib.Decide.{ℕ_discrete}
use Rattle.cell_store.specs.Faults.{Rose}
use Rattle.stood_arrays.specs.Counts.{rose}
use Rattle.stood_arrays.proofs.StandingLemmas.{rise_is_one}
use Rattle.arr_history.specs.History.{after}
use Rattle.pin_words.specs.declared.holding.Held.{Held}
use Rattle.pin_words.specs.declared.holding.Left.{Left}
use Rattle.pin_words.specs.declared.lane.Taken.{Taken}
use Rattle.pin_words.specs.declared.doing.Doing.{Doing}
use Rattle.pin_words.specs.Plan.{Plan, start_of}
use Rattle.pin_words.specs.Account.{times_in, has_mark, rise}
use Rattle.pin_words.specs.Tells.{tried}
use Rattle.pin_words.specs.Lanes.{taken, TakesLane, MissesLane, GivesLane}
use Rattle.pin_rule.specs.Going.{Goes}
use Rattle.pin_rule.specs.Hands.{Hands}
use Rattle.pin_rule.proofs.Goings.{same_goes, sees_goes}
use Rattle.live_cells.specs.Lanes.{JustTook}

module _ {S M : Type 0} (p : Plan S M) where
  pub takes_goes : (d d' : Doing S M) (l : ℕ) (x : S) → TakesLane p d l x d' → Goes p d [] d'
  takes_goes d d' l x t = sees_goes p d _ d' t.sees (record { number = refl; ended = refl; drawn = refl; tries = (tried 15 l 0 ∷ [], refl); rises = refl }) refl

  pub misses_goes : (d d' : Doing S M) (l n : ℕ) → MissesLane p d l n d' → Goes p d [] d'
  misses_goes d d' l n t = same_goes p d d' (record { number = ap (λ v. v.number) t.2; ended = ap (λ v. v.ended) t.2; drawn = ap (λ v. v.drawn) t.2; tries = (tried 15 l n ∷ [], ap (λ v. v.tries) t.2); rises = ap (λ v. v.rises) t.2 })
      (ap (λ v. v.seen) t.2) (ap (λ v. v.mine) t.2)

  pub just_took : (d d' : Doing S M) (l : ℕ) (x : S) → TakesLane p d l x d' → JustTook p l x d.claims d.slots d.leaving d'
  just_took d d' l x t = record { before = d; took = t; claims_are = refl; slots_are = refl; leaving_are = refl }

  module _ (l : ℕ) (x : S) (claims : List ℕ) (slots : List Held) (leaving : List Left) (d : Doing S M) (k : JustTook p l x claims slots leaving d) where
    -- what the pass holds then
    pub took_hands : Hands claims slots leaving (Some (taken l x d.seen)) d
    took_hands = let is = k.took.sees.is in record { claims_are = ap (λ v. v.claims) is ∙ k.claims_are; slots_are = ap (λ v. v.slots) is ∙ k.slots_are; leaving_are = ap (λ v. v.leaving) is ∙ k.leaving_are; lane_is = ap (λ v. v.lane) is }

    -- a cell that it has claimed isn't marked
    pub took_clean : (c : ℕ) (cs : List ℕ) → claims ≡ c ∷ cs → has_mark ((after (start_of p) d.seen).cells c) ≡ false
    took_clean c cs e = k.took.unmarked c (subst (λ n. 0 < times_in c n) (sym (k.claims_are ∙ e)) (let h : ◌≡◌ {A = ℕ} (cond (c == c) 1 0) 1 = ap (λ (b : Bool). cond b 1 0) (eq-eqb c c refl) in omega arith))

at_set_other : (xs : List ℕ) (l m v : ℕ) → m ≢ l → get_or xs m 0 ≤ get_or (set xs l v) m 0
at_set_other xs l m v ne = let e = get_or-set_other xs l m v 0 ne in omega arith

at_set : (xs : List ℕ) (l m v : ℕ) → l < length xs → get_or xs l 0 ≤ v → get_or xs m 0 ≤ get_or (set xs l v) m 0
at_set xs l m v inside up = dite (ℕ_discrete m l)
    (λ e. subst (λ n. get_or xs n 0 ≤ get_or (set xs l v) n 0) (sym e) (let s = get_or-set_same xs l v 0 inside in omega arith))
    (λ ne. at_set_other xs l m v ne)

module _ {S M : Type 0} (p : Plan S M) where
  pub gives_goes : (d d' : Doing S M) (o : Taken S) (y : S) → o.lane < length d.rises → GivesLane p d o y d' → Goes p d [] d'
  gives_goes d d' o y inside is = record {
    number = ap (λ v. v.number) is;
    ended = ap (λ v. v.ended) is;
    drawn = ap (λ v. v.drawn) is;
    between = same.between;
    seen = same.seen;
    own = same.own;
    lone = same.lone;
    mine = same.mine;
    legal = same.legal;
    tries = same.tries;
    rises = λ m. subst (λ (xs : List ℕ). rise m d ≤ get_or xs m 0) (sym (ap (λ v. v.rises) is)) (at_set d.rises o.lane m _ inside (omega arith));
    lanes = ap (λ v. length v.rises) is ∙ length-set d.rises o.lane _;
  }
    where
      same : Goes p d [] (record d' { rises = d.rises })
      same = same_goes p d (record d' { rises = d.rises }) (record { number = ap (λ v. v.number) is; ended = ap (λ v. v.ended) is; drawn = ap (λ v. v.drawn) is; tries = ([], ap (λ v. v.tries) is); rises = refl }) (ap (λ v. v.seen) is) (ap (λ v. v.mine) is)

  pub gives_raised : (d d' : Doing S M) (o : Taken S) (y : S) → o.lane < length d.rises → GivesLane p d o y d' → Rose (p.shows o.store).faults (p.shows y).faults → rise o.lane d < rise o.lane d'
  gives_raised d d' o y inside is h = subst (λ (xs : List ℕ). rise o.lane d < get_or xs o.lane 0) (sym (ap (λ v. v.rises) is))
      (let s = get_or-set_same d.rises o.lane (rise o.lane d + rose (p.shows o.store).faults (p.shows y).faults) 0 inside in let r = (rise_is_one (p.shows o.store).faults (p.shows y).faults).1 h in omega arith)

pub lane_inside : (l m n lanes : ℕ) → l ≡ m → n ≡ lanes → l < lanes → m < n
lane_inside l m n lanes a b h = omega arith

pub same_taken : {S : Type 0} (o q : Taken S) (x : Option (Taken S)) → x ≡ Some o → x ≡ Some q → o ≡ q
same_taken o q x a b = cc
