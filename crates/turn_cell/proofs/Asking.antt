-- A take, the object's step and a give are one call.
use Rattle.std.proofs.Common.{◌≡◌, ℕ, List, [], ◌∷◌, ◌++◌, Some, sym, refl, ap, ◌∙◌, subst, arith}
use Rattle.pass_roster.specs.History.{entries_by}
use Rattle.pass_roster.proofs.Entries.{by_append, by_one}
use Rattle.turn_cell.specs.declared.views.Entry.{Entry}
use Rattle.turn_cell.specs.declared.views.PassView.{PassView}
use Rattle.turn_cell.specs.declared.views.Stage.{Stage}
use Rattle.turn_cell.specs.declared.views.Stage.TheVariants.{Spent, Idle, Holds, Joining}
use Rattle.turn_cell.specs.Entry.{StepRule, entry, Leads}
use Rattle.turn_cell.specs.PassView.{stage_kind}
use Rattle.turn_cell.specs.Plays.{Taken, adding}
use Rattle.turn_cell.specs.Turn.{AskedTurn}

module _ {T C R : Type 0} where
  idle_is : (st : Stage T C R) → stage_kind st ≡ 1 → st ≡ Idle
  idle_is Spent e = absurd (omega arith)
  idle_is Idle e = refl
  idle_is (Holds x) e = absurd (omega arith)
  idle_is (Joining a b) e = absurd (omega arith)

  -- `d1` is the view with the value x, which the call c turns into y
  pub asks : (steps : StepRule T C R) (x0 : T) (d d1 d2 : PassView T C R) (k : ℕ) (x y : T) (c told : C) (a : R) → Taken steps d x d1 → stage_kind d.stage ≡ 1 → d.opening ≡ Some x0 → k ≡ d.number → steps x k c a y → told ≡ c
      → d2 ≡ adding d1 (entry d1.number told a) → AskedTurn steps x0 c a d d2
  asks steps x0 d d1 d2 k x y c told a t idle opened num did is e = record {
    between = t.between;
    before = x;
    after = y;
    seen = seen;
    mine = mine;
    same = same;
    own = ap by_own seen ∙ (by_append (λ (z : Entry C R). z.by) d.number (d.seen ++ t.between) (en ∷ []) ∙ ((λ i. low i ++ by_one (λ (z : Entry C R). z.by) d.number en refl i) ∙ sym mine));
    foreign = t.foreign;
    led = subst (λ l. Leads steps x0 l x) t.seen (t.led x0 opened);
    step = subst (λ (z : ℕ). steps x z c a y) num did;
    alone = t.alone;
  }
    where
      en : Entry C R
      en = entry d.number c a

      by_own : List (Entry C R) → List (Entry C R)
      by_own = entries_by (λ (z : Entry C R). z.by) d.number

      low : by_own (d.seen ++ t.between) ≡ d.mine
      low = ap by_own (sym t.seen) ∙ t.own

      -- the view after, in terms of the view before
      made : d2 ≡ adding (record d { seen = d1.seen; stage = Holds x }) en
      made = e ∙ ((λ i. adding d1 (entry d1.number (is i) a)) ∙ (λ i. adding (t.is i) (entry (t.is i).number c a)))

      seen : d2.seen ≡ (d.seen ++ t.between) ++ en ∷ []
      seen = ap (λ (z : PassView T C R). z.seen) made ∙ ap (λ l. l ++ en ∷ []) t.seen

      mine : d2.mine ≡ d.mine ++ en ∷ []
      mine = ap (λ (z : PassView T C R). z.mine) made

      same : d2 ≡ record d { seen = d2.seen; mine = d2.mine }
      same = let s : d2.seen ≡ d1.seen ++ en ∷ [] = ap (λ (z : PassView T C R). z.seen) made in
          made ∙ λ i. record d { seen = sym s i; mine = sym mine i; stage = sym (idle_is d.stage idle) i }
