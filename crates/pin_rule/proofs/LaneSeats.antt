-- The seat round the taking and the giving of a lane.
use Rattle.std.proofs.Common.{◌≡◌, ℕ, ◌<◌, ◌==◌, [], ◌∷◌, length, Option, Some, None, sym, ap, ◌∙◌, subst, ◌+◌, length-set}
use mathlib.Core.Option.{none}
use prog.Atomic.{either}
use Rattle.atomic_table.specs.Table.{step, rest, Allows}
use Rattle.pin_words.specs.declared.lane.Taken.{Taken}
use Rattle.pin_words.specs.declared.doing.Doing.{Doing}
use Rattle.pin_words.specs.declared.doing.Stage.TheVariants.{Idle}
use Rattle.pin_words.specs.Plan.{Plan}
use Rattle.pin_words.specs.Account.{rise, rose, Returns}
use Rattle.pin_words.specs.Layout.{lane_at}
use Rattle.pin_words.specs.Rule.{Ruled, Sat}
use Rattle.pin_words.specs.Lanes.{TakesLane, GivesLane, took, gave}
use Rattle.pin_words.proofs.Taking.{takes_lane, gives_lane}
use Rattle.pin_rule.specs.declared.made.Made.{Made}
use Rattle.pin_rule.specs.Calls.{carried, Rests, SamePass}

module _ {S M : Type 0} (p : Plan S M) (plan : M → Plan S M) (same_plan : plan p.made ≡ p) where
  pub takes_as : (slots id : ℕ) (me : Sat S M) (l i : ℕ) → me.0.stage ≡ Idle → me.0.lane ≡ None → l < p.lanes → i ≡ lane_at p l → Allows (Ruled p) slots id me i (λ n. either (n == 0) 1 n) (took plan (step slots i 0 1 none) me)
  takes_as slots id me l i idle bare inside is = subst (λ (j : ℕ). Allows (Ruled p) slots id me j (λ n. either (n == 0) 1 n) (took plan (step slots j 0 1 none) me)) (sym is) (takes_lane p plan same_plan slots id me l idle bare inside)

  pub gives_as : (slots id : ℕ) (me : Sat S M) (o : Taken S) (y : S) (i : ℕ) → me.0.stage ≡ Idle → me.0.lane ≡ Some o → me.1 ≡ (o.lane, Some y) ∷ [] → Returns p o me.0.seen y → i ≡ lane_at p o.lane
      → Allows (Ruled p) slots id me i (λ _. 0) (λ _. gave plan (step slots i 0 0 none) me 0)
  gives_as slots id me o y i idle has carries fits is = subst (λ (j : ℕ). Allows (Ruled p) slots id me j (λ _. 0) (λ _. gave plan (step slots j 0 0 none) me 0)) (sym is) (gives_lane p plan same_plan slots id me o y idle has carries fits)

module _ {S : Type 0} (p : Plan S (Option (Made S))) (made : Made S) where
  -- the seat after a lane was taken and its place emptied
  pub taken_rests : (old mid new : Sat S (Option (Made S))) (l : ℕ) (x : S) → Rests old made → old.0.lane ≡ None → mid.1 ≡ (l, Some x) ∷ old.1 → TakesLane p old.0 l x mid.0 → new ≡ (mid.0, (l, None) ∷ rest mid.1) → Rests new made
  taken_rests old mid new l x r bare got told now = (
    ap (λ m. m.0.made) now ∙ (ap (λ (d : Doing _ _). d.made) told.sees.is ∙ r.0),
    ap (λ m. m.0.stage) now ∙ (ap (λ (d : Doing _ _). d.stage) told.sees.is ∙ r.1),
    ap (λ m. m.1) now ∙ (ap (λ cs. (l, None) ∷ rest cs) got ∙ (ap (λ cs. (l, None) ∷ cs) (r.2 ∙ ap carried bare) ∙ (ap (λ (d : Doing _ _). carried d.lane) (sym told.sees.is) ∙ ap (λ m. carried m.0.lane) (sym now)))),
  )

  pub taken_number : (old mid new : Sat S (Option (Made S))) (l : ℕ) (x : S) → TakesLane p old.0 l x mid.0 → new ≡ (mid.0, (l, None) ∷ rest mid.1) → SamePass old.0 new.0
  taken_number old mid new l x told now = (ap (λ m. m.0.number) now ∙ ap (λ (d : Doing _ _). d.number) told.sees.is, ap (λ m. m.0.drawn) now ∙ ap (λ (d : Doing _ _). d.drawn) told.sees.is, ap (λ m. length m.0.rises) now ∙ ap (λ (d : Doing _ _). length d.rises) told.sees.is)

  -- the seat, once the store lies in its place again
  pub put_carries : (old mid : Sat S (Option (Made S))) (o : Taken S) (l : ℕ) (y : S) → old.0.lane ≡ Some o → l ≡ o.lane → old.1 ≡ carried old.0.lane → mid ≡ (old.0, (l, Some y) ∷ rest old.1) → mid.1 ≡ (o.lane, Some y) ∷ []
  put_carries old mid o l y has is carries now = ap (λ m. m.1) now ∙ (λ i. (is i, Some y) ∷ rest ((carries ∙ ap carried has) i))

  pub given_number : (old new : Doing S (Option (Made S))) (o : Taken S) (y : S) → GivesLane p old o y new → SamePass old new
  given_number old new o y told = (
    ap (λ (d : Doing _ _). d.number) told,
    ap (λ (d : Doing _ _). d.drawn) told,
    ap (λ (d : Doing _ _). length d.rises) told ∙ length-set old.rises o.lane (rise o.lane old + rose (p.shows o.store).faults (p.shows y).faults),
  )

  pub given_rests : (old new : Sat S (Option (Made S))) (o : Taken S) (y : S) → Rests old made → new.1 ≡ [] → GivesLane p old.0 o y new.0 → Rests new made
  given_rests old new o y r none_left told = (
    ap (λ (d : Doing _ _). d.made) told ∙ r.0,
    ap (λ (d : Doing _ _). d.stage) told ∙ r.1,
    none_left ∙ ap (λ (d : Doing _ _). carried d.lane) (sym told),
  )
