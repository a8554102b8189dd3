use Rattle.std.proofs.Common.{rules, ℕ, sym, refl, ap, ◌+◌, Option, Some, subst}
use mathlib.Core.Option.{none}
use Rattle.std.specs.Prelude.{bit_or}
use Rattle.atomic_table.specs.Table.{step, Allows}
use Rattle.pin_words.specs.declared.holding.Pin.{Pin}
use Rattle.pin_words.specs.Rule.{Ruled}
use Rattle.pin_words.specs.Pins as pins
use Rattle.pin_words.proofs.Pinning.{marks_cell}
use Rattle.pin_rule.specs.Parts.{PinnedCell}
use Rattle.pin_rule.specs.Plans.{plan_of}
use Rattle.pin_rule.specs.Calls.{pin_of}
use Rattle.pin_rule.proofs.Finds.{picks_pin}
use Rattle.pin_rule.proofs.Resting.{rests_as, number_as}
use Rattle.pin_rule.proofs.pin_steps.set_mark.Goals as goal

pub fetch_or-requires : goal.fetch_or-requires
fetch_or-requires g c = let plan = plan_of g.S.Store.contents in let p = plan (Some c.args.words.now.key) in (search rules, search rules, subst (λ (q : Pin × ℕ). Allows (Ruled p) c.args.words.now.table_id.slots c.args.seat.now.id c.args.seat.now.me (1 + q.1) (λ n. bit_or n 16777216) (pins.marked plan q.0 (step c.args.words.now.table_id.slots (1 + q.1) 16777216 0 none) c.args.seat.now.me)) (λ i. (sym c.requires.picked i, sym (ap (λ (h : PinnedCell). h.cell) c.h.view_is) i)) (marks_cell p plan refl _ _ c.args.seat.now.me (pin_of c.args.h.now) c.requires.rests.1 (picks_pin (pin_of c.args.h.now) c.args.seat.now.me.0 c.requires.held)))

pub returns-clause-seat : goal.returns-clause-seat
returns-clause-seat g c = (search rules, search rules, number_as c.args.seat.now.me.0 c.fetch_or.new.seat.me.0 _ (c.fetch_or.ensures.2.1.is) refl)

pub returns-clause-rests : goal.returns-clause-rests
returns-clause-rests g c = let t = c.fetch_or.ensures.2 in rests_as c.args.seat.now.me c.fetch_or.new.seat.me c.args.words.now.key _ c.requires.rests t.0 (t.1.is) refl refl refl

pub returns-clause-done : goal.returns-clause-done
returns-clause-done g c = subst (λ (x : Option _ × Pin). pins.IsMarked (plan_of g.S.Store.contents x.0) c.args.seat.now.me.0 x.1 c.fetch_or.new.seat.me.0) (λ i. (c.requires.rests.0 i, c.requires.picked i)) (c.fetch_or.ensures.2.1)
