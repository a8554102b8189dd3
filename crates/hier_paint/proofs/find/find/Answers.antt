use Rattle.std.proofs.Common.{◌∙◌, refl, sym}
use Rattle.hier_paint.specs.Hands.{sight}
use Rattle.hier_paint.proofs.Working.{held_found, missed_found, found_ok, found_err}
use Rattle.hier_paint.proofs.find.find.Goals as goal

pub returns-then-holds-clause-found : goal.returns-then-holds-clause-found
returns-then-holds-clause-found g c =
    held_found g.E.Eyes.front g.met.E.Eyes.laws
    c.args.eyes.now (sight c.args.hand.now) (sight c.args.hand.now) c.args.level c.args.cell refl (sym c.holds.ensures ∙ c.if-holds.true)

pub returns-then-has_missed-clause-found : goal.returns-then-has_missed-clause-found
returns-then-has_missed-clause-found g c =
    missed_found g.E.Eyes.front g.met.E.Eyes.laws
    c.args.eyes.now (sight c.args.hand.now) (sight c.args.hand.now) c.args.level c.args.cell refl (sym c.holds.ensures ∙ c.if-holds.false) (sym c.has_missed.ensures ∙ c.if-has_missed.true)

pub returns-clause-found : goal.returns-clause-found
returns-clause-found g c =
    found_ok g.E.Eyes.front g.met.E.Eyes.laws
    c.args.eyes.now c.let_go.new.eyes c.look.new.eyes (sight c.args.hand.now) (sight c.let_go.new.hand) (sight c.look.new.hand) c.args.level c.args.cell c.look.result
    (record { not_held = sym c.holds.ensures ∙ c.if-holds.false; not_missed = sym c.has_missed.ensures ∙ c.if-has_missed.false }) c.let_go.ensures.led c.let_go.ensures.missed c.let_go.ensures.budget c.look.ensures.found

pub returns-clause-refused : goal.returns-clause-refused
returns-clause-refused g c =
    found_err g.E.Eyes.front g.met.E.Eyes.laws
    c.args.eyes.now c.let_go.new.eyes c.look.new.eyes (sight c.args.hand.now) (sight c.let_go.new.hand) c.args.level c.args.cell c.look.result
    (record { not_held = sym c.holds.ensures ∙ c.if-holds.false; not_missed = sym c.has_missed.ensures ∙ c.if-has_missed.false }) c.let_go.ensures.led c.let_go.ensures.budget c.look.ensures.refused
