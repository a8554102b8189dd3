use Rattle.std.proofs.Common.{ℕ, sym, subst}
use Rattle.cell_store.specs.MemStore.{contents_of}
use Rattle.word_tests.specs.declared.quiet.Quiet.{Quiet}
use Rattle.pin_rule.specs.Trying.{HasLane}
use Rattle.pin_rule.specs.Calls.{view, made_of}
use Rattle.pin_rule.proofs.Trying.{quiet, may_return, used_lane, back_lane}
use Rattle.word_tests.proofs.steps.turn_out.Goals as goal

abbrev faults : Quiet → ℕ
faults s = (contents_of s.store).faults

pub let_go-requires-clause-lane : goal.let_go-requires-clause-lane
let_go-requires-clause-lane g c = used_lane (quiet faults (made_of c.args.pins.now)) (view c.frame-values.new.pass) 0 c.args.lane _ c.save.new.store (subst (λ d. HasLane (quiet faults (made_of c.args.pins.now)) 0 c.args.lane d) (sym c.frame-values.ensures.pass.1) c.requires.lane) c.lane.view_is c.save.ensures.never_falls

pub give_lane-requires-clause-fits : goal.give_lane-requires-clause-fits
give_lane-requires-clause-fits g c = may_return faults (made_of c.args.pins.now) (view c.back.new.pass) 0 _ (back_lane (quiet faults (made_of c.args.pins.now)) _ (view c.frame-values.new.pass) (view c.back.new.pass) c.args.leaving.cell 0 _
    (used_lane (quiet faults (made_of c.args.pins.now)) (view c.frame-values.new.pass) 0 c.args.lane _ c.save.new.store (subst (λ d. HasLane (quiet faults (made_of c.args.pins.now)) 0 c.args.lane d) (sym c.frame-values.ensures.pass.1) c.requires.lane) c.lane.view_is c.save.ensures.never_falls) c.back.ensures.done)
