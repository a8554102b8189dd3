use Rattle.std.proofs.Common.{ℕ}
use Rattle.cell_store.specs.MemStore.{contents_of}
use Rattle.word_tests.specs.declared.quiet.Quiet.{Quiet}
use Rattle.pin_rule.specs.Calls.{view, made_of}
use Rattle.pin_rule.proofs.Trying.{quiet, sole_lane, may_save, may_return, went_lane, kept_lane}
use Rattle.word_tests.proofs.steps.let_go.Goals as goal

abbrev faults : Quiet → ℕ
faults s = (contents_of s.store).faults

pub gone_saved-slot-requires-clause-lane : goal.gone_saved-slot-requires-clause-lane
gone_saved-slot-requires-clause-lane c = may_save faults (made_of c.args.pins.now) (view c.args.pass.now) c.args.leaving.cell 0 c.args.lane (sole_lane faults (made_of c.args.pins.now) c.args.leaving.cell c.requires.tried.2) c.requires.lane

pub give_lane-requires-clause-fits : goal.give_lane-requires-clause-fits
give_lane-requires-clause-fits c = may_return faults (made_of c.args.pins.now) (view c.give_slot.new.pass) 0 c.args.lane
    (kept_lane (quiet faults (made_of c.args.pins.now)) (view c.gone_saved-slot.new.pass) (view c.give_slot.new.pass) _ 0 c.args.lane
    (went_lane (quiet faults (made_of c.args.pins.now)) _ (view c.args.pass.now) (view c.gone_saved-slot.new.pass) c.args.leaving.cell c.args.leaving.slot 0 c.args.lane c.requires.leaving.1 c.requires.lane c.gone_saved-slot.ensures.done) c.give_slot.ensures.done)
