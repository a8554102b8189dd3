use Rattle.std.proofs.Common.{ℕ}
use Rattle.cell_store.specs.MemStore.{contents_of}
use Rattle.word_tests.specs.declared.quiet.Quiet.{Quiet}
use Rattle.pin_rule.specs.Calls.{view, made_of}
use Rattle.pin_rule.proofs.Trying.{quiet, sole_lane, used_lane, may_fill, may_return, filled_lane}
use Rattle.word_tests.proofs.threads.load.Goals as goal

abbrev faults : Quiet → ℕ
faults s = (contents_of s.store).faults

pub publish-requires-clause-lane : goal.publish-requires-clause-lane
publish-requires-clause-lane g c = may_fill faults (made_of c.args.pins.now) (view c.args.pass.now) c.args.claim.cell 0 _ _ (sole_lane faults (made_of c.args.pins.now) c.args.claim.cell c.requires.tried.0.lanes) (used_lane (quiet faults (made_of c.args.pins.now)) (view c.args.pass.now) 0 c.args.lane _ c.fetch.new.store c.requires.lane c.lane.view_is c.fetch.ensures.never_falls)

pub publish-requires-clause-home : goal.publish-requires-clause-home
publish-requires-clause-home g c = λ d k. may_return faults (made_of c.args.pins.now) d 0 _ (filled_lane (quiet faults (made_of c.args.pins.now)) (view c.args.pass.now) d 0 _ _ _ _ (used_lane (quiet faults (made_of c.args.pins.now)) (view c.args.pass.now) 0 c.args.lane _ c.fetch.new.store c.requires.lane c.lane.view_is c.fetch.ensures.never_falls) k)

pub give_lane-requires-clause-fits : goal.give_lane-requires-clause-fits
give_lane-requires-clause-fits g c = may_return faults (made_of c.args.pins.now) (view c.args.pass.now) 0 _ (used_lane (quiet faults (made_of c.args.pins.now)) (view c.args.pass.now) 0 c.args.lane _ c.fetch.new.store c.requires.lane c.lane.view_is c.fetch.ensures.never_falls)
