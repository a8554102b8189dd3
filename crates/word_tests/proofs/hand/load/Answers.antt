use Rattle.std.proofs.Common.{ℕ, replicate}
use Rattle.cell_store.specs.MemStore.{contents_of}
use Rattle.word_tests.specs.declared.quiet.Quiet.{Quiet}
use Rattle.pin_rule.specs.Calls.{view, made_of}
use Rattle.pin_rule.proofs.Trying.{quiet, sole_lane, took_lane, used_lane, may_fill, may_return, filled_lane}
use Rattle.word_tests.proofs.hand.load.Goals as goal

abbrev faults : Quiet → ℕ
faults s = (contents_of s.store).faults

pub publish-requires-clause-lane : goal.publish-requires-clause-lane
publish-requires-clause-lane g c = may_fill faults (made_of c.args.pins.now) (view c.try_lane.new.pass) c.args.claim.cell 0 _ (replicate 8 0) (sole_lane faults (made_of c.args.pins.now) c.args.claim.cell c.requires.tried.lanes)
    (used_lane (quiet faults (made_of c.args.pins.now)) (view c.try_lane.new.pass) 0 c.in-Ok.lane _ c.fetch-fetched.new.store
    (took_lane (quiet faults (made_of c.args.pins.now)) _ (view c.args.pass.now) (view c.try_lane.new.pass) 0 c.in-Ok.lane c.in-Ok.ensures.done.0 c.in-Ok.ensures.done.1) c.lane.view_is c.fetch-fetched.ensures.never_falls)

pub publish-requires-clause-home : goal.publish-requires-clause-home
publish-requires-clause-home g c = λ d k. may_return faults (made_of c.args.pins.now) d 0 _ (filled_lane (quiet faults (made_of c.args.pins.now)) (view c.try_lane.new.pass) d 0 _ _ _ _
    (used_lane (quiet faults (made_of c.args.pins.now)) (view c.try_lane.new.pass) 0 c.in-Ok.lane _ c.fetch-fetched.new.store
    (took_lane (quiet faults (made_of c.args.pins.now)) _ (view c.args.pass.now) (view c.try_lane.new.pass) 0 c.in-Ok.lane c.in-Ok.ensures.done.0 c.in-Ok.ensures.done.1) c.lane.view_is c.fetch-fetched.ensures.never_falls) k)
