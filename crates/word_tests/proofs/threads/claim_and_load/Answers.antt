use Rattle.std.proofs.Common.{ℕ}
use Rattle.cell_store.specs.MemStore.{contents_of}
use Rattle.word_tests.specs.declared.quiet.Quiet.{Quiet}
use Rattle.pin_rule.specs.Calls.{view, made_of}
use Rattle.pin_rule.proofs.Trying.{quiet, took_lane}
use Rattle.word_tests.proofs.threads.claim_and_load.Goals as goal

abbrev faults : Quiet → ℕ
faults s = (contents_of s.store).faults

pub load-requires-clause-lane : goal.load-requires-clause-lane
load-requires-clause-lane g c = took_lane (quiet faults (made_of c.args.pins.now)) _ (view c.try_slot.new.pass) (view c.try_lane.new.pass) 0 c.in-Ok-try_lane.lane c.in-Ok-try_lane.ensures.done.0 c.in-Ok-try_lane.ensures.done.1
