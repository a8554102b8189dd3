use Rattle.std.proofs.Common.{ℕ}
use Rattle.cell_store.specs.MemStore.{contents_of}
use Rattle.word_tests.specs.declared.quiet.Quiet.{Quiet}
use Rattle.pin_rule.specs.Calls.{view, made_of}
use Rattle.pin_rule.proofs.Trying.{quiet, took_lane}
use Rattle.word_tests.proofs.threads.evict.Goals as goal

abbrev faults : Quiet → ℕ
faults s = (contents_of s.store).faults

pub turn_out-saved-requires-clause-lane : goal.turn_out-saved-requires-clause-lane
turn_out-saved-requires-clause-lane g c = took_lane (quiet faults (made_of c.args.pins.now)) _ (view c.close.new.pass) (view c.try_lane.new.pass) 0 c.in-Ok.lane c.in-Ok.ensures.done.0 c.in-Ok.ensures.done.1
