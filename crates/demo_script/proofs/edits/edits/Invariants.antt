-- The edits so far.
use Rattle.std.proofs.Common.{◌≡◌}
use Rattle.demo_script.specs.Script.{edits}
use Rattle.demo_script.proofs.edits.edits.Given as goal

abbrev pub invariant-loop-call : goal.invariant-loop-call
invariant-loop-call l = l.commands ≡ edits l.actor l.call
