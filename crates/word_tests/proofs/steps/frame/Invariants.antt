use Rattle.std.proofs.Common.{◌≡◌, ◌≤◌, ℕ}
use Rattle.std.specs.Prelude.{slice_index}
use Rattle.pin_rule.specs.Calls.{view, IsPassOf}
use Rattle.word_tests.proofs.steps.frame.Given as goal

abbrev pub invariant-loop-at : goal.invariant-loop-at
invariant-loop-at g l = IsPassOf l.pins l.pass × (view l.pass ≡ view l.fn.pass) × ((i : ℕ) → slice_index l.values i ≤ 255)
