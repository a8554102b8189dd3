use Rattle.std.proofs.Common.{◌≡◌, ℕ, ◌<◌, slice_index}
use Rattle.pin_words.specs.Finding.{left_of}
use Rattle.pin_words.specs.Cells.{IsFrameNumber}
use Rattle.pin_rule.specs.Calls.{IsPassOf, view, plan_at}
use Rattle.live_cells.proofs.leaves.copy_frame.Given as goal

abbrev pub invariant-loop-at : goal.invariant-loop-at
invariant-loop-at g l = record {
  pass : IsPassOf l.pins l.pass;
  same : view l.pass ≡ view l.fn.pass;
  numbers : (i : ℕ) → i < l.at → IsFrameNumber (plan_at g.S.Store.contents l.pins) (left_of l.leaving.cell (view l.fn.pass)) i (slice_index l.frame i);
}
