-- The first pixels are shown, and the walk has gone as far.
use Rattle.std.proofs.Common.{◌≡◌, ℕ, ◌+◌, length}
use Rattle.pin_rule.specs.Parts.{PinnedCell}
use Rattle.pin_rule.specs.Calls.{plan_at}
use Rattle.live_cells.specs.Cells.{table, knows, IsCellPassOf, IsHandleOf}
use Rattle.whole_affine.specs.Offsets.{offset_ahead}
use Rattle.team_eyes.specs.Holding.{HoldsStill}
use Rattle.team_eyes.specs.Runs.{ShowsFirst}
use Rattle.team_eyes.proofs.steps.show.Given as goal

abbrev pub invariant-loop-k : goal.invariant-loop-k
invariant-loop-k g l = record {
  pass : IsCellPassOf l.cells l.pass;
  still : HoldsStill (knows l.pass);
  ahead : (k : ℕ) → offset_ahead l.walk k ≡ offset_ahead l.fn.walk (l.k + k);
  shows : ShowsFirst (plan_at g.S.Store.contents (table l.cells)) l.handle.cell l.fn.walk l.shades l.run l.k (knows l.fn.pass) l.fn.picture (knows l.pass) l.picture;
  pins : length (knows l.pass).pins ≡ length (knows l.fn.pass).pins;
  kept : (h : PinnedCell) → IsHandleOf l.cells l.fn.pass h → IsHandleOf l.cells l.pass h;
}
