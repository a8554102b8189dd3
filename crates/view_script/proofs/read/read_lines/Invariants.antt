-- What the lines so far say, followed by those that are left, is what the script says.
use Rattle.std.proofs.Common.{◌≡◌, ◌^◌, ◌≤◌, length, None, ◌+◌}
use Rattle.view_script.specs.Meaning.{script_from}
use Rattle.view_script.specs.Lines.{lines_of}
use Rattle.view_script.specs.Views.{KeepsViews, phases_of}
use Rattle.view_script.proofs.read.read_lines.Given as goal

abbrev pub invariant-loop-line : goal.invariant-loop-line
invariant-loop-line l = record {
  meaning : script_from l.number l.so_far (lines_of l.line-iterator.rest.now) ≡ script_from 1 None (lines_of l.fn.bytes);
  few : l.number + length (lines_of l.line-iterator.rest.now) ≤ 2 ^ 20 + 1;
  kept : KeepsViews l.views (phases_of l.so_far);
}
