-- The lines of the first ones are written.
use Rattle.std.proofs.Common.{◌≡◌, ◌++◌, take, string_bytes}
use Rattle.run_report.specs.Report.{unsaved_lines}
use Rattle.run_report.proofs.report.write_unsaved.Given as goal

abbrev pub invariant-loop-cell : goal.invariant-loop-cell
invariant-loop-cell l = string_bytes l.text ≡ string_bytes l.fn.text ++ unsaved_lines (take l.cell-index l.unsaved)
