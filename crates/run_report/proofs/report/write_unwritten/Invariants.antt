-- The lines of the first ones are written.
use Rattle.std.proofs.Common.{◌≡◌, ◌++◌, take, string_bytes}
use Rattle.run_report.specs.Report.{unwritten_lines}
use Rattle.run_report.proofs.report.write_unwritten.Given as goal

abbrev pub invariant-loop-picture : goal.invariant-loop-picture
invariant-loop-picture l = string_bytes l.text ≡ string_bytes l.fn.text ++ unwritten_lines (take l.picture-index l.unwritten)
