-- The lines of the first levels are written.
use Rattle.std.proofs.Common.{◌≡◌, ◌++◌, take, string_bytes}
use Rattle.std.specs.List.{enumerate_from, flat_map}
use Rattle.run_report.specs.Info.{counts_line, numbered_line}
use Rattle.run_report.proofs.info.info_text.Given as goal

abbrev pub invariant-loop-number : goal.invariant-loop-number
invariant-loop-number l = string_bytes l.text ≡ counts_line l.geometry ++ flat_map numbered_line (take l.number (enumerate_from 0 l.geometry))
