-- The line of the demonstration.
use Rattle.std.specs.Prelude.{ℕ, List, codes}
use Rattle.std.specs.Fmt.{decimal}
use Rattle.run_report.specs.Words.{◌␣◌}

-- the line of a number, with the sum that it tells, without its end
abbrev pub line_text : ℕ → ℕ → List ℕ
line_text number total = codes "demo" ␣ decimal number ␣ codes "cells 1152 edits 1024 complete 4 sum" ␣ decimal total
