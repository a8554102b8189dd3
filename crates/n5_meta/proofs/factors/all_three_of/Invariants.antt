-- The factors so far, followed by those of the rows that are left, are those of all rows.
use Rattle.std.proofs.Common.{◌≡◌, drop}
use Rattle.n5_meta.specs.Factors.{all_three}
use Rattle.n5_meta.proofs.Prefixes.{prefixed}
use Rattle.n5_meta.proofs.factors.all_three_of.Given as goal

abbrev pub invariant-loop-row : goal.invariant-loop-row
invariant-loop-row l = prefixed l.factors (all_three (drop l.row-index l.rows)) ≡ all_three l.rows
