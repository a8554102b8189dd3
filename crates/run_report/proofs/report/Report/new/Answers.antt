-- What a sort by cells leaves ascends by cells.
use Rattle.std.proofs.Common.{rules}
use Rattle.std.proofs.lemmas.List.Sorted.{IsNonDecreasingBy-from_sort_by_key}
use Rattle.run_report.proofs.report.Report.new.Goals as goal

pub returns-clause-ascending : goal.returns-clause-ascending
returns-clause-ascending c =
    rw c.from_vec.ensures (IsNonDecreasingBy-from_sort_by_key (λ u. u.cell) _ c.sort_unstable_by_key.ensures.sorted (λ a r q k. search rules))
