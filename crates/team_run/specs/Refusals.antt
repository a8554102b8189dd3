-- The refusal that a reply tells, and a cache's own.
use Rattle.cell_file.specs.declared.errors.CellErr.{CellErr}
use Rattle.cell_file.specs.declared.errors.CellErr.TheVariants as cell_err
use Rattle.run_report.specs.declared.reply.Refusal.{Refusal}
use Rattle.run_report.specs.declared.reply.Refusal.TheVariants as refusal

abbrev pub cell_err_of : Refusal → CellErr
cell_err_of refusal.Outside = cell_err.Outside
cell_err_of (refusal.TooLarge value) = cell_err.TooLarge value
cell_err_of (refusal.Acquire err) = cell_err.Acquire err

abbrev pub refusal_in : CellErr → Refusal
refusal_in cell_err.Outside = refusal.Outside
refusal_in (cell_err.TooLarge value) = refusal.TooLarge value
refusal_in (cell_err.Acquire err) = refusal.Acquire err
