-- The script that was read is that of the bytes that were read.
use Rattle.std.proofs.Common.{◌∙◌}
use Rattle.viewrun_calls.proofs.source.script_of.Goals as goal

pub returns-clause-reads : goal.returns-clause-reads
returns-clause-reads g c = (c.as_slice.result.now, (λ told. c.as_slice.ensures.value ∙ c.in_ok-bytes.ensures.reads told, c.in_ok-script.ensures.meaning))
