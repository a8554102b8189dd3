-- The bytes so far are all of the source's, or as many as the limit.
use Rattle.std.proofs.Common.{◌∙◌, ◌≤◌, length, arith}
use Rattle.viewrun_calls.proofs.SourceLemmas.{taken_whole, taken_front}
use Rattle.viewrun_calls.specs.Script.{limit}
use Rattle.viewrun_calls.proofs.source.read_bytes.Goals as goal

pub returns-in-End-clause-reads : goal.returns-in-End-clause-reads
returns-in-End-clause-reads g c = λ told.
    let few : length c.loop-piece.bytes.items ≤ limit = omega arith in
    taken_whole _ _ _ limit (c.loop-piece.invariant.bytes told) (c.in-End.ensures.leaves (c.loop-piece.invariant.told ∙ told)).0 few

pub returns-clause-reads : goal.returns-clause-reads
returns-clause-reads g c = λ told.
    let few : length c.loop-piece.bytes.items ≤ limit = omega arith in
    let many : limit ≤ length c.loop-piece.bytes.items = omega arith in
    taken_front _ _ _ limit (c.loop-piece.invariant.bytes told) few many
