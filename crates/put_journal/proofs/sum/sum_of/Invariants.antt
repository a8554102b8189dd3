-- The sum so far is that of the bytes so far.
use Rattle.std.proofs.Common.{◌≡◌, take}
use Rattle.put_journal.specs.Journal.{byte_sum}
use Rattle.put_journal.proofs.sum.sum_of.Given as goal

abbrev pub invariant-loop-byte : goal.invariant-loop-byte
invariant-loop-byte l = l.total ≡ byte_sum (take l.byte-index l.bytes)
