-- As many stores are made as the next one's number says.
use Rattle.std.proofs.Common.{◌≡◌, vec_len}
use Rattle.viewrun.proofs.call.folder_stores.Given as goal

abbrev pub invariant-loop-number : goal.invariant-loop-number
invariant-loop-number g l = vec_len l.stores ≡ l.number
