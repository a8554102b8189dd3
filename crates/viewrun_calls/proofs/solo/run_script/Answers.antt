-- A script that wasn't read leaves the stores unasked.
use Rattle.std.proofs.Common.{[], Err, map, refl, ap}
use Rattle.viewrun_calls.proofs.solo.run_script.Goals as goal

pub returns-in-Err : goal.returns-in-Err
returns-in-Err g c = ([], record { read = Err c.in-Err.stop; reads = c.in-Err.ensures.reads; few = c.in-Err.ensures.few; follows = (c.stopped.ensures.work, ap (λ v. map g.S.Store.contents v.items) c.stopped.ensures.stores, refl) })
