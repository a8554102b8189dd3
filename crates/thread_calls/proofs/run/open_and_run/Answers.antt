-- The first store changed as opening does, and the run began with the stores as they then were.
use Rattle.std.proofs.Common.{map, slice_set, Ok, arith}
use Rattle.viewrun_calls.proofs.StoresLemmas.{first_changes}
use Rattle.viewrun_calls.specs.Volume.{OpensVolume}
use Rattle.thread_calls.proofs.run.open_and_run.Goals as goal

pub returns-in-Ok-clause-runs : goal.returns-in-Ok-clause-runs
returns-in-Ok-clause-runs g c = record {
  opened = Ok c.in-Ok.geometry;
  mid = map g.S.Store.contents (slice_set c.args.stores.items 0 c.open_volume.new.store);
  opens = first_changes (λ before after. OpensVolume c.args.script.head before after (Ok c.in-Ok.geometry)) g.S.Store.contents c.args.stores.items _ _ (omega arith) c.index_mut.ensures.value c.in-Ok.ensures.opens;
  follows = c.run_open.ensures.runs;
}
