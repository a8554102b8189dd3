-- The first store changed as opening does, and the run began with the stores as they then were.
use Rattle.std.proofs.Common.{[], ◌∷◌, ◌++◌, map, slice_set, Ok, refl, arith}
use Rattle.store_calls.specs.Calls.{AreCalled}
use Rattle.viewrun_calls.proofs.StoresLemmas.{first_changes}
use Rattle.viewrun_calls.specs.Volume.{OpensVolume}
use Rattle.viewrun_calls.proofs.solo.open_and_run.Goals as goal

pub returns-in-Ok : goal.returns-in-Ok
returns-in-Ok g c =
    let done = c.run_open.ensures in
    let asks = c.in-Ok.ensures.asks in (
      asks.calls ++ done.0,
      record {
        opened = Ok c.in-Ok.geometry;
        mid = map g.S.Store.contents (slice_set c.args.stores.items 0 c.open_volume.new.store);
        opens = first_changes (λ before after. OpensVolume c.args.script.head before after (Ok c.in-Ok.geometry)) g.S.Store.contents c.args.stores.items _ _ (omega arith) c.index_mut.ensures.value c.in-Ok.ensures.opens;
        gets = asks.calls;
        asks = asks.asked;
        asked = first_changes (λ before after. AreCalled asks.calls (before ∷ []) (after ∷ [])) g.S.Store.contents c.args.stores.items _ _ (omega arith) c.index_mut.ensures.value asks.called;
        more = done.0;
        follows = done.1;
        calls_are = refl;
      },
    )
