-- Nothing was put where there was no memory for the script; else the run follows the making of the pyramid, after which each store is there.
use Rattle.std.proofs.Common.{◌≡◌, Err, ap, arith, length, map, sym}
use Rattle.std.proofs.lemmas.List.{length-map}
use Rattle.std.specs.Option.{option_map}
use Rattle.demo_volume.specs.declared.make_err.MakeErr.TheVariants.{Memory}
use Rattle.pin_rule.specs.Trails.{events_of}
use Rattle.thread_calls.proofs.DemoLemmas.{as_many, nothing_made}
use Rattle.thread_calls.proofs.demo.make_and_run.Goals as goal

pub returns-in_default-clause-runs : goal.returns-in_default-clause-runs
returns-in_default-clause-runs g c = record {
  made = Err Memory;
  mid = map g.S.Store.contents c.args.stores.items;
  makes = nothing_made _ _;
  follows = (c.unrun.ensures.work, ap (option_map events_of) c.unrun.ensures.trail, ap (λ s. map g.S.Store.contents s.items) c.unrun.ensures.stores);
}

pub open_and_run-requires-clause-some_stores : goal.open_and_run-requires-clause-some_stores
open_and_run-requires-clause-some_stores g c κs within =
    let same = as_many _ _ _ _ c.make_pyramid.ensures in
    let before = length-map c.args.stores.items g.S.Store.contents in
    let after = length-map c.make_pyramid.new.stores.items g.S.Store.contents in
    omega (arith, same, before, after, c.requires.some_stores)

pub open_and_run-requires-clause-few_stores : goal.open_and_run-requires-clause-few_stores
open_and_run-requires-clause-few_stores g c κs within =
    let same = as_many _ _ _ _ c.make_pyramid.ensures in
    let before = length-map c.args.stores.items g.S.Store.contents in
    let after = length-map c.make_pyramid.new.stores.items g.S.Store.contents in
    omega (arith, same, before, after, c.requires.few_stores)
