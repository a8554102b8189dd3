-- A put of one store is a call of the stores.
use Rattle.std.proofs.lemmas.List.{map-set}
use Rattle.demo_volume.proofs.MakesLemmas.{shown_at}
use Rattle.demo_volume.proofs.make.put.Goals as goal

pub returns-clause-tried : goal.returns-clause-tried
returns-clause-tried g c = (
  c.put-put.result,
  (
    g.S.Store.contents c.index_mut.result.now,
    g.S.Store.contents c.put-put.new.self,
    shown_at g.S.Store.contents c.args.stores.now.items c.args.lane c.index_mut.result.now c.index_mut.ensures.value c.requires,
    c.put-put.ensures,
    map-set g.S.Store.contents c.args.stores.now.items c.args.lane c.put-put.new.self,
  ),
  c.result_of.ensures,
)
