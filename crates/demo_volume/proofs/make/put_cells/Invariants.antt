-- The cells so far were put.
use Rattle.std.proofs.Common.{◌≡◌, length, map}
use Rattle.demo_volume.specs.Below.{each_below}
use Rattle.demo_volume.specs.Puts.{cell_key}
use Rattle.demo_volume.proofs.MakesLemmas.{HasMade}
use Rattle.demo_volume.proofs.make.put_cells.Given as goal

abbrev pub invariant-loop-cell : goal.invariant-loop-cell
invariant-loop-cell g l = record {
  made : HasMade (each_below l.cell (cell_key l.maker.fine.items l.maker.coarse.items (length l.fn.stores.items))) (map g.S.Store.contents l.fn.stores.items) (map g.S.Store.contents l.stores.items);
  count : length l.stores.items ≡ length l.fn.stores.items;
}
