-- What is put is the key of the cell.
use Rattle.std.proofs.Common.{◌≡◌, ◌∙◌, length, map, ap, arith, inl, subst}
use Rattle.std.proofs.lemmas.Grind.{common_steps}
use Rattle.cell_file.specs.Keys.{KeyNames, base_key}
use Rattle.cell_grid.specs.Pyramid.{lane_of}
use Rattle.demo_volume.specs.Puts.{MadeKey, Tries}
use Rattle.demo_volume.proofs.make.put_cell.Goals as goal

pub returns-clause-tried : goal.returns-clause-tried
returns-clause-tried g c =
    let count : c.len.result ≡ length c.args.stores.now.items = grind (arith, common_steps) in
    let lane = c.lane-lane.ensures.lane ∙ ap (lane_of c.args.cell) count in
    let key = c.as_str.ensures.value ∙ (c.base-key.ensures.key ∙ ap (λ (k : KeyNames). base_key k.levels k c.args.cell) c.requires.full.keys) in
    let bytes = c.as_slice.ensures.value ∙ c.in_ok-block.ensures in
    inl (subst (λ (one : MadeKey). Tries one (map g.S.Store.contents c.args.stores.now.items) (map g.S.Store.contents c.put.new.stores.items) c.put.result) (λ i. record { lane = lane i; key = key i; bytes = bytes i }) c.put.ensures.tried)
