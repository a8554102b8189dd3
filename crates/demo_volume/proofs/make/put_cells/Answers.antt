-- One cell more, or the one that was not put.
use Rattle.std.proofs.Common.{◌≡◌, ◌∙◌, length, map, arith, refl, rules, subst, sym, Ok}
use Rattle.std.specs.Prelude.{IsErr}
use Rattle.demo_volume.specs.Puts.{Makes, cell_key, cell_keys}
use Rattle.demo_volume.proofs.BelowLemmas.{each_none}
use Rattle.demo_volume.proofs.MakesLemmas.{HasMade, TriesCell, cell_ends, cell_more}
use Rattle.demo_volume.proofs.make.put_cells.Goals as goal

pub loop-cell-init : goal.loop-cell-init
loop-cell-init g c = record {
  made = subst (λ done. HasMade done (map g.S.Store.contents c.args.stores.now.items) (map g.S.Store.contents c.args.stores.now.items)) (sym (each_none (cell_key c.args.maker.now.fine.items c.args.maker.now.coarse.items (length c.args.stores.now.items)))) refl;
  count = refl;
}

pub loop-cell-preserved : goal.loop-cell-preserved
loop-cell-preserved g c = record {
  made = cell_more (cell_key c.args.maker.now.fine.items c.args.maker.now.coarse.items (length c.args.stores.now.items)) c.loop-cell.cell _ _ _ _ c.loop-cell.invariant.made
      (subst (λ lanes. TriesCell (cell_key c.args.maker.now.fine.items c.args.maker.now.coarse.items lanes c.loop-cell.cell) (map g.S.Store.contents c.loop-cell.stores.items) (map g.S.Store.contents c.put_cell.new.stores.items) (Ok c.in_ok-put_cell.field-0)) c.loop-cell.invariant.count c.in_ok-put_cell.ensures.tried);
  count = c.in_ok-put_cell.ensures.count ∙ c.loop-cell.invariant.count;
}

pub returns-in_err-put_cell : goal.returns-in_err-put_cell
returns-in_err-put_cell g c =
    let same : c.put_cell.result ≡ c.from_residual.result = search rules in
    let err : IsErr c.put_cell.result = search rules in
    let tried = subst (λ lanes. TriesCell (cell_key c.args.maker.now.fine.items c.args.maker.now.coarse.items lanes c.loop-cell.cell) (map g.S.Store.contents c.loop-cell.stores.items) (map g.S.Store.contents c.put_cell.new.stores.items) c.put_cell.result) c.loop-cell.invariant.count c.put_cell.ensures.tried in
    subst (λ r. Makes (cell_keys c.args.maker.now.fine.items c.args.maker.now.coarse.items (length c.args.stores.now.items)) (map g.S.Store.contents c.args.stores.now.items) (map g.S.Store.contents c.put_cell.new.stores.items) r) same
    (cell_ends (cell_key c.args.maker.now.fine.items c.args.maker.now.coarse.items (length c.args.stores.now.items)) 1152 c.loop-cell.cell _ _ _ c.put_cell.result (omega arith) c.loop-cell.invariant.made tried err)
