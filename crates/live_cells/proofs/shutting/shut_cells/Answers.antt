use Rattle.std.proofs.Common.{rules, ◌∙◌, ◌+◌, ◌++◌, List, [], length, ap, sym, subst}
use Rattle.std.specs.Prelude.{vec_capacity}
use Rattle.arr_history.specs.declared.closed.Unsaved.{Unsaved}
use Rattle.arr_history.specs.Tally.{tally_raised, IsTally}
use Rattle.arr_history.proofs.Counts.{raised_fits}
use Rattle.pin_rule.specs.Calls.{view, plan_at, cell_count}
use Rattle.live_cells.specs.Shutting.{ShutsBelow}
use Rattle.live_cells.proofs.Alone.{still_alone}
use Rattle.live_cells.proofs.Shuts.{zero_shut, shut_more, raised_then, few_below, room_left, up_to}
use Rattle.live_cells.proofs.shutting.shut_cells.Goals as goal

pub loop-cell-init : goal.loop-cell-init
loop-cell-init g c = let z = zero_shut g.S.Store.contents c.args.pins.now (view c.args.pass.now) c.args.tally.now c.requires.counts in record {
  pass = c.requires.pass;
  lone = c.requires.lone;
  bare = c.requires.bare;
  counts = c.requires.counts;
  room = c.requires.named.1;
  shut = (z.0, subst (λ (u : List Unsaved). ShutsBelow g.S.Store.contents c.args.pins.now 0 (view c.args.pass.now) u z.0 (view c.args.pass.now)) (sym c.requires.named.0) z.1, z.2);
}

pub shut_next-requires-clause-named : goal.shut_next-requires-clause-named
shut_next-requires-clause-named g c = let i = c.loop-cell.invariant in room_left c.loop-cell.cell (cell_count c.args.pins.now) (length c.loop-cell.unsaved.items) (vec_capacity c.loop-cell.unsaved) (few_below c.loop-cell.cell c.loop-cell.unsaved.items i.shut.0 i.shut.1.cells) (search rules) i.room

pub loop-cell-preserved : goal.loop-cell-preserved
loop-cell-preserved g c = let i = c.loop-cell.invariant in let e = c.shut_next.ensures in let s = e.shut in let p = plan_at g.S.Store.contents c.args.pins.now in record {
  pass = e.pass;
  lone = still_alone p (view c.loop-cell.pass) (view c.shut_next.new.pass) s.1 s.2.went i.lone;
  bare = e.bare;
  counts = subst IsTally (sym s.3) (raised_fits c.loop-cell.tally [] s.1);
  room = up_to _ _ _ i.room e.named;
  shut = (
    i.shut.0 ++ s.1,
    subst (λ (u : List Unsaved). ShutsBelow g.S.Store.contents c.args.pins.now (c.loop-cell.cell + 1) (view c.args.pass.now) u (i.shut.0 ++ s.1) (view c.shut_next.new.pass)) (sym s.4)
        (shut_more g.S.Store.contents c.args.pins.now c.loop-cell.cell (view c.args.pass.now) (view c.loop-cell.pass) (view c.shut_next.new.pass) c.requires.lone c.loop-cell.unsaved.items s.0 i.shut.0 s.1 i.shut.1 s.2),
    s.3 ∙ (ap (λ t. tally_raised t [] s.1) i.shut.2 ∙ raised_then c.args.tally.now i.shut.0 s.1),
  );
}
