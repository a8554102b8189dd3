use Rattle.std.proofs.Common.{◌≡◌, ◌∙◌, IsTrue, true, false, ap, subst, Err, Some}
use Rattle.cell_store.specs.Store.{held_of}
use Rattle.cell_file.specs.Standing.{standing}
use Rattle.pin_rule.specs.Calls.{view, plan_at, made_of}
use Rattle.pin_rule.specs.Saving.{HasPut}
use Rattle.live_cells.specs.Lanes.{IsTurning}
use Rattle.live_cells.proofs.Answering.{err_is}
use Rattle.live_cells.proofs.Outing.{Putting, hands_now, may_save, home_saved, home_back, rose_put}
use Rattle.live_cells.proofs.leaves.put_out.Goals as goal

pub go_saved-requires-clause-hands : goal.go_saved-requires-clause-hands
go_saved-requires-clause-hands g c = let q = c.requires in let p = plan_at g.S.Store.contents c.args.pins.now in
    let k : Putting g.S.Store.contents c.args.pins.now c.args.lane.lane c.args.leaving.cell c.args.leaving.slot c.args.lane.store (view c.args.pass.now) = record { turning = subst (λ m. IsTurning p c.args.leaving.cell c.args.leaving.slot m (view c.args.pass.now)) q.place.2 q.turning; took = q.took; near = q.place.0; own = q.place.4; below = q.place.3 } in
    hands_now g.S.Store.contents c.args.pins.now c.args.lane.lane c.args.leaving.cell c.args.leaving.slot c.args.lane.store (view c.args.pass.now) k

pub come_back-requires-clause-hands : goal.come_back-requires-clause-hands
come_back-requires-clause-hands g c = let q = c.requires in let p = plan_at g.S.Store.contents c.args.pins.now in
    let k : Putting g.S.Store.contents c.args.pins.now c.args.lane.lane c.args.leaving.cell c.args.leaving.slot c.args.lane.store (view c.args.pass.now) = record { turning = subst (λ m. IsTurning p c.args.leaving.cell c.args.leaving.slot m (view c.args.pass.now)) q.place.2 q.turning; took = q.took; near = q.place.0; own = q.place.4; below = q.place.3 } in
    hands_now g.S.Store.contents c.args.pins.now c.args.lane.lane c.args.leaving.cell c.args.leaving.slot c.args.lane.store (view c.args.pass.now) k

pub go_saved-requires-clause-saved : goal.go_saved-requires-clause-saved
go_saved-requires-clause-saved g c = let q = c.requires in let p = plan_at g.S.Store.contents c.args.pins.now in
    let k : Putting g.S.Store.contents c.args.pins.now c.args.lane.lane c.args.leaving.cell c.args.leaving.slot c.args.lane.store (view c.args.pass.now) = record { turning = subst (λ m. IsTurning p c.args.leaving.cell c.args.leaving.slot m (view c.args.pass.now)) q.place.2 q.turning; took = q.took; near = q.place.0; own = q.place.4; below = q.place.3 } in
    may_save g.S.Store.contents c.args.pins.now c.args.lane.lane c.args.leaving.cell c.args.leaving.slot c.args.lane.store (view c.args.pass.now) k c.put.new.lane c.put.ensures.lane c.args.values.now q.values.1 (subst (λ n. HasPut p n true c.args.lane.store c.put.new.lane.store) c.cell.ensures c.in-Ok.ensures.saved) (subst (λ n. IsTrue (g.S.Store.contents c.args.lane.store).told → standing (made_of c.args.pins.now).levels.value (made_of c.args.pins.now).keys.value (held_of (g.S.Store.contents c.put.new.lane.store)) n ≡ Some c.args.values.now) c.cell.ensures c.in-Ok.ensures.stood)

pub go_saved-requires-clause-home : goal.go_saved-requires-clause-home
go_saved-requires-clause-home g c = let q = c.requires in let p = plan_at g.S.Store.contents c.args.pins.now in
    let k : Putting g.S.Store.contents c.args.pins.now c.args.lane.lane c.args.leaving.cell c.args.leaving.slot c.args.lane.store (view c.args.pass.now) = record { turning = subst (λ m. IsTurning p c.args.leaving.cell c.args.leaving.slot m (view c.args.pass.now)) q.place.2 q.turning; took = q.took; near = q.place.0; own = q.place.4; below = q.place.3 } in
    home_saved g.S.Store.contents c.args.pins.now c.args.lane.lane c.args.leaving.cell c.args.leaving.slot c.args.lane.store (view c.args.pass.now) k c.put.new.lane c.put.ensures.lane c.args.values.now q.values.1 (subst (λ n. HasPut p n true c.args.lane.store c.put.new.lane.store) c.cell.ensures c.in-Ok.ensures.saved) (subst (λ n. IsTrue (g.S.Store.contents c.args.lane.store).told → standing (made_of c.args.pins.now).levels.value (made_of c.args.pins.now).keys.value (held_of (g.S.Store.contents c.put.new.lane.store)) n ≡ Some c.args.values.now) c.cell.ensures c.in-Ok.ensures.stood) c.gives_after_saving.ensures

pub come_back-requires-clause-home : goal.come_back-requires-clause-home
come_back-requires-clause-home g c = let q = c.requires in let p = plan_at g.S.Store.contents c.args.pins.now in
    let k : Putting g.S.Store.contents c.args.pins.now c.args.lane.lane c.args.leaving.cell c.args.leaving.slot c.args.lane.store (view c.args.pass.now) = record { turning = subst (λ m. IsTurning p c.args.leaving.cell c.args.leaving.slot m (view c.args.pass.now)) q.place.2 q.turning; took = q.took; near = q.place.0; own = q.place.4; below = q.place.3 } in
    home_back g.S.Store.contents c.args.pins.now c.args.lane.lane c.args.leaving.cell c.args.leaving.slot c.args.lane.store (view c.args.pass.now) k c.put.new.lane c.put.ensures.lane c.gives_after_not_saving.ensures (subst (λ n. HasPut p n false c.args.lane.store c.put.new.lane.store) c.cell.ensures c.in-Err.ensures.not_saved)

pub returns-in-Err-clause-write_fault : goal.returns-in-Err-clause-write_fault
returns-in-Err-clause-write_fault g c = λ is. let q = c.requires in let p = plan_at g.S.Store.contents c.args.pins.now in
    let k : Putting g.S.Store.contents c.args.pins.now c.args.lane.lane c.args.leaving.cell c.args.leaving.slot c.args.lane.store (view c.args.pass.now) = record { turning = subst (λ m. IsTurning p c.args.leaving.cell c.args.leaving.slot m (view c.args.pass.now)) q.place.2 q.turning; took = q.took; near = q.place.0; own = q.place.4; below = q.place.3 } in
    rose_put g.S.Store.contents c.args.pins.now c.args.lane.lane c.args.leaving.cell c.args.leaving.slot c.args.lane.store (view c.args.pass.now) k c.put.new.lane c.put.ensures.lane (c.put.ensures.write_fault (c.in-Err.is ∙ ap Err (err_is _ _ is))) (view c.come_back.new.pass) c.come_back.ensures.raised
