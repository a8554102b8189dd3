use Rattle.std.proofs.Common.{◌∙◌, ◌<◌, ◌%◌, ap, sym, refl, subst, take, [], ◌∷◌}
use Rattle.arr_history.specs.declared.event.Event.TheVariants.{Live, Drop}
use Rattle.cell_file.specs.Keys.{AreKeys}
use Rattle.pin_rule.specs.Calls.{view, plan_at, made_of}
use Rattle.pin_rule.proofs.Goings.{goes_by}
use Rattle.live_cells.specs.Actors.{doing}
use Rattle.live_cells.specs.Fetching.{HasGotNone}
use Rattle.live_cells.proofs.Acting.{acts_uncounted}
use Rattle.live_cells.proofs.Loading.{Taking, taken_as, got_here, hands_now, fill_ok, home_ok, back_ok, caused}
use Rattle.live_cells.proofs.loads.load.Goals as goal

pub finish-requires-clause-hands : goal.finish-requires-clause-hands
finish-requires-clause-hands g c = let t = c.take_lane-lane in let k : Taking g.S.Store.contents c.args.pins.now c.lane.result c.args.claim.cell c.args.slot.slot t.result.store (view t.new.pass) = record { took = taken_as g.S.Store.contents c.args.pins.now c.lane.result c.args.claim.cell c.args.slot.slot t.result.store (doing c.args.actor.now) (view t.new.pass) c.requires.hands t.ensures.took; near = c.requires.place.0; own = c.lane.ensures.lane ∙ (λ i. c.cell-cell.ensures i % c.lanes.ensures.count i); below = subst (λ n. c.lane.result < n) c.lanes.ensures.count c.lane.ensures.below } in
    hands_now g.S.Store.contents c.args.pins.now c.lane.result c.args.claim.cell c.args.slot.slot t.result.store (view t.new.pass) k

pub let_go-requires-clause-hands : goal.let_go-requires-clause-hands
let_go-requires-clause-hands g c = let t = c.take_lane-lane in let k : Taking g.S.Store.contents c.args.pins.now c.lane.result c.args.claim.cell c.args.slot.slot t.result.store (view t.new.pass) = record { took = taken_as g.S.Store.contents c.args.pins.now c.lane.result c.args.claim.cell c.args.slot.slot t.result.store (doing c.args.actor.now) (view t.new.pass) c.requires.hands t.ensures.took; near = c.requires.place.0; own = c.lane.ensures.lane ∙ (λ i. c.cell-cell.ensures i % c.lanes.ensures.count i); below = subst (λ n. c.lane.result < n) c.lanes.ensures.count c.lane.ensures.below } in
    hands_now g.S.Store.contents c.args.pins.now c.lane.result c.args.claim.cell c.args.slot.slot t.result.store (view t.new.pass) k

pub finish-requires-clause-lane : goal.finish-requires-clause-lane
finish-requires-clause-lane g c = let t = c.take_lane-lane in let k : Taking g.S.Store.contents c.args.pins.now c.lane.result c.args.claim.cell c.args.slot.slot t.result.store (view t.new.pass) = record { took = taken_as g.S.Store.contents c.args.pins.now c.lane.result c.args.claim.cell c.args.slot.slot t.result.store (doing c.args.actor.now) (view t.new.pass) c.requires.hands t.ensures.took; near = c.requires.place.0; own = c.lane.ensures.lane ∙ (λ i. c.cell-cell.ensures i % c.lanes.ensures.count i); below = subst (λ n. c.lane.result < n) c.lanes.ensures.count c.lane.ensures.below } in
    fill_ok g.S.Store.contents c.args.pins.now c.lane.result c.args.claim.cell c.args.slot.slot t.result.store (view t.new.pass) k c.fetch_into.new.lane (c.fetch_into.ensures.lane ∙ t.ensures.lane) (take c.voxels_in-voxels.result c.fetch_into.new.frame) (got_here g.S.Store.contents c.args.pins.now c.cell-cell.result c.args.claim.cell c.voxels_in-voxels.result t.result.store c.fetch_into.new.lane.store c.fetch_into.new.frame c.cell-cell.ensures c.voxels_in-voxels.ensures c.in-Ok.ensures.got)

pub finish-requires-clause-home : goal.finish-requires-clause-home
finish-requires-clause-home g c = let t = c.take_lane-lane in let k : Taking g.S.Store.contents c.args.pins.now c.lane.result c.args.claim.cell c.args.slot.slot t.result.store (view t.new.pass) = record { took = taken_as g.S.Store.contents c.args.pins.now c.lane.result c.args.claim.cell c.args.slot.slot t.result.store (doing c.args.actor.now) (view t.new.pass) c.requires.hands t.ensures.took; near = c.requires.place.0; own = c.lane.ensures.lane ∙ (λ i. c.cell-cell.ensures i % c.lanes.ensures.count i); below = subst (λ n. c.lane.result < n) c.lanes.ensures.count c.lane.ensures.below } in
    home_ok g.S.Store.contents c.args.pins.now c.lane.result c.args.claim.cell c.args.slot.slot t.result.store (view t.new.pass) k c.fetch_into.new.lane (c.fetch_into.ensures.lane ∙ t.ensures.lane) (take c.voxels_in-voxels.result c.fetch_into.new.frame) (got_here g.S.Store.contents c.args.pins.now c.cell-cell.result c.args.claim.cell c.voxels_in-voxels.result t.result.store c.fetch_into.new.lane.store c.fetch_into.new.frame c.cell-cell.ensures c.voxels_in-voxels.ensures c.in-Ok.ensures.got)

pub let_go-requires-clause-home : goal.let_go-requires-clause-home
let_go-requires-clause-home g c = let t = c.take_lane-lane in let k : Taking g.S.Store.contents c.args.pins.now c.lane.result c.args.claim.cell c.args.slot.slot t.result.store (view t.new.pass) = record { took = taken_as g.S.Store.contents c.args.pins.now c.lane.result c.args.claim.cell c.args.slot.slot t.result.store (doing c.args.actor.now) (view t.new.pass) c.requires.hands t.ensures.took; near = c.requires.place.0; own = c.lane.ensures.lane ∙ (λ i. c.cell-cell.ensures i % c.lanes.ensures.count i); below = subst (λ n. c.lane.result < n) c.lanes.ensures.count c.lane.ensures.below } in
    back_ok g.S.Store.contents c.args.pins.now c.lane.result c.args.claim.cell c.args.slot.slot t.result.store (view t.new.pass) k c.fetch_into.new.lane (c.fetch_into.ensures.lane ∙ t.ensures.lane) c.in-Err.err (subst (λ n. HasGotNone (made_of c.args.pins.now).levels.value (made_of c.args.pins.now).keys.value n (g.S.Store.contents t.result.store) (g.S.Store.contents c.fetch_into.new.lane.store) c.in-Err.err) c.cell-cell.ensures c.in-Err.ensures.not_got)

pub returns-in-Err-clause-cause : goal.returns-in-Err-clause-cause
returns-in-Err-clause-cause g c = let t = c.take_lane-lane in let k : Taking g.S.Store.contents c.args.pins.now c.lane.result c.args.claim.cell c.args.slot.slot t.result.store (view t.new.pass) = record { took = taken_as g.S.Store.contents c.args.pins.now c.lane.result c.args.claim.cell c.args.slot.slot t.result.store (doing c.args.actor.now) (view t.new.pass) c.requires.hands t.ensures.took; near = c.requires.place.0; own = c.lane.ensures.lane ∙ (λ i. c.cell-cell.ensures i % c.lanes.ensures.count i); below = subst (λ n. c.lane.result < n) c.lanes.ensures.count c.lane.ensures.below } in
    caused g.S.Store.contents c.args.pins.now c.lane.result c.args.claim.cell c.args.slot.slot t.result.store (view t.new.pass) k (c.cells_have_keys_of_their_own.ensures (made_of c.args.pins.now).keys.value (subst AreKeys c.keys-keys.ensures.same c.plain-plain.ensures.keys)) (sym (ap (λ q. q.levels) c.keys-keys.ensures.same) ∙ c.keys-keys.ensures.levels) c.histories_hold_from_the_opening.ensures (λ held. c.stores_stand_for_what_they_hold.ensures (made_of c.args.pins.now).levels.value (made_of c.args.pins.now).keys.value held c.args.claim.cell) (doing c.args.actor.now) (view c.let_go.new.pass) c.fetch_into.new.lane (c.fetch_into.ensures.lane ∙ t.ensures.lane) c.in-Err.err (subst (λ n. HasGotNone (made_of c.args.pins.now).levels.value (made_of c.args.pins.now).keys.value n (g.S.Store.contents t.result.store) (g.S.Store.contents c.fetch_into.new.lane.store) c.in-Err.err) c.cell-cell.ensures c.in-Err.ensures.not_got) t.ensures.went c.let_go.ensures.raised

pub returns-in-Ok-clause-loaded : goal.returns-in-Ok-clause-loaded
returns-in-Ok-clause-loaded g c = goes_by (plan_at g.S.Store.contents c.args.pins.now) (λ k. Live k c.args.claim.cell c.args.slot.slot ∷ []) (doing c.args.actor.now) (view c.take_lane-lane.new.pass) (doing c.finish.new.actor) _ c.take_lane-lane.ensures.went c.finish.ensures.loaded

pub returns-in-Err-clause-dropped : goal.returns-in-Err-clause-dropped
returns-in-Err-clause-dropped g c = (goes_by (plan_at g.S.Store.contents c.args.pins.now) (λ k. Drop k c.args.claim.cell ∷ []) (doing c.args.actor.now) (view c.take_lane-lane.new.pass) (view c.let_go.new.pass) _ c.take_lane-lane.ensures.went c.let_go.ensures.dropped, c.let_go.ensures.pins ∙ c.take_lane-lane.ensures.pins)

pub returns-in-Err-clause-actor : goal.returns-in-Err-clause-actor
returns-in-Err-clause-actor g c = acts_uncounted (plan_at g.S.Store.contents c.args.pins.now) c.args.pins.now c.args.actor.now _ _ c.requires.actor c.let_go.ensures.pass
    (goes_by (plan_at g.S.Store.contents c.args.pins.now) (λ k. Drop k c.args.claim.cell ∷ []) (doing c.args.actor.now) (view c.take_lane-lane.new.pass) (view c.let_go.new.pass) _ c.take_lane-lane.ensures.went c.let_go.ensures.dropped)
    (record { hits = refl; misses = refl; loads = refl; evictions = refl; writebacks = refl }) refl
