use Rattle.std.proofs.Common.{◌≡◌, ◌∙◌, ◌<◌, [], ◌∷◌, sym, ap, subst, take, length-take, slice_index, arith}
use Rattle.std.proofs.lemmas.List.{get_or-take}
use Rattle.arr_history.specs.declared.event.Event.TheVariants.{Gone, Back}
use Rattle.pin_words.specs.declared.holding.Left.{Left}
use Rattle.pin_words.specs.declared.doing.Doing.{Doing}
use Rattle.pin_words.specs.Finding.{left_of}
use Rattle.pin_words.specs.Cells.{IsFrameNumber}
use Rattle.pin_rule.specs.Calls.{view, plan_at, voxel_count}
use Rattle.pin_rule.specs.Going.{Goes}
use Rattle.live_cells.proofs.Answering.{map_ok, map_err}
use Rattle.pin_rule.proofs.Goings.{goes_by}
use Rattle.live_cells.proofs.Laning.{took_hands}
use Rattle.live_cells.proofs.Turning.{turning_still, left_same, hands_since}
use Rattle.live_cells.proofs.victims.put_marked.Goals as goal

pub put_out-requires-clause-turning : goal.put_out-requires-clause-turning
put_out-requires-clause-turning g c = let p = plan_at g.S.Store.contents c.args.pins.now in turning_still p c.args.leaving.cell c.args.leaving.slot c.args.leaving.marked (view c.args.pass.now) (view c.take_lane-lane.new.pass) _ c.requires.turning
    (subst (λ (d : Doing _ _). Goes p d [] (view c.take_lane-lane.new.pass)) c.copy_frame.ensures.same c.take_lane-lane.ensures.went) ((took_hands _ _ _ _ _ _ _ c.take_lane-lane.ensures.took).leaving_are ∙ ap (λ (d : Doing _ _). d.leaving) c.copy_frame.ensures.same)

pub put_out-requires-clause-values : goal.put_out-requires-clause-values
put_out-requires-clause-values g c = let p = plan_at g.S.Store.contents c.args.pins.now in
    let n : c.voxels_in-voxels.result ≡ voxel_count c.args.pins.now c.args.leaving.cell = c.voxels_in-voxels.ensures ∙ ap (voxel_count c.args.pins.now) c.cell-cell.ensures in (
      omega (arith, n, length-take c.voxels_in-voxels.result c.copy_frame.new.frame, c.requires.frame),
      λ i lt. subst (λ (q : Left). IsFrameNumber p q i (slice_index (take c.voxels_in-voxels.result c.copy_frame.new.frame) i)) (left_same c.args.leaving.cell (view c.args.pass.now) (view c.take_lane-lane.new.pass) ((took_hands _ _ _ _ _ _ _ c.take_lane-lane.ensures.took).leaving_are ∙ ap (λ (d : Doing _ _). d.leaving) c.copy_frame.ensures.same))
          (subst (λ x. IsFrameNumber p (left_of c.args.leaving.cell (view c.args.pass.now)) i x) (sym (get_or-take c.voxels_in-voxels.result c.copy_frame.new.frame i 0 (subst (λ m. i < m) (sym n) lt))) (c.copy_frame.ensures.numbers i lt)),
    )

pub returns-clause-gone : goal.returns-clause-gone
returns-clause-gone g c = let p = plan_at g.S.Store.contents c.args.pins.now in map_ok c.put_out.result (λ h. (
  hands_since (view c.args.pass.now) (view c.take_lane-lane.new.pass) ((took_hands _ _ _ _ _ _ _ c.take_lane-lane.ensures.took).claims_are ∙ ap (λ (d : Doing _ _). d.claims) c.copy_frame.ensures.same) h.0,
  goes_by p (λ k. Gone k c.args.leaving.cell c.args.leaving.marked ∷ []) (view c.args.pass.now) (view c.take_lane-lane.new.pass) (view c.put_out.new.pass) _ (subst (λ (d : Doing _ _). Goes p d [] (view c.take_lane-lane.new.pass)) c.copy_frame.ensures.same c.take_lane-lane.ensures.went) h.1,
)) c.put_out.ensures.gone

pub returns-clause-back : goal.returns-clause-back
returns-clause-back g c = let p = plan_at g.S.Store.contents c.args.pins.now in map_err c.put_out.result (λ h. (
  hands_since (view c.args.pass.now) (view c.take_lane-lane.new.pass) ((took_hands _ _ _ _ _ _ _ c.take_lane-lane.ensures.took).claims_are ∙ ap (λ (d : Doing _ _). d.claims) c.copy_frame.ensures.same) h.0,
  goes_by p (λ k. Back k c.args.leaving.cell ∷ []) (view c.args.pass.now) (view c.take_lane-lane.new.pass) (view c.put_out.new.pass) _ (subst (λ (d : Doing _ _). Goes p d [] (view c.take_lane-lane.new.pass)) c.copy_frame.ensures.same c.take_lane-lane.ensures.went) h.1,
)) c.put_out.ensures.back
