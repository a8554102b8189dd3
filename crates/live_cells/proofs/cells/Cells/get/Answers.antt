use Rattle.std.proofs.Common.{◌∙◌, false, [], ◌∷◌, subst}
use Rattle.arr_history.specs.declared.event.Event.TheVariants.{Read, Unpin}
use Rattle.cell_grid.specs.declared.level.Level.{Level}
use Rattle.std.proofs.Common.{List}
use Rattle.cell_grid.specs.Pyramid.{IsVoxelOf}
use Rattle.pin_rule.specs.Calls.{plan_at}
use Rattle.live_cells.specs.Cells.{knows}
use Rattle.pin_rule.proofs.Goings.{goes_by}
use Rattle.live_cells.proofs.Unpinning.{unpinned, visited}
use Rattle.live_cells.proofs.cells.Cells.get.Goals as goal

pub returns-in-Ok-clause-pins : goal.returns-in-Ok-clause-pins
returns-in-Ok-clause-pins g c = let k = c.in-Ok.ensures.handle in c.release.ensures.pins ∙ unpinned c.in-Ok.handle c.in-Some.place.cell false (knows c.read-value.new.pass) (knows c.args.pass.now).pins k.0 k.1 (c.read-value.ensures.pins ∙ c.in-Ok.ensures.pinned.0)

pub returns-in-Ok-clause-gets : goal.returns-in-Ok-clause-gets
returns-in-Ok-clause-gets g c = let p = plan_at g.S.Store.contents c.args.self.now.pins in let h = c.in-Ok.handle in (
  c.in-Some.place.cell,
  c.in-Some.place.at,
  subst (λ (levels : List Level). IsVoxelOf levels c.args.level c.args.pos c.in-Some.place.cell c.in-Some.place.at) c.geometry.ensures c.in-Some.ensures.voxel,
  visited g.S.Store.contents c.args.self.now.pins c.in-Some.place.cell (knows c.args.pass.now) (knows c.acquire.new.pass) (knows c.release.new.pass) h h.cell (λ n k. Read k n c.in-Some.place.at c.read-value.result ∷ Unpin k n ∷ []) c.in-Ok.ensures.handle.0 c.in-Ok.ensures.acquires
      (goes_by p (λ k. Unpin k h.cell ∷ []) (knows c.acquire.new.pass) (knows c.read-value.new.pass) (knows c.release.new.pass) _ c.read-value.ensures.read c.release.ensures.released),
)
