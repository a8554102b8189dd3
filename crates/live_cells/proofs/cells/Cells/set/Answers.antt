use Rattle.std.proofs.Common.{◌∙◌, ◌≤◌, List, false, [], ◌∷◌, ap, sym, subst}
use Rattle.arr_history.specs.declared.event.Event.TheVariants.{Mark, Write, Unpin}
use Rattle.cell_grid.specs.declared.level.Level.{Level}
use Rattle.cell_grid.specs.Kind.{greatest_of}
use Rattle.cell_grid.specs.Pyramid.{IsVoxelOf, kind_of}
use Rattle.pin_words.specs.Finding.{pin}
use Rattle.pin_rule.specs.Calls.{plan_at, pin_of}
use Rattle.pin_rule.specs.Going.{Goes}
use Rattle.live_cells.specs.Cells.{knows}
use Rattle.pin_rule.proofs.Goings.{goes_by}
use Rattle.live_cells.proofs.Unpinning.{unpinned, pins_back, visited}
use Rattle.live_cells.proofs.cells.Cells.set.Goals as goal

pub returns-in-Ok-clause-pins : goal.returns-in-Ok-clause-pins
returns-in-Ok-clause-pins g c = let k = c.in-Ok.ensures.handle in let w = c.write.ensures.handle in c.release.ensures.pins
    ∙ (pins_back (pin_of c.write.new.h) (knows c.write.new.pass) _ (c.write.ensures.pins ∙ (λ i. pin (sym w.0 i) (sym w.1 i) (sym w.2 i) ∷ Rattle.pin_words.specs.Finding.pins_without (pin_of c.in-Ok.handle) (knows c.acquire.new.pass)))
    ∙ unpinned c.in-Ok.handle c.in-Some.place.cell false (knows c.acquire.new.pass) (knows c.args.pass.now).pins k.0 k.1 c.in-Ok.ensures.pinned.0)

pub returns-in-Ok-clause-sets : goal.returns-in-Ok-clause-sets
returns-in-Ok-clause-sets g c = let p = plan_at g.S.Store.contents c.args.self.now.pins in let h = c.in-Ok.handle in (
  c.in-Some.place.cell,
  c.in-Some.place.at,
  subst (λ (levels : List Level). IsVoxelOf levels c.args.level c.args.pos c.in-Some.place.cell c.in-Some.place.at) c.geometry.ensures c.in-Some.ensures.voxel,
  subst (λ n. c.args.value ≤ n) (c.greatest.ensures ∙ ap greatest_of (c.kind.ensures ∙ ap (λ (l : List Level). kind_of l c.in-Some.place.cell) c.geometry-2.ensures)) c.if-value-greatest.false,
  visited g.S.Store.contents c.args.self.now.pins c.in-Some.place.cell (knows c.args.pass.now) (knows c.acquire.new.pass) (knows c.release.new.pass) h h.cell (λ n k. Mark k n ∷ Write k n c.in-Some.place.at c.args.value ∷ Unpin k n ∷ []) c.in-Ok.ensures.handle.0 c.in-Ok.ensures.acquires
      (goes_by p (λ k. Unpin k h.cell ∷ []) (knows c.acquire.new.pass) (knows c.write.new.pass) (knows c.release.new.pass) _ c.write.ensures.written
      (subst (λ n. Goes p (knows c.write.new.pass) (Unpin (knows c.write.new.pass).number n ∷ []) (knows c.release.new.pass)) c.write.ensures.handle.0 c.release.ensures.released)),
)
