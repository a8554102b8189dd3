use Rattle.std.proofs.Common.{Vec, ◌≡◌, ◌∙◌, ◌≤◌, ◌+◌, ◌*◌, List, length, sym, subst}
use Rattle.std.specs.Vec.{with_items}
use Rattle.cell_grid.specs.Pyramid.{frame_of}
use Rattle.cell_file.specs.Standing.{width_of}
use Rattle.pin_rule.specs.Calls.{plan_at, made_of, voxel_count}
use Rattle.live_cells.specs.Loads.{Loads}
use Rattle.live_cells.specs.Actors.{doing}
use Rattle.live_cells.proofs.Answering.{map_if_ok}
use Rattle.live_cells.proofs.Acquired.{acquired_hit, acquired_load}
use Rattle.live_cells.proofs.Handing.{still_in_step, still_joined}
use Rattle.live_cells.proofs.cells.Cells.acquire.Goals as goal

pub returns-in-Ok-clause-acquires : goal.returns-in-Ok-clause-acquires
returns-in-Ok-clause-acquires g c = let h = c.in-Ok.ensures.hit in acquired_hit g.S.Store.contents c.args.self.now.pins c.args.cell (doing c.args.pass.now.actor) (doing c.reach.new.actor) h.1.0 c.in-Ok.handle c.in-Ok.ensures.pinned.2 h.1.1

pub returns-in-Err-clause-acquires : goal.returns-in-Err-clause-acquires
returns-in-Err-clause-acquires g c = let t = c.in-Err.ensures.took in let same = c.in-Err.ensures.claimed.0 in
    acquired_load g.S.Store.contents c.args.self.now.pins c.args.cell (doing c.args.pass.now.actor) (doing c.load_claimed.new.actor) (doing c.reach.new.actor) t.0 t.1 c.load_claimed.result
    (map_if_ok c.load_claimed.result (λ h k. k.2) c.load_claimed.ensures.handle)
    (subst (λ n. Loads g.S.Store.contents c.args.self.now.pins n (doing c.reach.new.actor) (doing c.load_claimed.new.actor) c.load_claimed.result) same c.load_claimed.ensures.loads)

-- a list that was lent has its length still
lent : {X Z : Type 0} (v : Vec X Z) (ws : List X) → length v.items ≡ length (with_items v ws).items
lent v ws = sym v.ok.0 ∙ (with_items v ws).ok.0

pub returns-in-Err-clause-pass : goal.returns-in-Err-clause-pass
returns-in-Err-clause-pass g c = let q = c.requires.pass in record {
  actor = c.load_claimed.ensures.actor;
  joined = still_joined (plan_at g.S.Store.contents c.args.self.now.pins) c.args.pass.now.asks c.load_claimed.new.asks (doing c.args.pass.now.actor) (doing c.load_claimed.new.actor) _ (returns-in-Err-clause-acquires g c).went c.args.pass.now.joined q.joined;
  free = c.load_claimed.ensures.free;
  frame = subst (λ n. frame_of (made_of c.args.self.now.pins).levels.value ≤ n) (lent c.args.pass.now.frame c.load_claimed.new.frame) q.frame;
  block = λ n lt. subst (λ m. 16 + width_of (made_of c.args.self.now.pins).levels.value n * voxel_count c.args.self.now.pins n ≤ m) (lent c.args.pass.now.block c.load_claimed.new.block) (q.block n lt);
  asks = c.load_claimed.ensures.asks;
  step = still_in_step (plan_at g.S.Store.contents c.args.self.now.pins) c.args.pass.now.asks c.load_claimed.new.asks (doing c.args.pass.now.actor) (doing c.load_claimed.new.actor) _ (returns-in-Err-clause-acquires g c).went c.load_claimed.ensures.step q.step;
}

pub returns-in-Ok-clause-pass : goal.returns-in-Ok-clause-pass
returns-in-Ok-clause-pass g c = let q = c.requires.pass in record {
  actor = c.reach.ensures.actor;
  joined = still_joined (plan_at g.S.Store.contents c.args.self.now.pins) c.args.pass.now.asks c.used.new.asks (doing c.args.pass.now.actor) (doing c.reach.new.actor) _ c.in-Ok.ensures.hit.1.1 c.args.pass.now.joined q.joined;
  free = c.in-Ok.ensures.hit.0;
  frame = q.frame;
  block = q.block;
  asks = c.used.ensures.asks;
  step = still_in_step (plan_at g.S.Store.contents c.args.self.now.pins) c.args.pass.now.asks c.used.new.asks (doing c.args.pass.now.actor) (doing c.reach.new.actor) _ c.in-Ok.ensures.hit.1.1 c.used.ensures.step q.step;
}
