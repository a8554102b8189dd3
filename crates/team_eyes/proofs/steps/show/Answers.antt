use Rattle.std.proofs.Common.{◌≡◌, ◌∙◌, ℕ, ◌*◌, ◌^◌, refl, ap, subst, arith}
use Rattle.std.specs.Prelude.{unsigned_abs}
use Rattle.pin_rule.specs.Calls.{plan_at, voxel_count}
use Rattle.live_cells.specs.Cells.{knows}
use Rattle.whole_affine.specs.Offsets.{offset_ahead}
use Rattle.team_eyes.specs.Runs.{ShowsFirst}
use Rattle.team_eyes.proofs.Offsets.{stands_at, lies_there, index_below, next_ahead, few_voxels}
use Rattle.team_eyes.proofs.Runs.{shows_none, shows_more}
use Rattle.team_eyes.proofs.steps.show.Goals as goal

pub loop-k-init : goal.loop-k-init
loop-k-init g c = record {
  pass = c.requires.pass;
  still = c.requires.still;
  ahead = λ k. ap (offset_ahead c.args.walk) (omega arith);
  shows = shows_none (plan_at g.S.Store.contents c.args.cells.now.pins) c.args.handle.now.cell c.args.walk c.args.shades c.args.run (knows c.args.pass.now) c.args.picture.now c.width-width.ensures.filled;
  pins = refl;
  kept = λ h held. held;
}

pub at-requires : goal.at-requires
at-requires g c =
    let cell = c.args.handle.now.cell in
    let cells = c.args.cells.now.pins in
    lies_there c.args.walk c.loop-k.walk c.loop-k.k (voxel_count cells cell) (2 ^ 32) c.loop-k.invariant.ahead (c.requires.offsets c.loop-k.k c.loop-k-test.true) (few_voxels cells cell c.requires.held.1)

pub read-number-requires-clause-at : goal.read-number-requires-clause-at
read-number-requires-clause-at g c =
    let most = voxel_count c.args.cells.now.pins c.args.handle.now.cell in
    let below = index_below c.loop-k.walk most (lies_there c.args.walk c.loop-k.walk c.loop-k.k most most c.loop-k.invariant.ahead (c.requires.offsets c.loop-k.k c.loop-k-test.true) (omega arith)) in
    omega (arith, c.at.ensures, below)

pub set_at-requires : goal.set_at-requires
set_at-requires g c =
    let s = c.loop-k.invariant.shows.shows in
    let size : c.loop-k.picture.width * c.loop-k.picture.height ≡ c.args.picture.now.width * c.args.picture.now.height = λ i. s.width i * s.height i in
    omega (arith, size, c.requires.run, c.loop-k-test.true)

pub next-walk-requires : goal.next-walk-requires
next-walk-requires g c =
    let cell = c.args.handle.now.cell in
    let cells = c.args.cells.now.pins in
    lies_there c.args.walk c.loop-k.walk c.loop-k.k (voxel_count cells cell) (2 ^ 32) c.loop-k.invariant.ahead (c.requires.offsets c.loop-k.k c.loop-k-test.true) (few_voxels cells cell c.requires.held.1)

pub loop-k-preserved : goal.loop-k-preserved
loop-k-preserved g c =
    let i = c.loop-k.invariant in
    let there = c.at.ensures ∙ ap unsigned_abs (stands_at c.args.walk c.loop-k.walk c.loop-k.k i.ahead) in
    record {
      pass = c.read-number.ensures.pass;
      still = c.read-number.ensures.still;
      ahead = next_ahead c.args.walk c.loop-k.walk c.next-walk.result c.loop-k.k i.ahead c.next-walk.ensures;
      shows = shows_more (plan_at g.S.Store.contents c.args.cells.now.pins) c.args.handle.now.cell c.args.walk c.args.shades c.args.run (knows c.args.pass.now) c.args.picture.now c.loop-k.k c.at.result c.read-number.result c.shown.result (knows c.loop-k.pass)
          (knows c.read-number.new.pass) c.loop-k.picture c.set_at.new.self (omega (arith, c.requires.run, c.loop-k-test.true)) there i.shows c.read-number.ensures.read c.shown.ensures c.set_at.ensures.set;
      pins = c.read-number.ensures.pins ∙ i.pins;
      kept = λ h held. c.read-number.ensures.kept h (i.kept h held);
    }

pub returns-clause-shown : goal.returns-clause-shown
returns-clause-shown g c =
    let all : c.loop-k.k ≡ c.args.run.columns = omega (arith, c.loop-k.auto.k-end, c.loop-k-test.false) in
    let s = subst (λ (n : ℕ). ShowsFirst (plan_at g.S.Store.contents c.args.cells.now.pins) c.args.handle.now.cell c.args.walk c.args.shades c.args.run n (knows c.args.pass.now) c.args.picture.now (knows c.loop-k.pass) c.loop-k.picture) all c.loop-k.invariant.shows in
    (s.number, s.goes, s.shows)
