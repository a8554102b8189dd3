-- The sum so far, of pictures that have a byte for each pixel.
use Rattle.std.proofs.Common.{◌≡◌, ℕ, ◌*◌, ◌^◌, ◌<◌, ◌≤◌, get_or, take}
use Rattle.run_report.specs.declared.shot.Shot.{Shot}
use Rattle.scale_pick.specs.Picture.{IsFilled}
use Rattle.demo_script.specs.Sum.{pixel_sum}
use Rattle.demo_script.proofs.sum.pixel_sum.Given as goal

abbrev pub invariant-loop-shot : goal.invariant-loop-shot
invariant-loop-shot l = record {
  so_far : l.total ≡ pixel_sum (take l.shot-index l.shots);
  small : l.total ≤ 2 ^ 32 * l.shot-index;
  filled : (i : ℕ) (d : Shot) → i < l.shot-index → IsFilled (get_or l.shots i d).picture;
}
