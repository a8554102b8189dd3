-- No more pictures are named than were put, and the next one is put behind the others.
use Rattle.std.proofs.Common.{arith}
use Rattle.std.proofs.lemmas.List.{length-take-le}
use Rattle.viewrun_calls.proofs.PictureLemmas.{puts_next, told_few}
use Rattle.viewrun_calls.proofs.pictures.put_shots.Goals as goal

pub put_shot-requires : goal.put_shot-requires
put_shot-requires g c =
    let few = told_few _ _ _ _ c.loop-shot.invariant.puts in
    let taken = length-take-le c.loop-shot.shot-index c.args.shots.now c.loop-shot.auto.shot-index-end in
    record { room = omega (arith, few, taken) }

pub loop-shot-preserved : goal.loop-shot-preserved
loop-shot-preserved g c = record {
  puts = puts_next c.args.shots.now c.loop-shot.shot-index c.shot-item.result _ _ _ _ _ c.loop-shot-test.true c.shot-item.is c.loop-shot.invariant.puts c.put_shot.ensures.adds;
  capacity = omega (arith, c.put_shot.ensures.capacity);
}
