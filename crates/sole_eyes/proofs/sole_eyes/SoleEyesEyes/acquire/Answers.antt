use Rattle.std.proofs.Common.{refl}
use Rattle.sole_eyes.proofs.Following.{eyes_acquire, refused_by}
use Rattle.sole_eyes.proofs.Looking.{acquired}
use Rattle.sole_eyes.proofs.sole_eyes.SoleEyesEyes.acquire.Goals as goal

pub returns-clause-acquired : goal.returns-clause-acquired
returns-clause-acquired g c =
    let done = c.acquire.ensures.acquires in
    (done.0, (refl, refl, refl, eyes_acquire _ _ c.args.cell c.acquire.result done.0 done.1 done.2, refl), acquired _ c.args.cell c.acquire.result done.0 done.1 done.2.is)

pub returns-clause-caused : goal.returns-clause-caused
returns-clause-caused g c =
    let done = c.acquire.ensures.acquires in
    refused_by _ _ c.args.cell c.acquire.result done.0 done.1 c.acquire.ensures.caused done.2 c.acquire.ensures.refused
