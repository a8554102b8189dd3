use Rattle.std.proofs.Common.{refl}
use Rattle.sole_eyes.proofs.Following.{eyes_release}
use Rattle.sole_eyes.proofs.Looking.{kept_after_unpin}
use Rattle.sole_eyes.proofs.sole_eyes.SoleEyesEyes.release.Goals as goal

pub returns-clause-led : goal.returns-clause-led
returns-clause-led g c = (refl, refl, refl, eyes_release _ _ c.args.handle.cell c.release.ensures.quiet, refl)

pub returns-clause-kept : goal.returns-clause-kept
returns-clause-kept g c = λ h other handle. kept_after_unpin _ _ c.args.handle.cell h c.release.ensures.quiet.runs other handle
