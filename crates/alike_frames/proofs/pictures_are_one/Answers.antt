use Rattle.alike_frames.proofs.Asking.{pictures_are_one}
use Rattle.alike_frames.proofs.pictures_are_one.Goals as goal

pub returns : goal.returns
returns c = pictures_are_one
