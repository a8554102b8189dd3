use Rattle.alike_frames.proofs.Asking.{frames_ask_alike}
use Rattle.alike_frames.proofs.frames_ask_alike.Goals as goal

pub returns : goal.returns
returns c = frames_ask_alike
