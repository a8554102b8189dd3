-- The edits stand before the pictures.
use Rattle.demo_frames.proofs.Showing.{demo_shown}
use Rattle.demo_frames.proofs.laws.demo_is_shown.Goals as goal

pub returns : goal.returns
returns c = demo_shown
