use Rattle.team_eyes.proofs.Showing.{shown_in}
use Rattle.team_eyes.proofs.laws.frames_show_moments.Goals as goal

pub returns : goal.returns
returns g c = shown_in c.pictures_show_moments.ensures _ _
