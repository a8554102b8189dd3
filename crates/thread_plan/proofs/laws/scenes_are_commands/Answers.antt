-- They are, by the lemma.
use Rattle.thread_plan.proofs.SceneLemmas.{scenes_flat}
use Rattle.thread_plan.proofs.laws.scenes_are_commands.Goals as goal

pub returns : goal.returns
returns c = scenes_flat
