-- A task's reply and its shot are added.
use Rattle.std.specs.Option.{option_to_list}
use Rattle.team_actors.proofs.acting.act_once.Goals as goal

pub returns-clause-adds : goal.returns-clause-adds
returns-clause-adds g c = record {
  told = c.serve-answer.result.answer;
  left = option_to_list c.serve-answer.result.shot;
  answers = c.serve-answer.ensures.answers;
  replied = c.add_reply.ensures.added;
  kept = c.add_shot.ensures.added;
}
