use Rattle.store_calls.proofs.Dues.{same_put_answer}
use Rattle.store_calls.proofs.puts_answer_alike.Goals as goal

pub returns : goal.returns
returns c = same_put_answer
