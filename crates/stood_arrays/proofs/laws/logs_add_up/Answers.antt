use Rattle.stood_arrays.specs.Entries.{is_put, is_get}
use Rattle.stood_arrays.proofs.StandingLemmas.{count-append}
use Rattle.stood_arrays.proofs.laws.logs_add_up.Goals as goal

pub returns : goal.returns
returns c = λ key log more. (count-append (is_put key) log more, count-append (is_get key) log more)
