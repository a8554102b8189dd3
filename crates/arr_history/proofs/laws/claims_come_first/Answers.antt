use Rattle.arr_history.proofs.Claims.{claims_come_first, claims_stand_round}
use Rattle.arr_history.proofs.laws.claims_come_first.Goals as goal

pub returns-clause-first : goal.returns-clause-first
returns-clause-first c = claims_come_first

pub returns-clause-round : goal.returns-clause-round
returns-clause-round c = claims_stand_round
