use Rattle.pin_time.proofs.Ones.{ones_small}
use Rattle.pin_time.proofs.table.ones.Goals as goal

pub returns : goal.returns
returns c = record { bytes = ones_small 64 }
