use Rattle.sole_cache.proofs.Stood.{stood}
use Rattle.sole_cache.proofs.cache.SoleCache.look.Goals as goal

pub returns-in-Some-clause-stood : goal.returns-in-Some-clause-stood
returns-in-Some-clause-stood g c = stood c.pin.new.self c.pin.ensures.valid

pub returns-in-None-clause-stood : goal.returns-in-None-clause-stood
returns-in-None-clause-stood g c = stood c.miss.new.self c.miss.ensures.valid
