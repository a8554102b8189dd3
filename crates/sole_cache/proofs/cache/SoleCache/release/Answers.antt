use Rattle.sole_cache.proofs.Stood.{stood}
use Rattle.sole_cache.proofs.cache.SoleCache.release.Goals as goal

pub returns-clause-stood : goal.returns-clause-stood
returns-clause-stood g c = stood c.unpin.new.self c.unpin.ensures.valid
