use Rattle.sole_cache.proofs.Replaces.{all_filled}
use Rattle.sole_cache.proofs.cache.SoleCache.refill.Goals as goal

pub all_taken-requires : goal.all_taken-requires
all_taken-requires g c = rw c.in-Ok.ensures.seated.1.1 (all_filled c.args.self.now.slots c.args.slot c.args.cell c.in-Ok.ensures.seated.1.0 c.requires.slot c.requires.one)
