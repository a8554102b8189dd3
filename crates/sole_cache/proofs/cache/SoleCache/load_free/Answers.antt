use Rattle.std.proofs.Common.{subst}
use Rattle.sole_cache.specs.Cached.{store_of}
use Rattle.cell_file.specs.File.{IsCauseOf}
use Rattle.cell_file.specs.Standing.{refusal_of}
use Rattle.sole_cache.proofs.Acquires.{refused_now}
use Rattle.cell_store.specs.Store.{held_of}
use Rattle.sole_cache.proofs.cache.SoleCache.load_free.Goals as goal

pub returns-in-Err-Malformed-clause-caused : goal.returns-in-Err-Malformed-clause-caused
returns-in-Err-Malformed-clause-caused g c = λ told. refused_now c.args.self.now c.load.new.self c.args.cell _ c.in-Err-Malformed.ensures.dropped told
    (subst (IsCauseOf (refusal_of c.args.self.now.levels c.args.self.now.keys (held_of (store_of c.args.self.now c.args.cell)) c.args.cell)) c.in-Err-Malformed.field-0-is (c.in-Err-Malformed.ensures.refused told))

pub returns-in-Err-TooLong-clause-caused : goal.returns-in-Err-TooLong-clause-caused
returns-in-Err-TooLong-clause-caused g c = λ told. refused_now c.args.self.now c.load.new.self c.args.cell _ c.in-Err-TooLong.ensures.dropped told
    (subst (IsCauseOf (refusal_of c.args.self.now.levels c.args.self.now.keys (held_of (store_of c.args.self.now c.args.cell)) c.args.cell)) c.in-Err-TooLong.field-0-is (c.in-Err-TooLong.ensures.refused told))
