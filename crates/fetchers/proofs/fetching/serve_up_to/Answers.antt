use Rattle.std.proofs.Common.{refl, arith}
use Rattle.fetchers.specs.declared.served.Served.TheVariants.{Held, Loaded, Refused}
use Rattle.fetchers.proofs.Counting.{refused_otherwise}
use Rattle.fetchers.proofs.Leading.{serves_more, fetch_whole, fetch_idle, fetch_memory}
use Rattle.fetchers.proofs.fetching.serve_up_to.Goals as goal
use Rattle.fetchers.proofs.fetching.serve_up_to.Goals.{in-Held, in-Loaded, in-Refused+in_default}

pub loop-preserved : goal.loop-preserved
loop-preserved g c =
    elim c.match-serve_one.branch [
      | in-Held w ↦ rw w.fetched-is (record {
        serves = serves_more g.E.Eyes.front g.met.E.Eyes.laws
            c.args.eyes.now c.loop.eyes c.serve_one.new.eyes c.loop.counter c.loop.fetched _ Held refl c.loop.invariant.serves w.in-Held.ensures.served (omega arith) (omega arith) (omega arith);
        total = omega (arith, c.loop.invariant.total);
        free = w.in-Held.ensures.free;
      })
      | in-Loaded w ↦ rw w.fetched-is (record {
        serves = serves_more g.E.Eyes.front g.met.E.Eyes.laws
            c.args.eyes.now c.loop.eyes c.serve_one.new.eyes c.loop.counter c.loop.fetched _ Loaded refl c.loop.invariant.serves w.in-Loaded.ensures.served (omega arith) (omega arith) (omega arith);
        total = omega (arith, c.loop.invariant.total);
        free = w.in-Loaded.ensures.free;
      })
      | in-Refused+in_default w ↦ rw w.fetched-is (record {
        serves = serves_more g.E.Eyes.front g.met.E.Eyes.laws
            c.args.eyes.now c.loop.eyes c.serve_one.new.eyes c.loop.counter c.loop.fetched _ (Refused w.in-Refused.refusal) (refused_otherwise w.in-Refused.refusal w.in_default.not-Memory) c.loop.invariant.serves w.in-Refused.ensures.served (omega arith) (omega arith) (omega arith);
        total = omega (arith, c.loop.invariant.total);
        free = w.in-Refused.ensures.free;
      })
    ]

pub returns-in-Idle-clause-fetch : goal.returns-in-Idle-clause-fetch
returns-in-Idle-clause-fetch g c =
    fetch_idle g.E.Eyes.front g.met.E.Eyes.laws
    c.args.eyes.now c.loop.eyes c.serve_one.new.eyes c.loop.counter c.args.count c.loop.fetched c.loop-test.true c.loop.invariant.serves c.in-Idle.ensures.served

pub returns-in-Memory-clause-fetch : goal.returns-in-Memory-clause-fetch
returns-in-Memory-clause-fetch g c =
    fetch_memory g.E.Eyes.front g.met.E.Eyes.laws
    c.args.eyes.now c.loop.eyes c.serve_one.new.eyes c.loop.counter c.args.count c.loop.fetched _ c.loop-test.true c.loop.invariant.serves (rw c.in-Memory.is at c.in-Refused.ensures.served)

pub returns-clause-fetch : goal.returns-clause-fetch
returns-clause-fetch g c =
    fetch_whole g.E.Eyes.front g.met.E.Eyes.laws
    c.args.eyes.now c.loop.eyes c.loop.counter c.args.count c.loop.fetched (omega (arith, c.loop-test.false, c.loop.auto.counter-end)) c.loop.invariant.serves
