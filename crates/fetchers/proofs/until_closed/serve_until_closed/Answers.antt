use Rattle.fetchers.proofs.Leading.{served_more, served_none}
use Rattle.fetchers.proofs.until_closed.serve_until_closed.Goals as goal

pub loop-init : goal.loop-init
loop-init g c = record { served = served_none g.E.Eyes.front g.met.E.Eyes.laws c.args.eyes.now; free = c.requires.free }

pub loop-preserved : goal.loop-preserved
loop-preserved g c = record {
  served = served_more g.E.Eyes.front g.met.E.Eyes.laws c.args.eyes.now c.loop.eyes c.serve_one.new.eyes c.serve_one.result c.loop.invariant.served c.serve_one.ensures.served;
  free = c.serve_one.ensures.free;
}

pub loop-preserved-in-Held : goal.loop-preserved-in-Held
loop-preserved-in-Held g c = record {
  served = served_more g.E.Eyes.front g.met.E.Eyes.laws c.args.eyes.now c.loop.eyes c.serve_one.new.eyes c.serve_one.result c.loop.invariant.served c.serve_one.ensures.served;
  free = c.serve_one.ensures.free;
}
