use Rattle.std.proofs.Common.{◌∙◌, sym}
use Rattle.fetchers.proofs.Leading.{cell_served}
use Rattle.fetchers.proofs.serving.serve_one.Goals as goal

pub returns-then-loaded-clause-served : goal.returns-then-loaded-clause-served
returns-then-loaded-clause-served g c =
    let done = c.in-Ok.ensures.acquired in
    cell_served g.E.Eyes.front g.met.E.Eyes.laws
    c.args.eyes.now c.next.new.self c.acquire.new.self c.release.new.self c.in-Some.request _ _ _ done.0 c.in-Some.ensures.inside c.in-Some.ensures.led done.1 done.2 (sym c.loaded-loaded.ensures ∙ c.if-loaded.true) c.in-Ok.ensures.handle.0 c.release.ensures.led

pub returns-else-loaded-clause-served : goal.returns-else-loaded-clause-served
returns-else-loaded-clause-served g c =
    let done = c.in-Ok.ensures.acquired in
    cell_served g.E.Eyes.front g.met.E.Eyes.laws
    c.args.eyes.now c.next.new.self c.acquire.new.self c.release.new.self c.in-Some.request _ _ _ done.0 c.in-Some.ensures.inside c.in-Some.ensures.led done.1 done.2 (sym c.loaded-loaded.ensures ∙ c.if-loaded.false) c.in-Ok.ensures.handle.0 c.release.ensures.led
