use Rattle.std.proofs.Common.{[], ◌∷◌, refl, ap}
use Rattle.arr_history.specs.declared.event.Event.TheVariants.{Read}
use Rattle.sole_cache.specs.Acquires.{Quiet}
use Rattle.sole_eyes.proofs.Following.{eyes_read}
use Rattle.sole_eyes.proofs.sole_eyes.SoleEyesEyes.read.Goals as goal

pub returns-clause-led : goal.returns-clause-led
returns-clause-led g c =
    let quiet : Quiet c.args.self.now.cache.now (Read 0 c.args.handle.now.cell c.args.at c.read.result ∷ []) c.read.new.self = record { runs = c.read.ensures.runs; shown = ap (λ (v : _). v.shown) c.read.ensures.unchanged; valid = c.read.ensures.valid } in
    (refl, refl, refl, eyes_read _ _ c.args.handle.now.cell c.args.at c.read.result quiet, refl)
