use Rattle.std.proofs.Common.{◌≡◌, ◌∙◌, ◌+◌, length, ap, sym, subst}
use Rattle.pin_words.specs.Finding.{has_by, same_pin}
use Rattle.pin_rule.specs.Calls.{plan_at, pin_of}
use Rattle.live_cells.specs.Cells.{knows}
use Rattle.team_eyes.proofs.Holding.{holds_one_less, pin_stays}
use Rattle.team_eyes.proofs.PinLists.{length_without}
use Rattle.team_eyes.proofs.steps.release.Goals as goal

pub returns-clause-released : goal.returns-clause-released
returns-clause-released g c =
    (holds_one_less (plan_at g.S.Store.contents c.args.cells.now.pins) (knows c.args.pass.now) (knows c.release.new.pass) (pin_of c.args.handle) c.release.ensures.released c.release.ensures.seen.legal c.requires.still c.requires.held.0 c.release.ensures.pins).0

pub returns-clause-still : goal.returns-clause-still
returns-clause-still g c =
    (holds_one_less (plan_at g.S.Store.contents c.args.cells.now.pins) (knows c.args.pass.now) (knows c.release.new.pass) (pin_of c.args.handle) c.release.ensures.released c.release.ensures.seen.legal c.requires.still c.requires.held.0 c.release.ensures.pins).1

pub returns-clause-pins : goal.returns-clause-pins
returns-clause-pins g c = length_without (pin_of c.args.handle) (knows c.args.pass.now) c.requires.held.0 ∙ ap (λ pins. length pins + 1) (sym c.release.ensures.pins)

pub returns-clause-kept : goal.returns-clause-kept
returns-clause-kept g c = λ h other held. (
  subst (λ pins. has_by (same_pin (pin_of h)) pins ≡ Rattle.std.specs.Prelude.true) (sym c.release.ensures.pins) (pin_stays (knows c.args.pass.now) c.requires.still (pin_of c.args.handle) (pin_of h) c.requires.held.0 held.0 other),
  held.1,
  held.2,
)
