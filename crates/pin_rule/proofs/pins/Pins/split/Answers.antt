use Rattle.std.proofs.Common.{rules, ◌∙◌}
use Rattle.std.specs.Prelude.{vec_capacity}
use Rattle.pin_rule.proofs.Resting.{child_rests, child_room, child_rises}
use Rattle.pin_rule.proofs.pins.Pins.split.Goals as goal

pub returns-clause-given : goal.returns-clause-given
returns-clause-given g c = (
  (
    search rules,
    child_rests c.args.pass.now.seat.me c.split_seat-seat.result.me c.args.self.now.table.shared.key c.requires.pass.1 c.split_seat-seat.ensures.given.1,
    child_room c.args.pass.now.seat.me c.split_seat-seat.result.me c.args.self.now.table.shared.key (vec_capacity c.args.pass.now.list) _ c.requires.first c.requires.pass.2 c.split_seat-seat.ensures.given.1,
    child_rises c.args.pass.now.seat.me c.split_seat-seat.result.me c.split_seat-seat.ensures.given.1 ∙ c.requires.pass.3,
  ),
  search rules,
)
