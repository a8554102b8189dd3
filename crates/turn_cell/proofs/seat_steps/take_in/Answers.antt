use Rattle.std.proofs.Common.{rules, ap}
use Rattle.turn_cell.proofs.Joining.{joins_turn, settles_turn}
use Rattle.turn_cell.proofs.seat_steps.take_in.Goals as goal

pub join_seat-requires : goal.join_seat-requires
join_seat-requires g c = (search rules, search rules, search rules, search rules, joins_turn _ _ _ _ _ _ c.requires.first c.requires.idle.0 c.requires.idle.1)

pub load-requires : goal.load-requires
load-requires g c = (search rules, search rules, settles_turn g.T.Seq.steps _ _ _ c.join_seat.new.seat.me (c.args.seat.now.me.0.seen) (c.args.other.me.0.seen) (ap (λ m. m.0.stage) c.join_seat.ensures.2))
