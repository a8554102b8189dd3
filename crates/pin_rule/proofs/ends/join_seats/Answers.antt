use Rattle.std.proofs.Common.{rules, refl, sym, ap, ◌∙◌, subst, Some, None}
use Rattle.pin_words.specs.Tells.{SawOthers}
use Rattle.pin_words.proofs.Passing.{joins_pass, settles_pass}
use Rattle.pin_rule.specs.Plans.{plan_of}
use Rattle.pin_rule.specs.Calls.{carried}
use Rattle.pin_rule.proofs.Draining.{rejoined}
use Rattle.pin_rule.proofs.ends.join_seats.Goals as goal

pub join_seat-requires : goal.join_seat-requires
join_seat-requires g c = (search rules, search rules, c.requires.rests.1.2 ∙ ap carried c.requires.bare.lane, search rules, joins_pass (plan_of g.S.Store.contents (Some c.args.words.now.key)) None _ _ _ _ c.requires.first c.requires.rests.0.1 c.requires.rests.1.1 c.requires.bare)

pub load-requires : goal.load-requires
load-requires g c = (search rules, search rules, settles_pass (plan_of g.S.Store.contents (Some c.args.words.now.key)) (plan_of g.S.Store.contents) refl _ _ c.join_seat.new.seat.me (c.args.seat.now.me.0.seen) (c.args.other.me.0.seen) (ap (λ m. m.0.stage) c.join_seat.ensures.2))

pub returns-clause-seat : goal.returns-clause-seat
returns-clause-seat g c = (search rules, search rules, (rejoined g.S.Store.contents c.args.seat.now.me c.join_seat.new.seat.me c.load.new.seat.me c.args.other.me.0 c.args.words.now.key c.requires.rests.0 c.join_seat.ensures.2 c.load.ensures.2).1)

pub returns-clause-rests : goal.returns-clause-rests
returns-clause-rests g c = (rejoined g.S.Store.contents c.args.seat.now.me c.join_seat.new.seat.me c.load.new.seat.me c.args.other.me.0 c.args.words.now.key c.requires.rests.0 c.join_seat.ensures.2 c.load.ensures.2).0

pub returns-clause-joined : goal.returns-clause-joined
returns-clause-joined g c = (rejoined g.S.Store.contents c.args.seat.now.me c.join_seat.new.seat.me c.load.new.seat.me c.args.other.me.0 c.args.words.now.key c.requires.rests.0 c.join_seat.ensures.2 c.load.ensures.2).2

pub returns-clause-seen : goal.returns-clause-seen
returns-clause-seen g c = (rejoined g.S.Store.contents c.args.seat.now.me c.join_seat.new.seat.me c.load.new.seat.me c.args.other.me.0 c.args.words.now.key c.requires.rests.0 c.join_seat.ensures.2 c.load.ensures.2).3

pub returns-clause-foreign : goal.returns-clause-foreign
returns-clause-foreign g c = subst (λ k. SawOthers k c.args.seat.now.me.0.seen c.load.new.seat.me.0.seen) (sym c.requires.first) (rejoined g.S.Store.contents c.args.seat.now.me c.join_seat.new.seat.me c.load.new.seat.me c.args.other.me.0 c.args.words.now.key c.requires.rests.0 c.join_seat.ensures.2 c.load.ensures.2).4
