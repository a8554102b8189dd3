use Rattle.std.proofs.Common.{rules, ap}
use Rattle.pin_words.proofs.Passing.{shows_trail}
use Rattle.pin_rule.proofs.Draining.{closed_some, closed_settled, closed_history}
use Rattle.pin_rule.proofs.trail.shut.Goals as goal

pub split_seat-requires : goal.split_seat-requires
split_seat-requires g c = (search rules, search rules, shows_trail _ _ _)

pub drain-requires-clause-closed : goal.drain-requires-clause-closed
drain-requires-clause-closed g c = (search rules, closed_some g.S.Store.contents c.args.table.shared.key _ _ c.args.seat.me.0 _ _ (ap (λ m. m.0) c.split_seat.ensures.2) c.requires.lone c.requires.rests.1 c.requires.bare.lane c.close_with-closed.ensures.values.2, search rules)

pub returns-clause-stores : goal.returns-clause-stores
returns-clause-stores g c = closed_settled g.S.Store.contents c.args.table.shared.key _ _ c.args.seat.me.0 _ _ (ap (λ m. m.0) c.split_seat.ensures.2) c.requires.lone c.requires.rests.1 c.requires.bare.lane c.close_with-closed.ensures.values.2 _ c.drain.ensures.list

pub returns-clause-history : goal.returns-clause-history
returns-clause-history g c = closed_history g.S.Store.contents c.args.table.shared.key _ _ c.args.seat.me.0 _ _ (ap (λ m. m.0) c.split_seat.ensures.2) c.requires.lone c.requires.rests.1 c.requires.bare.lane c.close_with-closed.ensures.values.2 c.requires.bare
