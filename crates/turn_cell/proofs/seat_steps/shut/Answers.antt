use Rattle.std.proofs.Common.{subst}
use Rattle.turn_cell.specs.Entry.{Leads}
use Rattle.turn_cell.proofs.Ending.{closes_turn, kept_is, kept_some, kept_same}
use Rattle.turn_cell.proofs.seat_steps.shut.Goals as goal

pub unwrap-requires : goal.unwrap-requires
unwrap-requires g c = let k = closes_turn g.T.Seq.steps _ _ _ _ _ c.requires.first.1 c.requires.first.0 c.requires.all c.close_with-closed.ensures.values.2 in
    kept_some c.take-kept.result k.0 (kept_is _ c.take-kept.result k.0 k.1 c.take-kept.ensures.value)

pub returns-clause-led : goal.returns-clause-led
returns-clause-led g c = let k = closes_turn g.T.Seq.steps _ _ _ _ _ c.requires.first.1 c.requires.first.0 c.requires.all c.close_with-closed.ensures.values.2 in
    subst (Leads g.T.Seq.steps c.args.table.shared.key.value c.args.seat.me.0.seen) (kept_same c.take-kept.result k.0 c.unwrap.result (kept_is _ c.take-kept.result k.0 k.1 c.take-kept.ensures.value) c.unwrap.ensures) k.2

pub returns-clause-whole : goal.returns-clause-whole
returns-clause-whole g c = (closes_turn g.T.Seq.steps _ _ _ _ _ c.requires.first.1 c.requires.first.0 c.requires.all c.close_with-closed.ensures.values.2).3
