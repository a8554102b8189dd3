use Rattle.std.proofs.Common.{rules}
use Rattle.std.specs.Vec.{vec_capacity}
use Rattle.pin_rule.proofs.Resting.{first_pass}
use Rattle.pin_rule.proofs.ends.make.Goals as goal

pub returns-clause-pass : goal.returns-clause-pass
returns-clause-pass g c = let e = c.in_ok-table.ensures in
    first_pass g.S.Store.contents c.in_ok-table.seat.table_id c.in_ok-table.table.shared.table_id c.in_ok-table.seat.me c.in_ok-table.table.shared.key c.tell-made.result (vec_capacity c.in_ok-table.list) e.seat.0 e.seat.1 e.table.0 (search rules)
