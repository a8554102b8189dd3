use Rattle.std.proofs.Common.{◌≡◌, true, Some, sym, subst}
use Rattle.pin_words.specs.declared.lane.Taken.{Taken}
use Rattle.pin_words.specs.Plan.{lane_of}
use Rattle.pin_rule.specs.Parts.{ClosedCell}
use Rattle.pin_rule.specs.Calls.{view, plan_at}
use Rattle.pin_rule.proofs.pins.Pins.let_go.Goals as goal

pub go_cell-requires-clause-lane : goal.go_cell-requires-clause-lane
go_cell-requires-clause-lane g c = let p = plan_at g.S.Store.contents c.args.self.now in
    subst (λ (l : ClosedCell). l.marked ≡ true → (o : Taken _) × ((view c.args.pass.now).lane ≡ Some o) × (lane_of p l.cell ≡ o.lane)) (sym c.l.view_is) c.requires.lane
