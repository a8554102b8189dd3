use Rattle.std.proofs.Common.{◌≡◌, ◌∙◌, true, false, cond, List, [], ◌∷◌, refl, sym, ap, subst}
use Rattle.cell_grid.specs.declared.level.Level.{Level}
use Rattle.turn_cell.specs.Turn.{view}
use Rattle.arr_history.specs.declared.event.Event.TheVariants.{Pin, Miss}
use Rattle.pin_rule.specs.Calls.{made_of}
use Rattle.volatile_cell.specs.Budget.{loads_by, asks_by}
use Rattle.volatile_cell.specs.Requests.{request_for}
use Rattle.queue_desk.specs.Asking.{AsksQueue}
use Rattle.live_cells.specs.Cells.{knows}
use Rattle.team_eyes.proofs.Leading.{by_both, by_cells, when_false}
use Rattle.team_eyes.proofs.team_eyes.TeamEyesEyes.look.Goals as goal
use Rattle.team_eyes.proofs.team_eyes.TeamEyesEyes.look.Goals.{then-asks, else-asks}

pub returns-in-Ok-look-clause-looked : goal.returns-in-Ok-look-clause-looked
returns-in-Ok-look-clause-looked g c =
    let self = c.args.self.now in
    let events = Pin (knows self.pass.now).number c.args.cell ∷ [] in (
      events,
      [],
      (refl, refl, refl, refl, by_cells g.S.Store.contents self.cells.now self.viewer self.pass.now c.look.new.pass (view self.asks.now) events c.in-Ok-look.ensures.hit),
      record { pinned = when_false _ _ _ (sym c.loads.ensures ∙ c.if-loads.false) (c.in-Ok-look.ensures.handle.1, refl, refl); nothing_asked = refl },
    )

pub returns-after-asks-clause-looked : goal.returns-after-asks-clause-looked
returns-after-asks-clause-looked g c =
    let self = c.args.self.now in
    let events = Miss (knows self.pass.now).number c.args.cell ∷ [] in
    let levels = (made_of self.cells.now.pins).levels.value in
    let request = request_for self.viewer levels c.args.cell in
    let stops : loads_by c.args.budget.now.strategy c.args.budget.now.left ≡ false = sym c.loads.ensures ∙ c.if-loads.false in
    elim c.if-asks.branch [
      | then-asks w ↦ let asks : asks_by c.args.budget.now.strategy ≡ true = sym c.asks.ensures ∙ w.if-asks.true in
          let asked : AsksQueue (view self.asks.now) (request ∷ []) (view w.ask.new.asks) = subst (λ (ls : List Level). AsksQueue (view self.asks.now) (request_for self.viewer ls c.args.cell ∷ []) (view w.ask.new.asks)) w.geometry.ensures w.ask.ensures.asked in
          rw w.self-is (
            events,
            request ∷ [],
            (refl, refl, refl, refl, by_both g.S.Store.contents self.cells.now self.viewer self.pass.now c.look.new.pass (view self.asks.now) (view w.ask.new.asks) events (request ∷ []) c.in-Err-look.ensures.missed asked),
            record { loads_no_more = stops; missed = refl; asked = sym (ap (λ b. cond b (request ∷ []) []) asks); same_budget = refl },
          )
      | else-asks w ↦ let asks : asks_by c.args.budget.now.strategy ≡ false = sym c.asks.ensures ∙ w.if-asks.false in
          rw w.self-is (
            events,
            [],
            (refl, refl, refl, refl, by_cells g.S.Store.contents self.cells.now self.viewer self.pass.now c.look.new.pass (view self.asks.now) events c.in-Err-look.ensures.missed),
            record { loads_no_more = stops; missed = refl; asked = sym (ap (λ b. cond b (request ∷ []) []) asks); same_budget = refl },
          )
    ]
