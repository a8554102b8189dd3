use Rattle.std.proofs.Common.{◌≡◌, ◌∙◌, true, false, cond, List, [], ◌∷◌, refl, sym, ap, subst}
use Rattle.std.specs.declared.result.Result.TheVariants.{Ok, Err}
use Rattle.cell_grid.specs.declared.level.Level.{Level}
use Rattle.fetch_queue.specs.Queue.{pair, put_request}
use Rattle.volatile_cell.specs.Budget.{spent, loads_by, asks_by}
use Rattle.volatile_cell.specs.Requests.{IsQueueFor, priority_of, request_for}
use Rattle.volatile_cell.specs.Asked.{AskedFrom}
use Rattle.volatile_cell.proofs.Asking.{asked_request}
use Rattle.sole_eyes.proofs.Following.{eyes_look}
use Rattle.sole_eyes.proofs.Looking.{on_true, on_false}
use Rattle.sole_eyes.proofs.sole_eyes.SoleEyesEyes.look.Goals as goal
use Rattle.sole_eyes.proofs.sole_eyes.SoleEyesEyes.look.Goals.{then-asks, else-asks}

pub returns-in-Err-clause-looked : goal.returns-in-Err-clause-looked
returns-in-Err-clause-looked g c =
    let done = c.in-Err.ensures.acquired in
    (done.0, [], done.1, record { loads = sym c.loads.ensures ∙ c.if-loads.true; refused = done.2; nothing_asked = refl; same_budget = refl })

pub returns-in-Ok-clause-looked : goal.returns-in-Ok-clause-looked
returns-in-Ok-clause-looked g c =
    let done = c.in-Ok.ensures.acquired in
    (done.0, [], done.1, record { pinned = on_true _ _ _ (sym c.loads.ensures ∙ c.if-loads.true) (done.2, c.spend.ensures ∙ ap (spent c.args.budget.now) c.loaded.ensures); nothing_asked = refl })

pub returns-in-Ok-look-clause-looked : goal.returns-in-Ok-look-clause-looked
returns-in-Ok-look-clause-looked g c =
    let done = c.in-Ok-look.ensures.looks in
    let hit = done.1.is.1 in (
      done.0,
      [],
      (refl, refl, refl, eyes_look _ _ c.args.cell (Ok c.in-Ok-look.handle) done.0 done.1, refl),
      record {
        pinned = on_false _ _ _ (sym c.loads.ensures ∙ c.if-loads.false) (hit.found, hit.events_are, refl);
        nothing_asked = refl;
      },
    )

pub returns-after-asks-clause-looked : goal.returns-after-asks-clause-looked
returns-after-asks-clause-looked g c =
    let done = c.in-Err-look.ensures.looks in
    let stops : loads_by c.args.budget.now.strategy c.args.budget.now.left ≡ false = sym c.loads.ensures ∙ c.if-loads.false in
    let levels = c.args.self.now.cache.now.levels in
    let queue = c.args.self.now.queue.now in
    let request = request_for c.args.self.now.viewer levels c.args.cell in
    elim c.if-asks.branch [
      | then-asks w ↦ let asks : asks_by c.args.budget.now.strategy ≡ true = sym c.asks.ensures ∙ w.if-asks.true in
          let same : w.geometry.result.now ≡ levels = w.geometry.ensures ∙ done.1.quiet.runs.moves.levels in
          let put : w.ask.new.queue ≡ put_request queue (pair c.args.self.now.viewer c.args.cell) (priority_of levels c.args.cell) false =
          subst (λ (ls : List Level). w.ask.new.queue ≡ put_request queue (pair c.args.self.now.viewer c.args.cell) (priority_of ls c.args.cell) false) same w.ask.ensures in
          let right : IsQueueFor queue levels = record { cells = c.args.self.now.cells; priorities = c.args.self.now.priorities } in
          let asked : AskedFrom queue (request ∷ []) w.ask.new.queue = asked_request queue w.ask.new.queue levels c.args.self.now.viewer c.args.cell c.args.self.now.viewed right c.requires.cell put in
          rw w.self-is (
            done.0,
            request ∷ [],
            (refl, refl, refl, eyes_look _ _ c.args.cell (Err c.in-Err-look.state) done.0 done.1, asked),
            record { loads_no_more = stops; missed = done.1.is.1.1; asked = sym (ap (λ b. cond b (request ∷ []) []) asks); same_budget = refl },
          )
      | else-asks w ↦ let asks : asks_by c.args.budget.now.strategy ≡ false = sym c.asks.ensures ∙ w.if-asks.false in
          rw w.self-is (
            done.0,
            [],
            (refl, refl, refl, eyes_look _ _ c.args.cell (Err c.in-Err-look.state) done.0 done.1, refl),
            record { loads_no_more = stops; missed = done.1.is.1.1; asked = sym (ap (λ b. cond b (request ∷ []) []) asks); same_budget = refl },
          )
    ]
