-- The eyes were those of the cache and the queue, and what led from one of their moments to another led from one desk to another.
use Rattle.std.proofs.Common.{◌∙◌, [], refl, sym}
use Rattle.view_script.specs.declared.command.Command.TheVariants as command
use Rattle.team_run.specs.Desk.{IsReady, desk, desk_front}
use Rattle.team_run.specs.Serve.{AnswersTask}
use Rattle.team_run.proofs.AnswerLemmas.{fetch_answers}
use Rattle.team_run.proofs.EyesLemmas.{at_desk, ready_after}
use Rattle.team_run.proofs.fetch.fetch.Goals as goal
use Rattle.fetchers.proofs.Retelling.{servings_as}

pub returns-clause-ready : goal.returns-clause-ready
returns-clause-ready g c =
    let eyes = c.new-eyes.result in
    let last = c.serve_up_to.new.eyes in
    let fetch = c.serve_up_to.ensures.fetch in
    let begun : IsReady (desk eyes.cache.now eyes.queue.now) = at_desk IsReady _ _ _ _ c.new-eyes.ensures.cache c.new-eyes.ensures.queue c.requires.ready in
    at_desk IsReady last.cache.now _ last.queue.now _ (c.cache-1.given.1 (sym c.new-eyes.ensures.same_cache ∙ fetch.led.0)) (c.queue-1.given.1 (sym c.new-eyes.ensures.same_queue ∙ fetch.led.1))
    (ready_after _ _ fetch.events fetch.calls (record { cache = fetch.led.3.leads; queue = fetch.led.4 }) begun c.serve_up_to.ensures.free)

pub returns-clause-answers : goal.returns-clause-answers
returns-clause-answers g c =
    let eyes = c.new-eyes.result in
    let last = c.serve_up_to.new.eyes in
    let fetch = c.serve_up_to.ensures.fetch in
    let first_desk = desk eyes.cache.now eyes.queue.now in
    let last_desk = desk last.cache.now last.queue.now in
    let answers : AnswersTask first_desk c.args.viewer (command.Fetch c.args.count) c.answer_of_fetch.result [] last_desk =
    fetch_answers first_desk last_desk c.args.viewer c.args.count c.answer_of_fetch.result c.serve_up_to.result fetch.servings fetch.events fetch.calls fetch.answer c.answer_of_fetch.ensures
    (record { cache = fetch.led.3.leads; queue = fetch.led.4 })
    (servings_as _ (desk_front 0) (λ e. desk e.cache.now e.queue.now) (λ a b p u led. record { cache = led.3; queue = led.4 }) (λ a b cell err cause. cause) (λ e. refl) (λ e. refl) (λ e. refl)
    eyes last fetch.servings fetch.events fetch.calls fetch.are) in
    at_desk (λ e. AnswersTask (desk c.args.cache.now c.args.queue.now) c.args.viewer (command.Fetch c.args.count) c.answer_of_fetch.result [] e) last.cache.now _ last.queue.now _
    (c.cache-1.given.1 (sym c.new-eyes.ensures.same_cache ∙ fetch.led.0)) (c.queue-1.given.1 (sym c.new-eyes.ensures.same_queue ∙ fetch.led.1))
    (at_desk (λ d. AnswersTask d c.args.viewer (command.Fetch c.args.count) c.answer_of_fetch.result [] last_desk) eyes.cache.now c.args.cache.now eyes.queue.now c.args.queue.now (sym c.new-eyes.ensures.cache) (sym c.new-eyes.ensures.queue) answers)
