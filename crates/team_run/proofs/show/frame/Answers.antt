-- The eyes were those of the cache and the queue, and what led from one of their moments to another led from one desk to another.
use Rattle.std.proofs.Common.{◌≡◌, ◌∙◌, [], ◌++◌, sym, ap, subst}
use Rattle.std.specs.Result.{IfErr, IfOk, OnOk}
use Rattle.hier_paint.specs.Frames.{IsFrame, IsCutOff}
use Rattle.scale_pick.specs.Painted.{painted_of}
use Rattle.scale_pick.specs.Wanted.{wanted_level}
use Rattle.team_run.specs.Desk.{Desk, IsReady, desk, desk_front}
use Rattle.team_run.proofs.EyesLemmas.{at_desk, desk_on, ready_after}
use Rattle.team_run.proofs.show.frame.Goals as goal
use Rattle.hier_paint.proofs.Retelling.{either_frame, frame_as, cut_as}
use Rattle.sole_eyes.specs.SoleEyes.{sole}

pub returns-clause-painted : goal.returns-clause-painted
returns-clause-painted g c = subst (λ (cache : _). IfOk c.paint-painted.result (λ painted. painted ≡ painted_of (wanted_level cache.levels c.args.view.now) c.paint-painted.new.picture)) c.new-eyes.ensures.cache c.paint-painted.ensures.answer

pub returns-clause-ready : goal.returns-clause-ready
returns-clause-ready g c =
    let eyes = c.new-eyes.result in
    let last = c.paint-painted.new.eyes in
    let begun : IsReady (desk eyes.cache.now eyes.queue.now) = at_desk IsReady _ _ _ _ c.new-eyes.ensures.cache c.new-eyes.ensures.queue c.requires.ready in
    either_frame _ c.paint-painted.result eyes last c.args.view.now c.paint-painted.new.picture c.paint-painted.ensures.frame c.paint-painted.ensures.refused
    (λ p u led. at_desk IsReady last.cache.now _ last.queue.now _ (c.cache-1.given.1 (sym c.new-eyes.ensures.same_cache ∙ led.0)) (c.queue-1.given.1 (sym c.new-eyes.ensures.same_queue ∙ led.1))
    (ready_after _ _ p u (record { cache = led.3.leads; queue = led.4 }) begun c.paint-painted.ensures.free))
    (λ mid p q u led more. at_desk IsReady last.cache.now _ last.queue.now _ (c.cache-1.given.1 (sym c.new-eyes.ensures.same_cache ∙ led.0 ∙ more.0)) (c.queue-1.given.1 (sym c.new-eyes.ensures.same_queue ∙ led.1 ∙ more.1))
    (ready_after _ _ (p ++ q) (u ++ []) (desk_on _ (desk mid.cache.now mid.queue.now) _ p q u [] (record { cache = led.3.leads; queue = led.4 }) (record { cache = more.3.leads; queue = more.4 })) begun c.paint-painted.ensures.free))

pub returns-clause-frame : goal.returns-clause-frame
returns-clause-frame g c =
    let eyes = c.new-eyes.result in
    let last = c.paint-painted.new.eyes in
    let names : (eyes.cache.ghost_name ≡ last.cache.ghost_name) × (eyes.queue.ghost_name ≡ last.queue.ghost_name) =
    either_frame _ c.paint-painted.result eyes last c.args.view.now c.paint-painted.new.picture c.paint-painted.ensures.frame c.paint-painted.ensures.refused
    (λ p u led. (led.0, led.1)) (λ mid p q u led more. (led.0 ∙ more.0, led.1 ∙ more.1)) in
    let whole : Desk → Desk → Type 0 = λ d e. OnOk c.paint-painted.result (IsFrame (desk_front c.args.viewer) d e c.args.view.now c.paint-painted.new.picture) in
    let at_eyes : whole (desk eyes.cache.now eyes.queue.now) (desk last.cache.now last.queue.now) =
    frame_as _ (desk_front c.args.viewer) (λ e. desk e.cache.now e.queue.now) (λ a b p u led. record { cache = led.3; queue = led.4 }) (λ a b cell err cause. cause)
    c.paint-painted.result eyes last c.args.view.now c.paint-painted.new.picture (ap (λ v. sole v eyes.cache.now.levels) c.new-eyes.ensures.viewer) c.paint-painted.ensures.frame in
    at_desk (whole (desk c.args.cache.now c.args.queue.now)) last.cache.now _ last.queue.now _ (c.cache-1.given.1 (sym c.new-eyes.ensures.same_cache ∙ names.0)) (c.queue-1.given.1 (sym c.new-eyes.ensures.same_queue ∙ names.1))
    (at_desk (λ d. whole d (desk last.cache.now last.queue.now)) eyes.cache.now c.args.cache.now eyes.queue.now c.args.queue.now (sym c.new-eyes.ensures.cache) (sym c.new-eyes.ensures.queue) at_eyes)

pub returns-clause-cut_off : goal.returns-clause-cut_off
returns-clause-cut_off g c =
    let eyes = c.new-eyes.result in
    let last = c.paint-painted.new.eyes in
    let names : (eyes.cache.ghost_name ≡ last.cache.ghost_name) × (eyes.queue.ghost_name ≡ last.queue.ghost_name) =
    either_frame _ c.paint-painted.result eyes last c.args.view.now c.paint-painted.new.picture c.paint-painted.ensures.frame c.paint-painted.ensures.refused
    (λ p u led. (led.0, led.1)) (λ mid p q u led more. (led.0 ∙ more.0, led.1 ∙ more.1)) in
    let cut : Desk → Desk → Type 0 = λ d e. IfErr c.paint-painted.result (λ err. IsCutOff (desk_front c.args.viewer) d e c.args.view.now c.paint-painted.new.picture err) in
    let at_eyes : cut (desk eyes.cache.now eyes.queue.now) (desk last.cache.now last.queue.now) =
    cut_as _ (desk_front c.args.viewer) (λ e. desk e.cache.now e.queue.now) (λ a b p u led. record { cache = led.3; queue = led.4 }) (λ a b cell err cause. cause)
    c.paint-painted.result eyes last c.args.view.now c.paint-painted.new.picture (ap (λ v. sole v eyes.cache.now.levels) c.new-eyes.ensures.viewer) c.paint-painted.ensures.refused in
    at_desk (cut (desk c.args.cache.now c.args.queue.now)) last.cache.now _ last.queue.now _ (c.cache-1.given.1 (sym c.new-eyes.ensures.same_cache ∙ names.0)) (c.queue-1.given.1 (sym c.new-eyes.ensures.same_queue ∙ names.1))
    (at_desk (λ d. cut d (desk last.cache.now last.queue.now)) eyes.cache.now c.args.cache.now eyes.queue.now c.args.queue.now (sym c.new-eyes.ensures.cache) (sym c.new-eyes.ensures.queue) at_eyes)
