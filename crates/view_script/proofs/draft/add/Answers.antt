-- What is kept of the views after a range, a phase and an actor.
use Rattle.std.proofs.Common.{sym, subst}
use Rattle.view_script.specs.Views.{KeepsViews, phases_of}
use Rattle.view_script.proofs.ViewsLemmas.{kept_in_phase, kept_in_actor}
use Rattle.view_script.proofs.draft.add.Goals as goal

pub returns-in_ok-add_phase-in-Phase-clause-kept : goal.returns-in_ok-add_phase-in-Phase-clause-kept
returns-in_ok-add_phase-in-Phase-clause-kept c =
    subst (λ so_far. KeepsViews c.args.views.now (phases_of so_far)) (sym c.in_ok-add_phase-in-Phase.ensures) (kept_in_phase c.args.views.now c.args.so_far.now c.requires.kept)

pub returns-in_ok-add_actor-in-Actor-clause-kept : goal.returns-in_ok-add_actor-in-Actor-clause-kept
returns-in_ok-add_actor-in-Actor-clause-kept c =
    subst (λ so_far. KeepsViews c.args.views.now (phases_of so_far)) (sym c.in_ok-add_actor-in-Actor.ensures) (kept_in_actor c.args.views.now c.args.so_far.now c.requires.kept)
