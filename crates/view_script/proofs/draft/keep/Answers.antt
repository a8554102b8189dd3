-- What is kept of the views, where the command goes to an actor and where there is none.
use Rattle.std.proofs.Common.{◌≡◌, ◌<◌, arith}
use Rattle.view_script.specs.Meaning.{actors_in_last}
use Rattle.view_script.proofs.ViewsLemmas.{kept_nowhere, kept_command}
use Rattle.view_script.proofs.draft.keep.Goals as goal

pub returns-then-actors_of_last-eq0 : goal.returns-then-actors_of_last-eq0
returns-then-actors_of_last-eq0 c =
    let none : actors_in_last c.args.phases.now ≡ 0 = omega (arith, c.actors_of_last.ensures, c.if-actors_of_last-eq0.true) in
    kept_nowhere c.args.views.now c.args.command.now c.args.phases.now c.requires.kept none

pub returns : goal.returns
returns c =
    let some : 0 < actors_in_last c.args.phases.now = omega (arith, c.actors_of_last.ensures, c.if-actors_of_last-eq0.false) in
    kept_command c.args.views.now c.keep.new.self c.args.command.now c.args.phases.now c.requires.kept c.in_ok-keep.ensures some
