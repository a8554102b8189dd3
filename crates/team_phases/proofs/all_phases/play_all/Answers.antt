-- One phase more is played.
use Rattle.std.proofs.Common.{rules, ◌≡◌, ◌∙◌, ◌+◌, ◌++◌, [], ◌∷◌, length, sum_by, sym, ap, refl, subst, append_assoc, arith, length-append}
use Rattle.std.proofs.lemmas.List.{nil_from_length, append-nil, length-map}
use Rattle.std.proofs.lemmas.List.Elements.{All-same, All-rest}
use Rattle.std.proofs.lemmas.List.Sums.{sum_by-cons}
use Rattle.team_passes.specs.Teams.{cells_in, asks_in}
use Rattle.team_phases.proofs.AllPlayed.{EachPlayed, each_more, all_played, flat_more}
use Rattle.team_phases.proofs.Played.{entries_length}
use Rattle.thread_plan.specs.declared.part.Scene.{Scene}
use Rattle.thread_plan.specs.Parts.{IsSceneDue}
use Rattle.thread_plan.specs.Scenes.{flat}
use Rattle.team_phases.proofs.all_phases.play_all.Goals as goal

pub loop-scene-init : goal.loop-scene-init
loop-scene-init g c =
    let same : c.into_iter-scene-iterator.result.rest.items ≡ c.args.scenes.items = search rules in
    record {
      can = tt;
      finite = tt;
      first = c.requires.first;
      all = sym same;
      due = All-same IsSceneDue _ _ same c.requires.due;
      numbers = (let r = c.requires.numbers in omega arith);
      asks_numbers = (let r = c.requires.asks_numbers in omega arith);
      played = ([], sym (append-nil c.args.done.now.items), refl);
      room = omega (arith, c.requires.room, ap (sum_by (λ (scene : Scene). length scene.parts.items)) same);
    }

pub loop-scene-preserved : goal.loop-scene-preserved
loop-scene-preserved g c =
    let was = c.loop-scene.invariant in
    let yielded = c.loop-scene.yielded in
    let one = c.in-Some.scene in
    let rest = c.next.new.self.rest.items in
    let split = c.in-Some.ensures.steps.0 in
    let here = c.play.ensures.played in
    let left = was.played.0 in
    let plays = here.2.plays in
    let drawn = plays.cells.drawn ∙ ap (λ n. (cells_in c.loop-scene.first).drawn + n) (length-map here.2.deeds (λ deed. deed.events)) in
    let asks_drawn = plays.queue.drawn ∙ ap (λ n. (asks_in c.loop-scene.first).drawn + n) (entries_length (asks_in c.loop-scene.first).drawn here.2.deeds) in
    let more = length-append yielded (one ∷ []) in
    let counts : sum_by (λ (scene : Scene). length scene.parts.items) (one ∷ rest) ≡ length one.parts.items + sum_by (λ scene. length scene.parts.items) rest = sum_by-cons _ one rest in
    record {
      can = tt;
      finite = tt;
      first = c.play.ensures.first;
      all = was.all ∙ ap (λ l. yielded ++ l) split ∙ sym (append_assoc yielded (one ∷ []) rest);
      due = All-rest IsSceneDue one rest _ split was.due;
      numbers = omega (arith, was.numbers, drawn, here.2.few, more);
      asks_numbers = omega (arith, was.asks_numbers, asks_drawn, here.2.few, more);
      played = (
        left ++ here.0 ∷ [],
        here.1 ∙ (ap (λ l. l ++ here.0) was.played.1 ∙ (append_assoc c.args.done.now.items (flat left) here.0 ∙ ap (λ l. c.args.done.now.items ++ l) (sym (flat_more left here.0)))),
        each_more g.S.Store.contents c.args.cells.now c.args.queue.now c.args.fetchers c.args.first.now c.loop-scene.first c.play.new.first yielded left one here.0 was.played.2 here.2,
      );
      room = omega (arith, was.room, c.play.ensures.count, c.play.ensures.capacity, counts, ap (sum_by (λ (scene : Scene). length scene.parts.items)) split);
    }

pub returns-clause-played : goal.returns-clause-played
returns-clause-played g c =
    let was = c.loop-scene.invariant in
    let rest = c.loop-scene.scene-iterator.rest in
    let none : rest.items ≡ [] = nil_from_length rest.items (sym rest.ok.0 ∙ c.in-None.ensures.steps.0) in
    let all = was.all ∙ (ap (λ l. c.loop-scene.yielded ++ l) none ∙ append-nil c.loop-scene.yielded) in (
      was.played.0,
      was.played.1,
      all_played g.S.Store.contents c.args.cells.now c.args.queue.now c.args.fetchers c.args.first.now c.loop-scene.first c.args.scenes.items was.played.0
          (subst (λ l. EachPlayed g.S.Store.contents c.args.cells.now c.args.queue.now c.args.fetchers c.args.first.now l was.played.0 c.loop-scene.first) (sym all) was.played.2),
    )
