-- The replies to sets and to views that wait, where none refuses, counted.
use Rattle.std.proofs.Common.{◌≡◌, ◌∙◌, ℕ, ◌+◌, true, false, true≢false, List, [], ◌∷◌, ◌++◌, None, length, map, refl, ap, subst, arith}
use Rattle.std.specs.Prelude.{count_by}
use Rattle.std.specs.List.{AllByRecursion as Each, enumerate_from}
use Rattle.std.proofs.lemmas.Bool.{or_parts}
use Rattle.std.proofs.lemmas.List.{length-append, length-map}
use Rattle.std.proofs.lemmas.List.FromFn.{length-enumerate_from}
use Rattle.arr_history.proofs.Counts.{count_by-append}
use Rattle.arr_history.specs.declared.event.Event.{Event}
use Rattle.cell_grid.specs.declared.level.Level.{Level}
use Rattle.fetchers.specs.declared.served.Served.{Served}
use Rattle.pass_roster.specs.History.{total}
use Rattle.run_report.specs.declared.reply.Answer.{Answer}
use Rattle.run_report.specs.declared.reply.Answer.TheVariants as answer
use Rattle.run_report.specs.declared.reply.Reply.{Reply}
use Rattle.run_report.specs.declared.shot.Shot.{Shot}
use Rattle.run_report.specs.Reply.{refuses}
use Rattle.scale_pick.specs.declared.strategy.Strategy.TheVariants.{Blocking}
use Rattle.scale_pick.specs.declared.painted.Painted.{Painted}
use Rattle.scale_pick.specs.declared.view.View.{View}
use Rattle.scale_pick.specs.Wanted.{wanted_level}
use Rattle.scale_pick.proofs.PaintedLemmas.{complete_is}
use Rattle.team_actors.specs.Deeds.{Deed}
use Rattle.team_phases.specs.Phases.{AreActorsDeeds}
use Rattle.team_run.specs.Commands.{AreCommandsOf, IsCommandOf, IsSetOf, IsViewOf}
use Rattle.team_run.specs.Range.{ranged}
use Rattle.thread_plan.specs.Scenes.{flat}
use Rattle.view_script.specs.declared.command.Command.{Command}
use Rattle.view_script.specs.declared.command.Command.TheVariants as command
use Rattle.view_script.specs.Script.{NumberedCommand}
use Rattle.volatile_cell.specs.Asked.{Asked}
use Rattle.volatile_cell.specs.Front.{Looker}
use Rattle.demo_script.specs.Script.{edits}
use Rattle.demo_script.proofs.EditsLemmas.{edits_count}
use Rattle.demo_frames.specs.Answers.{is_done, is_complete}
use Rattle.demo_frames.proofs.Phases.{NoneRefused}
use Rattle.demo_frames.proofs.Scenes.{IsSetting, edits_of}

-- so many replies tell that a voxel was set, so many of a complete frame, and there are no others
pub record AreCounted (done complete : ℕ) (replies : List Reply) : Type 0 where
  pub all : length replies ≡ done + complete
  pub sets : count_by (λ (r : Reply). is_done r.answer) replies ≡ done
  pub frames : count_by (λ (r : Reply). is_complete r.answer) replies ≡ complete

pub none_counted : AreCounted 0 0 []
none_counted = record { all = refl; sets = refl; frames = refl }

pub both_counted : (d c e f : ℕ) (xs ys : List Reply) → AreCounted d c xs → AreCounted e f ys → AreCounted (d + e) (c + f) (xs ++ ys)
both_counted d c e f xs ys first rest = record {
  all = omega (arith, length-append xs ys, first.all, rest.all);
  sets = omega (arith, count_by-append (λ (r : Reply). is_done r.answer) xs ys, first.sets, rest.sets);
  frames = omega (arith, count_by-append (λ (r : Reply). is_complete r.answer) xs ys, first.frames, rest.frames);
}

one_done : (r : Reply) → r.answer ≡ answer.Done → AreCounted 1 0 (r ∷ [])
one_done r is = record {
  all = refl;
  sets = rw is refl;
  frames = rw is refl;
}

set_done : (who : Looker) (level : ℕ) (pos : List ℕ) (x : ℕ) (told : Answer) (events : List Event) → refuses told ≡ false → IsSetOf who level pos x told events → told ≡ answer.Done
set_done who level pos x (answer.Value y) events none set = absurd set
set_done who level pos x answer.Done events none set = refl
set_done who level pos x (answer.Frame painted) events none set = absurd set
set_done who level pos x (answer.Fetched loaded held refused) events none set = absurd set
set_done who level pos x (answer.Refused cause) events none set = absurd (true≢false none)

setting_done : (who : Looker) (one : Command) (told : Answer) (shots : List Shot) (served : List Served) (events : List Event) (asks : List Asked) → IsSetting one → refuses told ≡ false → IsCommandOf who one told shots served events asks → told ≡ answer.Done
setting_done who (command.Set level pos x) told shots served events asks set none is = set_done who level pos x told events none is.0
setting_done who (command.Get level pos) told shots served events asks set none is = absurd set
setting_done who (command.View name view) told shots served events asks set none is = absurd set
setting_done who (command.Fetch count) told shots served events asks set none is = absurd set

-- an answer is that of a complete frame
abbrev IsWhole : Answer → Type 0
IsWhole told = (painted : Painted) × (told ≡ answer.Frame painted) × (painted.complete ≡ true)

view_whole : (who : Looker) (view : View) (told : Answer) (shot : Shot) (events : List Event) (asks : List Asked) → view.strategy ≡ Blocking → refuses told ≡ false → IsViewOf who view told shot events asks → IsWhole told
view_whole who view (answer.Value x) shot events asks blocking none viewed = absurd viewed
view_whole who view answer.Done shot events asks blocking none viewed = absurd viewed
view_whole who view (answer.Frame painted) shot events asks blocking none viewed =
    (painted, refl, ap (λ (p : Painted). p.complete) viewed.told ∙ (complete_is (wanted_level who.levels view) shot.picture).1 (viewed.blocking blocking))
view_whole who view (answer.Fetched loaded held refused) shot events asks blocking none viewed = absurd viewed
view_whole who view (answer.Refused cause) shot events asks blocking none viewed = absurd (true≢false none)

one_whole : (r : Reply) → IsWhole r.answer → AreCounted 0 1 (r ∷ [])
one_whole r (painted, is, complete) = record {
  all = refl;
  sets = rw is refl;
  frames = rw (is, complete) refl;
}

-- an actor has one view, which waits for what isn't there
pub record HasOneView (commands : List NumberedCommand) : Type 0 where
  pub phase : ℕ
  pub actor : ℕ
  pub call : ℕ
  pub name : List ℕ
  pub view : View
  pub one : commands ≡ record { phase = phase; actor = actor; call = call; command = command.View name view } ∷ []
  pub blocking : view.strategy ≡ Blocking

module _ (levels : List Level) where
  sets_counted : (k : ℕ) (commands : List NumberedCommand) (replies : List Reply) (shots : List Shot) (served : List Served) (events : List Event) (asks : List Asked)
      → AreCommandsOf false k levels commands replies shots served events asks → NoneRefused replies → Each (λ (c : NumberedCommand). IsSetting c.command) commands → AreCounted (length commands) 0 replies
  sets_counted k [] [] shots served events asks are none sets = none_counted
  sets_counted k [] (r ∷ replies) shots served events asks are none sets = absurd are
  sets_counted k (c ∷ commands) [] shots served events asks are none sets = absurd are
  sets_counted k (c ∷ commands) (r ∷ replies) shots served events asks (here, later, now, others, first, rest, asked, more, numbers, is, are, shots_are, served_are, split, asks_are) none sets =
      let parts = or_parts _ _ none in
      let both = both_counted 1 0 (length commands) 0 (r ∷ []) replies (one_done r (setting_done _ c.command r.answer here now first asked sets.0 parts.0 is)) (sets_counted k commands replies later others rest more are parts.1 sets.1) in
      let count : 1 + length commands ≡ length (c ∷ commands) = omega arith in
      subst (λ n. AreCounted n 0 (r ∷ replies)) count both

  pub edits_counted : (k : ℕ) (commands : List (List NumberedCommand)) (replies : List (List Reply)) (shots : List (List Shot)) (deeds : List Deed) → AreActorsDeeds levels k commands replies shots deeds → Each NoneRefused replies
      → Each (λ (list : List NumberedCommand). Each (λ c. IsSetting c.command) list) commands → AreCounted (total (λ (list : List NumberedCommand). length list) commands) 0 (flat replies)
  edits_counted k [] [] [] [] acted none sets = none_counted
  edits_counted k (c ∷ commands) (r ∷ replies) (s ∷ shots) (d ∷ deeds) acted none sets =
      both_counted (length c) 0 (total (λ (list : List NumberedCommand). length list) commands) 0 r (flat replies)
      (sets_counted k c r s d.servings d.events d.calls acted.0 none.0 sets.0) (edits_counted (k + 1) commands replies shots deeds acted.1 none.1 sets.1)
  edits_counted k commands replies shots deeds acted none sets = absurd acted

  view_counted : (k phase actor call : ℕ) (name : List ℕ) (view : View) (replies : List Reply) (shots : List Shot) (served : List Served) (events : List Event) (asks : List Asked)
      → AreCommandsOf false k levels (record { phase = phase; actor = actor; call = call; command = command.View name view } ∷ []) replies shots served events asks → NoneRefused replies → view.strategy ≡ Blocking → AreCounted 0 1 replies
  view_counted k phase actor call name view [] shots served events asks are none blocking = absurd are
  view_counted k phase actor call name view (r ∷ []) shots served events asks (here, later, now, others, first, rest, asked, more, numbers, (shot, one, named, nothing, viewed), are, shots_are, served_are, split, asks_are) none blocking =
      one_whole r (view_whole _ view r.answer shot first asked blocking (or_parts _ _ none).0 viewed)
  view_counted k phase actor call name view (r ∷ q ∷ replies) shots served events asks (here, later, now, others, first, rest, asked, more, numbers, is, are, shots_are, served_are, split, asks_are) none blocking = absurd are

  pub views_counted : (k : ℕ) (commands : List (List NumberedCommand)) (replies : List (List Reply)) (shots : List (List Shot)) (deeds : List Deed) → AreActorsDeeds levels k commands replies shots deeds → Each NoneRefused replies
      → Each HasOneView commands → AreCounted 0 (length commands) (flat replies)
  views_counted k [] [] [] [] acted none views = none_counted
  views_counted k (c ∷ commands) (r ∷ replies) (s ∷ shots) (d ∷ deeds) acted none views =
      let v = views.0 in
      let here = view_counted k v.phase v.actor v.call v.name v.view r s d.servings d.events d.calls
      (subst (λ (l : List NumberedCommand). AreCommandsOf false k levels l r s d.servings d.events d.calls) v.one acted.0) none.0 v.blocking in
      let both = both_counted 0 1 0 (length commands) r (flat replies) here (views_counted (k + 1) commands replies shots deeds acted.1 none.1 views.1) in
      let count : 1 + length commands ≡ length (c ∷ commands) = omega arith in
      subst (λ n. AreCounted 0 n (r ++ flat replies)) count both
  views_counted k commands replies shots deeds acted none views = absurd acted

pub edits_long : (actor : ℕ) → length (edits_of actor) ≡ 256
edits_long actor = length-map (enumerate_from 0 (map (ranged None) (edits actor 256))) _ ∙ (length-enumerate_from 0 (map (ranged None) (edits actor 256)) ∙ (length-map (edits actor 256) (ranged None) ∙ edits_count actor 256))
