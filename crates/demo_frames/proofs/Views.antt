-- The pictures of a phase whose actors paint one view each, where no command is refused.
use Rattle.std.proofs.Common.{◌≡◌, ◌∙◌, ℕ, suc, ◌+◌, false, true≢false, List, [], ◌∷◌, ◌++◌, map, refl, sym, ap, ap₂, subst, arith, append-nil}
use Rattle.std.specs.List.{AllZip, AllByRecursion as Each}
use Rattle.std.proofs.lemmas.Bool.{or_parts}
use lib.ListN.{get_elem?}
use mathlib.Core.Option.{some}
use Rattle.arr_history.specs.declared.event.Event.{Event}
use Rattle.arr_history.specs.History.{mine, pass_of}
use Rattle.cell_grid.specs.declared.level.Level.{Level}
use Rattle.fetchers.specs.declared.served.Served.{Served}
use Rattle.pass_roster.specs.History.{entries_by}
use Rattle.run_report.specs.declared.reply.Answer.{Answer}
use Rattle.run_report.specs.declared.reply.Answer.TheVariants as answer
use Rattle.run_report.specs.declared.reply.Reply.{Reply}
use Rattle.run_report.specs.declared.shot.Shot.{Shot}
use Rattle.run_report.specs.Reply.{refuses}
use Rattle.scale_pick.specs.declared.strategy.Strategy.TheVariants.{Blocking}
use Rattle.scale_pick.specs.declared.view.View.{View}
use Rattle.scale_pick.specs.Notes.{notes_of}
use Rattle.scale_pick.specs.Painted.{IsComplete}
use Rattle.scale_pick.specs.Painting.{IsPainting}
use Rattle.scale_pick.specs.Picture.{Pixels, IsFilled}
use Rattle.scale_pick.specs.Wanted.{wanted_level}
use Rattle.team_actors.specs.Deeds.{Deed}
use Rattle.team_phases.specs.Phases.{AreActorsDeeds, events_in}
use Rattle.team_run.specs.Commands.{AreCommandsOf, IsViewOf}
use Rattle.thread_plan.specs.Scenes.{flat}
use Rattle.view_script.specs.declared.command.Command.TheVariants as command
use Rattle.view_script.specs.Script.{NumberedCommand}
use Rattle.volatile_cell.specs.Asked.{Asked}
use Rattle.volatile_cell.specs.Front.{Looker}
use Rattle.demo_frames.proofs.Each.{each_same}
use Rattle.demo_frames.proofs.Phases.{NoneRefused}

-- a picture is painted by events, and complete where its view waits for what isn't there
pub record IsPaintedBy (levels : List Level) (view : View) (events : List Event) (picture : Pixels) : Type 0 where
  pub painting : IsPainting levels view (notes_of view.strategy events) picture
  pub complete : view.strategy ≡ Blocking → IsComplete (wanted_level levels view) picture

painted_view : (who : Looker) (view : View) (told : Answer) (shot : Shot) (events : List Event) (asks : List Asked) → refuses told ≡ false → IsViewOf who view told shot events asks → IsPaintedBy who.levels view events shot.picture
painted_view who view (answer.Value x) shot events asks done viewed = absurd viewed
painted_view who view answer.Done shot events asks done viewed = absurd viewed
painted_view who view (answer.Frame painted) shot events asks done viewed = record { painting = viewed.painting; complete = viewed.blocking }
painted_view who view (answer.Fetched loaded held refused) shot events asks done viewed = absurd viewed
painted_view who view (answer.Refused cause) shot events asks done viewed = absurd (true≢false done)

-- what an actor with one view leaves
pub record LeavesPicture (levels : List Level) (view : View) (events : List Event) (shots : List Shot) : Type 0 where
  pub shot : Shot
  pub one : shots ≡ shot ∷ []
  pub is : IsPaintedBy levels view events shot.picture

module _ (levels : List Level) where
  view_leaves : (k phase actor call : ℕ) (name : List ℕ) (view : View) (replies : List Reply) (shots : List Shot) (served : List Served) (events : List Event) (asks : List Asked)
      → AreCommandsOf false k levels (record { phase = phase; actor = actor; call = call; command = command.View name view } ∷ []) replies shots served events asks → NoneRefused replies → LeavesPicture levels view events shots
  view_leaves k phase actor call name view [] shots served events asks are done = absurd are
  view_leaves k phase actor call name view (r ∷ []) shots served events asks (here, later, now, others, first, rest, asked, more, numbers, (shot, one, named, none, viewed), (no_shots, none_served, no_events, no_asks), shots_are, served_are, split, asks_are) done =
      let whole : events ≡ first = split ∙ (ap (λ (l : List Event). first ++ l) no_events ∙ append-nil first) in
      record {
        shot = shot;
        one = shots_are ∙ ap₂ (λ (p q : List Shot). p ++ q) one no_shots;
        is = subst (λ (l : List Event). IsPaintedBy levels view l shot.picture) (sym whole) (painted_view (record { pass = k; alone = false; viewer = actor; levels = levels }) view r.answer shot first asked (or_parts _ _ done).0 viewed);
      }
  view_leaves k phase actor call name view (r ∷ q ∷ replies) shots served events asks (here, later, now, others, first, rest, asked, more, numbers, is, are, shots_are, served_are, split, asks_are) done = absurd are

  module _ (part : List Event) where
    -- the commands of an actor are one view, and whatever picture its pass paints of it in the part has these values
    pub record ShowsAs (commands : List NumberedCommand) (values : List ℕ) : Type 0 where
      pub phase : ℕ
      pub actor : ℕ
      pub call : ℕ
      pub name : List ℕ
      pub view : View
      pub one : commands ≡ record { phase = phase; actor = actor; call = call; command = command.View name view } ∷ []
      pub shows : (k : ℕ) (picture : Pixels) → IsPaintedBy levels view (mine k part) picture → IsFilled picture → picture.values ≡ values

    -- the passes from k on have made these entries in the part
    abbrev pub Stand : ℕ → List (List Event) → Type 0
    Stand k works = (i : ℕ) (own : List Event) → get_elem? works i ≡ some own → entries_by pass_of (k + i) part ≡ own

    later_stand : (k : ℕ) (own : List Event) (works : List (List Event)) → Stand k (own ∷ works) → Stand (k + 1) works
    later_stand k own works stand i w at = ap (λ n. mine n part) (let e : k + 1 + i ≡ k + suc i = omega arith in e) ∙ stand (suc i) w at

    first_stands : (k : ℕ) (own : List Event) (works : List (List Event)) → Stand k (own ∷ works) → mine k part ≡ own
    first_stands k own works stand = ap (λ n. mine n part) (let e : k ≡ k + 0 = omega arith in e) ∙ stand 0 own refl

    abbrev pub values_of : List Shot → List (List ℕ)
    values_of shots = map (λ (s : Shot). s.picture.values) shots

    one_picture : (k : ℕ) (commands : List NumberedCommand) (values : List ℕ) (replies : List Reply) (shots : List Shot) (deed : Deed) → ShowsAs commands values
        → AreCommandsOf false k levels commands replies shots deed.servings deed.events deed.calls → NoneRefused replies → mine k part ≡ deed.events
        → (shot : Shot) × (shots ≡ shot ∷ []) × (IsFilled shot.picture → shot.picture.values ≡ values)
    one_picture k commands values replies shots deed paints are none own =
        let left = view_leaves k paints.phase paints.actor paints.call paints.name paints.view replies shots deed.servings deed.events deed.calls
        (subst (λ (l : List NumberedCommand). AreCommandsOf false k levels l replies shots deed.servings deed.events deed.calls) paints.one are) none in
        (left.shot, left.one, paints.shows k left.shot.picture (subst (λ (l : List Event). IsPaintedBy levels paints.view l left.shot.picture) (sym own) left.is))

    more_pictures : (shots others : List Shot) (values : List ℕ) (more : List (List ℕ)) → (shot : Shot) × (shots ≡ shot ∷ []) × (IsFilled shot.picture → shot.picture.values ≡ values)
        → (Each (λ (s : Shot). IsFilled s.picture) others → values_of others ≡ more) → Each (λ (s : Shot). IsFilled s.picture) (shots ++ others) → values_of (shots ++ others) ≡ values ∷ more
    more_pictures shots others values more (shot, one, is) rest filled =
        let here = each_same (λ (s : Shot). IsFilled s.picture) (shot ∷ others) (shots ++ others) (ap (λ (l : List Shot). l ++ others) (sym one)) filled in
        ap (λ (l : List Shot). values_of (l ++ others)) one ∙ ap₂ (λ (v : List ℕ) (w : List (List ℕ)). v ∷ w) (is here.0) (rest here.1)

    pub pictures_are : (k : ℕ) (commands : List (List NumberedCommand)) (values : List (List ℕ)) (replies : List (List Reply)) (shots : List (List Shot)) (deeds : List Deed) → AllZip ShowsAs commands values
        → AreActorsDeeds levels k commands replies shots deeds → Each NoneRefused replies → Stand k (events_in deeds) → Each (λ (s : Shot). IsFilled s.picture) (flat shots) → values_of (flat shots) ≡ values
    pictures_are k [] [] [] [] [] paint acted none stand filled = refl
    pictures_are k (c ∷ commands) (v ∷ values) (r ∷ replies) (s ∷ shots) (d ∷ deeds) paint acted none stand filled =
        more_pictures s (flat shots) v values (one_picture k c v r s d paint.0 acted.0 none.0 (first_stands k d.events (events_in deeds) stand))
        (pictures_are (k + 1) commands values replies shots deeds paint.1 acted.1 none.1 (later_stand k d.events (events_in deeds) stand)) filled
    pictures_are k [] (v ∷ values) replies shots deeds paint acted none stand filled = absurd paint
    pictures_are k (c ∷ commands) [] replies shots deeds paint acted none stand filled = absurd paint
    pictures_are k commands values replies shots deeds paint acted none stand filled = absurd acted
