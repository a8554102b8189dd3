-- The two phases of the demonstration, where no command is refused: the second one's pictures.
use Rattle.std.proofs.Common.{◌≡◌, ◌∙◌, inl, inr, ℕ, zero, suc, ◌<◌, false, IsTrue, List, [], ◌∷◌, ◌++◌, map, codes, refl, ap, arith}
use Rattle.std.specs.List.{list_any, AllZip, AllByRecursion as Each}
use lib.ListN.{get_elem?}
use mathlib.Core.Option.{some}
use Rattle.arr_history.specs.declared.event.Event.{Event}
use Rattle.arr_history.specs.History.{after, AreLegal, pass_of}
use Rattle.arr_history.specs.Laws.{writes}
use Rattle.arr_history.specs.Shape.{Shape}
use Rattle.arr_history.specs.State.{State}
use Rattle.fetchers.specs.declared.served.Served.{Served}
use Rattle.pass_roster.specs.Phases.{IsOf}
use Rattle.run_report.specs.declared.reply.Reply.{Reply}
use Rattle.run_report.specs.declared.shot.Shot.{Shot}
use Rattle.scale_pick.specs.Picture.{IsFilled}
use Rattle.team_actors.specs.Deeds.{Deed}
use Rattle.team_phases.specs.Phases.{IsPhaseOf, IsPlayed, events_in}
use Rattle.thread_plan.specs.Scenes.{flat}
use Rattle.demo_arrays.specs.Drawn.{AreDrawn}
use Rattle.demo_volume.specs.Levels.{levels}
use Rattle.demo_frames.specs.Edited.{edited}
use Rattle.demo_frames.specs.Pictures.{pictures, slice}
use Rattle.demo_frames.proofs.Arrays.{edited_arrays}
use Rattle.demo_frames.proofs.Phases.{NoneRefused, all_lost_are_none, phase_fits, phase_written}
use Rattle.demo_frames.proofs.Scenes.{edit_scene, view_scene, view_of, edits_set, edits_written, edits_are_some, views_set_nothing, views_are_some}
use Rattle.demo_frames.proofs.Slices.{HaveNumbers, slice_is, view_at}
use Rattle.demo_frames.proofs.Still.{pixel_still}
use Rattle.demo_frames.proofs.Views.{ShowsAs, Stand, pictures_are}
use Rattle.demo_frames.proofs.Written.{none_written}

module _ (fetchers k : ℕ) (replies : List (List Reply)) (shots : List (List Shot)) (served : List Served) (deeds : List Deed) (none : Each NoneRefused replies) where
  pub edits_played : IsPhaseOf levels fetchers k edit_scene replies shots served deeds → IsPlayed levels fetchers k edit_scene replies shots served deeds
  edits_played (inl played) = played
  edits_played (inr lost) = absurd (edits_are_some (all_lost_are_none edit_scene replies shots lost.lost none))

  pub views_played : IsPhaseOf levels fetchers k view_scene replies shots served deeds → IsPlayed levels fetchers k view_scene replies shots served deeds
  views_played (inl played) = played
  views_played (inr lost) = absurd (views_are_some (all_lost_are_none view_scene replies shots lost.lost none))

front_stands : (acts serves : List Deed) (i : ℕ) (own : List Event) → get_elem? (events_in acts) i ≡ some own → get_elem? (events_in (acts ++ serves)) i ≡ some own
front_stands [] serves i own at = absurd (cc)
front_stands (d ∷ acts) serves zero own at = at
front_stands (d ∷ acts) serves (suc i) own at = front_stands acts serves i own at

-- the arrays once the first phase was played
pub edited_after : (number fetchers : ℕ) (start : State) (replies : List (List Reply)) (shots : List (List Shot)) (served : List Served) (deeds : List Deed) (part : List Event) → AreDrawn number start.arrays
    → IsPlayed levels fetchers 1 edit_scene replies shots served deeds → IsOf pass_of 1 (events_in deeds) part → Each NoneRefused replies → HaveNumbers (after start part).arrays (edited number)
edited_after number fetchers start replies shots served deeds part drawn played stand none =
    edited_arrays number start part drawn (phase_fits levels _ fetchers 1 edit_scene replies shots served deeds part played stand edits_set)
    (edits_written part (phase_written levels fetchers 1 edit_scene replies shots served deeds part played stand none))

module _ (number fetchers k : ℕ) (b : Shape) (s : State) (part : List Event) (told : (cell : ℕ) → IsTrue (b.is_told cell)) (have : HaveNumbers s.arrays (edited number)) (legal : AreLegal b s part)
    (replies : List (List Reply)) (shots : List (List Shot)) (served : List Served) (deeds : List Deed) (played : IsPlayed levels fetchers k view_scene replies shots served deeds) (stand : IsOf pass_of k (events_in deeds) part) where
  still : (cell at : ℕ) → list_any (writes cell at) part ≡ false
  still cell at = none_written (λ _ _ _. ⊥) cell at (λ x never. never) part (phase_fits levels (λ _ _ _. ⊥) fetchers k view_scene replies shots served deeds part played stand views_set_nothing)

  shows_slice : (actor : ℕ) (name : List ℕ) (z : ℕ) → z < 64 → ShowsAs levels part (view_of actor name z) (slice number z)
  shows_slice actor name z deep = record {
    phase = 1;
    actor = actor;
    call = 0;
    name = name;
    view = view_at z;
    one = refl;
    shows = λ j picture painted filled. slice_is b s.arrays (edited number) z picture deep told have filled painted.painting.width painted.painting.height
        (pixel_still b s part legal still levels (view_at z) j picture painted.painting filled (painted.complete refl) (omega arith));
  }

  all_slices : AllZip (ShowsAs levels part) view_scene (pictures number)
  all_slices = (
    shows_slice 0 (codes "demo0") 8 (omega arith),
    (shows_slice 1 (codes "demo1") 24 (omega arith), (shows_slice 2 (codes "demo2") 40 (omega arith), (shows_slice 3 (codes "demo3") 56 (omega arith), tt))),
  )

  acts_stand : Stand levels part k (events_in played.acts)
  acts_stand i own at = stand.each i own (ap (λ (l : List Deed). get_elem? (events_in l) i) played.deeds_are ∙ front_stands played.acts played.serves i own at)

  -- the pictures of the second phase are the slices of what the arrays have
  pub slices_shown : Each NoneRefused replies → Each (λ (t : Shot). IsFilled t.picture) (flat shots) → map (λ (t : Shot). t.picture.values) (flat shots) ≡ pictures number
  slices_shown none filled = pictures_are levels part k view_scene (pictures number) replies shots played.acts all_slices played.acted none acts_stand filled
