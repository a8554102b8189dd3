-- The pictures of a run by threads of the demonstration's script.
use Rattle.std.proofs.Common.{◌≡◌, ◌∙◌, ℕ, ◌+◌, ◌%◌, ◌≤◌, All, IsTrue, List, [], ◌∷◌, length, map, sym, ap, subst}
use Rattle.std.specs.List.{AllByRecursion as Each}
use Rattle.std.proofs.lemmas.List.Elements.{recursion_from_All}
use Rattle.std.proofs.Math.Nat.{mod-lt}
use Rattle.arr_history.specs.declared.event.Event.{Event}
use Rattle.arr_history.specs.History.{after, AreLegal}
use Rattle.arr_history.proofs.Leads.{legal-parts}
use Rattle.cell_store.specs.Store.{Contents}
use Rattle.run_report.specs.declared.report.Report.{Report}
use Rattle.run_report.specs.declared.shot.Shot.{Shot}
use Rattle.scale_pick.specs.Picture.{IsFilled}
use Rattle.stood_arrays.specs.Opening.{is_told}
use Rattle.stood_arrays.specs.Pyramid.{shape_by, start_by}
use Rattle.team_phases.specs.Phases.{events_in}
use Rattle.thread_plan.specs.Scenes.{flat}
use Rattle.thread_run.specs.Run.{IsThreadRun}
use Rattle.demo_arrays.specs.Drawn.{AreDrawn}
use Rattle.demo_volume.specs.Levels.{key_names, levels}
use Rattle.demo_frames.specs.Pictures.{pictures}
use Rattle.demo_frames.specs.Showing.{DemoIsShown}
use Rattle.demo_frames.proofs.Each.{each_same}
use Rattle.demo_frames.proofs.Playing.{edited_after, slices_shown}
use Rattle.demo_frames.proofs.Scenes.{edit_scene, view_scene}
use Rattle.demo_frames.proofs.Splitting.{ArePhasesPlayed, phases_played}

-- every cell is told where every store tells
told_cells : (before : List Contents) → 1 ≤ length before → All (λ (s : Contents). IsTrue s.told) before → (cell : ℕ) → IsTrue (is_told (length before) before cell)
told_cells before some told cell = told (cell % length before) _ (mod-lt cell some)

module _ (number slots fetchers : ℕ) (before left : List Contents) (report : Report) (trail : List Event) (some : 1 ≤ length before) (told : All (λ (s : Contents). IsTrue s.told) before)
    (drawn : AreDrawn number (start_by levels key_names before).arrays) (run : IsThreadRun levels key_names slots fetchers (edit_scene ∷ view_scene ∷ []) before left report trail)
    (filled : All (λ (s : Shot). IsFilled s.picture) report.shots) (p : ArePhasesPlayed fetchers report.replies report.shots run.history) where
  all_filled : Each (λ (s : Shot). IsFilled s.picture) (flat p.left_then)
  all_filled = each_same (λ (s : Shot). IsFilled s.picture) (flat p.left_then) report.shots (sym p.shots_are) (recursion_from_All (λ (s : Shot). IsFilled s.picture) report.shots filled)

  -- the second phase's events are legal after the first one's
  legal_then : AreLegal (shape_by levels key_names slots before) (after (start_by levels key_names before) p.stand.0) p.stand.4.0
  legal_then =
      let b = shape_by levels key_names slots before in
      let start = start_by levels key_names before in
      let whole = ((legal-parts b start run.history run.closing).0 run.headline.legal).0 in
      let behind = ((legal-parts b start p.stand.0 p.stand.1).0 (subst (AreLegal b start) p.stand.2 whole)).1 in
      ((legal-parts b (after start p.stand.0) p.stand.4.0 p.stand.4.1).0 (subst (AreLegal b (after start p.stand.0)) p.stand.4.2 behind)).0

  shown : map (λ (s : Shot). s.picture.values) report.shots ≡ pictures number
  shown =
      let start = start_by levels key_names before in
      let have = edited_after number fetchers start p.told p.left p.now p.here p.stand.0 drawn p.edits p.stand.3 p.none in
      ap (map (λ (s : Shot). s.picture.values)) p.shots_are
      ∙ slices_shown number fetchers (1 + length (events_in p.here)) (shape_by levels key_names slots before) (after start p.stand.0) p.stand.4.0 (told_cells before some told) have legal_then
      p.told_then p.left_then p.now_then p.here_then p.views p.stand.4.3 p.none_then all_filled

pub demo_shown : DemoIsShown
demo_shown number slots fetchers before left report trail some told drawn run filled done =
    shown number slots fetchers before left report trail some told drawn run filled (phases_played slots fetchers before left report trail run done)
