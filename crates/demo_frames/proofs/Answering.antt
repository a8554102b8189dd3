-- The replies of a run by threads of the demonstration's script.
use Rattle.std.proofs.Common.{◌≡◌, ℕ, ◌+◌, List, codes, length, refl, sym, subst, arith}
use Rattle.pass_roster.specs.History.{total}
use Rattle.std.specs.List.{AllByRecursion as Each}
use Rattle.team_phases.specs.Phases.{events_in}
use Rattle.thread_plan.specs.Scenes.{flat}
use Rattle.view_script.specs.Script.{NumberedCommand}
use Rattle.run_report.specs.declared.reply.Reply.{Reply}
use Rattle.demo_volume.specs.Levels.{levels}
use Rattle.demo_frames.specs.Answers.{AreDemoReplies, DemoIsAnswered}
use Rattle.demo_frames.proofs.Replies.{AreCounted, HasOneView, both_counted, edits_counted, edits_long, views_counted}
use Rattle.demo_frames.proofs.Scenes.{edit_scene, view_of, view_scene, edits_are_sets}
use Rattle.demo_frames.proofs.Slices.{view_at}
use Rattle.demo_frames.proofs.Splitting.{phases_played}

all_edits_long : total (λ (list : List NumberedCommand). length list) edit_scene ≡ 1024
all_edits_long = omega (arith, edits_long 0, edits_long 1, edits_long 2, edits_long 3)

one_view : (actor : ℕ) (name : List ℕ) (z : ℕ) → HasOneView (view_of actor name z)
one_view actor name z = record { phase = 1; actor = actor; call = 0; name = name; view = view_at z; one = refl; blocking = refl }

all_views : Each HasOneView view_scene
all_views = (one_view 0 (codes "demo0") 8, (one_view 1 (codes "demo1") 24, (one_view 2 (codes "demo2") 40, (one_view 3 (codes "demo3") 56, tt))))

counted_are : (replies : List Reply) → AreCounted 1024 4 replies → AreDemoReplies replies
counted_are replies c = record { count = c.all; edits = c.sets; complete = c.frames }

pub demo_answered : DemoIsAnswered
demo_answered slots fetchers before left report trail run done =
    let p = phases_played slots fetchers before left report trail run done in
    let edits = edits_counted levels 1 edit_scene p.told p.left p.edits.acts p.edits.acted p.none edits_are_sets in
    let views = views_counted levels (1 + length (events_in p.here)) view_scene p.told_then p.left_then p.views.acts p.views.acted p.none_then all_views in
    let both = both_counted 1024 0 0 4 (flat p.told) (flat p.told_then) (subst (λ n. AreCounted n 0 (flat p.told)) all_edits_long edits) views in
    counted_are report.replies (subst (λ (l : List Reply). AreCounted 1024 4 l) (sym p.replies_are) both)
