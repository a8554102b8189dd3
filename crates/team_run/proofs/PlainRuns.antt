-- The replies of a cache are those of plain arrays.
use Rattle.std.proofs.Common.{◌≡◌, ◌∙◌, ℕ, ◌<◌, ◌≤◌, ◌==◌, Bool, true, false, cond, IsTrue, List, [], ◌∷◌, length, refl, sym, ap, subst}
use Rattle.std.proofs.lemmas.Bool.{eqb-true}
use Rattle.arr_history.specs.declared.event.Event.{Event}
use Rattle.arr_history.specs.declared.event.Event.TheVariants as event
use Rattle.arr_history.specs.History.{after, AreLegal, LeadTo}
use Rattle.arr_history.specs.Shape.{Shape, IsSameShape}
use Rattle.arr_history.specs.State.{with_at}
use Rattle.arr_history.proofs.Leads.{shape_trans}
use Rattle.cell_grid.specs.declared.level.Level.{Level}
use Rattle.cell_grid.specs.Pyramid.{IsVoxelOf}
use Rattle.run_report.specs.declared.reply.Answer.{Answer}
use Rattle.run_report.specs.declared.reply.Answer.TheVariants as answer
use Rattle.run_report.specs.declared.reply.Refusal.TheVariants as refusal
use Rattle.run_report.specs.declared.reply.Reply.{Reply}
use Rattle.run_report.specs.declared.shot.Shot.{Shot}
use Rattle.fetchers.specs.declared.fetched.Fetched.{Fetched}
use Rattle.scale_pick.specs.declared.view.View.{View}
use Rattle.scale_pick.specs.Laws.{ShownMoments}
use Rattle.scale_pick.specs.Notes.{notes_of}
use Rattle.scale_pick.specs.Painted.{painted_of}
use Rattle.scale_pick.specs.Painting.{IsPainting}
use Rattle.scale_pick.specs.Wanted.{wanted_level}
use Rattle.sole_cache.specs.Cached.{Cached, shape_of, state_of}
use Rattle.volatile_cell.specs.Asked.{Asked}
use Rattle.std.specs.Prelude.{Result}
use Rattle.std.specs.declared.result.Result.TheVariants.{Ok, Err}
use Rattle.view_script.specs.declared.command.Command.{Command}
use Rattle.store_calls.specs.Calls.{StoreCall}
use Rattle.view_script.specs.declared.command.Command.TheVariants as command
use Rattle.view_script.specs.Script.{NumberedCommand}
use Rattle.team_run.specs.Plain.{AreSame, ArePlain, PlainStep}
use Rattle.team_run.specs.Desk.{Desk, levels_at}
use Rattle.team_run.specs.Fetches.{fetch_answer}
use Rattle.team_run.specs.Serve.{IsGot, IsPutTask, IsServed, ServesTasks}
use Rattle.team_run.specs.Trace.{Trace}
use Rattle.team_run.specs.Views.{HasLevel, IsViewed}
use Rattle.team_run.proofs.CalmEvents.{AreCalm, both_calm, calm_unwritten, frame_calm, cut_calm, refused_calm, servings_calm}
use Rattle.team_run.proofs.PlainFrames.{plain_frame}
use Rattle.team_run.proofs.Unwritten.{Unwritten, after-append, legal_behind, acquire_unwritten}

-- arrays that were the same stay so where nothing is written
pub same_kept : (b : Shape) (a d : Cached) (events : List Event) (arrays : ℕ → ℕ → ℕ) → IsSameShape b (shape_of a) → AreSame b (state_of a).arrays arrays → Unwritten events
    → LeadTo (shape_of a) (state_of a) events (state_of d) → AreSame b (state_of d).arrays arrays
same_kept b a d events arrays shape same unwritten led c inside told i few =
    same c inside told i few ∙ ap (λ f. f c i) (sym (unwritten (state_of a)))
    ∙ led.reached.arrays c (subst (λ n. c < n) shape.cells inside) (subst IsTrue (shape.told c) told) i (subst (λ n. i < n) (shape.voxels c) few)

-- the same where both have a voxel written
same_written : (b : Shape) (f g : ℕ → ℕ → ℕ) (cell at x : ℕ) → AreSame b f g → AreSame b (with_at f cell (with_at (f cell) at x)) (with_at g cell (with_at (g cell) at x))
same_written b f g cell at x same c inside told i few = choose (cell == c) refl
  where
    choose : (r : Bool) → (cell == c) ≡ r → cond r (with_at (g cell) at x) (g c) i ≡ cond r (with_at (f cell) at x) (f c) i
    choose true e = subst (λ n. with_at (g n) at x i ≡ with_at (f n) at x i) (sym (eqb-true cell c e)) (value (at == i))
      where
        value : (q : Bool) → cond q x (g c i) ≡ cond q x (f c i)
        value true = refl
        value false = same c inside told i few
    choose false e = same c inside told i few

module _ (moments : ShownMoments) (b : Shape) (levels : List Level) (a d : Desk) (arrays : ℕ → ℕ → ℕ) (shape : IsSameShape b (shape_of a.cache)) (is : levels_at a ≡ levels) (few : length levels ≤ 8) (some : 0 < length levels) (same : AreSame b (state_of a.cache).arrays arrays) where
  -- what a command leaves of plain arrays, and what it sees of them
  abbrev Steps : Command → Answer → List Shot → Type 0
  Steps command told shots = (now : ℕ → ℕ → ℕ) × (PlainStep levels b.is_told arrays command told shots now × AreSame b (state_of d.cache).arrays now)

  voxel_in : (level : ℕ) (pos : List ℕ) (cell at : ℕ) → IsVoxelOf (levels_at a) level pos cell at → IsVoxelOf levels level pos cell at
  voxel_in level pos cell at voxel = subst (λ l. IsVoxelOf l level pos cell at) is voxel

  got_plain : (level : ℕ) (pos : List ℕ) (x : ℕ) (events : List Event) (stores : List StoreCall) (shots : List Shot) → shots ≡ [] → IsGot a.cache level pos (answer.Value x) events stores d.cache → LeadTo (shape_of a.cache) (state_of a.cache) events (state_of d.cache)
      → Steps (command.Get level pos) (answer.Value x) shots
  got_plain level pos x events stores shots none (cell, at, voxel, visits) led =
      let piece = visits.piece in let split = visits.events_are in
      let quiet : Unwritten piece = acquire_unwritten a.cache cell (Ok visits.handle) piece stores visits.acquired.is in
      let read = (legal_behind (shape_of a.cache) (state_of a.cache) piece (event.Read 0 cell at x ∷ event.Unpin 0 cell ∷ []) (subst (AreLegal (shape_of a.cache) (state_of a.cache)) split led.legal)).0 in
      let unwritten : Unwritten events = λ s. subst (λ e. (after s e).arrays ≡ s.arrays) (sym split) (ap (λ t. t.arrays) (after-append s piece (event.Read 0 cell at x ∷ event.Unpin 0 cell ∷ [])) ∙ quiet s) in
      let seen : IsTrue (b.is_told cell) → x ≡ arrays cell at = λ told. read.4 (subst IsTrue (shape.told cell) told) ∙ ap (λ f. f cell at) (quiet (state_of a.cache))
      ∙ sym (same cell (subst (λ n. cell < n) (sym shape.cells) read.0) told at (subst (λ n. at < n) (sym (shape.voxels cell)) read.1)) in
      (arrays, ((none, cell, at, voxel_in level pos cell at voxel, seen, refl), same_kept b a.cache d.cache events arrays shape same unwritten led))

  set_plain : (level : ℕ) (pos : List ℕ) (x : ℕ) (events : List Event) (stores : List StoreCall) (shots : List Shot) → shots ≡ [] → IsPutTask a.cache level pos x answer.Done events stores d.cache → LeadTo (shape_of a.cache) (state_of a.cache) events (state_of d.cache)
      → Steps (command.Set level pos x) answer.Done shots
  set_plain level pos x events stores shots none (cell, at, voxel, small, visits) led =
      let piece = visits.piece in let split = visits.events_are in
      let quiet : Unwritten piece = acquire_unwritten a.cache cell (Ok visits.handle) piece stores visits.acquired.is in
      let tail = event.Mark 0 cell ∷ event.Write 0 cell at x ∷ event.Unpin 0 cell ∷ [] in
      let before = (state_of a.cache).arrays in
      let written : (after (state_of a.cache) events).arrays ≡ with_at before cell (with_at (before cell) at x) =
      subst (λ e. (after (state_of a.cache) e).arrays ≡ with_at before cell (with_at (before cell) at x)) (sym split)
      (ap (λ t. t.arrays) (after-append (state_of a.cache) piece tail) ∙ ap (λ f. with_at f cell (with_at (f cell) at x)) (quiet (state_of a.cache))) in
      let now = with_at arrays cell (with_at (arrays cell) at x) in
      let agree : AreSame b (state_of d.cache).arrays now = λ c inside told i few. same_written b before arrays cell at x same c inside told i few ∙ ap (λ f. f c i) (sym written)
      ∙ led.reached.arrays c (subst (λ n. c < n) shape.cells inside) (subst IsTrue (shape.told c) told) i (subst (λ n. i < n) (shape.voxels c) few) in
      (now, ((none, cell, at, voxel_in level pos cell at voxel, refl), agree))

  -- a command that wrote nothing
  quiet_plain : (events : List Event) → Unwritten events → LeadTo (shape_of a.cache) (state_of a.cache) events (state_of d.cache) → AreSame b (state_of d.cache).arrays arrays
  quiet_plain events quiet led = same_kept b a.cache d.cache events arrays shape same quiet led

  none_plain : (events : List Event) → events ≡ [] → LeadTo (shape_of a.cache) (state_of a.cache) events (state_of d.cache) → AreSame b (state_of d.cache).arrays arrays
  none_plain events none led = quiet_plain events (λ s. subst (λ e. (after s e).arrays ≡ s.arrays) (sym none) refl) led

  get_plain : (level : ℕ) (pos : List ℕ) (told : Answer) (events : List Event) (stores : List StoreCall) (shots : List Shot) → shots ≡ [] → IsGot a.cache level pos told events stores d.cache → LeadTo (shape_of a.cache) (state_of a.cache) events (state_of d.cache) → Steps (command.Get level pos) told shots
  get_plain level pos (answer.Value x) events stores shots left served led = got_plain level pos x events stores shots left served led
  get_plain level pos answer.Done events stores shots left served led = absurd served
  get_plain level pos (answer.Frame painted) events stores shots left served led = absurd served
  get_plain level pos (answer.Fetched loaded held refused) events stores shots left served led = absurd served
  get_plain level pos (answer.Refused refusal.Outside) events stores shots left served led = (arrays, ((left, refl), none_plain events served.0.1.0 led))
  get_plain level pos (answer.Refused (refusal.TooLarge value)) events stores shots left served led = absurd served.0
  get_plain level pos (answer.Refused (refusal.Acquire err)) events stores shots left ((cell, at, voxel, refused), caused) led = (arrays, ((left, refl), quiet_plain events (acquire_unwritten a.cache cell (Err err) events stores refused.is) led))

  put_plain : (level : ℕ) (pos : List ℕ) (x : ℕ) (told : Answer) (events : List Event) (stores : List StoreCall) (shots : List Shot) → shots ≡ [] → IsPutTask a.cache level pos x told events stores d.cache → LeadTo (shape_of a.cache) (state_of a.cache) events (state_of d.cache) → Steps (command.Set level pos x) told shots
  put_plain level pos x (answer.Value y) events stores shots left served led = absurd served
  put_plain level pos x answer.Done events stores shots left served led = set_plain level pos x events stores shots left served led
  put_plain level pos x (answer.Frame painted) events stores shots left served led = absurd served
  put_plain level pos x (answer.Fetched loaded held refused) events stores shots left served led = absurd served
  put_plain level pos x (answer.Refused refusal.Outside) events stores shots left served led = (arrays, ((left, refl), none_plain events served.0.1.0 led))
  put_plain level pos x (answer.Refused (refusal.TooLarge value)) events stores shots left ((same_value, cell, at, voxel, large, none), caused) led = (arrays, ((left, refl), none_plain events none.0 led))
  put_plain level pos x (answer.Refused (refusal.Acquire err)) events stores shots left ((cell, at, voxel, small, refused), caused) led = (arrays, ((left, refl), quiet_plain events (acquire_unwritten a.cache cell (Err err) events stores refused.is) led))

  view_plain : (viewer : ℕ) (name : List ℕ) (view : View) (shot : Shot) (shots : List Shot) (events : List Event) (calls : List Asked) (stores : List StoreCall) (told : Answer) → shots ≡ shot ∷ [] → shot.name ≡ name → IsViewed a viewer view shot events calls stores told d
      → LeadTo (shape_of a.cache) (state_of a.cache) events (state_of d.cache) → Steps (command.View name view) told shots
  view_plain viewer name view shot shots events calls stores (answer.Value x) one under viewed led = absurd viewed
  view_plain viewer name view shot shots events calls stores answer.Done one under viewed led = absurd viewed
  view_plain viewer name view shot shots events calls stores (answer.Fetched loaded held refused) one under viewed led = absurd viewed
  view_plain viewer name view shot shots events calls stores (answer.Frame painted) one under viewed led =
      let calm : AreCalm events = subst AreCalm (sym viewed.events_are) (frame_calm viewer (levels_at a) view shot.picture viewed.frame.events viewed.frame.visited) in
      let painting : IsPainting levels view (notes_of view.strategy events) shot.picture =
      subst (λ l. IsPainting l view (notes_of view.strategy events) shot.picture) is (subst (λ (e : List Event). IsPainting (levels_at a) view (notes_of view.strategy e) shot.picture) (sym viewed.events_are) viewed.frame.painting) in
      let told : painted ≡ painted_of (wanted_level levels view) shot.picture = subst (λ l. painted ≡ painted_of (wanted_level l view) shot.picture) is viewed.told in
      let exists : HasLevel levels view = subst (λ l. HasLevel l view) is viewed.exists in
      (arrays, ((shot, one, under, viewed.shown, plain_frame moments b a.cache levels view events arrays shape is same calm led.legal painted shot.picture few some exists viewed.filled painting told, refl), quiet_plain events (calm_unwritten events calm) led))
  view_plain viewer name view shot shots events calls stores (answer.Refused refusal.Outside) one under viewed led = (arrays, ((shot, one, under, viewed.hidden, refl), none_plain events viewed.no_events led))
  view_plain viewer name view shot shots events calls stores (answer.Refused (refusal.TooLarge value)) one under viewed led = absurd viewed
  view_plain viewer name view shot shots events calls stores (answer.Refused (refusal.Acquire err)) one under viewed led =
      let cut = viewed.cut in
      let calm : AreCalm events = subst AreCalm (sym viewed.events_are)
      (both_calm cut.events cut.piece (cut_calm viewer (levels_at a) view shot.picture cut.cell cut.events cut.visited) (refused_calm cut.cell err cut.piece cut.look)) in
      (arrays, ((shot, one, under, viewed.hidden, refl), quiet_plain events (calm_unwritten events calm) led))

  fetch_plain : {X : Type 0} (count : ℕ) (shots : List Shot) (none : shots ≡ []) (told : Answer) (result : Result Fetched X) → told ≡ fetch_answer result → AreSame b (state_of d.cache).arrays arrays → Steps (command.Fetch count) told shots
  fetch_plain count shots none told (Ok fetched) is now = subst (λ (t : Answer). Steps (command.Fetch count) t shots) (sym is) (arrays, ((none, refl), now))
  fetch_plain count shots none told (Err memory) is now = subst (λ (t : Answer). Steps (command.Fetch count) t shots) (sym is) (arrays, ((none, refl), now))

  step_plain : (viewer : ℕ) (command : Command) (told : Answer) (t : Trace) → IsServed a viewer command told t d → LeadTo (shape_of a.cache) (state_of a.cache) t.events (state_of d.cache) → Steps command told t.shots
  step_plain viewer (command.Get level pos) told t served led = get_plain level pos told t.events t.stores t.shots served.1.shots served.0 led
  step_plain viewer (command.Set level pos x) told t served led = put_plain level pos x told t.events t.stores t.shots served.1.shots served.0 led
  step_plain viewer (command.View name view) told t (shot, one, none, named, viewed) led = view_plain viewer name view shot t.shots t.events t.calls t.stores told one named viewed led
  step_plain viewer (command.Fetch count) told t (none, fetched) led =
      fetch_plain count t.shots none told fetched.result fetched.told_is (quiet_plain t.events (calm_unwritten t.events (servings_calm a d t.servings t.events t.calls fetched.are)) led)

pub runs_plain : ShownMoments → (b : Shape) (levels : List Level) (a d : Desk) (commands : List NumberedCommand) (replies : List Reply) (trace : Trace) (arrays : ℕ → ℕ → ℕ)
    → IsSameShape b (shape_of a.cache) → levels_at a ≡ levels → length levels ≤ 8 → 0 < length levels → AreSame b (state_of a.cache).arrays arrays → ServesTasks a commands replies trace d
    → (now : ℕ → ℕ → ℕ) × (ArePlain levels b.is_told arrays commands replies trace.shots now × AreSame b (state_of d.cache).arrays now)
runs_plain moments b levels a d [] [] trace arrays shape is few some same served = (arrays, ((ap (λ (t : Trace). t.shots) served.0, refl), subst (λ (x : Desk). AreSame b (state_of x.cache).arrays arrays) (sym served.1) same))
runs_plain moments b levels a d (c ∷ commands) (r ∷ replies) trace arrays shape is few some same (mid, first, rest, split, one, others) =
    let moves = one.leads.cache.moves in
    let step = step_plain moments b levels a mid arrays shape is few some same c.actor c.command r.answer first one.served moves.led in
    let more = runs_plain moments b levels mid d commands replies rest step.0 (shape_trans b (shape_of a.cache) (shape_of mid.cache) shape moves.shape) (moves.levels ∙ is) few some step.1.1 others in
    (more.0, ((step.0, first.shots, rest.shots, ap (λ (t : Trace). t.shots) split, step.1.0, more.1.0), more.1.1))
runs_plain moments b levels a d [] (r ∷ replies) trace arrays shape is few some same served = absurd served
runs_plain moments b levels a d (c ∷ commands) [] trace arrays shape is few some same served = absurd served
