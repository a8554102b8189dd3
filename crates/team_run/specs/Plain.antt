-- The replies and the pictures of plain arrays: read and written in the order of the commands, with no cache.
use Rattle.std.specs.Prelude.{◌≡◌, ◌⊎◌, ℕ, ◌<◌, Bool, true, false, IsTrue, List, [], ◌∷◌, ◌++◌, length, slice_index}
use Rattle.arr_history.specs.declared.event.Event.{Event}
use Rattle.arr_history.specs.Shape.{Shape}
use Rattle.arr_history.specs.State.{with_at}
use Rattle.cell_file.specs.Keys.{KeyNames}
use Rattle.cell_grid.specs.declared.level.Level.{Level}
use Rattle.cell_grid.specs.Pyramid.{IsVoxelOf}
use Rattle.cell_store.specs.Store.{Contents}
use Rattle.run_report.specs.declared.reply.Answer.{Answer}
use Rattle.run_report.specs.declared.reply.Answer.TheVariants as answer
use Rattle.run_report.specs.declared.reply.Reply.{Reply}
use Rattle.run_report.specs.declared.report.Report.{Report}
use Rattle.run_report.specs.declared.shot.Shot.{Shot}
use Rattle.scale_pick.specs.declared.painted.Painted.{Painted}
use Rattle.scale_pick.specs.declared.view.View.{View}
use Rattle.scale_pick.specs.Picture.{Pixels, place}
use Rattle.scale_pick.specs.Shows.{ShowsBy}
use Rattle.scale_pick.specs.Wanted.{wanted_level}
use Rattle.stood_arrays.specs.Opening.{is_told}
use Rattle.stood_arrays.specs.Pyramid.{shape_by, start_by}
use Rattle.team_run.specs.Headline.{end_of}
use Rattle.view_script.specs.declared.command.Command.{Command}
use Rattle.view_script.specs.declared.command.Command.TheVariants as command
use Rattle.view_script.specs.Script.{NumberedCommand}

module _ (levels : List Level) (told : ℕ → Bool) where
  -- a pixel shows its voxel's number at a level, where that is told, or 0 outside the level
  abbrev pub ShowsPlain : (ℕ → ℕ → ℕ) → View → ℕ → ℕ → ℕ → ℕ → Type 0
  ShowsPlain arrays view x y level value = ShowsBy (λ cell at number. IsTrue (told cell) → number ≡ arrays cell at) levels view x y level value

  -- A picture shows plain arrays: each pixel at the level that its mask tells, or nothing, where that is 255. In a frame that is told
  -- as complete each pixel shows the wanted level.
  pub record IsPlainFrame (arrays : ℕ → ℕ → ℕ) (view : View) (painted : Painted) (picture : Pixels) : Type 0 where
    pub width : picture.width ≡ view.width
    pub height : picture.height ≡ view.height
    pub pixels : (x y : ℕ) → x < view.width → y < view.height → let i = place view.width x y in
        ShowsPlain arrays view x y (slice_index picture.mask i) (slice_index picture.values i) ⊎ ((slice_index picture.mask i ≡ 255) × (slice_index picture.values i ≡ 0))
    pub complete : IsTrue painted.complete → (x y : ℕ) → x < view.width → y < view.height → ShowsPlain arrays view x y (wanted_level levels view) (slice_index picture.values (place view.width x y))

  -- What a command does to plain arrays and what it sees of them: a get answers the number of its voxel, where that is told; a set that is
  -- done gives its voxel the value; a frame shows them in the one picture that a view leaves, under its name; what is refused changes nothing,
  -- and the picture of a view that is refused is not shown.
  abbrev pub PlainStep : (ℕ → ℕ → ℕ) → Command → Answer → List Shot → (ℕ → ℕ → ℕ) → Type 0
  PlainStep arrays (command.Get level pos) (answer.Value x) shots now = (shots ≡ []) × (cell : ℕ) × (at : ℕ) × IsVoxelOf levels level pos cell at × (IsTrue (told cell) → x ≡ arrays cell at) × (now ≡ arrays)
  PlainStep arrays (command.Get level pos) (answer.Refused refusal) shots now = (shots ≡ []) × (now ≡ arrays)
  PlainStep arrays (command.Set level pos x) answer.Done shots now = (shots ≡ []) × (cell : ℕ) × (at : ℕ) × IsVoxelOf levels level pos cell at × (now ≡ with_at arrays cell (with_at (arrays cell) at x))
  PlainStep arrays (command.Set level pos x) (answer.Refused refusal) shots now = (shots ≡ []) × (now ≡ arrays)
  PlainStep arrays (command.View name view) (answer.Frame painted) shots now =
      (shot : Shot) × (shots ≡ shot ∷ []) × (shot.name ≡ name) × (shot.shown ≡ true) × IsPlainFrame arrays view painted shot.picture × (now ≡ arrays)
  PlainStep arrays (command.View name view) (answer.Refused refusal) shots now = (shot : Shot) × (shots ≡ shot ∷ []) × (shot.name ≡ name) × (shot.shown ≡ false) × (now ≡ arrays)
  PlainStep arrays (command.Fetch count) (answer.Fetched loaded held refused) shots now = (shots ≡ []) × (now ≡ arrays)
  PlainStep arrays (command.Fetch count) (answer.Refused refusal) shots now = (shots ≡ []) × (now ≡ arrays)
  PlainStep arrays any other shots now = ⊥

  -- The replies to commands in order, and the pictures that their views left.
  abbrev pub ArePlain : (ℕ → ℕ → ℕ) → List NumberedCommand → List Reply → List Shot → (ℕ → ℕ → ℕ) → Type 0
  ArePlain arrays [] [] shots now = (shots ≡ []) × (now ≡ arrays)
  ArePlain arrays (c ∷ commands) (r ∷ replies) shots now = (next : ℕ → ℕ → ℕ) × (here : List Shot) × (later : List Shot) × (shots ≡ here ++ later)
      × PlainStep arrays c.command r.answer here next × ArePlain next commands replies later now
  ArePlain arrays [] (r ∷ replies) shots now = ⊥
  ArePlain arrays (c ∷ commands) [] shots now = ⊥

-- arrays that say the same of each voxel that is told
abbrev pub AreSame : Shape → (ℕ → ℕ → ℕ) → (ℕ → ℕ → ℕ) → Type 0
AreSame b arrays others = (c : ℕ) → c < b.cells → IsTrue (b.is_told c) → (i : ℕ) → i < b.voxels c → others c i ≡ arrays c i

-- The replies and the pictures of a run are those of plain arrays, which begin as what the stores stand for; the last of them are those
-- that these events, all of the run's, leave.
pub record IsPlainRun (levels : List Level) (keys : KeyNames) (slots : ℕ) (commands : List NumberedCommand) (before : List Contents) (events : List Event) (report : Report) : Type 0 where
  pub last : ℕ → ℕ → ℕ
  pub are : ArePlain levels (is_told (length before) before) (start_by levels keys before).arrays commands report.replies report.shots last
  pub same : AreSame (shape_by levels keys slots before) (end_of levels keys before events).arrays last
