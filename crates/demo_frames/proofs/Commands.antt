-- What the commands of a pass write: what its sets set, each of them where none is refused.
use Rattle.std.proofs.Common.{◌≡◌, ◌∙◌, ℕ, ◌==◌, ◌&&◌, ◌||◌, Bool, true, false, List, [], ◌∷◌, ◌++◌, refl, ap, subst₂}
use Rattle.std.specs.List.{list_any, AllByRecursion as Each}
use Rattle.std.proofs.lemmas.Bool.{and_from, eq-eqb, or_left, or_right, or_parts, true≢false}
use Rattle.std.proofs.lemmas.List.Folds.{list_any-append}
use Rattle.arr_history.specs.declared.event.Event.{Event}
use Rattle.arr_history.specs.declared.event.Event.TheVariants.{Mark, Write, Unpin, Read}
use Rattle.arr_history.specs.Laws.{writes}
use Rattle.cell_grid.specs.declared.level.Level.{Level}
use Rattle.cell_grid.specs.Pyramid.{IsVoxelOf}
use Rattle.cell_grid.proofs.OneToOne.{one_to_one}
use Rattle.fetchers.specs.declared.served.Served.{Served}
use Rattle.run_report.specs.declared.reply.Answer.{Answer}
use Rattle.run_report.specs.declared.reply.Answer.TheVariants as answer
use Rattle.run_report.specs.declared.reply.Refusal.TheVariants as refusal
use Rattle.run_report.specs.declared.reply.Reply.{Reply}
use Rattle.run_report.specs.declared.shot.Shot.{Shot}
use Rattle.run_report.specs.Reply.{refuses}
use Rattle.scale_pick.specs.declared.view.View.{View}
use Rattle.team_run.specs.Commands.{IsGetOf, IsSetOf, IsViewOf, IsCommandOf, AreCommandsOf}
use Rattle.view_script.specs.declared.command.Command.{Command}
use Rattle.view_script.specs.declared.command.Command.TheVariants as command
use Rattle.view_script.specs.Script.{NumberedCommand}
use Rattle.volatile_cell.specs.Asked.{Asked}
use Rattle.volatile_cell.specs.Front.{Looker}
use Rattle.demo_frames.proofs.Each.{each_weaker}
use Rattle.demo_frames.proofs.Pieces.{both_fit, same_fit, granted_fits, refused_fits, frame_fits, cut_fits, servings_fit}
use Rattle.demo_frames.proofs.Written.{AreWritesBy}

-- what a command sets is allowed, wherever its voxel is
abbrev pub SetsBy : List Level → (ℕ → ℕ → ℕ → Type 0) → Command → Type 0
SetsBy levels Allowed (command.Set level pos x) = (cell at : ℕ) → IsVoxelOf levels level pos cell at → Allowed cell at x
SetsBy levels Allowed other = Unit {0}

-- events write the voxel that a command sets
abbrev pub IsWritten : List Level → List Event → Command → Type 0
IsWritten levels events (command.Set level pos x) = (cell at : ℕ) → IsVoxelOf levels level pos cell at → list_any (writes cell at) events ≡ true
IsWritten levels events other = Unit {0}

module _ (Allowed : ℕ → ℕ → ℕ → Type 0) (who : Looker) where
  get_fits : (level : ℕ) (pos : List ℕ) (told : Answer) (events : List Event) → IsGetOf who level pos told events → AreWritesBy Allowed events
  get_fits level pos (answer.Value x) events (cell, at, voxel, (loaded, piece, granted, is)) =
      same_fit Allowed events _ is (both_fit Allowed piece (Read who.pass cell at x ∷ Unpin who.pass cell ∷ []) (granted_fits Allowed who.alone who.pass cell loaded piece granted) (tt, (tt, tt)))
  get_fits level pos answer.Done events got = absurd got
  get_fits level pos (answer.Frame painted) events got = absurd got
  get_fits level pos (answer.Fetched loaded held refused) events got = absurd got
  get_fits level pos (answer.Refused refusal.Outside) events (outside, none) = same_fit Allowed events [] none tt
  get_fits level pos (answer.Refused (refusal.TooLarge value)) events got = absurd got
  get_fits level pos (answer.Refused (refusal.Acquire err)) events (cell, at, voxel, refused) = refused_fits Allowed who.alone who.pass cell err events refused

  set_fits : (level : ℕ) (pos : List ℕ) (x : ℕ) (told : Answer) (events : List Event) → ((cell at : ℕ) → IsVoxelOf who.levels level pos cell at → Allowed cell at x) → IsSetOf who level pos x told events → AreWritesBy Allowed events
  set_fits level pos x (answer.Value y) events allowed set = absurd set
  set_fits level pos x answer.Done events allowed (cell, at, voxel, small, (loaded, piece, granted, is)) =
      same_fit Allowed events _ is (both_fit Allowed piece (Mark who.pass cell ∷ Write who.pass cell at x ∷ Unpin who.pass cell ∷ []) (granted_fits Allowed who.alone who.pass cell loaded piece granted) (tt, (allowed cell at voxel, (tt, tt))))
  set_fits level pos x (answer.Frame painted) events allowed set = absurd set
  set_fits level pos x (answer.Fetched loaded held refused) events allowed set = absurd set
  set_fits level pos x (answer.Refused refusal.Outside) events allowed (outside, none) = same_fit Allowed events [] none tt
  set_fits level pos x (answer.Refused (refusal.TooLarge value)) events allowed (same, cell, at, voxel, large, none) = same_fit Allowed events [] none tt
  set_fits level pos x (answer.Refused (refusal.Acquire err)) events allowed (cell, at, voxel, small, refused) = refused_fits Allowed who.alone who.pass cell err events refused

  view_fits : (view : View) (told : Answer) (shot : Shot) (events : List Event) (asks : List Asked) → IsViewOf who view told shot events asks → AreWritesBy Allowed events
  view_fits view (answer.Value x) shot events asks viewed = absurd viewed
  view_fits view answer.Done shot events asks viewed = absurd viewed
  view_fits view (answer.Frame painted) shot events asks viewed = frame_fits Allowed who view shot.picture events viewed.visited
  view_fits view (answer.Fetched loaded held refused) shot events asks viewed = absurd viewed
  view_fits view (answer.Refused refusal.Outside) shot events asks (lacks, hidden, none, nothing) = same_fit Allowed events [] none tt
  view_fits view (answer.Refused (refusal.TooLarge value)) shot events asks viewed = absurd viewed
  view_fits view (answer.Refused (refusal.Acquire err)) shot events asks viewed = same_fit Allowed events _ viewed.events_are
      (both_fit Allowed viewed.before viewed.piece (cut_fits Allowed who view shot.picture viewed.cell viewed.before viewed.visited) (refused_fits Allowed who.alone who.pass viewed.cell err viewed.piece viewed.look))

  command_fits : (one : Command) (told : Answer) (shots : List Shot) (served : List Served) (events : List Event) (asks : List Asked) → SetsBy who.levels Allowed one → IsCommandOf who one told shots served events asks → AreWritesBy Allowed events
  command_fits (command.Get level pos) told shots served events asks allowed is = get_fits level pos told events is.0
  command_fits (command.Set level pos x) told shots served events asks allowed is = set_fits level pos x told events allowed is.0
  command_fits (command.View name view) told shots served events asks allowed (shot, one, named, none, viewed) = view_fits view told shot events asks viewed
  command_fits (command.Fetch count) told shots served events asks allowed ((result, counted, tells, are), none) = servings_fit Allowed who served events asks are

module _ (alone : Bool) (k : ℕ) (levels : List Level) where
  -- a pass writes what its sets set, and nothing else
  pub commands_fit : (Allowed : ℕ → ℕ → ℕ → Type 0) (commands : List NumberedCommand) (replies : List Reply) (shots : List Shot) (served : List Served) (events : List Event) (asks : List Asked)
      → AreCommandsOf alone k levels commands replies shots served events asks → Each (λ c. SetsBy levels Allowed c.command) commands → AreWritesBy Allowed events
  commands_fit Allowed [] [] shots served events asks (no_shots, none_served, none, nothing) allowed = same_fit Allowed events [] none tt
  commands_fit Allowed [] (r ∷ replies) shots served events asks are allowed = absurd are
  commands_fit Allowed (c ∷ commands) [] shots served events asks are allowed = absurd are
  commands_fit Allowed (c ∷ commands) (r ∷ replies) shots served events asks (here, later, now, others, first, rest, asked, more, numbers, is, are, shots_are, served_are, split, asks_are) allowed =
      same_fit Allowed events _ split (both_fit Allowed first rest
      (command_fits Allowed (record { pass = k; alone = alone; viewer = c.actor; levels = levels }) c.command r.answer here now first asked allowed.0 is)
      (commands_fit Allowed commands replies later others rest more are allowed.1))

  writes_itself : (cell at x : ℕ) (piece : List Event) → list_any (writes cell at) (piece ++ Mark k cell ∷ Write k cell at x ∷ Unpin k cell ∷ []) ≡ true
  writes_itself cell at x piece =
      list_any-append (writes cell at) piece (Mark k cell ∷ Write k cell at x ∷ Unpin k cell ∷ [])
      ∙ or_right (list_any (writes cell at) piece) _ (or_left ((cell == cell) && (at == at)) false (and_from (cell == cell) (at == at) (eq-eqb cell cell refl) (eq-eqb at at refl)))

  set_written : (viewer level : ℕ) (pos : List ℕ) (x : ℕ) (told : Answer) (events : List Event) → refuses told ≡ false → IsSetOf (record { pass = k; alone = alone; viewer = viewer; levels = levels }) level pos x told events
      → IsWritten levels events (command.Set level pos x)
  set_written viewer level pos x (answer.Value y) events done set = absurd set
  set_written viewer level pos x answer.Done events done (cell, at, voxel, small, (loaded, piece, granted, is)) = λ c i there.
      let same = (one_to_one levels).one_place level pos cell at c i voxel there in
      subst₂ (λ m n. list_any (writes m n) events ≡ true) same.0 same.1 (ap (list_any (writes cell at)) is ∙ writes_itself cell at x piece)
  set_written viewer level pos x (answer.Frame painted) events done set = absurd set
  set_written viewer level pos x (answer.Fetched loaded held refused) events done set = absurd set
  set_written viewer level pos x (answer.Refused cause) events done set = absurd (true≢false done)

  command_written : (viewer : ℕ) (one : Command) (told : Answer) (shots : List Shot) (served : List Served) (events : List Event) (asks : List Asked) → refuses told ≡ false
      → IsCommandOf (record { pass = k; alone = alone; viewer = viewer; levels = levels }) one told shots served events asks → IsWritten levels events one
  command_written viewer (command.Get level pos) told shots served events asks done is = tt
  command_written viewer (command.Set level pos x) told shots served events asks done is = set_written viewer level pos x told events done is.0
  command_written viewer (command.View name view) told shots served events asks done is = tt
  command_written viewer (command.Fetch count) told shots served events asks done is = tt

  -- what some events write, more events write
  pub written_more : (some all : List Event) → ((test : Event → Bool) → list_any test some ≡ true → list_any test all ≡ true) → (one : Command) → IsWritten levels some one → IsWritten levels all one
  written_more some all reaches (command.Get level pos) written = tt
  written_more some all reaches (command.Set level pos x) written = λ cell at voxel. reaches (writes cell at) (written cell at voxel)
  written_more some all reaches (command.View name view) written = tt
  written_more some all reaches (command.Fetch count) written = tt

  -- where no command is refused, each set is written
  pub sets_written : (commands : List NumberedCommand) (replies : List Reply) (shots : List Shot) (served : List Served) (events : List Event) (asks : List Asked)
      → AreCommandsOf alone k levels commands replies shots served events asks → list_any (λ r. refuses r.answer) replies ≡ false → Each (λ c. IsWritten levels events c.command) commands
  sets_written [] replies shots served events asks are done = tt
  sets_written (c ∷ commands) [] shots served events asks are done = absurd are
  sets_written (c ∷ commands) (r ∷ replies) shots served events asks (here, later, now, others, first, rest, asked, more, numbers, is, are, shots_are, served_are, split, asks_are) done =
      let parts = or_parts (refuses r.answer) (list_any (λ q. refuses q.answer) replies) done in
      let whole : (test : Event → Bool) → list_any test events ≡ (list_any test first || list_any test rest) = λ test. ap (list_any test) split ∙ list_any-append test first rest in (
        written_more first events (λ test found. whole test ∙ or_left (list_any test first) (list_any test rest) found) c.command (command_written c.actor c.command r.answer here now first asked parts.0 is),
        each_weaker (λ (d : NumberedCommand). IsWritten levels rest d.command) (λ d. IsWritten levels events d.command)
            (λ d. written_more rest events (λ test found. whole test ∙ or_right (list_any test first) (list_any test rest) found) d.command) commands (sets_written commands replies later others rest more are parts.1),
      )
