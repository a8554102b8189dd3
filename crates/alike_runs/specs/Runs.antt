-- Two runs of the same commands, over stores that hold the same, whose calls of the stores fail alike, tell the same, paint the same and leave the same.
use Rattle.std.specs.Prelude.{◌≡◌, ℕ, IsTrue, List, [], ◌∷◌, ◌++◌}
use Rattle.cell_file.specs.Keys.{KeyNames}
use Rattle.cell_grid.specs.declared.level.Level.{Level}
use Rattle.cell_store.specs.Store.{Contents}
use Rattle.run_report.specs.declared.report.Report.{Report}
use Rattle.run_report.specs.declared.shot.Shot.{Shot}
use Rattle.store_calls.specs.Calls.{StoreCall, FailAlike}
use Rattle.view_script.specs.Script.{NumberedCommand}
use Rattle.team_run.specs.Desk.{Desk}
use Rattle.team_run.specs.Run.{IsRunOf, run_calls}
use Rattle.alike_caches.specs.Alike.{AreAlike}
use Rattle.alike_runs.specs.Holding.{HoldAlike, LeftAlike}

-- two moments that nothing tells apart
pub record DesksAreAlike (a b : Desk) : Type 0 where
  pub cache : AreAlike a.cache b.cache
  pub queue : b.queue ≡ a.queue

-- Two shots of the same name: both are shown, with the same picture, or neither is.
pub record IsSameShot (s t : Shot) : Type 0 where
  pub name : t.name ≡ s.name
  pub shown : t.shown ≡ s.shown
  pub picture : IsTrue s.shown → t.picture ≡ s.picture

abbrev pub AreSameShots : List Shot → List Shot → Type 0
AreSameShots [] [] = Unit {0}
AreSameShots [] (t ∷ others) = ⊥
AreSameShots (s ∷ shots) [] = ⊥
AreSameShots (s ∷ shots) (t ∷ others) = IsSameShot s t × AreSameShots shots others

-- two reports that tell the same, with the same pictures
pub record TellAlike (report other : Report) : Type 0 where
  pub replies : other.replies ≡ report.replies
  pub shots : AreSameShots report.shots other.shots
  pub tally : other.tally ≡ report.tally
  pub unsaved : other.unsaved ≡ report.unsaved

-- What a run tells, paints and leaves is one function of its commands, of what the stores hold, and of which calls of the stores failed or found no memory;
-- but for what is held under keys whose last put was not done.
abbrev pub RunsAreAlike : Type 0
RunsAreAlike = (levels : List Level) (keys : KeyNames) (slots : ℕ) (commands : List NumberedCommand) (before after old new : List Contents) (report other : Report) (m n : List StoreCall)
    → HoldAlike before old → (run : IsRunOf levels keys slots commands before after report) → (again : IsRunOf levels keys slots commands old new other)
    → FailAlike (run_calls run.completes ++ m) (run_calls again.completes ++ n)
    → TellAlike report other × LeftAlike (run_calls run.completes) after new × FailAlike m n
