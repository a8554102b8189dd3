-- Views and fetches, over moments that nothing tells apart.
use Rattle.std.specs.Prelude.{◌≡◌, ℕ, IsTrue, List, ◌++◌}
use Rattle.arr_history.specs.declared.event.Event.{Event}
use Rattle.fetchers.specs.declared.served.Served.{Served}
use Rattle.run_report.specs.declared.reply.Answer.{Answer}
use Rattle.run_report.specs.declared.shot.Shot.{Shot}
use Rattle.scale_pick.specs.declared.view.View.{View}
use Rattle.store_calls.specs.Calls.{StoreCall, FailAlike}
use Rattle.volatile_cell.specs.Asked.{Asked}
use Rattle.team_run.specs.Desk.{Desk}
use Rattle.team_run.specs.Fetches.{IsFetched}
use Rattle.team_run.specs.Views.{IsViewed}
use Rattle.alike_runs.specs.Runs.{DesksAreAlike}

-- Views of a viewer tell and show the same.
abbrev pub ViewsAreAlike : Type 0
ViewsAreAlike = (a b a' b' : Desk) (viewer : ℕ) (view : View) (s t : Shot) (e f : List Event) (u v : List Asked) (k l m n : List StoreCall) (p q : Answer)
    → DesksAreAlike a b → IsViewed a viewer view s e u k p a' → IsViewed b viewer view t f v l q b' → FailAlike (k ++ m) (l ++ n)
    → (q ≡ p) × (t.shown ≡ s.shown) × (IsTrue s.shown → t.picture ≡ s.picture) × DesksAreAlike a' b' × FailAlike m n

-- Fetches of so many requests tell the same.
abbrev pub FetchCommandsAreAlike : Type 0
FetchCommandsAreAlike = (a b a' b' : Desk) (count : ℕ) (x y : List Served) (e f : List Event) (u v : List Asked) (k l m n : List StoreCall) (p q : Answer)
    → DesksAreAlike a b → IsFetched a count p x e u k a' → IsFetched b count q y f v l b' → FailAlike (k ++ m) (l ++ n)
    → (q ≡ p) × DesksAreAlike a' b' × FailAlike m n
