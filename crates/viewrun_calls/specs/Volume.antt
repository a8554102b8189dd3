-- The volume that a script opens: its levels, by what the first store holds, and the keys of its cells.
use Rattle.std.specs.Prelude.{◌≡◌, ℕ, true, false, Bool, IsTrue, List, [], ◌∷◌, length, Result, Err}
use Rattle.std.specs.Option.{option_or}
use Rattle.std.specs.Result.{result_err}
use Rattle.cell_file.specs.Keys.{KeyNames}
use Rattle.cell_grid.specs.declared.kind.Kind.{Kind}
use Rattle.cell_grid.specs.declared.level.Level.{Level}
use Rattle.cell_grid.specs.GridErr.{broken_grid_rule, broken_level}
use Rattle.cell_store.specs.Store.{Contents, held_of}
use Rattle.n5_meta.specs.declared.open_err.OpenErr.{OpenErr}
use Rattle.n5_meta.specs.declared.open_err.OpenErr.TheVariants as refused
use Rattle.n5_meta.specs.Asks.{Asking, AsksPyramid}
use Rattle.n5_meta.specs.Gets.{Opens}
use Rattle.n5_meta.specs.Pyramid.{AnswersOpened, grid_or, pyramid_in}
use Rattle.view_script.specs.declared.script.Head.{Head}
use Rattle.view_script.specs.declared.script.Head.TheVariants as head
use Rattle.view_script.specs.Script.{root_of}

-- The pyramid under a root was opened: the answer is that of what the store holds, nothing that it holds has changed, and a fault was
-- counted where one is told.
pub record OpensPyramid (root : List ℕ) (old new : Contents) (opened : Result (List Level) OpenErr) : Type 0 where
  pub opens : Opens root old new (result_err opened)
  pub answer : IsTrue old.told → AnswersOpened (λ levels. levels) opened (pyramid_in (held_of old) root)

-- the one level of a raw volume
abbrev pub raw_level : Kind → List ℕ → List ℕ → Level
raw_level kind dims cell = record { extent = record { dims = dims; cell = cell }; factor = 1 ∷ 1 ∷ 1 ∷ []; kind = kind }

-- the levels of a raw volume, or the first rule of the grid that they break
unfoldable pub raw_levels : Kind → List ℕ → List ℕ → Result (List Level) OpenErr
raw_levels kind dims cell =
    grid_or (option_or (broken_grid_rule dims cell) (broken_level (raw_level kind dims cell ∷ []))) (raw_level kind dims cell ∷ [])

-- a function answers what is meant, unless memory runs out
abbrev pub AnswersAlways : Result (List Level) OpenErr → Result (List Level) OpenErr → Type 0
AnswersAlways (Err refused.Memory) meant = Unit {0}
AnswersAlways opened meant = meant ≡ opened

-- what opening a script's volume does to the first store, and answers; a raw volume asks nothing of it
abbrev pub OpensVolume : Head → Contents → Contents → Result (List Level) OpenErr → Type 0
OpensVolume (head.Raw root kind dims cell) old new opened = AnswersAlways opened (raw_levels kind dims cell) × (new ≡ old)
OpensVolume (head.Pyramid root) old new opened = OpensPyramid root old new opened

-- the calls of the stores by which a script's volume is opened, and the answer that they decide; a raw volume asks nothing
abbrev pub AsksVolume : Head → Asking (List Level)
AsksVolume (head.Raw root kind dims cell) calls opened = calls ≡ []
AsksVolume (head.Pyramid root) calls opened = AsksPyramid root calls opened

-- whether the blocks lie right under the root
abbrev pub is_plain : Head → Bool
is_plain (head.Raw root kind dims cell) = true
is_plain (head.Pyramid root) = false

-- the names of the keys of its cells
abbrev pub keys_of : Head → List Level → KeyNames
keys_of head levels = record { levels = levels; root = root_of head; plain = is_plain head }

-- a raw volume has one level
abbrev pub IsMade : Head → List Level → Type 0
IsMade head levels = IsTrue (is_plain head) → length levels ≡ 1
