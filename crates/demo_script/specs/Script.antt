-- The script of the demonstration.
use Rattle.std.specs.Prelude.{ℕ, ℤ, pos, ◌+◌, ◌*◌, ◌%◌, List, [], ◌∷◌, Some, codes, map}
use Rattle.std.specs.List.{range_with_len}
use Rattle.whole_affine.specs.Affine.{Map}
use Rattle.scale_pick.specs.declared.strategy.Strategy.TheVariants.{Blocking}
use Rattle.view_script.specs.declared.command.Command.{Command}
use Rattle.view_script.specs.declared.command.Command.TheVariants.{Set, View}
use Rattle.view_script.specs.declared.script.Head.TheVariants.{Pyramid}
use Rattle.view_script.specs.declared.script.Script.{Script}

-- a call of an actor of the first phase
abbrev pub edit : ℕ → ℕ → Command
edit actor call = Set 0 ((2 * call) ∷ (128 * actor + call % 128) ∷ ((7 * call) % 64) ∷ []) (1000 * actor + call)

-- its first calls
unfoldable pub edits : ℕ → ℕ → List Command
edits actor count = map (edit actor) (range_with_len 0 count)

-- a slice across z, a pixel for each voxel
abbrev pub map_at : ℤ → Map
map_at depth = record { q = 1; rows = (pos 1 ∷ pos 0 ∷ pos 0 ∷ []) ∷ (pos 0 ∷ pos 1 ∷ pos 0 ∷ []) ∷ (pos 0 ∷ pos 0 ∷ depth ∷ []) ∷ [] }

-- a picture of such a slice, in which each voxel is seen
abbrev pub show_at : List ℕ → ℤ → Command
show_at name depth = View name (record { affine = map_at depth; width = 512; height = 512; level = Some 0; strategy = Blocking; low = 0; high = 65535 })

-- the first phase: four actors with 256 edits each
abbrev pub editing : List (List Command)
editing = edits 0 256 ∷ edits 1 256 ∷ edits 2 256 ∷ edits 3 256 ∷ []

-- the second phase: four actors with a picture each
abbrev pub showing : List (List Command)
showing =
    (show_at (codes "demo0") (pos 8) ∷ []) ∷ (show_at (codes "demo1") (pos 24) ∷ []) ∷ (show_at (codes "demo2") (pos 40) ∷ [])
    ∷ (show_at (codes "demo3") (pos 56) ∷ []) ∷ []

abbrev pub demo_script : Script
demo_script = record { head = Pyramid (codes "demo"); range = Some (0 ∷ 65535 ∷ []); phases = editing ∷ showing ∷ [] }
