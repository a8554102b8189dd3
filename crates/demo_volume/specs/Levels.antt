-- The levels of the demonstration, and the names of its keys.
use Rattle.std.specs.Prelude.{[], ◌∷◌, List, codes, false}
use Rattle.cell_grid.specs.declared.kind.Kind.TheVariants.{U16}
use Rattle.cell_grid.specs.declared.level.Level.{Level}
use Rattle.cell_file.specs.Keys.{KeyNames}

abbrev pub fine_level : Level
fine_level = record { extent = record { dims = 512 ∷ 512 ∷ 64 ∷ []; cell = 32 ∷ 32 ∷ 16 ∷ [] }; factor = 1 ∷ 1 ∷ 1 ∷ []; kind = U16 }

abbrev pub coarse_level : Level
coarse_level = record { extent = record { dims = 256 ∷ 256 ∷ 32 ∷ []; cell = 32 ∷ 32 ∷ 16 ∷ [] }; factor = 2 ∷ 2 ∷ 2 ∷ []; kind = U16 }

abbrev pub levels : List Level
levels = fine_level ∷ coarse_level ∷ []

abbrev pub key_names : KeyNames
key_names = record { levels = levels; root = codes "demo"; plain = false }
