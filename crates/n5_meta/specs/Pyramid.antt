-- The levels of a pyramid by what a store holds, or the first rule that is broken.
use Rattle.std.specs.Prelude.{◌≡◌, ℕ, ◌+◌, ◌^◌, ◌++◌, List, [], ◌∷◌, length, Bool, ◌&&◌, Option, Some, None, Result, Ok, Err, nat_lt, nat_le, if◌then◌else◌, codes}
use Rattle.std.specs.Fmt.{decimal}
use Rattle.cell_grid.specs.declared.level.Level.{Level}
use Rattle.cell_grid.specs.Grid.{Sides}
use Rattle.cell_grid.specs.GridErr.{broken_grid_rule, broken_level}
use Rattle.cell_grid.specs.declared.grid_err.GridErr.{GridErr}
use Rattle.n5_meta.specs.declared.attr.Attr.{Attr}
use Rattle.n5_meta.specs.declared.described.Described.{Described}
use Rattle.n5_meta.specs.declared.meta_err.MetaErr.{MetaErr}
use Rattle.n5_meta.specs.declared.meta_err.MetaErr.TheVariants as broken
use Rattle.n5_meta.specs.declared.open_err.OpenErr.{OpenErr}
use Rattle.n5_meta.specs.declared.open_err.OpenErr.TheVariants as refused
use Rattle.n5_meta.specs.declared.spot.Spot.{Spot}
use Rattle.n5_meta.specs.declared.spot.Spot.TheVariants as spot
use Rattle.n5_meta.specs.Attr.{attributes_in}
use Rattle.n5_meta.specs.Factors.{factors_in}
use Rattle.n5_meta.specs.Rules.{◌>>=◌}

-- the keys of a pyramid's attributes
abbrev pub setup_key : List ℕ → List ℕ
setup_key root = root ++ codes "/setup0/attributes.json"

abbrev pub level_key : List ℕ → ℕ → List ℕ
level_key root level = root ++ (codes "/setup0/timepoint0/s" ++ (decimal level ++ codes "/attributes.json"))

-- the bytes that a key holds, at most 2^20
abbrev pub bytes_or : Spot → Option (List ℕ) → Result (List ℕ) OpenErr
bytes_or where' None = Err (refused.NoAttributes where')
bytes_or where' (Some bytes) = if nat_lt (2 ^ 20) (length bytes) then Err (refused.TooLong where' (length bytes)) else Ok bytes

-- a refusal of attributes, with where they stand
abbrev pub at_spot : {A : Type 0} → Spot → Result A MetaErr → Result A OpenErr
at_spot where' (Ok x) = Ok x
at_spot where' (Err err) = Err (refused.Meta where' err)

-- a refusal of attributes, unless memory ran out
abbrev pub refusal_at : Spot → MetaErr → OpenErr
refusal_at where' broken.Memory = refused.Memory
refusal_at where' err = refused.Meta where' err

-- there are 1 to 8 levels
abbrev pub are_few : ℕ → Bool
are_few levels = nat_lt 0 levels && nat_le levels 8

abbrev pub few_levels : List (List ℕ) → Result (List (List ℕ)) OpenErr
few_levels factors = if are_few (length factors) then Ok factors else Err (refused.LevelCount (length factors))

unfoldable pub setup_in : Option (List ℕ) → Result (List (List ℕ)) OpenErr
setup_in held = do
  bytes ← bytes_or spot.Setup held
  factors ← at_spot spot.Setup (factors_in bytes)
  few_levels factors

unfoldable pub attr_in : ℕ → Option (List ℕ) → Result Attr OpenErr
attr_in level held = do
  bytes ← bytes_or (spot.Level level) held
  at_spot (spot.Level level) (attributes_in bytes)

-- the levels from one on as they are described, one for each list of factors
abbrev pub described_from : (List ℕ → Option (List ℕ)) → List ℕ → ℕ → List (List ℕ) → Result (List Described) OpenErr
described_from held root level [] = Ok []
described_from held root level (factor ∷ factors) = do
  attr ← attr_in level (held (level_key root level))
  others ← described_from held root (level + 1) factors
  Ok (record { factor = factor; attr = attr } ∷ others)

-- no rule of the grid is broken
abbrev pub grid_or : {A : Type 0} → Option GridErr → A → Result A OpenErr
grid_or None x = Ok x
grid_or (Some err) x = Err (refused.Grid err)

abbrev pub extent_of : Attr → Result Sides OpenErr
extent_of attr = grid_or (broken_grid_rule attr.dims attr.cell) (record { dims = attr.dims; cell = attr.cell })

-- the levels as they are described
abbrev pub levels_of : List Described → Result (List Level) OpenErr
levels_of [] = Ok []
levels_of (described ∷ others) = do
  extent ← extent_of described.attr
  levels ← levels_of others
  Ok (record { extent = extent; factor = described.factor; kind = described.attr.kind } ∷ levels)

-- what is got and read in order, then the extents, then the pyramid
unfoldable pub pyramid_in : (List ℕ → Option (List ℕ)) → List ℕ → Result (List Level) OpenErr
pyramid_in held root = do
  factors ← setup_in (held (setup_key root))
  described ← described_from held root 0 factors
  levels ← levels_of described
  grid_or (broken_level levels) levels

-- a function answers what is meant, unless the store fails or memory runs out
abbrev pub AnswersOpened : {X Y : Type 0} → (X → Y) → Result X OpenErr → Result Y OpenErr → Type 0
AnswersOpened view (Ok x) meant = meant ≡ Ok (view x)
AnswersOpened view (Err refused.ReadFault) meant = Unit {0}
AnswersOpened view (Err refused.Memory) meant = Unit {0}
AnswersOpened view (Err err) meant = meant ≡ Err err
