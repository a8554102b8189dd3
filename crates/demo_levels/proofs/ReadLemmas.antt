-- What each of the demonstration's attributes says, and what the levels that they describe are.
use Rattle.std.proofs.Common.{◌≡◌, ◌∙◌, ℕ, List, [], ◌∷◌, Option, Some, Ok, codes, refl, ap, arith}
use Rattle.std.specs.Fmt.{digits}
use Rattle.std.specs.Str.{is_utf8, chars}
use Rattle.serde_json.proofs.OnLiterals.{serde_json_on_literals}
use Rattle.cell_grid.specs.declared.kind.Kind.TheVariants.{U16}
use Rattle.cell_grid.specs.GridErr.{broken_level}
use Rattle.demo_volume.specs.Levels.{levels}
use Rattle.demo_volume.specs.Puts.{setup_attributes, fine_attributes, coarse_attributes}
use Rattle.n5_meta.specs.declared.attr.Attr.{Attr}
use Rattle.n5_meta.specs.declared.described.Described.{Described}
use Rattle.n5_meta.specs.Attr.{attributes_in, attributes_of, attr_of}
use Rattle.n5_meta.specs.Factors.{factors_in, factors_of}
use Rattle.n5_meta.specs.Pyramid.{attr_in, described_from, grid_or, levels_of, pyramid_in, setup_in}
use Rattle.n5_meta.specs.Rules.{◌>>=◌}
use Rattle.n5_meta.specs.Value.{object_in}
use Rattle.demo_levels.specs.Reading.{DemoIsRead}
use lib.Utf8.{encode}

abbrev factors : List (List ℕ)
factors = (1 ∷ 1 ∷ 1 ∷ []) ∷ (2 ∷ 2 ∷ 2 ∷ []) ∷ []

abbrev fine : Attr
fine = record { dims = 512 ∷ 512 ∷ 64 ∷ []; cell = 32 ∷ 32 ∷ 16 ∷ []; kind = U16 }

abbrev coarse : Attr
coarse = record { dims = 256 ∷ 256 ∷ 32 ∷ []; cell = 32 ∷ 32 ∷ 16 ∷ []; kind = U16 }

abbrev described : List Described
described = record { factor = 1 ∷ 1 ∷ 1 ∷ []; attr = fine } ∷ record { factor = 2 ∷ 2 ∷ 2 ∷ []; attr = coarse } ∷ []

setup_reads : setup_in (Some setup_attributes.bytes) ≡ Ok factors
unfolding setup_in factors_in factors_of object_in is_utf8 chars encode serde_json_on_literals
setup_reads = refl

fine_reads : attr_in 0 (Some fine_attributes.bytes) ≡ Ok fine
unfolding attr_in attributes_in attributes_of attr_of object_in is_utf8 chars encode serde_json_on_literals
fine_reads = refl

coarse_reads : attr_in 1 (Some coarse_attributes.bytes) ≡ Ok coarse
unfolding attr_in attributes_in attributes_of attr_of object_in is_utf8 chars encode serde_json_on_literals
coarse_reads = refl

levels_made : ((levels_of described) >>= (λ made. grid_or (broken_level made) made)) ≡ Ok levels
levels_made = refl

module _ (held : List ℕ → Option (List ℕ)) where
  coarse_described : held coarse_attributes.key ≡ Some coarse_attributes.bytes → described_from held (codes "demo") 1 ((2 ∷ 2 ∷ 2 ∷ []) ∷ []) ≡ Ok (record { factor = 2 ∷ 2 ∷ 2 ∷ []; attr = coarse } ∷ [])
  unfolding digits
  coarse_described holds = ap (λ r. r >>= (λ attr. Ok (record { factor = 2 ∷ 2 ∷ 2 ∷ []; attr = attr } ∷ []))) (ap (attr_in 1) holds ∙ coarse_reads)

  levels_described : held fine_attributes.key ≡ Some fine_attributes.bytes → held coarse_attributes.key ≡ Some coarse_attributes.bytes → described_from held (codes "demo") 0 factors ≡ Ok described
  unfolding digits
  levels_described fine_holds coarse_holds =
      ap (λ r. r >>= (λ attr. (described_from held (codes "demo") 1 ((2 ∷ 2 ∷ 2 ∷ []) ∷ [])) >>= (λ others. Ok (record { factor = 1 ∷ 1 ∷ 1 ∷ []; attr = attr } ∷ others)))) (ap (attr_in 0) fine_holds ∙ fine_reads)
      ∙ ap (λ r. r >>= (λ others. Ok (record { factor = 1 ∷ 1 ∷ 1 ∷ []; attr = fine } ∷ others))) (coarse_described coarse_holds)

  opened : held setup_attributes.key ≡ Some setup_attributes.bytes → held fine_attributes.key ≡ Some fine_attributes.bytes → held coarse_attributes.key ≡ Some coarse_attributes.bytes
      → pyramid_in held (codes "demo") ≡ Ok levels
  unfolding pyramid_in
  opened setup_holds fine_holds coarse_holds =
      ap (λ r. r >>= (λ told. (described_from held (codes "demo") 0 told) >>= (λ these. (levels_of these) >>= (λ made. grid_or (broken_level made) made)))) (ap setup_in setup_holds ∙ setup_reads)
      ∙ ap (λ r. r >>= (λ these. (levels_of these) >>= (λ made. grid_or (broken_level made) made))) (levels_described fine_holds coarse_holds)
      ∙ levels_made

pub demo_read : DemoIsRead
demo_read held holds = opened held (holds 0 setup_attributes (omega arith)) (holds 1 setup_attributes (omega arith)) (holds 2 setup_attributes (omega arith))
