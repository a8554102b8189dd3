-- The attributes of a dataset, or the first rule that they break.
use Rattle.std.specs.Prelude.{ℕ, ◌-◌, ◌^◌, List, Bool, false, option_and_then, Result, Ok, Err, if◌then◌else◌, codes}
use Rattle.std.specs.Option.{option_map_or}
use Rattle.std.specs.Str.{bytes_eq}
use Rattle.serde_json.specs.Data.{Data, Items}
use Rattle.serde_json.specs.Find.{get, as_str}
use Rattle.cell_grid.specs.declared.kind.Kind.{Kind}
use Rattle.cell_grid.specs.declared.kind.Kind.TheVariants.{U8, U16, U32, U64}
use Rattle.n5_meta.specs.declared.attr.Attr.{Attr}
use Rattle.n5_meta.specs.declared.member.Member.TheVariants.{Dimensions, BlockSize, DataType, Compression}
use Rattle.n5_meta.specs.declared.meta_err.MetaErr.{MetaErr}
use Rattle.n5_meta.specs.declared.meta_err.MetaErr.TheVariants as broken
use Rattle.n5_meta.specs.Rules.{◌>>=◌}
use Rattle.n5_meta.specs.Value.{object_in, array_member, string_at, object_at, numbers_or, three}

abbrev pub kind_or : List ℕ → Result Kind MetaErr
kind_or text =
    if bytes_eq text (codes "uint8") then Ok U8 else
    if bytes_eq text (codes "uint16") then Ok U16 else
    if bytes_eq text (codes "uint32") then Ok U32 else
    if bytes_eq text (codes "uint64") then Ok U64 else Err broken.Kind

-- whether a compression has the type raw
abbrev pub is_raw : Data → Bool
is_raw compression = option_map_or (λ text. bytes_eq text (codes "raw")) (option_and_then as_str (get (codes "type") compression)) false

abbrev pub raw_or : Attr → Data → Result Attr MetaErr
raw_or attr compression = if is_raw compression then Ok attr else Err broken.Compressed

-- the rules for the items of the dimensions and of the block size, for the data type and for the compression, in order
unfoldable pub attr_of : Items → Items → List ℕ → Data → Result Attr MetaErr
attr_of dims_items cell_items kind_text compression = do
  dims_numbers ← numbers_or Dimensions (2 ^ 64 - 1) dims_items
  cell_numbers ← numbers_or BlockSize (2 ^ 32 - 1) cell_items
  dims ← three dims_numbers
  cell ← three cell_numbers
  kind ← kind_or kind_text
  raw_or (record { dims = dims; cell = cell; kind = kind }) compression

-- the rules for an object, in order
unfoldable pub attributes_of : Data → Result Attr MetaErr
attributes_of json = do
  dims_items ← array_member Dimensions json
  cell_items ← array_member BlockSize json
  kind_text ← string_at DataType json
  compression ← object_at Compression json
  attr_of dims_items cell_items kind_text compression

unfoldable pub attributes_in : List ℕ → Result Attr MetaErr
attributes_in bytes = do
  json ← object_in bytes
  attributes_of json
