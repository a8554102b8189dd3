-- The members of attributes.
use Rattle.std.specs.Prelude.{ℕ, List, codes}
use Rattle.n5_meta.specs.declared.member.Member.{Member}
use Rattle.n5_meta.specs.declared.member.Member.TheVariants.{Dimensions, BlockSize, DataType, Compression, Factors}

-- its name in a JSON text
abbrev pub member_name : Member → List ℕ
member_name Dimensions = codes "dimensions"
member_name BlockSize = codes "blockSize"
member_name DataType = codes "dataType"
member_name Compression = codes "compression"
member_name Factors = codes "downsamplingFactors"
