-- The demonstration's attributes as they are read.
use Rattle.std.specs.Prelude.{◌≡◌, ℕ, List, Option, Some, Ok, All, codes}
use Rattle.demo_volume.specs.Levels.{levels}
use Rattle.demo_volume.specs.Puts.{MadeKey, attributes}
use Rattle.n5_meta.specs.Pyramid.{pyramid_in}

-- Each of the demonstration's attributes is held under its key.
abbrev pub HoldsAttributes : (List ℕ → Option (List ℕ)) → Type 0
HoldsAttributes held = All (λ (made : MadeKey). held made.key ≡ Some made.bytes) attributes

-- Where they are held, opening the demonstration's pyramid gives its levels.
abbrev pub DemoIsRead : Type 0
DemoIsRead = (held : List ℕ → Option (List ℕ)) → HoldsAttributes held → pyramid_in held (codes "demo") ≡ Ok levels
