-- The rules for a JSON value and for the members of an object, each with its refusal.
use Rattle.std.specs.Prelude.{◌≡◌, ℕ, List, [], ◌∷◌, length, ◌==◌, Option, Some, None, option_map, option_and_then, is_some, Result, Ok, Err, nat_le, if◌then◌else◌}
use Rattle.std.specs.Option.{ok_or}
use Rattle.std.specs.Str.{is_utf8}
use Rattle.serde_json.specs.Data.{Data, Items, no_items, item}
use Rattle.serde_json.specs.Find.{get, as_array, as_object, as_str, as_number, as_u64}
use Rattle.serde_json.specs.Read.{read as read_text}
use Rattle.n5_meta.specs.declared.member.Member.{Member}
use Rattle.n5_meta.specs.declared.meta_err.MetaErr.{MetaErr}
use Rattle.n5_meta.specs.declared.meta_err.MetaErr.TheVariants.{NotJson, Missing, BadNumber, Axes, Memory}
use Rattle.n5_meta.specs.Member.{member_name}

abbrev pub if_object : Data → Option Data
if_object json = if is_some (as_object json) then Some json else None

-- the bytes are a JSON text, and its value is an object
abbrev pub json_in : List ℕ → Option Data
json_in bytes = if is_utf8 bytes then read_text bytes else None

unfoldable pub object_in : List ℕ → Result Data MetaErr
object_in bytes = ok_or (option_and_then if_object (json_in bytes)) NotJson

-- the member is there and is of the right type
abbrev pub array_member : Member → Data → Result Items MetaErr
array_member member json = ok_or (option_and_then as_array (get (member_name member) json)) (Missing member)

abbrev pub string_at : Member → Data → Result (List ℕ) MetaErr
string_at member json = ok_or (option_and_then as_str (get (member_name member) json)) (Missing member)

abbrev pub object_at : Member → Data → Result Data MetaErr
object_at member json = ok_or (option_and_then if_object (get (member_name member) json)) (Missing member)

-- a whole number from 0 to a bound
abbrev pub number_up_to : ℕ → Data → Option ℕ
number_up_to most json = option_and_then (λ n. if nat_le n most then Some n else None) (option_and_then as_u64 (as_number json))

-- whole numbers, all from 0 to a bound
abbrev pub numbers_up_to : ℕ → Items → Option (List ℕ)
numbers_up_to most no_items = Some []
numbers_up_to most (item first items) = option_and_then (λ n. option_map (λ ns. n ∷ ns) (numbers_up_to most items)) (number_up_to most first)

abbrev pub numbers_or : Member → ℕ → Items → Result (List ℕ) MetaErr
numbers_or member most items = ok_or (numbers_up_to most items) (BadNumber member)

-- one number for each axis
abbrev pub three : List ℕ → Result (List ℕ) MetaErr
three numbers = if length numbers == 3 then Ok numbers else Err (Axes (length numbers))

-- a function gives what is meant
abbrev pub GivesValue : {X Y E : Type 0} → (X → Y) → Result X E → Result Y E → Type 0
GivesValue view (Ok x) meant = meant ≡ Ok (view x)
GivesValue view (Err err) meant = meant ≡ Err err

-- a function answers what is meant, unless memory runs out
abbrev pub AnswersRead : {X Y : Type 0} → (X → Y) → Result X MetaErr → Result Y MetaErr → Type 0
AnswersRead view (Ok x) meant = meant ≡ Ok (view x)
AnswersRead view (Err Memory) meant = Unit {0}
AnswersRead view (Err err) meant = meant ≡ Err err
