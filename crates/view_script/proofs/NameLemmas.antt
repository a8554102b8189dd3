-- A view's name is text, since each of its bytes is ASCII.
use Rattle.std.proofs.Common.{◌≡◌, ℕ, ◌<◌, true, List, [], ◌∷◌, arith}
use Rattle.std.specs.Str.{IsUtf8, IsAscii}
use Rattle.std.specs.List.{list_all}
use Rattle.std.proofs.lemmas.Grind.{common_steps}
use Rattle.std.proofs.lemmas.Str.{IsUtf8-from_ascii}
use Rattle.std.proofs.lemmas.Str.Ascii.{IsAscii-nil, IsAscii-cons}
use Rattle.view_script.specs.Name.{is_view_name_byte, is_view_name}

name_byte_is_ascii : (b : ℕ) → is_view_name_byte b ≡ true → b < 128
name_byte_is_ascii b named = grind (arith, common_steps)

name_bytes_are_ascii : (word : List ℕ) → list_all is_view_name_byte word ≡ true → IsAscii word
name_bytes_are_ascii [] all = IsAscii-nil
name_bytes_are_ascii (b ∷ word) all =
    let first : is_view_name_byte b ≡ true = grind (arith, common_steps) in
    let rest : list_all is_view_name_byte word ≡ true = grind (arith, common_steps) in
    IsAscii-cons b word (name_byte_is_ascii b first) (name_bytes_are_ascii word rest)

pub names_are_text : (word : List ℕ) → is_view_name word ≡ true → IsUtf8 word
names_are_text word named =
    let bytes : list_all is_view_name_byte word ≡ true = grind (arith, common_steps) in
    IsUtf8-from_ascii word (name_bytes_are_ascii word bytes)
