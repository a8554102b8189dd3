-- A root name is text, since each of its bytes is ASCII.
use Rattle.std.proofs.Common.{◌≡◌, ◌==◌, ℕ, ◌<◌, Bool, true, false, List, [], ◌∷◌, refl, arith}
use Rattle.std.specs.Str.{IsUtf8, IsAscii}
use Rattle.std.specs.List.{list_all, slice_split, onto_first}
use Rattle.std.proofs.lemmas.Grind.{common_steps}
use Rattle.std.proofs.lemmas.Str.{IsUtf8-from_ascii}
use Rattle.std.proofs.lemmas.Str.Ascii.{IsAscii-nil, IsAscii-cons}
use Rattle.plain_data.specs.RootName.{is_root_name, is_part, is_name_byte}

name_byte_is_ascii : (b : ℕ) → is_name_byte b ≡ true → b < 128
name_byte_is_ascii b named = grind (arith, common_steps)

parts_have_name_bytes : (parts : List (List ℕ)) → list_all is_part parts ≡ true → list_all (list_all is_name_byte) parts ≡ true
parts_have_name_bytes [] all = refl
parts_have_name_bytes (part ∷ parts) all =
    let part_passes : is_part part ≡ true = grind (arith, common_steps) in
    let others_pass : list_all is_part parts ≡ true = grind (arith, common_steps) in
    let bytes : list_all is_name_byte part ≡ true = grind (arith, common_steps) in
    let rest : list_all (list_all is_name_byte) parts ≡ true = parts_have_name_bytes parts others_pass in
    grind (arith, common_steps)

first_has_byte : (b : ℕ) (parts : List (List ℕ)) → list_all (list_all is_name_byte) (onto_first b parts) ≡ true → (is_name_byte b ≡ true) × (list_all (list_all is_name_byte) parts ≡ true)
first_has_byte b [] all = (grind (arith, common_steps), refl)
first_has_byte b (part ∷ parts) all = (grind (arith, common_steps), grind (arith, common_steps))

split_is_ascii : (name : List ℕ) → list_all (list_all is_name_byte) (slice_split (λ b. b == 47) name) ≡ true → IsAscii name
split_is_ascii [] all = IsAscii-nil
split_is_ascii (b ∷ name) all = go (split_is_ascii name) (b == 47) refl all
  where
    go : (list_all (list_all is_name_byte) (slice_split (λ b. b == 47) name) ≡ true → IsAscii name) → (slash : Bool) → (b == 47) ≡ slash
        → list_all (list_all is_name_byte) (slice_split (λ b. b == 47) (b ∷ name)) ≡ true → IsAscii (b ∷ name)
    go rest true slash = rw slash (λ all. IsAscii-cons b name (grind (arith, common_steps)) (rest all))
    go rest false other = rw other (λ all. let first = first_has_byte b _ all in IsAscii-cons b name (name_byte_is_ascii b first.0) (rest first.1))

pub root_names_are_text : (word : List ℕ) → is_root_name word ≡ true → IsUtf8 word
root_names_are_text word root =
    let parts : list_all is_part (slice_split (λ b. b == 47) word) ≡ true = grind (arith, common_steps) in
    IsUtf8-from_ascii word (split_is_ascii word (parts_have_name_bytes (slice_split (λ b. b == 47) word) parts))
