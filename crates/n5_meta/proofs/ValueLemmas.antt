-- What is read of bytes that may be no text, and of a value that may be no object.
use Rattle.std.proofs.Common.{◌≡◌, ℕ, List, Bool, true, false, Some, None, Ok, Err, refl}
use Rattle.std.specs.Prelude.{if◌then◌else◌, is_some}
use Rattle.std.specs.Str.{IsUtf8, is_utf8}
use Rattle.std.proofs.lemmas.Str.{IsUtf8-from_is_utf8, is_utf8-from_IsUtf8}
use Rattle.serde_json.specs.Data.{Data}
use Rattle.serde_json.specs.Find.{as_object}
use Rattle.serde_json.specs.Read.{read as read_text}
use Rattle.n5_meta.specs.Value.{object_in, json_in}
use Rattle.n5_meta.specs.declared.meta_err.MetaErr.TheVariants.{NotJson}

json_read : (bytes : List ℕ) (d : Data) → IsUtf8 bytes → read_text bytes ≡ Some d → json_in bytes ≡ Some d
json_read bytes d text is = rw (is_utf8-from_IsUtf8 bytes text) is

json_not_read : (bytes : List ℕ) → (IsUtf8 bytes → read_text bytes ≡ None) → json_in bytes ≡ None
json_not_read bytes none = go (is_utf8 bytes) refl
  where
    go : (text : Bool) → is_utf8 bytes ≡ text → (if text then read_text bytes else None) ≡ None
    go true e = none (IsUtf8-from_is_utf8 bytes e)
    go false e = refl

pub object_read : (bytes : List ℕ) (d : Data) → IsUtf8 bytes → read_text bytes ≡ Some d → is_some (as_object d) ≡ true → object_in bytes ≡ Ok d
unfolding object_in
object_read bytes d text is object = rw (json_read bytes d text is, object) refl

pub no_object : (bytes : List ℕ) (d : Data) → IsUtf8 bytes → read_text bytes ≡ Some d → is_some (as_object d) ≡ false → object_in bytes ≡ Err NotJson
unfolding object_in
no_object bytes d text is none = rw (json_read bytes d text is, none) refl

pub not_read : (bytes : List ℕ) → (IsUtf8 bytes → read_text bytes ≡ None) → object_in bytes ≡ Err NotJson
unfolding object_in
not_read bytes none = rw (json_not_read bytes none) refl
