-- Two writings of pictures that nothing tells apart, over stores that hold the same under some keys.
use Rattle.std.specs.Prelude.{◌≡◌, ℕ, Bool, false, IsTrue, List, [], ◌∷◌, ◌++◌, map}
use Rattle.std.specs.List.{list_any}
use Rattle.std.specs.Str.{bytes_eq}
use Rattle.cell_store.specs.Store.{Contents, held_of}
use Rattle.run_report.specs.declared.report.Unwritten.{Unwritten}
use Rattle.run_report.specs.declared.shot.Shot.{Shot}
use Rattle.store_calls.specs.Calls.{StoreCall, FailAlike}
use Rattle.viewrun_calls.specs.Pictures.{PutsWith, picture_key}

-- the same pictures under the same names, as far as they are shown
abbrev pub ShotsAgree : List Shot → List Shot → Type 0
ShotsAgree [] [] = Unit {0}
ShotsAgree (s ∷ shots) (t ∷ others) = (t.name ≡ s.name) × (t.shown ≡ s.shown) × (IsTrue s.shown → t.picture ≡ s.picture) × ShotsAgree shots others
ShotsAgree shots others = ⊥

-- the same names and causes
pub record NamedAlike (unwritten others : List Unwritten) : Type 0 where
  pub names : map (λ (u : Unwritten). u.name.bytes) others ≡ map (λ (u : Unwritten). u.name.bytes) unwritten
  pub causes : map (λ (u : Unwritten). u.memory) others ≡ map (λ (u : Unwritten). u.memory) unwritten

-- Two stores tell what they hold, and hold the same under some keys.
pub record HoldAlikeUnder (Key : List ℕ → Type 0) (a b : Contents) : Type 0 where
  pub first : IsTrue a.told
  pub second : IsTrue b.told
  pub same : (key : List ℕ) → Key key → (held_of b) key ≡ (held_of a) key

-- whether a key is that of a picture that is named unwritten
abbrev pub is_unwritten : List Unwritten → List ℕ → Bool
is_unwritten unwritten key = list_any (λ (u : Unwritten). bytes_eq (picture_key u.name.bytes) key) unwritten

-- Two writings of the same pictures whose puts fail alike ask the same and name the same, and the stores then hold the same under those keys, but
-- where a picture is named unwritten.
abbrev pub WritingsAreAlike : Type 1
WritingsAreAlike = (Key : List ℕ → Type 0) (shots others : List Shot) (a b a' b' : Contents) (k l m n : List StoreCall) (u v : List Unwritten)
    → ShotsAgree shots others → HoldAlikeUnder Key a b → PutsWith shots k a a' u → PutsWith others l b b' v → FailAlike (k ++ m) (l ++ n)
    → NamedAlike u v × (l ≡ k) × FailAlike m n × HoldAlikeUnder (λ key. Key key × (is_unwritten u key ≡ false)) a' b'
