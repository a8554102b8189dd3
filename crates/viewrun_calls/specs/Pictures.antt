-- The pictures of a run: their files, their keys, and what putting them does to a store.
use Rattle.std.specs.Prelude.{◌≡◌, ℕ, ◌<◌, Bool, true, false, not, IsTrue, All, List, [], ◌∷◌, ◌++◌, Some, codes, map, sum_by, count_by}
use Rattle.std.specs.Fmt.{decimal}
use Rattle.std.specs.Str.{bytes_eq}
use Rattle.cell_file.specs.Keys.{KeyNames, edited_key}
use Rattle.cell_file.specs.Standing.{standing}
use Rattle.cell_grid.specs.declared.level.Level.{Level}
use Rattle.cell_grid.specs.Pyramid.{cells_of}
use Rattle.cell_store.specs.Store.{Contents, Puts, held_of}
use Rattle.cell_store.specs.declared.store.Put.{Put}
use Rattle.cell_store.specs.declared.store.Put.TheVariants as put
use Rattle.run_report.specs.declared.report.Unwritten.{Unwritten}
use Rattle.run_report.specs.declared.shot.Shot.{Shot}
use Rattle.run_report.specs.Words.{◌␣◌, line}
use Rattle.scale_pick.specs.Picture.{Pixels}
use Rattle.sole_cache.specs.Moves.{is_get, is_put}
use Rattle.store_calls.specs.Calls.{StoreCall, Putting, AreCalled}
use Rattle.view_script.specs.declared.command.Command.{Command}
use Rattle.view_script.specs.declared.command.Command.TheVariants.{View}
use Rattle.view_script.specs.Meaning.{is_named}

-- a picture's file, a PGM P5: its sides and the greatest value, and then a byte for each pixel, row by row from the top
abbrev pub header_of : Pixels → List ℕ
header_of p = line (codes "P5") ++ line (decimal p.width ␣ decimal p.height) ++ line (codes "255")

abbrev pub file_of : Pixels → List ℕ
file_of p = header_of p ++ p.values

-- views/NAME.pgm
abbrev pub picture_key : List ℕ → List ℕ
picture_key name = codes "views/" ++ (name ++ codes ".pgm")

-- a picture is named unwritten, and whether memory was wanting
abbrev pub Names : Shot → Bool → List Unwritten → Type 0
Names shot memory told = (u : Unwritten) × (told ≡ u ∷ []) × (u.name.bytes ≡ shot.name) × (u.memory ≡ memory)

-- what is told of a put: nothing where it was done
abbrev pub TellsPut : Shot → Put → List Unwritten → Type 0
TellsPut shot put.Done told = told ≡ []
TellsPut shot put.Failed told = Names shot false told
TellsPut shot put.NoMemory told = Names shot true told

-- a picture that is shown is put under its key, with one put, and no other is
abbrev pub PutsWhere : Bool → Shot → Contents → Contents → List Unwritten → Type 0
PutsWhere true shot old new told = (answer : Put) × Puts old new (picture_key shot.name) (file_of shot.picture) answer × TellsPut shot answer told
PutsWhere false shot old new told = (new ≡ old) × (told ≡ [])

abbrev pub PutsShot : Shot → Contents → Contents → List Unwritten → Type 0
PutsShot shot old new told = PutsWhere shot.shown shot old new told

-- Pictures are put one after another, and those whose puts were not done are named in this order.
abbrev pub PutsShots : List Shot → Contents → Contents → List Unwritten → Type 0
PutsShots [] old new told = (new ≡ old) × (told ≡ [])
PutsShots (s ∷ shots) old new told =
    (mid : Contents) × (first : List Unwritten) × (rest : List Unwritten) × (told ≡ first ++ rest) × PutsShot s old mid first × PutsShots shots mid new rest

-- one put of a picture that is shown, and none of another; it is named unwritten where that was not done
abbrev pub IsPutWhere : Bool → Shot → List StoreCall → List Unwritten → Type 0
IsPutWhere true shot calls told = (answer : Put) × (calls ≡ Putting 0 (picture_key shot.name) (file_of shot.picture) answer ∷ []) × TellsPut shot answer told
IsPutWhere false shot calls told = (calls ≡ []) × (told ≡ [])

-- the puts of pictures in their order, and those that are named unwritten
abbrev pub ArePuts : List Shot → List StoreCall → List Unwritten → Type 0
ArePuts [] calls told = (calls ≡ []) × (told ≡ [])
ArePuts (s ∷ shots) calls told =
    (asked : List StoreCall) × (more : List StoreCall) × (first : List Unwritten) × (rest : List Unwritten)
    × (calls ≡ asked ++ more) × (told ≡ first ++ rest) × IsPutWhere s.shown s asked first × ArePuts shots more rest

-- Pictures are put into a store by these calls. A put that found no memory may stand in no log.
pub record PutsWith (shots : List Shot) (calls : List StoreCall) (old new : Contents) (told : List Unwritten) : Type 0 where
  pub are : ArePuts shots calls told
  pub called : AreCalled calls (old ∷ []) (new ∷ [])

-- A picture was put, and is named behind those before, where its put was not done.
pub record AddsShot (shot : Shot) (old new : Contents) (before after : List Unwritten) : Type 0 where
  pub told : List Unwritten
  pub added : after ≡ before ++ told
  pub puts : PutsShot shot old new told

-- what is told of a put stands behind what was told before
abbrev pub TellsBehind : Put → Shot → List Unwritten → List Unwritten → Type 0
TellsBehind put shot before after = (told : List Unwritten) × (after ≡ before ++ told) × TellsPut shot put told

-- a picture is named unwritten behind those before
abbrev pub NamesBehind : Shot → Bool → List Unwritten → List Unwritten → Type 0
NamesBehind shot memory before after = (told : List Unwritten) × (after ≡ before ++ told) × Names shot memory told

-- A picture that is shown stands under its key, unless it is named unwritten.
abbrev pub IsWritten : List Unwritten → Contents → Shot → Type 0
IsWritten unwritten new s = IsTrue s.shown → is_named (map (λ u. u.name.bytes) unwritten) s.name ≡ false → (held_of new) (picture_key s.name) ≡ Some (file_of s.picture)

-- A store stands for what it stood for, at each cell.
abbrev pub StandsAlike : List Level → KeyNames → Contents → Contents → Type 0
StandsAlike levels keys old new = IsTrue old.told → (n : ℕ) → n < cells_of levels → standing levels keys (held_of new) n ≡ standing levels keys (held_of old) n

-- Its log, where it is told, has as many puts and as many gets that were done under the edited key of each cell.
pub record CountsAlike (levels : List Level) (old new : Contents) (n : ℕ) : Type 0 where
  pub puts : count_by (is_put (edited_key levels n)) new.log ≡ count_by (is_put (edited_key levels n)) old.log
  pub gets : count_by (is_get (edited_key levels n)) new.log ≡ count_by (is_get (edited_key levels n)) old.log

-- a key that is not that of a picture that is shown
abbrev pub IsOther : List Shot → List ℕ → Type 0
IsOther shots key = All (λ s. IsTrue s.shown → bytes_eq (picture_key s.name) key ≡ false) shots

-- Where a view was refused, its key holds what it held.
abbrev pub KeepsHidden : Contents → Contents → Shot → Type 0
KeepsHidden old new s = s.shown ≡ false → (held_of new) (picture_key s.name) ≡ (held_of old) (picture_key s.name)

-- The pictures of a run were put into a store, none under the key of a cell or of another picture.
pub record WritesPictures (levels : List Level) (keys : KeyNames) (shots : List Shot) (unwritten : List Unwritten) (old new : Contents) : Type 0 where
  pub puts : PutsShots shots old new unwritten
  pub written : IsTrue old.told → All (IsWritten unwritten new) shots
  -- no other key was written, and so none of a refused view
  pub others : IsTrue old.told → (key : List ℕ) → IsOther shots key → (held_of new) key ≡ (held_of old) key
  pub hidden : IsTrue old.told → All (KeepsHidden old new) shots
  pub stands : StandsAlike levels keys old new
  pub counts : IsTrue old.told_log → (n : ℕ) → n < cells_of levels → CountsAlike levels old new n

-- how many pictures a store failed to take
abbrev pub failed_pictures : List Unwritten → ℕ
failed_pictures unwritten = count_by (λ u. not u.memory) unwritten

-- how many views all actors of all phases have
abbrev pub is_view_command : Command → Bool
is_view_command (View name view) = true
is_view_command other = false

abbrev pub view_count : List (List (List Command)) → ℕ
view_count phases = sum_by (sum_by (count_by is_view_command)) phases
