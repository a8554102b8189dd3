-- A picture that is shown and not named stands under its key, once all are put, and the key of one that isn't holds what it held.
use Rattle.std.proofs.Common.{◌≡◌, ◌∙◌, ℕ, ◌||◌, Bool, true, false, cond, All, List, [], ◌∷◌, ◌++◌, Some, codes, map, refl, sym, ap, subst}
use Rattle.std.specs.Prelude.{IsTrue}
use Rattle.std.specs.List.{AllByRecursion, IsDistinct, list_any}
use Rattle.std.specs.Str.{bytes_eq}
use Rattle.std.proofs.lemmas.List.{append_cancel_left, append_cancel_right, map-append}
use Rattle.std.proofs.lemmas.List.Elements.{All-cons, All-nil}
use Rattle.std.proofs.lemmas.List.Folds.{list_any-append}
use Rattle.std.proofs.lemmas.Map.Keys.{IsDistinct-head, IsDistinct-tail}
use Rattle.std.proofs.lemmas.Slice.Eq.{bytes_eq-Decides}
use Rattle.cell_store.specs.Store.{Contents, Puts, held_of}
use Rattle.cell_store.specs.declared.store.Put.{Put}
use Rattle.cell_store.specs.declared.store.Put.TheVariants as put
use Rattle.run_report.specs.declared.report.Unwritten.{Unwritten}
use Rattle.run_report.specs.declared.shot.Shot.{Shot}
use Rattle.view_script.specs.Meaning.{is_named}
use Rattle.viewrun_calls.specs.Pictures.{IsWritten, KeepsHidden, Names, PutsShots, PutsWhere, TellsPut, file_of, picture_key}
use Rattle.viewrun_calls.proofs.KeyLemmas.{differ}
use Rattle.viewrun_calls.proofs.PictureLemmas.{AreElsewhere, all_keep, told_after, where_keeps}
use Rattle.viewrun_calls.proofs.ViewLemmas.{shot_name}

abbrev unwritten_name : Unwritten → List ℕ
unwritten_name u = u.name.bytes

clash : {A : Type 0} (b : Bool) → b ≡ true → b ≡ false → A
clash true is not_so = absurd (cc)
clash false is not_so = absurd (cc)

same_key : (key : List ℕ) → bytes_eq key key ≡ true
same_key key = (bytes_eq-Decides key key).1 refl

-- names that differ have keys that differ
one_key : (name other : List ℕ) → picture_key name ≡ picture_key other → name ≡ other
one_key name other e = append_cancel_right name other (codes ".pgm") (append_cancel_left (codes "views/") (name ++ codes ".pgm") (other ++ codes ".pgm") e)

other_key : (name other : List ℕ) → bytes_eq name other ≡ false → bytes_eq (picture_key other) (picture_key name) ≡ false
other_key name other ne = differ (picture_key other) (picture_key name) (λ e. clash (bytes_eq name other) ((bytes_eq-Decides name other).1 (sym (one_key other name e))) ne)

other_keys : (name : List ℕ) (shots : List Shot) → AllByRecursion (λ other. bytes_eq name other ≡ false) (map shot_name shots)
    → AreElsewhere shots (picture_key name)
other_keys name [] ne = tt
other_keys name (s ∷ shots) ne = (λ shown. other_key name s.name ne.0, other_keys name shots ne.1)

-- a picture that was not put is named
named_one : (s : Shot) (memory : Bool) (u : List Unwritten) → Names s memory u → is_named (map unwritten_name u) s.name ≡ true
named_one s memory u (one, is, name, cause) =
    ap (λ (l : List Unwritten). is_named (map unwritten_name l) s.name) is ∙ ap (λ (b : Bool). b || false) (ap (bytes_eq s.name) name ∙ same_key s.name)

put_written : (s : Shot) (a b : Contents) (u : List Unwritten) (answer : Put) → Puts a b (picture_key s.name) (file_of s.picture) answer → TellsPut s answer u → IsTrue a.told
    → is_named (map unwritten_name u) s.name ≡ false → (held_of b) (picture_key s.name) ≡ Some (file_of s.picture)
put_written s a b u put.Done puts tells told unnamed =
    puts.leaves told (picture_key s.name) ∙ ap (λ (same : Bool). cond same (Some (file_of s.picture)) ((held_of a) (picture_key s.name))) (same_key (picture_key s.name))
put_written s a b u put.Failed puts tells told unnamed = clash _ (named_one s false u tells) unnamed
put_written s a b u put.NoMemory puts tells told unnamed = clash _ (named_one s true u tells) unnamed

where_written : (shown : Bool) (s : Shot) (a b : Contents) (u : List Unwritten) → PutsWhere shown s a b u → IsTrue shown → IsTrue a.told
    → is_named (map unwritten_name u) s.name ≡ false → (held_of b) (picture_key s.name) ≡ Some (file_of s.picture)
where_written true s a b u (answer, puts, tells) shown told unnamed = put_written s a b u answer puts tells told unnamed
where_written false s a b u puts shown told unnamed = absurd (cc)

-- a name that is in neither part
neither_named : (u first rest : List Unwritten) (name : List ℕ) → u ≡ first ++ rest → is_named (map unwritten_name u) name ≡ false
    → (is_named (map unwritten_name first) name ≡ false) × (is_named (map unwritten_name rest) name ≡ false)
neither_named u first rest name split unnamed = neither _ _ (sym both ∙ unnamed)
  where
    both : is_named (map unwritten_name u) name ≡ (is_named (map unwritten_name first) name || is_named (map unwritten_name rest) name)
    both = ap (λ (l : List Unwritten). is_named (map unwritten_name l) name) split ∙ ap (list_any (bytes_eq name)) (map-append unwritten_name first rest)
        ∙ list_any-append (bytes_eq name) (map unwritten_name first) (map unwritten_name rest)

    neither : (b d : Bool) → (b || d) ≡ false → (b ≡ false) × (d ≡ false)
    neither true d e = absurd (cc)
    neither false d e = (refl, e)

pub all_written : (shots : List Shot) (a b : Contents) (u : List Unwritten) → IsDistinct bytes_eq (map shot_name shots) → PutsShots shots a b u → IsTrue a.told → All (IsWritten u b) shots
all_written [] a b u distinct puts told = All-nil (IsWritten u b)
all_written (x ∷ shots) a b u distinct (mid, first, rest, split, here, others) told =
    let still : IsTrue mid.told = subst IsTrue (sym (told_after x.shown x a mid first here)) told in
    let later = all_written shots mid b rest (IsDistinct-tail bytes_eq x.name (map shot_name shots) distinct) others still in
    All-cons (IsWritten u b) x shots
    (λ shown unnamed. all_keep shots mid b rest (picture_key x.name) others (other_keys x.name shots (IsDistinct-head bytes_eq x.name (map shot_name shots) distinct)) still
    ∙ where_written x.shown x a mid first here shown told (neither_named u first rest x.name split unnamed).0)
    (λ k d lt shown unnamed. later k d lt shown (neither_named u first rest _ split unnamed).1)

-- the key of each view that was refused holds what it held
abbrev AreKept : List Shot → Contents → Contents → Type 0
AreKept [] a b = Unit {0}
AreKept (s ∷ shots) a b = KeepsHidden a b s × AreKept shots a b

own_key : (name other : List ℕ) → bytes_eq name other ≡ false → bytes_eq (picture_key name) (picture_key other) ≡ false
own_key name other ne = differ (picture_key name) (picture_key other) (λ e. clash (bytes_eq name other) ((bytes_eq-Decides name other).1 (one_key name other e)) ne)

kept_from : (shots : List Shot) (x : Shot) (a mid b : Contents) (u : List Unwritten) → PutsWhere x.shown x a mid u → IsTrue a.told
    → AllByRecursion (λ other. bytes_eq x.name other ≡ false) (map shot_name shots) → AreKept shots mid b → AreKept shots a b
kept_from [] x a mid b u here told ne kept = tt
kept_from (s ∷ shots) x a mid b u here told ne kept = (
  λ hidden. kept.0 hidden ∙ where_keeps x.shown x a mid u (picture_key s.name) here (λ shown. own_key x.name s.name ne.0) told,
  kept_from shots x a mid b u here told ne.1 kept.1,
)

hidden_kept : (shots : List Shot) (a b : Contents) (u : List Unwritten) → IsDistinct bytes_eq (map shot_name shots) → PutsShots shots a b u → IsTrue a.told → AreKept shots a b
hidden_kept [] a b u distinct puts told = tt
hidden_kept (x ∷ shots) a b u distinct (mid, first, rest, split, here, others) told =
    let still : IsTrue mid.told = subst IsTrue (sym (told_after x.shown x a mid first here)) told in
    let apart = IsDistinct-head bytes_eq x.name (map shot_name shots) distinct in (
      λ hidden. all_keep (x ∷ shots) a b u (picture_key x.name) (mid, first, rest, split, here, others) (λ shown. clash x.shown shown hidden, other_keys x.name shots apart) told,
      kept_from shots x a mid b first here told apart (hidden_kept shots mid b rest (IsDistinct-tail bytes_eq x.name (map shot_name shots) distinct) others still),
    )

all_kept : (shots : List Shot) (a b : Contents) → AreKept shots a b → All (KeepsHidden a b) shots
all_kept [] a b kept = All-nil (KeepsHidden a b)
all_kept (s ∷ shots) a b kept = All-cons (KeepsHidden a b) s shots kept.0 (all_kept shots a b kept.1)

pub all_hidden : (shots : List Shot) (a b : Contents) (u : List Unwritten) → IsDistinct bytes_eq (map shot_name shots) → PutsShots shots a b u → IsTrue a.told → All (KeepsHidden a b) shots
all_hidden shots a b u distinct puts told = all_kept shots a b (hidden_kept shots a b u distinct puts told)
