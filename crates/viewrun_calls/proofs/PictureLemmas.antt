-- Pictures that are put one after another: what is named, what is kept, and how far the count of faults rose.
use Rattle.std.proofs.Common.{◌≡◌, ◌∙◌, inl, ℕ, suc, ◌+◌, ◌-◌, ◌^◌, ◌<◌, ◌≤◌, Bool, true, false, cond, not, List, [], ◌∷◌, ◌++◌, Option, Some, codes, length, refl, sym, ap, subst, arith, append_assoc, length-append, slice_index_or, take}
use Rattle.std.specs.Prelude.{IsTrue}
use Rattle.std.specs.Str.{bytes_eq}
use Rattle.std.proofs.lemmas.List.{append-nil, take_more}
use Rattle.std.proofs.lemmas.List.Sums.{sum_by-cons}
use Rattle.arr_history.proofs.Counts.{count_by-append}
use Rattle.cell_file.specs.Keys.{KeyNames, base_key, edited_key}
use Rattle.cell_file.proofs.StandingLemmas.{same_standing}
use Rattle.cell_grid.specs.declared.level.Level.{Level}
use Rattle.cell_grid.specs.Pyramid.{IsPyramid}
use Rattle.cell_store.specs.Faults.{Rose}
use Rattle.cell_store.specs.Store.{Contents, PutLeaves, Puts, held_of}
use Rattle.cell_store.specs.declared.store.Put.{Put}
use Rattle.cell_store.specs.declared.store.Put.TheVariants as put
use Rattle.run_report.specs.declared.report.Unwritten.{Unwritten}
use Rattle.run_report.specs.declared.shot.Shot.{Shot}
use Rattle.run_report.specs.Words.{◌␣◌, line}
use Rattle.viewrun_calls.specs.Pictures.{AddsShot, IsOther, Names, PutsShot, PutsShots, PutsWhere, StandsAlike, TellsPut, failed_pictures, file_of, picture_key}
use Rattle.viewrun_calls.proofs.KeyLemmas.{no_base_key, no_edited_key}

-- the text of a header, piece by piece, is its lines
pub header_lines : (width height : List ℕ)
    → 80 ∷ 53 ∷ 10 ∷ (width ++ 32 ∷ (height ++ 10 ∷ 50 ∷ 53 ∷ 53 ∷ 10 ∷ [])) ≡ line (codes "P5") ++ line (width ␣ height) ++ line (codes "255")
header_lines width height = ap (λ t. 80 ∷ 53 ∷ 10 ∷ t)
    (sym (append_assoc width (32 ∷ height) (10 ∷ 50 ∷ 53 ∷ 53 ∷ 10 ∷ [])) ∙ sym (append_assoc (width ++ 32 ∷ height) (10 ∷ []) (50 ∷ 53 ∷ 53 ∷ 10 ∷ [])))

-- a store that isn't asked
pub no_put : (c : Contents) (key bytes : List ℕ) → Puts c c key bytes put.NoMemory
no_put c key bytes = record {
  leaves = λ told other ne. refl;
  logged = λ told. inl refl;
  told = refl;
  told_log = refl;
  never_falls = omega arith;
  failed = λ e. absurd (cc);
}

-- one picture more
pub puts_more : (shots : List Shot) (s : Shot) (a b d : Contents) (u v : List Unwritten) → PutsShots shots a b u → PutsShot s b d v → PutsShots (shots ++ s ∷ []) a d (u ++ v)
puts_more [] s a b d u v (same, none) one =
    (d, v, [], ap (λ t. t ++ v) none ∙ sym (append-nil v), subst (λ c. PutsShot s c d v) same one, (refl, refl))
puts_more (x ∷ shots) s a b d u v (mid, first, rest, told, here, others) one =
    (mid, first, rest ++ v, ap (λ t. t ++ v) told ∙ append_assoc first rest v, here, puts_more shots s mid b d rest v others one)

-- and so is the next one of a list
pub puts_next : (shots : List Shot) (i : ℕ) (s : Shot) (a b d : Contents) (u v : List Unwritten) → i < length shots → s ≡ slice_index_or shots i s
    → PutsShots (take i shots) a b u → AddsShot s b d u v → PutsShots (take (i + 1) shots) a d v
puts_next shots i s a b d u v lt is puts adds =
    let list : take (i + 1) shots ≡ take i shots ++ s ∷ [] = take_more shots i s lt ∙ ap (λ x. take i shots ++ x ∷ []) (sym is) in
    subst (λ l. PutsShots l a d v) (sym list)
    (subst (λ w. PutsShots (take i shots ++ s ∷ []) a d w) (sym adds.added) (puts_more (take i shots) s a b d u adds.told puts adds.puts))

-- no more are named than were to be put
named_once : (shot : Shot) (memory : Bool) (u : List Unwritten) → Names shot memory u → length u ≤ 1
named_once shot memory u (one, is, name, cause) = omega (arith, ap length is)

told_once : (shot : Shot) (answer : Put) (u : List Unwritten) → TellsPut shot answer u → length u ≤ 1
told_once shot put.Done u none = omega (arith, ap length none)
told_once shot put.Failed u named = named_once shot false u named
told_once shot put.NoMemory u named = named_once shot true u named

where_once : (shown : Bool) (shot : Shot) (a b : Contents) (u : List Unwritten) → PutsWhere shown shot a b u → length u ≤ 1
where_once true shot a b u (answer, puts, tells) = told_once shot answer u tells
where_once false shot a b u (same, none) = omega (arith, ap length none)

pub told_few : (shots : List Shot) (a b : Contents) (u : List Unwritten) → PutsShots shots a b u → length u ≤ length shots
told_few [] a b u (same, none) = omega (arith, ap length none)
told_few (x ∷ shots) a b u (mid, first, rest, told, here, others) =
    omega (arith, ap length told, length-append first rest, where_once x.shown x a mid first here, told_few shots mid b rest others)

-- other keys hold what they held
put_keeps : (old new : List ℕ → Option (List ℕ)) (key bytes other : List ℕ) (answer : Put) → PutLeaves old new key bytes answer → bytes_eq key other ≡ false → new other ≡ old other
put_keeps old new key bytes other put.Done leaves ne = leaves other ∙ ap (λ (same : Bool). cond same (Some bytes) (old other)) ne
put_keeps old new key bytes other put.Failed leaves ne = leaves other ne
put_keeps old new key bytes other put.NoMemory leaves ne = leaves other ne

pub told_after : (shown : Bool) (shot : Shot) (a b : Contents) (u : List Unwritten) → PutsWhere shown shot a b u → b.told ≡ a.told
told_after true shot a b u (answer, puts, tells) = puts.told
told_after false shot a b u (same, none) = ap (λ c. c.told) same

pub where_keeps : (shown : Bool) (shot : Shot) (a b : Contents) (u : List Unwritten) (key : List ℕ) → PutsWhere shown shot a b u → (IsTrue shown → bytes_eq (picture_key shot.name) key ≡ false) → IsTrue a.told
    → (held_of b) key ≡ (held_of a) key
where_keeps true shot a b u key (answer, puts, tells) ne told = put_keeps (held_of a) (held_of b) (picture_key shot.name) (file_of shot.picture) key answer (puts.leaves told) (ne refl)
where_keeps false shot a b u key (same, none) ne told = ap (λ c. (held_of c) key) same

-- no picture of these that is shown lies under a key
abbrev pub AreElsewhere : List Shot → List ℕ → Type 0
AreElsewhere [] key = Unit {0}
AreElsewhere (s ∷ shots) key = (IsTrue s.shown → bytes_eq (picture_key s.name) key ≡ false) × AreElsewhere shots key

pub all_keep : (shots : List Shot) (a b : Contents) (u : List Unwritten) (key : List ℕ) → PutsShots shots a b u → AreElsewhere shots key → IsTrue a.told → (held_of b) key ≡ (held_of a) key
all_keep [] a b u key (same, none) ne told = ap (λ c. (held_of c) key) same
all_keep (x ∷ shots) a b u key (mid, first, rest, split, here, others) ne told =
    all_keep shots mid b rest key others ne.1 (subst IsTrue (sym (told_after x.shown x a mid first here)) told) ∙ where_keeps x.shown x a mid first key here ne.0 told

from_all : (shots : List Shot) (key : List ℕ) → IsOther shots key → AreElsewhere shots key
from_all [] key other = tt
from_all (s ∷ shots) key other = (other 0 s (omega arith), from_all shots key (λ k d lt. other (suc k) d (omega (arith, lt))))

pub others_keep : (shots : List Shot) (a b : Contents) (u : List Unwritten) (key : List ℕ) → PutsShots shots a b u → IsTrue a.told → IsOther shots key → (held_of b) key ≡ (held_of a) key
others_keep shots a b u key puts told other = all_keep shots a b u key puts (from_all shots key other) told

elsewhere : (shots : List Shot) (key : List ℕ) → ((name : List ℕ) → bytes_eq (picture_key name) key ≡ false) → AreElsewhere shots key
elsewhere [] key ne = tt
elsewhere (s ∷ shots) key ne = (λ shown. ne s.name, elsewhere shots key ne)

pub stands_alike : (levels : List Level) (keys : KeyNames) (shots : List Shot) (a b : Contents) (u : List Unwritten) → IsPyramid levels → PutsShots shots a b u → StandsAlike levels keys a b
stands_alike levels keys shots a b u pyramid puts told n lt = same_standing levels keys (held_of a) (held_of b) n
    (all_keep shots a b u (edited_key levels n) puts (elsewhere shots (edited_key levels n) (λ name. no_edited_key levels n name pyramid lt)) told)
    (all_keep shots a b u (base_key levels keys n) puts (elsewhere shots (base_key levels keys n) (λ name. no_base_key levels keys n name pyramid lt)) told)

-- the count of faults rose by as many as are told
abbrev Rises : Contents → Contents → List Unwritten → Type 0
Rises a b u = (a.faults ≤ b.faults) × (b.faults < 2 ^ 64 - 1 → a.faults + failed_pictures u ≤ b.faults)

rose_by_one : (x y : ℕ) → Rose x y → y < 2 ^ 64 - 1 → x + 1 ≤ y
rose_by_one x y rose few = grind arith

failed_one : (u : Unwritten) (memory : Bool) → u.memory ≡ memory → failed_pictures (u ∷ []) ≡ cond {A = ℕ} (not memory) 1 0
failed_one u memory e =
    let one = sum_by-cons (λ (v : Unwritten). cond {A = ℕ} (not v.memory) 1 0) u [] in
    let same : cond {A = ℕ} (not u.memory) 1 0 ≡ cond {A = ℕ} (not memory) 1 0 = ap (λ b. cond {A = ℕ} (not b) 1 0) e in
    omega (arith, one, same)

put_rises : (shot : Shot) (a b : Contents) (u : List Unwritten) (answer : Put) → Puts a b (picture_key shot.name) (file_of shot.picture) answer → TellsPut shot answer u → Rises a b u
put_rises shot a b u put.Done puts none = (puts.never_falls, λ few. omega (arith, ap failed_pictures none, puts.never_falls))
put_rises shot a b u put.Failed puts (one, is, name, cause) =
    (puts.never_falls, λ few. omega (arith, ap failed_pictures is, failed_one one false cause, rose_by_one a.faults b.faults (puts.failed refl) few))
put_rises shot a b u put.NoMemory puts (one, is, name, cause) = (puts.never_falls, λ few. omega (arith, ap failed_pictures is, failed_one one true cause, puts.never_falls))

where_rises : (shown : Bool) (shot : Shot) (a b : Contents) (u : List Unwritten) → PutsWhere shown shot a b u → Rises a b u
where_rises true shot a b u (answer, puts, tells) = put_rises shot a b u answer puts tells
where_rises false shot a b u (same, none) =
    let still : b.faults ≡ a.faults = ap (λ c. c.faults) same in
    (omega (arith, still), λ few. omega (arith, still, ap failed_pictures none))

pub pictures_rise : (shots : List Shot) (a b : Contents) (u : List Unwritten) → PutsShots shots a b u → Rises a b u
pictures_rise [] a b u (same, none) =
    let still : b.faults ≡ a.faults = ap (λ c. c.faults) same in
    (omega (arith, still), λ few. omega (arith, still, ap failed_pictures none))
pictures_rise (x ∷ shots) a b u (mid, first, rest, split, here, others) =
    let one = where_rises x.shown x a mid first here in
    let more = pictures_rise shots mid b rest others in
    let all : failed_pictures u ≡ failed_pictures first + failed_pictures rest = ap failed_pictures split ∙ count_by-append _ first rest in
    (omega (arith, one.0, more.0), λ few. omega (arith, all, more.0, one.1 (omega (arith, more.0, few)), more.1 few))
