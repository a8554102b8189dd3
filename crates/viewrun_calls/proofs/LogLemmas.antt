-- Puts of pictures are no puts and no gets under the keys of cells.
use Rattle.std.proofs.Common.{◌≡◌, ◌∙◌, inl, inr, ℕ, ◌<◌, Bool, true, false, cond, List, [], ◌∷◌, ◌++◌, refl, sym, ap, subst, arith}
use Rattle.std.specs.Prelude.{IsTrue}
use Rattle.std.specs.List.{count_by}
use Rattle.std.specs.Str.{bytes_eq}
use Rattle.std.proofs.lemmas.List.Sums.{sum_by-cons}
use Rattle.std.proofs.lemmas.Slice.Eq.{bytes_eq-Decides}
use Rattle.arr_history.proofs.Counts.{count_by-append}
use Rattle.cell_file.specs.Keys.{edited_key}
use Rattle.cell_grid.specs.declared.level.Level.{Level}
use Rattle.cell_grid.specs.Pyramid.{IsPyramid, cells_of}
use Rattle.cell_store.specs.Store.{Contents, Entry, LogsPut}
use Rattle.cell_store.specs.declared.store.Put.{Put}
use Rattle.cell_store.specs.declared.store.Put.TheVariants as put
use Rattle.run_report.specs.declared.report.Unwritten.{Unwritten}
use Rattle.run_report.specs.declared.shot.Shot.{Shot}
use Rattle.sole_cache.specs.Moves.{is_get, is_put}
use Rattle.viewrun_calls.specs.Pictures.{CountsAlike, PutsShots, PutsWhere, picture_key}
use Rattle.viewrun_calls.proofs.KeyLemmas.{differ, no_edited_key}

-- an entry more that doesn't count
uncounted : (p : Entry → Bool) (old new : List Entry) (e : Entry) → new ≡ old ++ e ∷ [] → p e ≡ false → count_by p new ≡ count_by p old
uncounted p old new e more none =
    let split = ap (count_by p) more ∙ count_by-append p old (e ∷ []) in
    let last = sum_by-cons (λ (d : Entry). cond {A = ℕ} (p d) 1 0) e [] in
    let zero : cond {A = ℕ} (p e) 1 0 ≡ 0 = ap (λ b. cond {A = ℕ} b 1 0) none in
    omega (arith, split, last, zero)

-- the counts under a key
abbrev SameCounts : List ℕ → List Entry → List Entry → Type 0
SameCounts key old new = (count_by (is_put key) new ≡ count_by (is_put key) old) × (count_by (is_get key) new ≡ count_by (is_get key) old)

unmoved : (key : List ℕ) (old new : List Entry) → new ≡ old → SameCounts key old new
unmoved key old new same = (ap (count_by (is_put key)) same, ap (count_by (is_get key)) same)

-- a put under another key
put_counts : (key other : List ℕ) (old new : List Entry) (answer : Put) → bytes_eq key other ≡ false → LogsPut old new other answer → SameCounts key old new
put_counts key other old new put.Done ne logged = (uncounted (is_put key) old new _ logged ne, uncounted (is_get key) old new _ logged refl)
put_counts key other old new put.Failed ne logged = (uncounted (is_put key) old new _ logged refl, uncounted (is_get key) old new _ logged refl)
put_counts key other old new put.NoMemory ne (inl same) = unmoved key old new same
put_counts key other old new put.NoMemory ne (inr logged) = (uncounted (is_put key) old new _ logged refl, uncounted (is_get key) old new _ logged refl)

where_counts : (shown : Bool) (s : Shot) (a b : Contents) (u : List Unwritten) (key : List ℕ) → bytes_eq key (picture_key s.name) ≡ false → PutsWhere shown s a b u → IsTrue a.told_log
    → SameCounts key a.log b.log × IsTrue b.told_log
where_counts true s a b u key ne (answer, puts, tells) told = (put_counts key (picture_key s.name) a.log b.log answer ne (puts.logged told), subst IsTrue (sym puts.told_log) told)
where_counts false s a b u key ne (same, none) told = (unmoved key a.log b.log (ap (λ c. c.log) same), subst (λ (c : Contents). IsTrue c.told_log) (sym same) told)

all_count : (shots : List Shot) (a b : Contents) (u : List Unwritten) (key : List ℕ) → ((name : List ℕ) → bytes_eq key (picture_key name) ≡ false) → PutsShots shots a b u → IsTrue a.told_log
    → SameCounts key a.log b.log
all_count [] a b u key ne (same, none) told = unmoved key a.log b.log (ap (λ c. c.log) same)
all_count (x ∷ shots) a b u key ne (mid, first, rest, split, here, others) told =
    let one = where_counts x.shown x a mid first key (ne x.name) here told in
    let more = all_count shots mid b rest key ne others one.1 in
    (more.0 ∙ one.0.0, more.1 ∙ one.0.1)

-- the keys of cells are no pictures'
swapped : (key other : List ℕ) → bytes_eq other key ≡ false → bytes_eq key other ≡ false
swapped key other ne = differ key other (λ e. clash (bytes_eq other key) ((bytes_eq-Decides other key).1 (sym e)) ne)
  where
    clash : (b : Bool) → b ≡ true → b ≡ false → ⊥
    clash true is not_so = absurd (cc)
    clash false is not_so = absurd (cc)

pub counts_alike : (levels : List Level) (shots : List Shot) (a b : Contents) (u : List Unwritten) → IsPyramid levels → PutsShots shots a b u → IsTrue a.told_log
    → (n : ℕ) → n < cells_of levels → CountsAlike levels a b n
counts_alike levels shots a b u pyramid puts told n lt =
    let same = all_count shots a b u (edited_key levels n) (λ name. swapped (edited_key levels n) (picture_key name) (no_edited_key levels n name pyramid lt)) puts told in
    record { puts = same.0; gets = same.1 }
