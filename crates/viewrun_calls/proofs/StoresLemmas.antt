-- What changes of a list of stores where the first one does.
use Rattle.std.proofs.Common.{◌≡◌, ℕ, zero, suc, ◌+◌, ◌-◌, ◌^◌, ◌<◌, ◌≤◌, List, [], ◌∷◌, length, map, refl, ap, subst, arith, slice_set, slice_index_or}
use Rattle.std.proofs.lemmas.List.Sums.{sum_by-cons}
use Rattle.std.specs.List.{IsDistinct}
use Rattle.std.specs.Str.{bytes_eq}
use Rattle.cell_store.specs.Store.{Contents}
use Rattle.cell_file.specs.Keys.{KeyNames}
use Rattle.cell_grid.specs.declared.level.Level.{Level}
use Rattle.cell_grid.specs.Pyramid.{IsPyramid}
use Rattle.run_report.specs.declared.report.Unwritten.{Unwritten}
use Rattle.run_report.specs.declared.shot.Shot.{Shot}
use Rattle.sole_cache.specs.Cached.{store_in}
use Rattle.sole_cache.specs.Shut.{AreCounting, Licenses, all_faults}
use Rattle.store_calls.specs.Calls.{StoreCall}
use Rattle.viewrun_calls.specs.Pictures.{PutsShots, PutsWith, WritesPictures, failed_pictures}
use Rattle.viewrun_calls.specs.Stores.{FirstChanges}
use Rattle.viewrun_calls.proofs.LogLemmas.{counts_alike}
use Rattle.viewrun_calls.proofs.PictureLemmas.{others_keep, pictures_rise, stands_alike}
use Rattle.viewrun_calls.proofs.PutLemmas.{puts_with}
use Rattle.viewrun_calls.proofs.ViewLemmas.{shot_name}
use Rattle.viewrun_calls.proofs.WrittenLemmas.{all_hidden, all_written}

pub first_changes : {S : Type 0} (P : Contents → Contents → Type 0) (contents : S → Contents) (stores : List S) (before after : S)
    → 1 ≤ length stores → before ≡ slice_index_or stores 0 before → P (contents before) (contents after)
    → FirstChanges P (map contents stores) (map contents (slice_set stores 0 after))
first_changes P contents [] before after some is changes = absurd (omega arith)
first_changes {S} P contents (store ∷ stores) before after some is changes =
    let Q : S → Type 0 = λ s. P (contents s) (contents after) in (subst Q is changes, refl)

-- the pictures of a run were put into the first store, none under the key of a cell or of another picture
pub pictures_written : (levels : List Level) (keys : KeyNames) (shots : List Shot) (u : List Unwritten) (old new : List Contents) → IsPyramid levels → IsDistinct bytes_eq (map shot_name shots)
    → FirstChanges (λ a b. PutsShots shots a b u) old new → FirstChanges (WritesPictures levels keys shots u) old new
pictures_written levels keys shots u [] new pyramid distinct puts = absurd puts
pictures_written levels keys shots u (a ∷ old) [] pyramid distinct puts = absurd puts
pictures_written levels keys shots u (a ∷ old) (b ∷ new) pyramid distinct puts = (
  record {
    puts = puts.0;
    written = all_written shots a b u distinct puts.0;
    others = λ told key other. others_keep shots a b u key puts.0 told other;
    hidden = all_hidden shots a b u distinct puts.0;
    stands = stands_alike levels keys shots a b u pyramid puts.0;
    counts = counts_alike levels shots a b u pyramid puts.0;
  },
  puts.1,
)

-- the calls by which they were put
pub pictures_put : (shots : List Shot) (u : List Unwritten) (old new : List Contents) → FirstChanges (λ a b. PutsShots shots a b u) old new → (calls : List StoreCall) × FirstChanges (λ a b. PutsWith shots calls a b u) old new
pictures_put shots u [] new puts = absurd puts
pictures_put shots u (a ∷ old) [] puts = absurd puts
pictures_put shots u (a ∷ old) (b ∷ new) puts = let asked = puts_with shots a b u puts.0 in (asked.0, (asked.1, puts.1))

all_of : (x : Contents) (xs : List Contents) → all_faults (x ∷ xs) ≡ x.faults + all_faults xs
all_of x xs = sum_by-cons (λ (s : Contents). s.faults) x xs

-- stores whose first one's count rose no further are counting
still_counting : (a b : Contents) (old new : List Contents) → a.faults ≤ b.faults → new ≡ old → AreCounting (b ∷ new) → AreCounting (a ∷ old)
still_counting a b old new le same counting zero = let first : b.faults < 2 ^ 64 - 1 = counting 0 in omega (arith, le, first)
still_counting a b old new le same counting (suc lane) =
    let other : (store_in new lane).faults < 2 ^ 64 - 1 = counting (suc lane) in
    subst (λ (l : List Contents). (store_in l lane).faults < 2 ^ 64 - 1) same other

-- what licensed answers before the pictures were put licenses one more for each that a store failed to take
pub licensed_on : (first old new : List Contents) (shots : List Shot) (u : List Unwritten) (told : ℕ) → FirstChanges (λ a b. PutsShots shots a b u) old new
    → Licenses first told old → Licenses first (told + failed_pictures u) new
licensed_on first [] new shots u told puts licensed = absurd puts
licensed_on first (a ∷ old) [] shots u told puts licensed = absurd puts
licensed_on first (a ∷ old) (b ∷ new) shots u told (puts, same) licensed = λ counting.
    let rises = pictures_rise shots a b u puts in
    let here : b.faults < 2 ^ 64 - 1 = counting 0 in
    let before : all_faults first + told ≤ all_faults (a ∷ old) = licensed (still_counting a b old new rises.0 same counting) in
    let others : all_faults new ≡ all_faults old = ap all_faults same in
    omega (arith, before, others, rises.1 here, all_of a old, all_of b new)
