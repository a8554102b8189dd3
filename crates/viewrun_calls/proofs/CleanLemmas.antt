-- Calls of the stores that were all answered.
use Rattle.std.proofs.Common.{◌≡◌, ◌∙◌, ℕ, ◌==◌, Bool, true, false, true≢false, not, ◌&&◌, cond, IsTrue, List, [], ◌∷◌, Result, refl, sym}
use Rattle.std.specs.Str.{bytes_eq}
use Rattle.cell_store.specs.declared.store.Put.TheVariants as put
use Rattle.cell_store.specs.Store.{Contents}
use Rattle.cell_store.specs.Stream.{Stream}
use Rattle.run_report.specs.declared.stop.Stop.{Stop}
use Rattle.store_calls.specs.Calls.{StoreCall, Getting, Putting, FailAlike, is_failed, wants_memory, is_answered, is_left_open, open_after}
use Rattle.alike_runs.specs.Holding.{HoldAlike}
use Rattle.alike_runs.specs.Runs.{RunsAreAlike}
use Rattle.n5_meta.specs.Laws.{OpeningsAreAlike}
use Rattle.viewrun_calls.specs.Clean.{AreClean, CanBeGivenAlike, CleanCallsAreOne}
use Rattle.viewrun_calls.specs.declared.work.Done.{Done}
use Rattle.viewrun_calls.specs.OneFunction.{AreGivenAlike, EndAlike, IsOfStores}
use Rattle.viewrun_calls.specs.Work.{ReadsAndWorks}
use Rattle.viewrun_calls.proofs.OneLemmas.{works_alike}

pub fails_as_itself : (calls : List StoreCall) → FailAlike calls calls
fails_as_itself [] = tt
fails_as_itself (c ∷ calls) = (refl, refl, fails_as_itself calls)

pub given_as_itself : CanBeGivenAlike
given_as_itself source stores told tells = record {
  told = told;
  other_told = told;
  script = refl;
  hold = record { lanes = refl; told = λ lane lt. (tells lane lt, tells lane lt); held = λ lane key lt. refl };
}

-- what was answered neither failed nor found no memory
answered : (f m : Bool) → IsTrue (not f && not m) → (f ≡ false) × (m ≡ false)
answered true m h = absurd (true≢false (sym h))
answered false true h = absurd (true≢false (sym h))
answered false false h = (refl, refl)

clean_alike : (k l : List StoreCall) → AreClean k → AreClean l → FailAlike k l
clean_alike [] [] p q = tt
clean_alike [] (d ∷ l) p q = (q.0, clean_alike [] l tt q.1)
clean_alike (c ∷ k) [] p q = (p.0, clean_alike k [] p.1 tt)
clean_alike (c ∷ k) (d ∷ l) p q =
    let one = answered (is_failed c) (wants_memory c) p.0 in let two = answered (is_failed d) (wants_memory d) q.0 in (two.0 ∙ sym one.0, two.1 ∙ sym one.1, clean_alike k l p.1 q.1)

-- after calls that were all answered no key is left open
chosen : (t b : Bool) → b ≡ false → cond t false b ≡ false
chosen true b e = refl
chosen false b e = e

closed_by : (lane : ℕ) (key : List ℕ) (b : Bool) → b ≡ false → (c : StoreCall) → IsTrue (is_answered c) → open_after lane key b c ≡ false
closed_by lane key b e (Getting l k limit answer found) h = e
closed_by lane key b e (Putting l k bytes put.Done) h = chosen ((l == lane) && bytes_eq k key) b e
closed_by lane key b e (Putting l k bytes put.Failed) h = absurd (true≢false (sym h))
closed_by lane key b e (Putting l k bytes put.NoMemory) h = absurd (true≢false (sym h))

clean_closed : (lane : ℕ) (key : List ℕ) (b : Bool) → b ≡ false → (calls : List StoreCall) → AreClean calls → is_left_open lane key b calls ≡ false
clean_closed lane key b e [] p = e
clean_closed lane key b e (c ∷ calls) p = clean_closed lane key (open_after lane key b c) (closed_by lane key b e c p.0) calls p.1

module _ (on : RunsAreAlike) (opens : OpeningsAreAlike) where
  pub clean_works : (words : List (List ℕ)) (s s' t t' : Stream) (old new before after : List Contents) (k l : List StoreCall) (work other : Result Done Stop)
      → AreGivenAlike s t old before → ReadsAndWorks words s s' old new k work → ReadsAndWorks words t t' before after l other → AreClean k → AreClean l → IsOfStores work k → IsOfStores other l
      → EndAlike work other × HoldAlike new after
  clean_works words s s' t t' old new before after k l work other given works works' clean clean' of of' =
      let both = works_alike on opens words s s' t t' old new before after k l work other given works works' (clean_alike k l clean clean') of of' in
      (both.0, record { lanes = both.1.lanes; told = both.1.told; held = λ lane key lt. both.1.held lane key lt (clean_closed lane key false refl k clean) })

  pub clean_one : CleanCallsAreOne
  clean_one words source source' old new before after status call other other' stores left start end code again given clean clean' of of' =
      clean_works words source source' other other' old new stores left call.calls again.calls call.work again.work given call.works again.works clean clean' of of'
