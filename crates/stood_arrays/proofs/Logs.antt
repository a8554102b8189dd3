-- What the logs of fetches and saves count.
use Rattle.std.proofs.Common.{◌≡◌, ◌∙◌, inl, inr, ℕ, ◌+◌, ◌≤◌, ◌&&◌, Bool, true, false, cond, List, [], ◌∷◌, ◌++◌, refl, sym, ap, arith}
use Rattle.std.specs.List.{count_by}
use Rattle.std.specs.Str.{bytes_eq}
use Rattle.std.proofs.lemmas.List.Sums.{sum_by-cons}
use Rattle.std.proofs.lemmas.Slice.Eq.{bytes_eq-Decides}
use Rattle.cell_store.specs.Store.{Entry}
use Rattle.cell_file.specs.declared.errors.FetchErr.{FetchErr}
use Rattle.cell_file.specs.declared.errors.FetchErr.TheVariants.{ReadFault, Malformed, TooLong, Memory}
use Rattle.cell_file.specs.declared.errors.SaveErr.{SaveErr}
use Rattle.cell_file.specs.declared.errors.SaveErr.TheVariants as save
use Rattle.cell_file.specs.File.{got_entry, put_entry, LogsOneGet, LogsTwoGets, LogsFetch, LogsRefusedFetch, LogsRefusedSave}
use Rattle.arr_history.proofs.Counts.{count_by-append}
use Rattle.stood_arrays.specs.Entries.{is_put, is_get}

-- the counts of a log with more entries
counted_one : (p : Entry → Bool) (log : List Entry) (e : Entry) → count_by p (log ++ e ∷ []) ≡ count_by p log + cond (p e) 1 0
counted_one p log e = let a = count_by-append p log (e ∷ []) in let b = sum_by-cons (λ x. cond (p x) 1 0) e [] in omega (arith, a, b)

counted_two : (p : Entry → Bool) (log : List Entry) (e f : Entry) → count_by p (log ++ e ∷ f ∷ []) ≡ count_by p log + cond (p e) 1 0 + cond (p f) 1 0
counted_two p log e f =
    let a = count_by-append p log (e ∷ f ∷ []) in
    let b = sum_by-cons (λ x. cond (p x) 1 0) e (f ∷ []) in
    let c = sum_by-cons (λ x. cond (p x) 1 0) f [] in
    omega (arith, a, b, c)

-- gets alone were logged
pub record AreGets (old new : List Entry) : Type 0 where
  pub no_put : (key : List ℕ) → count_by (is_put key) new ≡ count_by (is_put key) old
  pub gets : (key : List ℕ) → count_by (is_get key) old ≤ count_by (is_get key) new

no_gets : (old new : List Entry) → new ≡ old → AreGets old new
no_gets old new e = record { no_put = λ key. ap (count_by (is_put key)) e; gets = λ key. let same = ap (count_by (is_get key)) e in omega (arith, same) }

one_get : (old new : List Entry) (key : List ℕ) (ok : Bool) → LogsOneGet old new key ok → AreGets old new
one_get old new key ok e = record {
  no_put = λ other. ap (count_by (is_put other)) e ∙ counted_one (is_put other) old (got_entry key ok) ∙ omega arith;
  gets = λ other. let same = ap (count_by (is_get other)) e ∙ counted_one (is_get other) old (got_entry key ok) in omega (arith, same);
}

two_gets : (old new : List Entry) (key base : List ℕ) (ok : Bool) → LogsTwoGets old new key base ok → AreGets old new
two_gets old new key base ok e = record {
  no_put = λ other. ap (count_by (is_put other)) e ∙ counted_two (is_put other) old (got_entry key true) (got_entry base ok) ∙ omega arith;
  gets = λ other. let same = ap (count_by (is_get other)) e ∙ counted_two (is_get other) old (got_entry key true) (got_entry base ok) in omega (arith, same);
}

pub fetch_log : (old new : List Entry) (key base : List ℕ) → LogsFetch old new key base → AreGets old new
fetch_log old new key base (inl h) = one_get old new key true h
fetch_log old new key base (inr h) = two_gets old new key base true h

pub same_key : (key : List ℕ) → bytes_eq key key ≡ true
same_key key = (bytes_eq-Decides key key).1 refl

-- a fetch that gave values logged a get of the edited key
pub fetch_got : (old new : List Entry) (key base : List ℕ) → LogsFetch old new key base → count_by (is_get key) old + 1 ≤ count_by (is_get key) new
fetch_got old new key base (inl h) = let same = ap (count_by (is_get key)) h ∙ counted_one (is_get key) old (got_entry key true) ∙ ap (λ b. count_by (is_get key) old + cond b 1 0) (same_key key) in omega (arith, same)
fetch_got old new key base (inr h) = let same = ap (count_by (is_get key)) h ∙ counted_two (is_get key) old (got_entry key true) (got_entry base true) ∙ ap (λ b. count_by (is_get key) old + cond b 1 0 + cond (is_get key (got_entry base true)) 1 0) (same_key key) in omega (arith, same)

pub refused_log : (old new : List Entry) (key base : List ℕ) (err : FetchErr) → LogsRefusedFetch old new key base err → AreGets old new
refused_log old new key base ReadFault (inl h) = one_get old new key false h
refused_log old new key base ReadFault (inr h) = two_gets old new key base false h
refused_log old new key base (Malformed true err) h = one_get old new key true h
refused_log old new key base (Malformed false err) h = two_gets old new key base true h
refused_log old new key base (TooLong true len limit) h = one_get old new key true h
refused_log old new key base (TooLong false len limit) h = two_gets old new key base true h
refused_log old new key base Memory (inl h) = no_gets old new h
refused_log old new key base Memory (inr (inl h)) = one_get old new key false h
refused_log old new key base Memory (inr (inr (inl h))) = one_get old new key true h
refused_log old new key base Memory (inr (inr (inr h))) = two_gets old new key base false h

-- one put at most was logged, under this key, and done or not
pub record IsPut (key : List ℕ) (done : Bool) (old new : List Entry) : Type 0 where
  pub gets : (other : List ℕ) → count_by (is_get other) new ≡ count_by (is_get other) old
  pub other_puts : (other : List ℕ) → bytes_eq key other ≡ false → count_by (is_put other) new ≡ count_by (is_put other) old
  pub puts : count_by (is_put key) new ≡ count_by (is_put key) old + cond done 1 0

pub one_put : (old new : List Entry) (key : List ℕ) (ok : Bool) → new ≡ old ++ put_entry key ok ∷ [] → IsPut key ok old new
one_put old new key ok e = record {
  gets = λ other. ap (count_by (is_get other)) e ∙ counted_one (is_get other) old (put_entry key ok) ∙ omega arith;
  other_puts = λ other ne. ap (count_by (is_put other)) e ∙ counted_one (is_put other) old (put_entry key ok) ∙ ap (λ b. count_by (is_put other) old + cond (ok && b) 1 0) (swapped other ne) ∙ ap (λ b. count_by (is_put other) old + cond b 1 0) (and_false ok) ∙ omega arith;
  puts = ap (count_by (is_put key)) e ∙ counted_one (is_put key) old (put_entry key ok) ∙ ap (λ b. count_by (is_put key) old + cond (ok && b) 1 0) (same_key key) ∙ ap (λ b. count_by (is_put key) old + cond b 1 0) (and_true ok);
}
  where
    and_false : (b : Bool) → (b && false) ≡ false
    and_false true = refl
    and_false false = refl

    and_true : (b : Bool) → (b && true) ≡ b
    and_true true = refl
    and_true false = refl

    swapped : (other : List ℕ) → bytes_eq key other ≡ false → bytes_eq other key ≡ false
    swapped other ne = Rattle.std.proofs.lemmas.Bool.false_from_ne_true (bytes_eq other key) (λ e. clash (sym ne ∙ (bytes_eq-Decides key other).1 (sym ((bytes_eq-Decides other key).0 e))))
      where
        clash : false ≡ true → ⊥
        clash p = cc

no_put : (old new : List Entry) (key : List ℕ) → new ≡ old → IsPut key false old new
no_put old new key e = record {
  gets = λ other. ap (count_by (is_get other)) e;
  other_puts = λ other _. ap (count_by (is_put other)) e;
  puts = ap (count_by (is_put key)) e ∙ omega arith;
}

pub refused_put : (old new : List Entry) (key : List ℕ) (err : SaveErr) → LogsRefusedSave old new key err → IsPut key false old new
refused_put old new key save.WriteFault h = one_put old new key false h
refused_put old new key save.Memory (inl h) = no_put old new key h
refused_put old new key save.Memory (inr h) = one_put old new key false h
