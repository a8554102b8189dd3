-- The entries of one pass in a history.
use Rattle.std.proofs.Common.{◌≡◌, ◌≢◌, ℕ, eqb, cond, List, [], ◌∷◌, ◌++◌, length, sym, refl, ap, ◌∙◌, eq-eqb, ne_eqb, arith, length-append}
use mathlib.Core.Logic.{dite}
use native.Mathlib.Decide.{ℕ_discrete}
use Rattle.std.proofs.lemmas.List.{append-nil, nil_from_length}
use Rattle.std.proofs.lemmas.List.Elements.{filter-append}
use Rattle.pass_roster.specs.History.{StartsWith, entries_by}

module _ {E : Type 0} (by : E → ℕ) where
  pub by_append : (k : ℕ) (xs ys : List E) → entries_by by k (xs ++ ys) ≡ entries_by by k xs ++ entries_by by k ys
  by_append k xs ys = filter-append (λ e. eqb (by e) k) xs ys

  pub by_one : (k : ℕ) (e : E) → by e ≡ k → entries_by by k (e ∷ []) ≡ e ∷ []
  by_one k e h = ap (λ b. cond b (e ∷ []) []) (eq-eqb (by e) k h)

  pub by_none : (k : ℕ) (e : E) → by e ≢ k → entries_by by k (e ∷ []) ≡ []
  by_none k e h = ap (λ b. cond b (e ∷ []) []) (ne_eqb (by e) k h)

  -- an entry of pass k isn't one of pass j
  by_twice : (j k : ℕ) (es : List E) → j ≢ k → entries_by by j (entries_by by k es) ≡ []
  by_twice j k [] n = refl
  by_twice j k (e ∷ es) n = dite (ℕ_discrete (by e) k)
      (λ q. ap (λ b. entries_by by j (cond b (e ∷ entries_by by k es) (entries_by by k es))) (eq-eqb (by e) k q) ∙ (ap (λ b. cond b (e ∷ entries_by by j (entries_by by k es)) (entries_by by j (entries_by by k es))) (ne_eqb (by e) j (λ m. n (sym m ∙ q))) ∙ by_twice j k es n))
      (λ q. ap (λ b. entries_by by j (cond b (e ∷ entries_by by k es) (entries_by by k es))) (ne_eqb (by e) k q) ∙ by_twice j k es n)

  -- entries that are all of one pass have none of another
  pub by_others : (j k : ℕ) (es : List E) → entries_by by k es ≡ es → j ≢ k → entries_by by j es ≡ []
  by_others j k es own n = ap (entries_by by j) (sym own) ∙ by_twice j k es n

  -- between a beginning that has all entries of the pass and the whole, all have just those
  pub squeezed : (k : ℕ) (log m xs mine : List E) → StartsWith log m → StartsWith m xs → entries_by by k xs ≡ mine → entries_by by k log ≡ mine → entries_by by k m ≡ mine
  squeezed k log m xs mine a b low high =
      let p : entries_by by k m ≡ mine ++ entries_by by k b.0 = ap (entries_by by k) b.1 ∙ (by_append k xs b.0 ∙ ap (λ l. l ++ entries_by by k b.0) low) in
      let q : mine ≡ entries_by by k m ++ entries_by by k a.0 = sym high ∙ (ap (entries_by by k) a.1 ∙ by_append k m a.0) in
      let n = ap length q ∙ length-append (entries_by by k m) (entries_by by k a.0) in let o = ap length p ∙ length-append mine (entries_by by k b.0) in
      p ∙ (ap (λ l. mine ++ l) (nil_from_length (entries_by by k b.0) (omega arith)) ∙ append-nil mine)

  -- a number with no entry in the whole has none in a beginning
  pub none_before : (k : ℕ) (log xs : List E) → StartsWith log xs → entries_by by k log ≡ [] → entries_by by k xs ≡ []
  none_before k log xs a none = let q : [] ≡ entries_by by k xs ++ entries_by by k a.0 = sym none ∙ (ap (entries_by by k) a.1 ∙ by_append k xs a.0) in
      let n = ap length q ∙ length-append (entries_by by k xs) (entries_by by k a.0) in nil_from_length (entries_by by k xs) (omega arith)

  -- where a longer beginning has the same entries of the pass, what came between has none
  pub none_between : (k : ℕ) (xs ys : List E) → entries_by by k (xs ++ ys) ≡ entries_by by k xs → entries_by by k ys ≡ []
  none_between k xs ys same = let n = ap length (sym (by_append k xs ys) ∙ same) in let m = length-append (entries_by by k xs) (entries_by by k ys) in nil_from_length (entries_by by k ys) (omega arith)
