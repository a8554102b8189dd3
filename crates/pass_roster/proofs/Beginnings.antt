-- Beginnings of a history.
use Rattle.std.proofs.Common.{◌≡◌, ◌⊎◌, ◌≤◌, cond, leb, Bool, true, false, List, [], ◌∷◌, ◌++◌, length, sym, refl, ap, ◌∙◌, ⊎_elim, append_assoc, arith, length-append}
use Rattle.std.proofs.lemmas.List.{append-nil, nil_from_length}
use Rattle.std.proofs.lemmas.Bool.Decides.{nat_tests}
use Rattle.pass_roster.specs.History.{StartsWith, longer}

module _ {A : Type 0} where
  pub starts_whole : (xs : List A) → StartsWith xs xs
  starts_whole xs = ([], sym (append-nil xs))

  pub starts_on : (xs ys zs : List A) → StartsWith xs ys → StartsWith ys zs → StartsWith xs zs
  starts_on xs ys zs a b = (b.0 ++ a.0, a.1 ∙ (ap (λ l. l ++ a.0) b.1 ∙ append_assoc zs b.0 a.0))

  pub starts_more : (xs ys : List A) → StartsWith (xs ++ ys) xs
  starts_more xs ys = (ys, refl)

  -- a beginning that is as long is the whole
  pub whole : (log xs : List A) → StartsWith log xs → length log ≤ length xs → xs ≡ log
  whole log xs a h = let n = ap length a.1 ∙ length-append xs a.0 in sym (a.1 ∙ (ap (λ l. xs ++ l) (nil_from_length a.0 (omega arith)) ∙ append-nil xs))

  -- nothing follows where a longer list is the same
  pub no_more : (xs ys : List A) → xs ≡ xs ++ ys → ys ≡ []
  no_more xs ys e = nil_from_length ys (let n = ap length e ∙ length-append xs ys in omega arith)

  -- of two beginnings the longer begins with the shorter
  pub begins : (log xs ys : List A) → StartsWith log xs → StartsWith log ys → length xs ≤ length ys → StartsWith ys xs
  begins log [] ys a b h = (ys, refl)
  begins log (x ∷ xs) [] a b h = absurd (omega arith)
  begins [] (x ∷ xs) (y ∷ ys) a b h = absurd (cc (a.1))
  begins (l ∷ log) (x ∷ xs) (y ∷ ys) a b h =
      let p : l ∷ log ≡ x ∷ (xs ++ a.0) = a.1 in let q : l ∷ log ≡ y ∷ (ys ++ b.0) = b.1 in
      let t1 : log ≡ xs ++ a.0 = cc in let t2 : log ≡ ys ++ b.0 = cc in let same : y ≡ x = cc in
      let r = begins log xs ys (a.0, t1) (b.0, t2) (omega arith) in (r.0, (λ i. same i ∷ r.1 i))

  -- the longer of two beginnings is one, begins with both, and is the whole where one of them is
  pub longer_is : (log xs ys : List A) → StartsWith log xs → StartsWith log ys
      → StartsWith log (longer xs ys) × StartsWith (longer xs ys) xs × StartsWith (longer xs ys) ys × ((xs ≡ log) ⊎ (ys ≡ log) → longer xs ys ≡ log)
  longer_is log xs ys a b = go (leb (length xs) (length ys)) refl
    where
      go : (t : Bool) → leb (length xs) (length ys) ≡ t → StartsWith log (cond t ys xs) × StartsWith (cond t ys xs) xs × StartsWith (cond t ys xs) ys × ((xs ≡ log) ⊎ (ys ≡ log) → cond t ys xs ≡ log)
      go true e = let le : length xs ≤ length ys = grind (arith, nat_tests) in
          (b, begins log xs ys a b le, starts_whole ys, λ h. ⊎_elim (λ (p : xs ≡ log). let n : length xs ≡ length log = ap length p in whole log ys b (omega arith)) (λ (p : ys ≡ log). p) h)
      go false e = let le : length ys ≤ length xs = grind (arith, nat_tests) in
          (a, starts_whole xs, begins log ys xs b a le, λ h. ⊎_elim (λ (p : xs ≡ log). p) (λ (p : ys ≡ log). let n : length ys ≡ length log = ap length p in whole log xs a (omega arith)) h)
