-- A history is cut in two where the entries of one pass are.
use Rattle.std.proofs.Common.{◌≡◌, ◌∙◌, ℕ, ◌==◌, cond, Bool, true, false, List, [], ◌∷◌, ◌++◌, refl, sym, ap}
use Rattle.pass_roster.specs.History.{entries_by}

module _ {E : Type 0} (by : E → ℕ) where
  -- the history is cut: the entries of pass k are these in its first part, and those in its second
  pub record Cut (k : ℕ) (history front back : List E) : Type 0 where
    pub left : List E
    pub right : List E
    pub parts : history ≡ left ++ right
    pub first : entries_by by k left ≡ front
    pub second : entries_by by k right ≡ back

  pub cut : (k : ℕ) (history front back : List E) → entries_by by k history ≡ front ++ back → Cut k history front back
  cut k history [] back is = record { left = []; right = history; parts = refl; first = refl; second = is }
  cut k [] (f ∷ front) back is = absurd (cc (is))
  cut k (e ∷ history) (f ∷ front) back is = go (by e == k) refl (λ ahead (h : entries_by by k history ≡ ahead ++ back). cut k history ahead back h)
    where
      go : (t : Bool) → (by e == k) ≡ t → ((ahead : List E) → entries_by by k history ≡ ahead ++ back → Cut k history ahead back) → Cut k (e ∷ history) (f ∷ front) back
      go true t on =
          let all : e ∷ entries_by by k history ≡ f ∷ (front ++ back) = sym (ap (λ b. cond b (e ∷ entries_by by k history) (entries_by by k history)) t) ∙ is in
          let same : e ≡ f = cc in
          let rest : entries_by by k history ≡ front ++ back = cc in
          let c = on front rest in
          record {
            left = e ∷ c.left;
            right = c.right;
            parts = ap (λ l. e ∷ l) c.parts;
            first = ap (λ b. cond b (e ∷ entries_by by k c.left) (entries_by by k c.left)) t ∙ (λ i. same i ∷ c.first i);
            second = c.second;
          }
      go false t on =
          let all : entries_by by k history ≡ f ∷ (front ++ back) = sym (ap (λ b. cond b (e ∷ entries_by by k history) (entries_by by k history)) t) ∙ is in
          let c = on (f ∷ front) all in
          record {
            left = e ∷ c.left;
            right = c.right;
            parts = ap (λ l. e ∷ l) c.parts;
            first = ap (λ b. cond b (e ∷ entries_by by k c.left) (entries_by by k c.left)) t ∙ c.first;
            second = c.second;
          }
