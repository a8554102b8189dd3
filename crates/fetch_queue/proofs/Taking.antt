-- A node taken out of wherever it stands.
use Rattle.std.proofs.Common.{◌≡◌, ℕ, Bool, true, false, List, [], ◌∷◌, get_or, map, inl, inr, refl, sym, ap, subst, ◌∙◌, arith}
use Rattle.std.specs.Prelude.{◌==◌, Option, None, Some, is_some}
use Rattle.std.specs.Option.{option_eq}
use Rattle.std.proofs.lemmas.Bool.{true≢false, false≢true, or_parts, cases_Bool, eq-eqb, eqb-true, false_from_ne_true}
use Rattle.std.proofs.lemmas.List.Quantifiers.{position-Some}
use Rattle.ix_links.specs.NodeList.{contains, without}
use Rattle.ix_links.specs.NodeLists.{NodeLists, list_at, without_node, is_linked, list_of_node, IsDisjoint}
use Rattle.ix_links.proofs.Membership.{without_none}
use Rattle.ix_links.proofs.Rows.{row_has, row_at, Found, row_found, row_within, position_is}

pub listed_some : (l : NodeLists) (node : ℕ) (r : Option ℕ) → r ≡ list_of_node l node → is_some r ≡ true → is_linked l node ≡ true
listed_some l node None is h = absurd (false≢true h)
listed_some l node (Some list) is h =
    let found = position-Some (λ xs. contains xs node) l.lists list [] (sym is) in
    row_at l.lists list node found.1

pub listed_none : (l : NodeLists) (node : ℕ) → IsDisjoint l → (r : Option ℕ) → r ≡ list_of_node l node → is_some r ≡ false → is_linked l node ≡ false
listed_none l node d r is h = false_from_ne_true (is_linked l node) (λ linked. standing (row_found l.lists node linked))
  where
    standing : Found l.lists node → ⊥
    standing f =
        let at : list_of_node l node ≡ Some f.list = position_is l.lists f.list node f.within f.has
        (λ k below. false_from_ne_true (contains (get_or l.lists k []) node) (λ also. let e : k ≡ f.list = d.apart k f.list node also f.has in absurd (omega arith))) in
        false≢true (sym h ∙ ap (λ (o : Option ℕ). is_some o) (is ∙ at))

-- the test whether a node is in the list of this number
pub listed_test : (l : NodeLists) (list node : ℕ) → IsDisjoint l → (r : Option ℕ) (b : Bool) → r ≡ list_of_node l node → b ≡ option_eq (λ x y. x == y) r (Some list) → b ≡ contains (list_at l list) node
listed_test l list node d r b is test =
    elim (cases_Bool (contains (list_at l list) node)) [
      | inl has ↦
          let at : list_of_node l node ≡ Some list = position_is l.lists list node (row_within l.lists list node has) has
          (λ k below. false_from_ne_true (contains (get_or l.lists k []) node) (λ also. let e : k ≡ list = d.apart k list node also has in absurd (omega arith))) in
          test ∙ ap (λ (o : Option ℕ). option_eq (λ x y. x == y) o (Some list)) (is ∙ at) ∙ eq-eqb list list refl ∙ sym has
      | inr lacks ↦ test ∙ other r is lacks ∙ sym lacks
    ]
  where
    other : (o : Option ℕ) → o ≡ list_of_node l node → contains (list_at l list) node ≡ false → option_eq (λ x y. x == y) o (Some list) ≡ false
    other None e lacks = refl
    other (Some k) e lacks = false_from_ne_true (k == list) (λ same.
        let one : k ≡ list = eqb-true k list same in
        let found = position-Some (λ xs. contains xs node) l.lists k [] (sym e) in
        true≢false (sym (subst (λ (j : ℕ). contains (get_or l.lists j []) node ≡ true) one found.1) ∙ lacks))

pub without_free : (l : NodeLists) (node : ℕ) → is_linked l node ≡ false → l ≡ without_node l node
without_free l node free = ap (λ (ls : List (List ℕ)). view ls) (rows l.lists free)
  where
    view : List (List ℕ) → NodeLists
    view ls = record { nodes = l.nodes; lists = ls }

    rows : (ls : List (List ℕ)) → row_has ls node ≡ false → ls ≡ map (λ xs. without xs node) ls
    rows [] h = refl
    rows (xs ∷ ls) h =
        let parts = or_parts (contains xs node) (row_has ls node) h in
        ap (λ (ys : List ℕ). ys ∷ ls) (sym (without_none xs node parts.0)) ∙ ap (λ (rest : List (List ℕ)). without xs node ∷ rest) (rows ls parts.1)
