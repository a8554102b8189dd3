-- Events that lead on from where others led.
use Rattle.std.proofs.Common.{◌≡◌, ◌∙◌, ◌↔◌, ℕ, ◌+◌, ◌-◌, ◌<◌, ◌≤◌, ◌==◌, Bool, true, false, cond, IsTrue, List, [], ◌∷◌, ◌++◌, refl, sym, ap, subst}
use Rattle.std.proofs.lemmas.Bool.{eqb-true}
use Rattle.arr_history.specs.declared.event.Event.{Event}
use Rattle.arr_history.specs.declared.event.Event.TheVariants.{Pin, Miss, Unpin, Mark, Read, Write, Claim, Drop, Live, Close, Gone, Back}
use Rattle.arr_history.specs.declared.cell_state.CellState.{CellState}
use Rattle.arr_history.specs.State.{State, with_at, with_cell, with_pins, with_voxel}
use Rattle.arr_history.specs.Shape.{Shape, IsSameShape}
use Rattle.arr_history.specs.Next.{marked, leaving, returned, next}
use Rattle.arr_history.specs.Legal.{IsLive, IsMarked, HasSlot, IsLeaving, IsLegal}
use Rattle.arr_history.specs.History.{after, AreLegal, IsSame, LeadTo}

-- changes at one place keep two functions alike
same_with_at : {X : Type 0} (f g : ℕ → X) (i : ℕ) (x y : X) → ((j : ℕ) → f j ≡ g j) → x ≡ y → (j : ℕ) → with_at f i x j ≡ with_at g i y j
same_with_at {X} f g i x y h e j = choose (i == j)
  where
    choose : (b : Bool) → cond b x (f j) ≡ cond b y (g j)
    choose true = e
    choose false = h j

same_cell : (b : Shape) (s t : State) (c : ℕ) (x y : CellState) → IsSame b s t → x ≡ y → IsSame b (with_cell s c x) (with_cell t c y)
same_cell b s t c x y same e = record { cells = same_with_at s.cells t.cells c x y same.cells e; pins = same.pins; arrays = same.arrays }

same_pins : (b : Shape) (s t : State) (k c m n : ℕ) → IsSame b s t → m ≡ n → IsSame b (with_pins s k c m) (with_pins t k c n)
same_pins b s t k c m n same e = record {
  cells = same.cells;
  pins = λ j d. rows j d;
  arrays = same.arrays;
}
  where
    rows : (j d : ℕ) → with_at s.pins k (with_at (s.pins k) c m) j d ≡ with_at t.pins k (with_at (t.pins k) c n) j d
    rows j d = choose (k == j)
      where
        choose : (b : Bool) → cond b (with_at (s.pins k) c m) (s.pins j) d ≡ cond b (with_at (t.pins k) c n) (t.pins j) d
        choose true = same_with_at (s.pins k) (t.pins k) c m n (same.pins k) e d
        choose false = same.pins j d

same_voxel : (b : Shape) (s t : State) (c i x : ℕ) → IsSame b s t → IsSame b (with_voxel s c i x) (with_voxel t c i x)
same_voxel b s t c i x same = record {
  cells = same.cells;
  pins = same.pins;
  arrays = rows;
}
  where
    rows : (d : ℕ) → d < b.cells → IsTrue (b.is_told d) → (j : ℕ) → j < b.voxels d → with_at s.arrays c (with_at (s.arrays c) i x) d j ≡ with_at t.arrays c (with_at (t.arrays c) i x) d j
    rows d inside told j few = choose (c == d) refl
      where
        choose : (r : Bool) → (c == d) ≡ r → cond r (with_at (s.arrays c) i x) (s.arrays d) j ≡ cond r (with_at (t.arrays c) i x) (t.arrays d) j
        choose true e = subst (λ n. with_at (s.arrays n) i x j ≡ with_at (t.arrays n) i x j) (sym (eqb-true c d e)) (value (i == j))
          where
            value : (q : Bool) → cond q x (s.arrays d j) ≡ cond q x (t.arrays d j)
            value true = refl
            value false = same.arrays d inside told j few
        choose false e = same.arrays d inside told j few

-- an event leads from states that are the same to states that are the same
pub same_next : (b : Shape) (s t : State) (e : Event) → IsSame b s t → IsSame b (next s e) (next t e)
same_next b s t (Pin k c) same = same_pins b s t k c _ _ same (ap (λ n. n + 1) (same.pins k c))
same_next b s t (Miss k c) same = same
same_next b s t (Unpin k c) same = same_pins b s t k c _ _ same (ap (λ n. n - 1) (same.pins k c))
same_next b s t (Mark k c) same = same_cell b s t c _ _ same (ap marked (same.cells c))
same_next b s t (Read k c i x) same = same
same_next b s t (Write k c i x) same = same_voxel b s t c i x same
same_next b s t (Claim k c) same = same_cell b s t c _ _ same refl
same_next b s t (Drop k c) same = same_cell b s t c _ _ same refl
same_next b s t (Live k c slot) same = same_pins b _ _ k c _ _ (same_cell b s t c _ _ same refl) (ap (λ n. n + 1) (same.pins k c))
same_next b s t (Close k c) same = same_cell b s t c _ _ same (ap (leaving k) (same.cells c))
same_next b s t (Gone k c saved) same = same_cell b s t c _ _ same refl
same_next b s t (Back k c) same = same_cell b s t c _ _ same (ap returned (same.cells c))

-- and is legal in both
pub same_legal : (b : Shape) (s t : State) (e : Event) → IsSame b s t → IsLegal b s e → IsLegal b t e
same_legal b s t (Pin k c) same l = (l.0, subst IsLive (same.cells c) l.1)
same_legal b s t (Miss k c) same l = (l.0, λ h. l.1 (subst IsLive (sym (same.cells c)) h))
same_legal b s t (Unpin k c) same l = (l.0, subst (λ n. 0 < n) (same.pins k c) l.1)
same_legal b s t (Mark k c) same l = (l.0, subst (λ n. 0 < n) (same.pins k c) l.1)
same_legal b s t (Read k c i x) same l = (l.0, l.1, l.2, subst (λ n. 0 < n) (same.pins k c) l.3, λ told. l.4 told ∙ same.arrays c l.0 told i l.1)
same_legal b s t (Write k c i x) same l = (l.0, l.1, l.2, subst (λ n. 0 < n) (same.pins k c) l.3, subst IsMarked (same.cells c) l.4)
same_legal b s t (Claim k c) same l = (l.0, sym (same.cells c) ∙ l.1)
same_legal b s t (Drop k c) same l = (l.0, sym (same.cells c) ∙ l.1)
same_legal b s t (Live k c slot) same l = (l.0, l.1, sym (same.cells c) ∙ l.2, l.3, λ d h. l.4 d (subst (λ x. HasSlot x slot) (sym (same.cells d)) h))
same_legal b s t (Close k c) same l = (l.0, subst IsLive (same.cells c) l.1, λ j. sym (same.pins j c) ∙ l.2 j)
same_legal b s t (Gone k c saved) same l = (l.0, subst (IsLeaving k saved) (same.cells c) l.1)
same_legal b s t (Back k c) same l = (l.0, subst (IsLeaving k true) (same.cells c) l.1)

pub same_after : (b : Shape) (s t : State) (events : List Event) → IsSame b s t → IsSame b (after s events) (after t events)
same_after b s t [] same = same
same_after b s t (e ∷ events) same = same_after b (next s e) (next t e) events (same_next b s t e same)

pub same_all_legal : (b : Shape) (s t : State) (events : List Event) → IsSame b s t → AreLegal b s events → AreLegal b t events
same_all_legal b s t [] same l = tt
same_all_legal b s t (e ∷ events) same l = (same_legal b s t e same l.0, same_all_legal b (next s e) (next t e) events (same_next b s t e same) l.1)

pub same_sym : (b : Shape) (s t : State) → IsSame b s t → IsSame b t s
same_sym b s t same = record { cells = λ c. sym (same.cells c); pins = λ k c. sym (same.pins k c); arrays = λ c inside told i few. sym (same.arrays c inside told i few) }

pub same_trans : (b : Shape) (s t u : State) → IsSame b s t → IsSame b t u → IsSame b s u
same_trans b s t u p q = record { cells = λ c. p.cells c ∙ q.cells c; pins = λ k c. p.pins k c ∙ q.pins k c; arrays = λ c inside told i few. p.arrays c inside told i few ∙ q.arrays c inside told i few }

pub after-append : (s : State) (p q : List Event) → after s (p ++ q) ≡ after (after s p) q
after-append s [] q = refl
after-append s (e ∷ p) q = after-append (next s e) p q

pub legal-append : (b : Shape) (s : State) (p q : List Event) → AreLegal b s p → AreLegal b (after s p) q → AreLegal b s (p ++ q)
legal-append b s [] q l m = m
legal-append b s (e ∷ p) q l m = (l.0, legal-append b (next s e) p q l.1 m)

pub legal-parts : (b : Shape) (s : State) (p q : List Event) → AreLegal b s (p ++ q) ↔ (AreLegal b s p × AreLegal b (after s p) q)
legal-parts b s p q = (split s p, λ h. legal-append b s p q h.0 h.1)
  where
    split : (s : State) (p : List Event) → AreLegal b s (p ++ q) → AreLegal b s p × AreLegal b (after s p) q
    split s [] l = (tt, l)
    split s (e ∷ p) l = let rest = split (next s e) p l.1 in ((l.0, rest.0), rest.1)

pub same_refl : (b : Shape) (s : State) → IsSame b s s
same_refl b s = record { cells = λ _. refl; pins = λ _ _. refl; arrays = λ _ _ _ _ _. refl }

-- no events lead to the same state
pub stays_put : (b : Shape) (s t : State) → IsSame b s t → LeadTo b s [] t
stays_put b s t same = record { legal = tt; reached = same }

-- events that lead on
pub lead_on : (b : Shape) (s t u : State) (p q : List Event) → LeadTo b s p t → LeadTo b t q u → LeadTo b s (p ++ q) u
lead_on b s t u p q l m = record {
  legal = legal-append b s p q l.legal (same_all_legal b t (after s p) q (same_sym b _ _ l.reached) m.legal);
  reached = subst (λ v. IsSame b v u) (sym (after-append s p q)) (same_trans b _ _ _ (same_after b _ _ q l.reached) m.reached);
}

-- legality reads of a shape what two alike have in common
pub legal_in : (a b : Shape) (s : State) (e : Event) → IsSameShape a b → IsLegal a s e → IsLegal b s e
legal_in a b s (Pin k c) h l = (subst (λ n. c < n) h.cells l.0, l.1)
legal_in a b s (Miss k c) h l = (subst (λ n. c < n) h.cells l.0, l.1)
legal_in a b s (Unpin k c) h l = (subst (λ n. c < n) h.cells l.0, l.1)
legal_in a b s (Mark k c) h l = (subst (λ n. c < n) h.cells l.0, l.1)
legal_in a b s (Read k c i x) h l = (subst (λ n. c < n) h.cells l.0, subst (λ n. i < n) (h.voxels c) l.1, subst (λ n. x ≤ n) (h.greatest c) l.2, l.3, λ told. l.4 (subst IsTrue (sym (h.told c)) told))
legal_in a b s (Write k c i x) h l = (subst (λ n. c < n) h.cells l.0, subst (λ n. i < n) (h.voxels c) l.1, subst (λ n. x ≤ n) (h.greatest c) l.2, l.3, l.4)
legal_in a b s (Claim k c) h l = (subst (λ n. c < n) h.cells l.0, l.1)
legal_in a b s (Drop k c) h l = (subst (λ n. c < n) h.cells l.0, l.1)
legal_in a b s (Live k c slot) h l = (
  subst (λ n. c < n) h.cells l.0,
  subst (λ n. slot < n) h.slots l.1,
  l.2,
  (λ told. let was = subst IsTrue (sym (h.told c)) told in sym (h.void c l.0 was) ∙ l.3 was),
  l.4,
)
legal_in a b s (Close k c) h l = (subst (λ n. c < n) h.cells l.0, l.1, l.2)
legal_in a b s (Gone k c saved) h l = (subst (λ n. c < n) h.cells l.0, l.1)
legal_in a b s (Back k c) h l = (subst (λ n. c < n) h.cells l.0, l.1)

pub all_legal_in : (a b : Shape) (s : State) (events : List Event) → IsSameShape a b → AreLegal a s events → AreLegal b s events
all_legal_in a b s [] h l = tt
all_legal_in a b s (e ∷ events) h l = (legal_in a b s e h l.0, all_legal_in a b (next s e) events h l.1)

pub shape_sym : (a b : Shape) → IsSameShape a b → IsSameShape b a
shape_sym a b h = record {
  cells = sym h.cells;
  slots = sym h.slots;
  voxels = λ c. sym (h.voxels c);
  greatest = λ c. sym (h.greatest c);
  told = λ c. sym (h.told c);
  void = λ c inside told. sym (h.void c (subst (λ n. c < n) (sym h.cells) inside) (subst IsTrue (sym (h.told c)) told));
}

pub shape_trans : (a b c : Shape) → IsSameShape a b → IsSameShape b c → IsSameShape a c
shape_trans a b c g h = record {
  cells = g.cells ∙ h.cells;
  slots = g.slots ∙ h.slots;
  voxels = λ d. g.voxels d ∙ h.voxels d;
  greatest = λ d. g.greatest d ∙ h.greatest d;
  told = λ d. g.told d ∙ h.told d;
  void = λ d inside told. g.void d inside told ∙ h.void d (subst (λ n. d < n) g.cells inside) (subst IsTrue (g.told d) told);
}

-- states that are the same in one shape are the same in one like it
pub same_in : (a b : Shape) (s t : State) → IsSameShape a b → IsSame a s t → IsSame b s t
same_in a b s t h same = record { cells = same.cells; pins = same.pins; arrays = λ c inside told i few. same.arrays c (subst (λ n. c < n) (sym h.cells) inside) (subst IsTrue (sym (h.told c)) told) i (subst (λ n. i < n) (sym (h.voxels c)) few) }

-- events lead in one shape where they lead in one like it
pub lead_in : (a b : Shape) (s t : State) (events : List Event) → IsSameShape a b → LeadTo a s events t → LeadTo b s events t
lead_in a b s t events h l = record { legal = all_legal_in a b s events h l.legal; reached = same_in a b _ _ h l.reached }

-- the same from a state that is the same, to a state that is the same
pub lead_from : (b : Shape) (r s t : State) (events : List Event) → IsSame b r s → LeadTo b s events t → LeadTo b r events t
lead_from b r s t events same l = record {
  legal = same_all_legal b s r events (same_sym b r s same) l.legal;
  reached = same_trans b _ _ _ (same_after b r s events same) l.reached;
}

pub lead_to : (b : Shape) (s t u : State) (events : List Event) → LeadTo b s events t → IsSame b t u → LeadTo b s events u
lead_to b s t u events l same = record { legal = l.legal; reached = same_trans b _ _ _ l.reached same }

pub composes : (a b : Shape) (s t u : State) (p q : List Event) → IsSameShape a b → LeadTo a s p t → LeadTo b t q u → LeadTo a s (p ++ q) u
composes a b s t u p q h l m = lead_on a s t u p q l (lead_in b a t u q (shape_sym a b h) m)
