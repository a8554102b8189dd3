-- What a step tells of what its pass has seen, and what a lone pass knows.
use Rattle.std.proofs.Common.{◌≡◌, ◌≢◌, ℕ, ◌+◌, ◌*◌, ◌<◌, ◌≤◌, ◌==◌, cond, Bool, true, false, List, [], ◌∷◌, ◌++◌, length, get_or, sym, refl, ap, ◌∙◌, subst, ⊎_elim, Option, arith, length-append}
use mathlib.Core.Option.{some}
use lib.ListN.{get_elem?}
use Rattle.atomic_table.specs.Table.{State as Table}
use Rattle.arr_history.specs.declared.event.Event.{Event}
use Rattle.arr_history.specs.declared.cell_state.CellState.{CellState}
use Rattle.arr_history.specs.declared.cell_state.CellState.TheVariants as cell
use Rattle.arr_history.specs.Legal.{HasSlot, IsLegal}
use Rattle.arr_history.specs.History.{after, AreLegal, pass_of}
use Rattle.pass_roster.specs.History.{entries_by, total}
use Rattle.pass_roster.proofs.Sums.{total_within, total_only}
use Rattle.pass_roster.proofs.Entries.{by_append, by_one, none_between}
use Rattle.pass_roster.proofs.Endings.{roster_alone}
use Rattle.pin_words.specs.declared.holding.Pin.{Pin}
use Rattle.pin_words.specs.declared.doing.Doing.{Doing}
use Rattle.pin_words.specs.declared.doing.Stage.{Stage}
use Rattle.pin_words.specs.declared.doing.Stage.TheVariants.{Spent, Idle, Visiting, Joining}
use Rattle.pin_words.specs.Plan.{Plan, shape_of, start_of}
use Rattle.pin_words.specs.Account.{times_in, rise}
use Rattle.pin_words.specs.Layout.{face}
use Rattle.pin_words.specs.Words.{out_of, out, passes, times, times_left, times_held, visits, doing_counts, slots_held, in_work, works}
use Rattle.pin_words.specs.Rule.{HoldsOk, HoldsNone, Ruled}
use Rattle.pin_words.specs.Tells.{IsLone, SawTo, IsOwnWork, Adds, Sees, ShowsCell}
use Rattle.pin_words.proofs.Numbers.{in_slot_is}
use Rattle.pin_words.proofs.Histories.{legal_on}
use Rattle.pin_words.proofs.Keeping.{now, out_is}
use Rattle.pin_words.proofs.Found.{no_claim, no_left, number_in, claim_found, left_found}

no_more : {A : Type 0} (xs ys : List A) → xs ≡ xs ++ ys → ys ≡ []
no_more xs [] e = refl
no_more xs (y ∷ ys) e = let n = ap length e ∙ length-append xs (y ∷ ys) in absurd (omega arith)

times_most : (c : ℕ) (ps : List Pin) → times c ps ≤ length ps
times_most c [] = omega arith
times_most c (q ∷ qs) = go (q.cell == c) (times_most c qs)
  where
    go : (b : Bool) → times c qs ≤ length qs → cond b 1 0 + times c qs ≤ length (q ∷ qs)
    go true h = omega arith
    go false h = omega arith

visits_most : (c : ℕ) (st : Stage) → visits c st ≤ out_of st
visits_most c Spent = omega arith
visits_most c Idle = omega arith
visits_most c (Visiting a) = go (a == c)
  where
    go : (b : Bool) → cond b 1 0 ≤ 1
    go true = omega arith
    go false = omega arith
visits_most c (Joining a b) = omega arith

count_small : {S M : Type 0} (c : ℕ) (views : List (Doing S M)) → ((j : ℕ) (d : Doing S M) → get_elem? views j ≡ some d → out d ≡ 1 → length d.pins ≤ 64) → ((j : ℕ) (d : Doing S M) → get_elem? views j ≡ some d → out d ≡ 0 → d.pins ≡ [])
    → total (doing_counts c) views ≤ 65 * total out views
count_small c views few spent = total_within (doing_counts c) out 65 views (λ j d t. let v = visits_most c d.stage in let m = times_most c d.pins in
    ⊎_elim (λ (z : out_of d.stage ≡ 0). let e : times c d.pins ≡ 0 = ap (times c) (spent j d t z) in omega arith) (λ (z : out_of d.stage ≡ 1). let e = few j d t z in omega arith) (out_is d.stage))

module _ {S M : Type 0} (p : Plan S M) where
  abbrev D : Type 0
  D = Doing S M

  abbrev St : Type 0
  St = Table (Option S) D

  pub small : (s : St) (r : Ruled p s) (c : ℕ) → total (doing_counts c) s.views ≤ 4160
  small s r c = let m = count_small c s.views (λ j d t o. (r.holds j d t o).few) (λ j d t o. (r.spent j d t o).pins) in let f = r.roster.few in omega arith

  module _ (s : St) (r : Ruled p s) (id : ℕ) (d : D) (at : get_elem? s.views id ≡ some d) (lv : out d ≡ 1) where
    -- a lone pass has seen all, and the others are spent
    pub lone_saw : IsLone d → d.seen ≡ r.log
    lone_saw lone = (roster_alone passes r.log r.drawn r.ended s.views id d r.roster at lv lone.0 lone.1).0

    pub lone_others : IsLone d → (j : ℕ) (f : D) → get_elem? s.views j ≡ some f → j ≢ id → HoldsNone p f × (out_of f.stage ≡ 0)
    lone_others lone j f t n = ⊎_elim (λ (o : out_of f.stage ≡ 0). (r.spent j f t o, o))
        (λ (o : out_of f.stage ≡ 1). absurd (n ((roster_alone passes r.log r.drawn r.ended s.views id d r.roster at lv lone.0 lone.1).1 j f t o))) (out_is f.stage)

    lone_count : IsLone d → d.stage ≡ Idle → (c : ℕ) → total (doing_counts c) s.views ≡ times c d.pins
    lone_count lone idle c = total_only (doing_counts c) s.views id d at (λ j f t n. let o = lone_others lone j f t n in let v = visits_most c f.stage in let e : times c f.pins ≡ 0 = ap (times c) o.0.pins in let z = o.1 in omega arith)
        ∙ (let v : visits c d.stage ≡ 0 = ap (visits c) idle in omega arith)

    pub lone_holding : IsLone d → (l : ℕ) → total (slots_held l) s.views ≡ slots_held l d
    lone_holding lone l = total_only (slots_held l) s.views id d at (λ j f t n. ap (times_held l) (lone_others lone j f t n).0.slots)

    -- a cell that is being loaded or turned out is so by the lone pass
    pub lone_work : IsLone d → (c : ℕ) → c < p.cells → IsOwnWork d c ((now p s r).cells c)
    lone_work lone c inside = go ((now p s r).cells c) refl
      where
        ok : HoldsOk p (now p s r) d
        ok = r.holds id d at lv

        work : in_work ((now p s r).cells c) ≡ times_in c d.claims + times_left c d.leaving
        work = r.parts.cells.worked c inside ∙ total_only (works c) s.views id d at (λ j f t n. let o = (lone_others lone j f t n).0 in let a : times_in c f.claims ≡ 0 = ap (times_in c) o.claims in let b : times_left c f.leaving ≡ 0 = ap (times_left c) o.leaving in omega arith)

        go : (t : CellState) → (now p s r).cells c ≡ t → IsOwnWork d c t
        go cell.Absent is = tt
        go (cell.Live l m) is = tt
        go (cell.Loading k) is = let i : in_work ((now p s r).cells c) ≡ 1 = ap in_work is in let left' = no_left (start_of p) (now p s r) p.cells d.number c d.leaving (λ l m h. let y : cell.Loading k ≡ cell.Leaving d.number l m = sym is ∙ h in cc) ok.each_left in
            let found = claim_found (now p s r) p.cells d.number c d.claims ok.each_claim (let w = work in omega arith) in (ap number_in (sym is ∙ found.0), found.1)
        go (cell.Leaving k l m) is = let i : in_work ((now p s r).cells c) ≡ 1 = ap in_work is in let claimed = no_claim (now p s r) p.cells d.number c d.claims (λ h. let y : cell.Leaving k l m ≡ cell.Loading d.number = sym is ∙ h in cc) ok.each_claim in
            let found = left_found (start_of p) (now p s r) p.cells d.number c d.leaving ok.each_left (let w = work in omega arith) in (ap number_in (sym is ∙ found.2), found.3)

    pub lone_rise : IsLone d → (l : ℕ) → total (rise l) s.views ≡ rise l d
    lone_rise lone l = total_only (rise l) s.views id d at (λ j f t n. ap (λ (xs : List ℕ). get_or xs l 0) (lone_others lone j f t n).0.rises)

    pub saw : SawTo d r.log
    saw = let k = r.roster.each id d at lv in let b = k.begins in record {
      between = b.0;
      is = b.1;
      lone = λ lone. no_more d.seen b.0 (lone_saw lone ∙ b.1);
      foreign = none_between pass_of d.number d.seen b.0 (sym (ap (entries_by pass_of d.number) b.1) ∙ (k.mine ∙ sym k.all_seen));
    }

    -- the pass made the event e, and its view w became w'
    pub adds : (w w' : D) (e : Event) → pass_of e ≡ d.number → IsLegal (shape_of p) (now p s r) e → w'.seen ≡ r.log ++ e ∷ [] → w'.mine ≡ d.mine ++ e ∷ [] → w' ≡ record w { seen = w'.seen; mine = d.mine ++ e ∷ [] } → Adds p d e w w'
    adds w w' e own legal seen mine is = record {
      seen = (r.log, seen, saw);
      own = own;
      legal = subst (AreLegal (shape_of p) (start_of p)) (sym seen) (legal_on (shape_of p) (start_of p) r.log e r.legal legal);
      all_seen = ap (entries_by pass_of d.number) seen ∙ (by_append pass_of d.number r.log (e ∷ []) ∙ ((λ i. (r.roster.each id d at lv).mine i ++ by_one pass_of d.number e own i) ∙ sym mine));
      is = is;
    }

    -- the pass made none, and has seen all
    pub sees : (w w' : D) → w'.seen ≡ r.log → w'.mine ≡ d.mine → w' ≡ record w { seen = w'.seen } → Sees p d w w'
    sees w w' seen mine is = record {
      seen = subst (SawTo d) (sym seen) saw;
      legal = subst (AreLegal (shape_of p) (start_of p)) (sym seen) r.legal;
      all_seen = ap (entries_by pass_of d.number) seen ∙ ((r.roster.each id d at lv).mine ∙ sym mine);
      is = is;
    }

    -- a cell's word is that of its state, with some count
    pub shows_cell : d.stage ≡ Idle → (c : ℕ) → c < p.cells → (seen : List Event) → (after (start_of p) seen).cells ≡ (now p s r).cells → ShowsCell p d seen c (get_or s.words (1 + c) 0)
    shows_cell idle c inside seen same = record {
      count = total (doing_counts c) s.views;
      small = (let m = small s r c in omega arith);
      word = r.parts.cells.each c inside ∙ (λ i. face (sym same i c) + total (doing_counts c) s.views);
      own = λ lone. lone_count lone idle c;
      own_work = λ lone. subst (IsOwnWork d c) (λ i. sym same i c) (lone_work lone c inside);
      low = λ l h. r.parts.slots.low c l (let o = in_slot_is ((now p s r).cells c) l (subst (λ (t : CellState). HasSlot t l) (λ i. same i c) h) in omega arith);
    }
