-- Places in the frames, and slots of which one pass is the owner.
use Rattle.std.proofs.Common.{◌≡◌, ◌≢◌, ◌⊎◌, ℕ, zero, suc, ◌+◌, ◌*◌, ◌<◌, ◌≤◌, List, [], ◌∷◌, ap, subst, inl, inr, ⊎_elim, Option, arith}
use mathlib.Core.Option.{some}
use mathlib.Core.Logic.{dite}
use native.Mathlib.Decide.{dec_le, ℕ_discrete}
use lib.ListN.{get_elem?}
use Rattle.atomic_table.specs.Table.{State as Table}
use Rattle.arr_history.specs.Legal.{HasSlot}
use Rattle.pass_roster.proofs.Sums.{total_one, total_two}
use Rattle.pin_words.specs.declared.holding.Held.{Held}
use Rattle.pin_words.specs.declared.doing.Doing.{Doing}
use Rattle.pin_words.specs.Plan.{Plan}
use Rattle.pin_words.specs.Account.{one}
use Rattle.pin_words.specs.Words.{out, times_held, slots_held, in_slot, sum_over, Each, HeldOk}
use Rattle.pin_words.specs.Rule.{Ruled}
use Rattle.pin_words.specs.Finding.{Picks}
use Rattle.pin_words.proofs.Numbers.{one_same, one_is, in_slot_is}
use Rattle.pin_words.proofs.Lists.{over_one, picks_all, picks_total}
use Rattle.pin_words.proofs.Keeping.{now}
use Rattle.std.proofs.Common.{mul-le-mul_right, suc-mul}

pub frame_below : (f s t i j : ℕ) → i < f → s < t → s * f + i < t * f + j
frame_below f s t i j h l = let m : suc s * f ≤ t * f = mul-le-mul_right f l in let k = suc-mul s f in omega arith

pub frame_same : (f s t i j : ℕ) → i < f → j < f → s * f + i ≡ t * f + j → (s ≡ t) × (i ≡ j)
frame_same f s t i j h k e = ⊎_elim (λ (l : s < t). let b = frame_below f s t i j h l in absurd (omega arith)) (λ r. ⊎_elim (λ (l : t < s). let b = frame_below f t s j i k l in absurd (omega arith))
    (λ (q : s ≡ t). (q, let m : s * f ≡ t * f = ap (λ (x : ℕ). x * f) q in omega arith)) r) (either_way s t)
  where
    either_way : (s t : ℕ) → (s < t) ⊎ ((t < s) ⊎ (s ≡ t))
    either_way s t = dite (dec_le (suc s) t) (λ l. inl (omega arith)) (λ n. dite (dec_le (suc t) s) (λ l. inr (inl (omega arith))) (λ m. inr (inr (omega arith))))

pub times_held_none : (l : ℕ) (hs : List Held) → times_held l hs ≡ 0 → Each (λ (h : Held). h.slot ≢ l) hs
times_held_none l [] z = tt
times_held_none l (h ∷ hs) z = let z' : one h.slot l + times_held l hs ≡ 0 = z in ((λ e. let o = one_is h.slot l e in absurd (omega arith)), times_held_none l hs (omega arith))

pub each_both : {A : Type 0} (P Q R : A → Type 0) (xs : List A) → ((x : A) → P x → Q x → R x) → Each P xs → Each Q xs → Each R xs
each_both P Q R [] f a b = tt
each_both P Q R (x ∷ xs) f a b = (f x a.0 b.0, each_both P Q R xs f a.1 b.1)

over_two : (f : ℕ → ℕ) (b c n : ℕ) → b < n → c < n → b ≢ c → f b + f c ≤ sum_over f n
over_two f b c zero l m ne = absurd (omega arith)
over_two f b c (suc n) l m ne = dite (ℕ_discrete b n) (λ e. let h : f b ≡ f n = ap f e in let o = over_one f c n (omega arith) in omega arith)
    (λ k. dite (ℕ_discrete c n) (λ e. let h : f c ≡ f n = ap f e in let o = over_one f b n (omega arith) in omega arith) (λ j. let r = over_two f b c n (omega arith) (omega arith) ne in omega arith))

module _ {S M : Type 0} (p : Plan S M) where
  abbrev D : Type 0
  D = Doing S M

  -- the slot of a cell: no pass holds it, and no other cell has it
  module _ (s : Table (Option S) D) (r : Ruled p s) (c l : ℕ) (inside : c < p.cells) (u : HasSlot ((now p s r).cells c) l) where
    pub cell_low : l < p.slots
    cell_low = r.parts.slots.low c l (let k = in_slot_is ((now p s r).cells c) l u in omega arith)

    pub not_held : (j : ℕ) (f : D) → get_elem? s.views j ≡ some f → slots_held l f ≡ 0
    not_held j f t = let o = over_one (λ a. in_slot l ((now p s r).cells a)) c p.cells inside in let m = total_one (slots_held l) s.views j f t in let y = r.parts.slots.each l cell_low in let v = r.parts.slots.taken l cell_low in let k = in_slot_is ((now p s r).cells c) l u in omega arith

    pub only_cell : (b : ℕ) → HasSlot ((now p s r).cells b) l → b ≡ c
    only_cell b v = dite (ℕ_discrete b c) (λ e. e) (λ ne. dite (dec_le (suc b) p.cells)
        (λ lt. let o = over_two (λ a. in_slot l ((now p s r).cells a)) b c p.cells (omega arith) inside ne in let y = r.parts.slots.each l cell_low in let t = r.parts.slots.taken l cell_low in let k = in_slot_is ((now p s r).cells c) l u in let k' = in_slot_is ((now p s r).cells b) l v in absurd (omega arith))
        (λ g. let q : in_slot l ((now p s r).cells b) ≡ 0 = ap (in_slot l) (r.parts.cells.beyond b (omega arith)) in let k = in_slot_is ((now p s r).cells b) l v in absurd (omega arith)))

  -- the slot that a pass holds: no cell has it, and no other slot of a pass is it
  module _ (s : Table (Option S) D) (r : Ruled p s) (id : ℕ) (d : D) (at : get_elem? s.views id ≡ some d) (lv : out d ≡ 1) (h : Held) (hs : List Held) (has : Picks h hs d.slots) where
    pub slot_low : h.slot < p.slots
    slot_low = (picks_all (λ (y : Held). y.slot < p.slots) has (r.holds id d at lv).each_slot).0

    pub held_here : HeldOk p (now p s r) s.words d.number h × Each (HeldOk p (now p s r) s.words d.number) hs
    held_here = picks_all (HeldOk p (now p s r) s.words d.number) has (r.parts.frames.held id d at)

    own : slots_held h.slot d ≡ 1 + times_held h.slot hs
    own = let f : times_held h.slot d.slots ≡ one h.slot h.slot + times_held h.slot hs = picks_total (λ (y : Held). one y.slot h.slot) has in let i = one_same h.slot in omega arith

    pub no_cell : (b l : ℕ) → HasSlot ((now p s r).cells b) l → l ≢ h.slot
    no_cell b l u e = dite (dec_le (suc b) p.cells)
        (λ lt. let o = over_one (λ a. in_slot h.slot ((now p s r).cells a)) b p.cells (omega arith) in let m = total_one (slots_held h.slot) s.views id d at in let f = own in
        let y = r.parts.slots.each h.slot slot_low in let v = r.parts.slots.taken h.slot slot_low in let k = in_slot_is ((now p s r).cells b) h.slot (subst (HasSlot ((now p s r).cells b)) e u) in absurd (omega arith))
        (λ g. let v : in_slot h.slot ((now p s r).cells b) ≡ 0 = ap (in_slot h.slot) (r.parts.cells.beyond b (omega arith)) in let k = in_slot_is ((now p s r).cells b) h.slot (subst (HasSlot ((now p s r).cells b)) e u) in absurd (omega arith))

    pub no_other_of_mine : times_held h.slot hs ≡ 0
    no_other_of_mine = let m = total_one (slots_held h.slot) s.views id d at in let f = own in let y = r.parts.slots.each h.slot slot_low in let v = r.parts.slots.taken h.slot slot_low in omega arith

    pub no_other_pass : (j : ℕ) (f : D) → j ≢ id → get_elem? s.views j ≡ some f → times_held h.slot f.slots ≡ 0
    no_other_pass j f n t = let m = total_two (slots_held h.slot) s.views j id f d n t at in let o = own in let y = r.parts.slots.each h.slot slot_low in let v = r.parts.slots.taken h.slot slot_low in omega arith
