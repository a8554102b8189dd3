-- Kind 4: the subtraction that gives the value back, which is a call's place in the history.
use Rattle.std.proofs.Common.{◌≡◌, ◌≢◌, ℕ, ◌+◌, ◌-◌, ◌%◌, ◌^◌, ◌<◌, List, [], ◌∷◌, ◌++◌, get_or, set, Option, Some, sym, refl, ap, ◌∙◌, subst, arith, length-set, get_or-set_same}
use mathlib.Core.Option.{none, some}
use Rattle.atomic_table.specs.Table.{Me, Act, step, gives, Valid, stepped, carried_after, Allows}
use Rattle.atomic_table.proofs.Lists.{set_here}
use Rattle.pass_roster.proofs.Moves.{roster_adds}
use Rattle.turn_cell.specs.declared.views.Entry.{Entry}
use Rattle.turn_cell.specs.declared.views.PassView.{PassView}
use Rattle.turn_cell.specs.declared.views.Stage.{Stage}
use Rattle.turn_cell.specs.declared.views.Stage.TheVariants.{Spent, Idle, Holds, Joining}
use Rattle.turn_cell.specs.Entry.{StepRule, entry, Leads}
use Rattle.turn_cell.specs.PassView.{out_of, passes}
use Rattle.turn_cell.specs.Rule.{IsStage, Turned}
use Rattle.turn_cell.specs.Plays.{adding, gave}
use Rattle.turn_cell.proofs.Leading.{leads_on}
use Rattle.turn_cell.proofs.Keeping.{is_out, turn_moves, stage_is}

module _ {T C R : Type 0} (steps : StepRule T C R) (x0 : T) where
  abbrev D : Type 0
  D = PassView T C R

  abbrev M : Type 0
  M = Me (Option T) D

  abbrev bit_of : List ℕ → ℕ
  bit_of ws = get_or ws 1 0

  abbrev less : ℕ → ℕ
  less n = (n + (2 ^ 64 - 1)) % 2 ^ 64

  pub gives_turn : (call : Option C) (reply : Option R) (slots id : ℕ) (me : M) (x y : T) (c : C) (a : R) → me.0.stage ≡ Holds x → me.1 ≡ (0, Some y) ∷ [] → call ≡ Some c → reply ≡ Some a → steps x me.0.number c a y
      → Allows (Turned steps x0) slots id me 1 less (gave call reply (step slots 1 1 0 none) me)
  gives_turn call reply slots id me x y c a is carried said answered did s r many at small = subst Gave (sym carried) (
    w,
    gives,
    tt,
    turn_moves steps x0 s r id d w log' y (set s.words 1 (less n)) (set s.homes 0 (some (Some y))) r.holder at live
        (roster_adds passes r.history r.drawn r.ended s.views id d w e r.roster at live refl refl refl refl refl refl (ap (λ l. l ++ e ∷ []) known.3)) refl
        (length-set s.words 1 (less n) ∙ r.words) (length-set s.homes 0 (some (Some y)) ∙ r.slots)
        (subst (λ (z : ℕ). z < 2) (sym off) (omega arith)) (λ _. set_here s.homes 0 (some (Some y)) (let deep = r.slots in omega arith)) (λ z. let o : bit_of (set s.words 1 (less n)) ≡ 0 = off in absurd (omega arith))
        (leads_on steps x0 r.history x y d.number c a (subst (λ (v : T). Leads steps x0 r.history v) (sym known.2) r.leads) did) tt (λ j f other k. stay j f.seen f.stage other k),
    (refl, λ c' a' p q. let i : c ≡ c' = cc in let j : a ≡ a' = cc in λ z. adding d (entry d.number (i z) (j z))),
  )
    where
      d : D
      d = me.0

      e : Entry C R
      e = entry d.number c a

      w : D
      w = adding d e

      log' : List (Entry C R)
      log' = r.history ++ e ∷ []

      n : ℕ
      n = bit_of s.words

      known : (n ≡ 1) × (r.holder ≡ id) × (x ≡ r.value) × (d.seen ≡ r.history)
      known = stage_is steps x0 s r id d (Holds x) at is refl

      live : out_of d.stage ≡ 1
      live = is_out d (Holds x) is refl

      off : bit_of (set s.words 1 (less n)) ≡ 0
      off = get_or-set_same s.words 1 (less n) 0 (let wide = r.words in omega arith) ∙ ap less known.0

      stay : (j : ℕ) (seen : List (Entry C R)) (st : Stage T C R) → j ≢ id → IsStage r.value r.history n r.holder j seen st → IsStage y log' (bit_of (set s.words 1 (less n))) r.holder j seen st
      stay j seen Spent other k = tt
      stay j seen Idle other k = tt
      stay j seen (Holds z) other k = absurd (other (sym k.1 ∙ known.1))
      stay j seen (Joining l m) other k = k

      Gave : List (ℕ × Option T) → Type 0
      Gave cs = (u : D) × (act : Act (Option T)) × Valid s.homes cs act × Turned steps x0 (stepped s 1 (less n) id cs u act) × gave call reply (step slots 1 1 0 none) me n (u, carried_after cs act)
