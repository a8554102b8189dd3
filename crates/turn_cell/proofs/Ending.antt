-- The rule at the opening, and what it says once all other passes were joined.
use Rattle.std.proofs.Common.{◌≡◌, ℕ, zero, suc, List, [], ◌∷◌, get_or, Option, Some, sym, refl, ◌∙◌, subst, arith}
use mathlib.Core.Option.{some, some-injective, some-ne-none}
use mathlib.Core.Logic.{dite}
use native.Mathlib.Decide.{ℕ_discrete}
use lib.ListN.{get_elem?}
use Rattle.std.specs.Option.{IsSome}
use Rattle.atomic_table.specs.Table.{State, opening, Final, Seen}
use Rattle.pass_roster.specs.Roster.{EachOut}
use Rattle.pass_roster.specs.Ends.{AllJoined, IsWhole}
use Rattle.pass_roster.proofs.Sums.{same_view}
use Rattle.pass_roster.proofs.Endings.{roster_opens, joined_whole}
use Rattle.turn_cell.specs.declared.views.PassView.{PassView}
use Rattle.turn_cell.specs.declared.views.Stage.TheVariants.{Idle, Holds}
use Rattle.turn_cell.specs.Entry.{StepRule, Leads}
use Rattle.turn_cell.specs.PassView.{out_of, passes, starting}
use Rattle.turn_cell.specs.Rule.{IsTurnPass, Turned}
use Rattle.turn_cell.proofs.Keeping.{is_out, not_both}

module _ {T C R : Type 0} (steps : StepRule T C R) (x0 : T) where
  abbrev D : Type 0
  D = PassView T C R

  opens_turn : Turned steps x0 (opening (0 ∷ 0 ∷ []) (Some x0 ∷ []) (starting x0))
  opens_turn = record {
    history = [];
    value = x0;
    holder = 0;
    leads = refl;
    drawn = 1;
    ended = [];
    roster = roster_opens passes (starting x0) refl refl refl refl refl refl;
    each = λ j d t o. subst (IsTurnPass x0 x0 [] 0 0 j) (only j d t) record { opened = refl; stage = tt };
    words = refl;
    slots = refl;
    bit = omega arith;
    home = λ _. refl;
    away = λ z. absurd (omega arith);
  }
    where
      only : (j : ℕ) (d : D) → get_elem? (starting x0 ∷ []) j ≡ some d → starting x0 ≡ d
      only zero d t = some-injective _ _ t
      only (suc j) d t = absurd (some-ne-none d (sym t))

  pub opens_with : (xs : List (Option T)) → xs ≡ Some x0 ∷ [] → Turned steps x0 (opening (0 ∷ 0 ∷ []) xs (starting x0))
  opens_with xs e = subst (λ (z : List (Option T)). Turned steps x0 (opening (0 ∷ 0 ∷ []) z (starting x0))) (sym e) opens_turn

  -- the value is at home, and the whole history leads to it
  pub closes_turn : (id : ℕ) (v : D) (ws : List ℕ) (xs : List (Option T)) → v.number ≡ 0 → v.stage ≡ Idle → AllJoined passes v → Final (Seen (Turned steps x0) id v) ws xs
      → (y : T) × (get_elem? xs 0 ≡ some (Some y)) × Leads steps x0 v.seen y × IsWhole passes v
  closes_turn id v ws xs zero_is idle all fin = (r.value, fin.4 0 (Some r.value) (r.home off), subst (λ l. Leads steps x0 l r.value) (sym last.0) r.leads, last.2)
    where
      s : State (Option T) D
      s = fin.0

      r : Turned steps x0 s
      r = fin.1.0

      at : get_elem? s.views id ≡ some v
      at = fin.1.1

      live : out_of v.stage ≡ 1
      live = is_out v Idle idle refl

      last : (v.seen ≡ r.history) × EachOut passes s.views (λ j _. j ≡ id) × IsWhole passes v
      last = joined_whole passes r.history r.drawn r.ended s.views id v r.roster at live zero_is all

      off : get_or s.words 1 0 ≡ 0
      off = dite (ℕ_discrete (get_or s.words 1 0) 0) (λ z. z) (λ n. let two = r.bit in let h = r.away (omega arith) in
          absurd (not_both v h.0 r.value idle h.2 (same_view s.views id r.holder v h.0 (sym (last.1 r.holder h.0 h.1 (is_out h.0 (Holds r.value) h.2 refl))) at h.1)))

module _ {T : Type 0} where
  pub kept_is : (xs : List (Option T)) (kept : Option T) (y : T) → get_elem? xs 0 ≡ some (Some y) → get_elem? xs 0 ≡ some kept → kept ≡ Some y
  kept_is xs kept y e f = some-injective _ _ (sym f ∙ e)

  pub kept_some : (kept : Option T) (y : T) → kept ≡ Some y → IsSome kept
  kept_some kept y e = subst IsSome (sym e) refl

  pub kept_same : (kept : Option T) (y z : T) → kept ≡ Some y → kept ≡ Some z → y ≡ z
  kept_same kept y z e f = cc
