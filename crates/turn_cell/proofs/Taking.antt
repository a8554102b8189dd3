-- Kind 3: the compare-exchange that takes the value.
use Rattle.std.proofs.Common.{◌≡◌, ℕ, eqb, List, get_or, set, Option, Some, sym, refl, ap, ◌∙◌, subst, inl, arith, length-set, get_or-set_same}
use mathlib.Core.Option.{none, some}
use lib.ListN.{get_elem?}
use prog.Atomic.{either}
use Rattle.atomic_table.specs.Table.{State, Me, Act, step, keeps, takes, Valid, stepped, carried_after, Allows}
use Rattle.atomic_table.proofs.Lists.{set_here, exchanged}
use Rattle.pass_roster.specs.History.{entries_by}
use Rattle.pass_roster.proofs.Sums.{within}
use Rattle.pass_roster.proofs.Beginnings.{no_more}
use Rattle.pass_roster.proofs.Entries.{none_between}
use Rattle.pass_roster.proofs.Moves.{roster_rests}
use Rattle.pass_roster.proofs.Endings.{roster_alone}
use Rattle.turn_cell.specs.declared.views.Entry.{Entry}
use Rattle.turn_cell.specs.declared.views.PassView.{PassView}
use Rattle.turn_cell.specs.declared.views.Stage.{Stage}
use Rattle.turn_cell.specs.declared.views.Stage.TheVariants.{Spent, Idle, Holds, Joining}
use Rattle.turn_cell.specs.Entry.{StepRule, Leads}
use Rattle.turn_cell.specs.PassView.{out_of, passes}
use Rattle.turn_cell.specs.Rule.{IsStage, Turned}
use Rattle.turn_cell.specs.Plays.{Taken, took}
use Rattle.turn_cell.proofs.Keeping.{is_out, turn_moves, turn_stays}

module _ {T C R : Type 0} (steps : StepRule T C R) (x0 : T) where
  abbrev D : Type 0
  D = PassView T C R

  abbrev St : Type 0
  St = State (Option T) D

  abbrev M : Type 0
  M = Me (Option T) D

  abbrev bit_of : List ℕ → ℕ
  bit_of ws = get_or ws 1 0

  -- what a step leaves, in one type for the two cases of a compare-exchange
  abbrev Goes : St → ℕ → M → (ℕ → M → Type 0) → ℕ → Type 0
  Goes s id me then n = (w : D) × (a : Act (Option T)) × Valid s.homes me.1 a × Turned steps x0 (stepped s 1 n id me.1 w a) × then (bit_of s.words) (w, carried_after me.1 a)

  pub takes_turn : (slots id : ℕ) (me : M) → me.0.stage ≡ Idle → Allows (Turned steps x0) slots id me 1 (λ n. either (eqb n 0) 1 n) (took steps (step slots 1 0 1 none) me)
  takes_turn slots id me idle s r many at small = exchanged (bit_of s.words) 0 1 (Goes s id me (took steps (step slots 1 0 1 none) me))
      (λ hit. (taken s r, takes 0 (Some r.value), r.home hit, kept s r at hit, ((λ _. (r.value, refl, tells s r at)), λ miss. absurd (miss hit))))
      (λ miss. (me.0, keeps, tt, turn_stays steps x0 s r 1 id me.0 at, ((λ hit. absurd (miss hit)), λ _. refl)))
    where
      d : D
      d = me.0

      live : out_of d.stage ≡ 1
      live = is_out d Idle idle refl

      taken : (s : St) (r : Turned steps x0 s) → D
      taken s r = record d { seen = r.history; stage = Holds r.value }

      kept : (s : St) (r : Turned steps x0 s) → get_elem? s.views id ≡ some d → bit_of s.words ≡ 0 → Turned steps x0 (stepped s 1 1 id me.1 (taken s r) (takes 0 (Some r.value)))
      kept s r at hit = let on : bit_of (set s.words 1 1) ≡ 1 = get_or-set_same s.words 1 1 0 (let wide = r.words in omega arith) in
          turn_moves steps x0 s r id d (taken s r) r.history r.value (set s.words 1 1) (set s.homes 0 none) id at live
          (roster_rests passes r.history r.drawn r.ended s.views id d (taken s r) r.roster at live refl refl refl refl refl (inl refl)) refl (length-set s.words 1 1 ∙ r.words) (length-set s.homes 0 none ∙ r.slots) (omega arith) (λ z. absurd (omega arith))
          (λ _. (taken s r, set_here s.views id (taken s r) (within s.views id d at), refl)) r.leads (on, refl, refl, refl) (λ j e other k. go j e.seen e.stage k)
        where
          go : (j : ℕ) (seen : List (Entry C R)) (st : Stage T C R) → IsStage r.value r.history (bit_of s.words) r.holder j seen st → IsStage r.value r.history (bit_of (set s.words 1 1)) id j seen st
          go j seen Spent k = tt
          go j seen Idle k = tt
          go j seen (Holds x) k = let on = k.0 in absurd (omega arith)
          go j seen (Joining a b) k = k

      tells : (s : St) (r : Turned steps x0 s) → get_elem? s.views id ≡ some d → Taken steps d r.value (taken s r)
      tells s r at = let ok = r.roster.each id d at live in record {
        between = ok.begins.0;
        seen = ok.begins.1;
        is = refl;
        own = ok.mine;
        foreign = none_between (λ (e : Entry C R). e.by) d.number d.seen ok.begins.0 (ap (entries_by (λ (e : Entry C R). e.by) d.number) (sym ok.begins.1) ∙ (ok.mine ∙ sym ok.all_seen));
        led = λ x o. let same : Some x ≡ Some x0 = sym o ∙ (r.each id d at live).opened in let e : x0 ≡ x = cc in subst (λ (z : T). Leads steps z r.history r.value) e r.leads;
        alone = λ zero_is all. no_more d.seen ok.begins.0 ((roster_alone passes r.history r.drawn r.ended s.views id d r.roster at live zero_is all).0 ∙ ok.begins.1);
      }
