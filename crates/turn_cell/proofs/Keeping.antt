-- What a step of one pass has to show for the rule of the turn.
use Rattle.std.proofs.Common.{◌≡◌, ◌≢◌, ℕ, ◌<◌, List, length, get_or, set, Option, Some, sym, ap, ◌∙◌, subst, ⊎_elim}
use mathlib.Core.Option.{some}
use mathlib.Core.Option as maybe
use lib.ListN.{get_elem?}
use lib.Seq.{set-get_or}
use Rattle.atomic_table.specs.Table.{State}
use Rattle.atomic_table.proofs.Lists.{at_set, set_again}
use Rattle.pass_roster.specs.Roster.{Roster}
use Rattle.turn_cell.specs.declared.views.Entry.{Entry}
use Rattle.turn_cell.specs.declared.views.PassView.{PassView}
use Rattle.turn_cell.specs.declared.views.Stage.{Stage}
use Rattle.turn_cell.specs.declared.views.Stage.TheVariants.{Idle, Holds}
use Rattle.turn_cell.specs.Entry.{StepRule, Leads}
use Rattle.turn_cell.specs.PassView.{out_of, passes}
use Rattle.turn_cell.specs.Rule.{IsStage, IsTurnPass, Turned}

module _ {T C R : Type 0} where
  pub is_out : (d : PassView T C R) (st : Stage T C R) → d.stage ≡ st → out_of st ≡ 1 → out_of d.stage ≡ 1
  is_out d st e n = ap out_of e ∙ n

  -- a view isn't idle and with the value at once
  pub not_both : (d e : PassView T C R) (x : T) → d.stage ≡ Idle → e.stage ≡ Holds x → d ≡ e → ⊥
  not_both d e x i h same = let q : Idle ≡ Holds x = sym i ∙ (ap (λ (z : PassView T C R). z.stage) same ∙ h) in cc

module _ {T C R : Type 0} (steps : StepRule T C R) (x0 : T) where
  abbrev D : Type 0
  D = PassView T C R

  abbrev E : Type 0
  E = Entry C R

  abbrev St : Type 0
  St = State (Option T) D

  abbrev bit_of : List ℕ → ℕ
  bit_of ws = get_or ws 1 0

  -- the pass at id goes from the view d to w, and the history leads to the value v'
  pub turn_moves : (s : St) (r : Turned steps x0 s) (id : ℕ) (d w : D) (log' : List E) (v' : T) (ws' : List ℕ) (hs' : List (maybe.Option (Option T))) (h' : ℕ)
      → get_elem? s.views id ≡ some d → out_of d.stage ≡ 1 → Roster passes log' r.drawn r.ended (set s.views id w) → w.opening ≡ d.opening → length ws' ≡ 2 → length hs' ≡ 1 → bit_of ws' < 2
      → (bit_of ws' ≡ 0 → get_elem? hs' 0 ≡ some (some (Some v'))) → (bit_of ws' ≡ 1 → (e : D) × (get_elem? (set s.views id w) h' ≡ some e) × (e.stage ≡ Holds v'))
      → Leads steps x0 log' v' → IsStage v' log' (bit_of ws') h' id w.seen w.stage
      → ((j : ℕ) (e : D) → j ≢ id → IsStage r.value r.history (bit_of s.words) r.holder j e.seen e.stage → IsStage v' log' (bit_of ws') h' j e.seen e.stage)
      → Turned steps x0 record { words = ws'; homes = hs'; views = set s.views id w }
  turn_moves s r id d w log' v' ws' hs' h' at live roster opened wide deep bit home away leads mine others = record {
    history = log';
    value = v';
    holder = h';
    leads = leads;
    drawn = r.drawn;
    ended = r.ended;
    roster = roster;
    each = λ j e t o. ⊎_elim (λ (q : (j ≡ id) × (w ≡ e)). subst (λ (z : ℕ × D). IsTurnPass x0 v' log' (bit_of ws') h' z.0 z.1) (λ i. (sym q.0 i, q.1 i)) record { opened = opened ∙ (r.each id d at live).opened; stage = mine })
        (λ (q : (j ≢ id) × (get_elem? s.views j ≡ some e)). let k = r.each j e q.1 o in record { opened = k.opened; stage = others j e q.0 k.stage }) (at_set s.views id j w e t);
    words = wide;
    slots = deep;
    bit = bit;
    home = home;
    away = away;
  }

  -- a word that is written as it was, and a view that stays
  pub turn_stays : (s : St) (r : Turned steps x0 s) (i id : ℕ) (d : D) → get_elem? s.views id ≡ some d → Turned steps x0 record { words = set s.words i (get_or s.words i 0); homes = s.homes; views = set s.views id d }
  turn_stays s r i id d at = subst (Turned steps x0) (λ z. record { words = sym (set-get_or s.words i 0) z; homes = s.homes; views = sym (set_again s.views id d at) z }) r

  -- what the rule says of a pass in this stage
  pub stage_is : (s : St) (r : Turned steps x0 s) (id : ℕ) (d : D) (st : Stage T C R) → get_elem? s.views id ≡ some d → d.stage ≡ st → out_of st ≡ 1 → IsStage r.value r.history (bit_of s.words) r.holder id d.seen st
  stage_is s r id d st at is live = subst (IsStage r.value r.history (bit_of s.words) r.holder id d.seen) is (r.each id d at (is_out d st is live)).stage
