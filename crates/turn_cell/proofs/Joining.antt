-- Kinds 1 and 2: a split and a join, and the load after a join.
use Rattle.std.proofs.Common.{◌≡◌, ◌≢◌, ◌⊎◌, ℕ, ◌+◌, ◌<◌, List, [], ◌∷◌, ◌++◌, length, get_or, set, Option, sym, refl, ap, ◌∙◌, subst, inr, ⊎_elim, arith}
use mathlib.Core.Option.{none, some}
use lib.ListN.{get_elem?}
use lib.Seq.{set-get_or}
use Rattle.atomic_table.specs.Table.{State, Me, step, keeps, Allows, Splits, Joins}
use Rattle.atomic_table.proofs.Lists.{at_set, set_else, at_longer}
use Rattle.pass_roster.specs.History.{StartsWith, longer}
use Rattle.pass_roster.proofs.Sums.{at_end, same_view}
use Rattle.pass_roster.proofs.Beginnings.{longer_is}
use Rattle.pass_roster.proofs.Moves.{roster_rests}
use Rattle.pass_roster.proofs.Splits.{roster_splits}
use Rattle.pass_roster.proofs.Joins.{roster_joins}
use Rattle.turn_cell.specs.declared.views.Entry.{Entry}
use Rattle.turn_cell.specs.declared.views.PassView.{PassView}
use Rattle.turn_cell.specs.declared.views.Stage.TheVariants.{Idle, Holds, Joining}
use Rattle.turn_cell.specs.Entry.{StepRule}
use Rattle.turn_cell.specs.PassView.{out_of, passes, parent, child, ended_as, joined, spent}
use Rattle.turn_cell.specs.Rule.{IsTurnPass, Turned}
use Rattle.turn_cell.specs.Plays.{Told, settled}
use Rattle.turn_cell.proofs.Keeping.{is_out, not_both, turn_moves, stage_is}

module _ {T C R : Type 0} (steps : StepRule T C R) (x0 : T) where
  abbrev D : Type 0
  D = PassView T C R

  abbrev E : Type 0
  E = Entry C R

  abbrev St : Type 0
  St = State (Option T) D

  abbrev M : Type 0
  M = Me (Option T) D

  abbrev bit_of : List ℕ → ℕ
  bit_of ws = get_or ws 1 0

  abbrev Pass : (s : St) → Turned steps x0 s → ℕ → D → Type 0
  Pass s r j e = IsTurnPass x0 r.value r.history (bit_of s.words) r.holder j e

  pub splits_turn : (id : ℕ) (v : D) → v.number ≡ 0 → v.stage ≡ Idle → v.drawn < length v.ended + 64 → Splits (Turned steps x0) id v (parent v) (child v)
  splits_turn id v zero_is idle room s r at = record {
    history = r.history;
    value = r.value;
    holder = r.holder;
    leads = r.leads;
    drawn = r.drawn + 1;
    ended = r.ended;
    roster = roster_splits passes r.history r.drawn r.ended s.views id v w u r.roster at live zero_is room record { number = refl; seen = refl; mine = refl; ended = refl; drawn = refl; out = live; new_number = refl; new_seen = refl; new_mine = refl; new_out = refl };
    each = λ j e t o. ⊎_elim (λ (q : get_elem? (set s.views id w) j ≡ some e). ⊎_elim (λ (i : (j ≡ id) × (w ≡ e)). subst (λ (z : ℕ × D). Pass s r z.0 z.1) (λ k. (sym i.0 k, i.1 k)) record { opened = ok.opened; stage = ok.stage }) (λ (i : (j ≢ id) × (get_elem? s.views j ≡ some e)). r.each j e i.1 o) (at_set s.views id j w e q))
        (λ (q : (j ≡ length (set s.views id w)) × (u ≡ e)). subst (Pass s r j) q.1 record { opened = ok.opened; stage = tt }) (at_end (set s.views id w) u e j t);
    words = r.words;
    slots = r.slots;
    bit = r.bit;
    home = r.home;
    away = λ on. let h = r.away on in (h.0, at_longer (set s.views id w) (u ∷ []) r.holder h.0 (set_else s.views id r.holder w (λ i. not_both v h.0 r.value idle h.2 (same_view s.views id r.holder v h.0 (sym i) at h.1)) ∙ h.1), h.2);
  }
    where
      w : D
      w = parent v

      u : D
      u = child v

      live : out_of v.stage ≡ 1
      live = is_out v Idle idle refl

      ok : Pass s r id v
      ok = r.each id v at live

  pub joins_turn : (id : ℕ) (v : D) (other : ℕ) (e : D) → v.number ≡ 0 → v.stage ≡ Idle → e.stage ≡ Idle → Joins (Turned steps x0) id v other e (joined v e) spent
  joins_turn id v other e zero_is idle idle' s r at apart_is at_b = record {
    history = r.history;
    value = r.value;
    holder = r.holder;
    leads = r.leads;
    drawn = r.drawn;
    ended = r.ended ++ ended_as e ∷ [];
    roster = roster_joins passes r.history r.drawn r.ended s.views id v other e b spent (ended_as e) r.roster at live zero_is apart_is at' live' record { number = refl; seen = refl; mine = refl; ended = refl; drawn = refl; out = refl; ended_number = refl; ended_mine = refl; spent = refl };
    each = λ j f t o. ⊎_elim (λ (q : (j ≡ other) × (spent ≡ f)). let none : ◌≡◌ {A = ℕ} 0 (out_of f.stage) = ap (λ (y : D). out_of y.stage) q.1 in let one : out_of f.stage ≡ 1 = o in absurd (omega arith))
        (λ (q : (j ≢ other) × (get_elem? (set s.views id b) j ≡ some f)). ⊎_elim (λ (i : (j ≡ id) × (b ≡ f)). subst (λ (z : ℕ × D). Pass s r z.0 z.1) (λ k. (sym i.0 k, i.1 k)) record { opened = (r.each id v at live).opened; stage = (both.1, both.2) })
        (λ (i : (j ≢ id) × (get_elem? s.views j ≡ some f)). r.each j f i.1 o) (at_set s.views id j b f q.1)) (at_set (set s.views id b) other j spent f t);
    words = r.words;
    slots = r.slots;
    bit = r.bit;
    home = r.home;
    away = λ on. let h = r.away on in (
      h.0,
      set_else (set s.views id b) other r.holder spent (λ i. not_both e h.0 r.value idle' h.2 (same_view s.views other r.holder e h.0 (sym i) at' h.1)) ∙ (set_else s.views id r.holder b (λ i. not_both v h.0 r.value idle h.2 (same_view s.views id r.holder v h.0 (sym i) at h.1)) ∙ h.1),
      h.2,
    );
  }
    where
      b : D
      b = joined v e

      at' : get_elem? s.views other ≡ some e
      at' = ⊎_elim (λ (q : (other ≡ id) × (b ≡ e)). absurd (apart_is q.0)) (λ (q : (other ≢ id) × (get_elem? s.views other ≡ some e)). q.1) (at_set s.views id other b e at_b)

      live : out_of v.stage ≡ 1
      live = is_out v Idle idle refl

      live' : out_of e.stage ≡ 1
      live' = is_out e Idle idle' refl

      both : StartsWith r.history (longer v.seen e.seen) × StartsWith (longer v.seen e.seen) v.seen × StartsWith (longer v.seen e.seen) e.seen × ((v.seen ≡ r.history) ⊎ (e.seen ≡ r.history) → longer v.seen e.seen ≡ r.history)
      both = longer_is r.history v.seen e.seen (r.roster.each id v at live).begins (r.roster.each other e at' live').begins

  -- the load after a join tells what was noted, and the pass is idle again
  pub settles_turn : (slots id : ℕ) (me : M) (a b : List E) → me.0.stage ≡ Joining a b → Allows (Turned steps x0) slots id me 0 (λ n. n) (settled (step slots 0 0 0 none) me)
  settles_turn slots id me a b is s r many at small = (
    w,
    keeps,
    tt,
    subst (λ (ws : List ℕ). Turned steps x0 record { words = ws; homes = s.homes; views = set s.views id w }) (sym (set-get_or s.words 0 0))
        (turn_moves steps x0 s r id me.0 w r.history r.value s.words s.homes r.holder at live (roster_rests passes r.history r.drawn r.ended s.views id me.0 w r.roster at live refl refl refl refl refl (inr refl)) refl r.words r.slots r.bit r.home
        (λ on. let h = r.away on in (h.0, set_else s.views id r.holder w (λ i. not_here h.0 (same_view s.views id r.holder me.0 h.0 (sym i) at h.1) h.2) ∙ h.1, h.2)) r.leads tt (λ j e _ k. k)),
    (refl, subst (Told me.0) (sym is) (stage_is steps x0 s r id me.0 (Joining a b) at is refl)),
  )
    where
      w : D
      w = record me.0 { stage = Idle }

      live : out_of me.0.stage ≡ 1
      live = is_out me.0 (Joining a b) is refl

      not_here : (e : D) → me.0 ≡ e → e.stage ≡ Holds r.value → ⊥
      not_here e same h = let q : Joining a b ≡ Holds r.value = sym is ∙ (ap (λ (z : D). z.stage) same ∙ h) in cc
