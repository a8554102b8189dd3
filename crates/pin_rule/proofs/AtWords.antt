-- The steps at the words, and of the numbers, that the program names.
use Rattle.std.proofs.Common.{◌≡◌, ℕ, ◌+◌, ◌*◌, ◌^◌, ◌%◌, ◌<◌, ◌≤◌, ◌==◌, Bool, true, length, Option, Some, sym, ap, ◌∙◌, subst}
use mathlib.Core.Option.{none}
use prog.Atomic.{either}
use Rattle.atomic_table.specs.Table.{step, Allows}
use Rattle.pin_words.specs.declared.holding.Pin.{Pin}
use Rattle.pin_words.specs.declared.doing.Doing.{Doing}
use Rattle.pin_words.specs.declared.doing.Stage.TheVariants.{Idle}
use Rattle.pin_words.specs.Plan.{Plan, IsPlan}
use Rattle.pin_words.specs.Layout.{bit, live_word, frame_at}
use Rattle.pin_words.specs.Rule.{Ruled, Sat}
use Rattle.pin_words.specs.Finding.{has_pin, has_claim, has_held, held_of}
use Rattle.pin_words.specs.Cells as cells
use Rattle.pin_words.specs.Pins as pins
use Rattle.pin_rule.specs.declared.made.Made.{Made}
use Rattle.pin_rule.specs.Calls.{carried, Rests}
use Rattle.pin_words.proofs.Closing.{closes_cell}
use Rattle.pin_words.proofs.Publishing.{publishes_cell}
use Rattle.pin_words.proofs.Pinning.{reads_voxel}
use Rattle.pin_words.proofs.Writing.{writes_voxel}
use Rattle.pin_rule.proofs.Finds.{picks_pin, picks_claim, picks_held_own, held_slot}

module _ {S M : Type 0} (p : Plan S M) where
  pub closes_as : (plan : M → Plan S M) → plan p.made ≡ p → (slots id : ℕ) (me : Sat S M) (c l : ℕ) (b : Bool) (old new : ℕ) → me.0.stage ≡ Idle → c < p.cells → old ≡ live_word l b → new ≡ 100663296 + 16777216 * bit b + 4294967296 * l
      → Allows (Ruled p) slots id me (1 + c) (λ n. either (n == old) new n) (cells.closes plan (step slots (1 + c) old new none) me)
  closes_as plan same slots id me c l b old new idle inside old_is new_is = subst (λ (x : ℕ). Allows (Ruled p) slots id me (1 + c) (λ n. either (n == x) new n) (cells.closes plan (step slots (1 + c) x new none) me)) (sym old_is)
      (closes_cell p plan same slots id me c l b new idle inside new_is)

  pub publishes_as : IsPlan p → (plan : M → Plan S M) → plan p.made ≡ p → (slots id : ℕ) (me : Sat S M) (c l k : ℕ) → me.0.stage ≡ Idle → length me.0.pins < 64 → has_claim c me.0 ≡ true → has_held l me.0 ≡ true → (held_of l me.0).filled ≡ Some c → k ≡ 33554432 + 1 + l * 4294967296
      → Allows (Ruled p) slots id me (1 + c) (λ n. (n + k) % 2 ^ 64) (cells.publishes plan (step slots (1 + c) k 0 none) me)
  publishes_as ok plan same slots id me c l k idle room claim has is_filled k_is = subst (λ (x : ℕ). Allows (Ruled p) slots id me (1 + c) (λ n. (n + x) % 2 ^ 64) (cells.publishes plan (step slots (1 + c) x 0 none) me)) ((λ i. 33554432 + 1 + held_slot l me.0 has i * 4294967296) ∙ sym k_is)
      (publishes_cell p ok plan same slots id me c (held_of l me.0) idle room (picks_claim c me.0 claim) (picks_held_own l me.0 has) is_filled)

  pub reads_as : (plan : M → Plan S M) → plan p.made ≡ p → (slots id : ℕ) (me : Sat S M) (q r : Pin) (i j k : ℕ) → r ≡ q → j ≡ i → k ≡ frame_at p q.slot i → me.0.stage ≡ Idle → has_pin q me.0 ≡ true → i < p.voxels q.cell
      → Allows (Ruled p) slots id me k (λ n. n) (pins.read plan r j (step slots k 0 0 none) me)
  reads_as plan same slots id me q r i j k is at k_is idle has near = subst (λ (x : Pin × ℕ × ℕ). Allows (Ruled p) slots id me x.2 (λ n. n) (pins.read plan x.0 x.1 (step slots x.2 0 0 none) me)) (λ m. (sym is m, sym at m, sym k_is m))
      (reads_voxel p plan same slots id me q i idle (picks_pin q me.0 has) near)

  pub writes_as : IsPlan p → (plan : M → Plan S M) → plan p.made ≡ p → (slots id : ℕ) (me : Sat S M) (q r : Pin) (i j x k : ℕ) → r ≡ q → j ≡ i → k ≡ frame_at p q.slot i → me.0.stage ≡ Idle → has_pin q me.0 ≡ true → q.marked ≡ true → i < p.voxels q.cell → x ≤ p.greatest q.cell
      → Allows (Ruled p) slots id me k (λ _. x) (λ _. pins.written plan r j (step slots k x 0 none) me x)
  writes_as ok plan same slots id me q r i j x k is at k_is idle has marked near fits = subst (λ (y : Pin × ℕ × ℕ). Allows (Ruled p) slots id me y.2 (λ _. x) (λ _. pins.written plan y.0 y.1 (step slots y.2 x 0 none) me x)) (λ m. (sym is m, sym at m, sym k_is m))
      (writes_voxel p ok plan same slots id me q i x idle (picks_pin q me.0 has) marked near fits)

-- a visit that missed and its way back leave the pass at rest
pub visit_rests : {S : Type 0} (m m1 m2 : Sat S (Option (Made S))) (made : Made S) (v : Doing S (Option (Made S))) → Rests m made → m1.1 ≡ m.1 → m1.0 ≡ v → v.made ≡ m.0.made → v.lane ≡ m.0.lane → m2 ≡ (record m1.0 { stage = Idle }, m1.1) → Rests m2 made
visit_rests m m1 m2 made v r same is made_is lane now = (
  ap (λ (x : Sat _ _). x.0.made) now ∙ (ap (λ (x : Doing _ _). x.made) is ∙ (made_is ∙ r.0)),
  ap (λ (x : Sat _ _). x.0.stage) now,
  ap (λ (x : Sat _ _). x.1) now ∙ (same ∙ (r.2 ∙ ap carried (sym lane ∙ (ap (λ (x : Doing _ _). x.lane) (sym is) ∙ ap (λ (x : Sat _ _). x.0.lane) (sym now))))),
)
