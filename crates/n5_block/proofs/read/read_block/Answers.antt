-- A block that breaks no rule is good, and a good block breaks no rule.
use Rattle.std.proofs.Common.{◌≡◌, ◌∙◌, ℕ, List, ◌-◌, length, take, drop, None, Some, sym, ap, arith}
use Rattle.std.proofs.lemmas.Grind.{common_steps}
use Rattle.std.proofs.lemmas.List.{get_or-take}
use Rattle.std.proofs.lemmas.Result.{err_from_is_err_and}
use Rattle.voxel_box.specs.Box.{number, volume}
use Rattle.voxel_box.proofs.BoxLemmas.{number_below_volume}
use Rattle.n5_block.specs.Rows.{element_of}
use Rattle.n5_block.proofs.Good.{good}
use Rattle.n5_block.proofs.Only.{unbroken, sound_of_good}
use Rattle.n5_block.proofs.ValueLemmas.{small_sides, values_given, none_given}
use Rattle.n5_block.proofs.read.read_block.Goals as goal

-- all that a slice from a place on has
take_rest : (k : ℕ) (xs : List ℕ) → take (length xs - k) (drop k xs) ≡ drop k xs
take_rest k xs = grind (arith, common_steps)

pub returns-clause-good : goal.returns-clause-good
returns-clause-good c =
    let e = c.in_ok-sides.ensures in
    let rest = take_rest 16 c.args.bytes.now in
    good c.args.width c.args.need c.args.full c.args.bytes.now _ (λ i. (c.type_inv.bytes i).fits)
    (record { long = omega (arith, e.whole); mode = e.head.0; axes = e.head.1; at_least = e.at_least; at_most = e.at_most; whole = e.whole })
    (grind (arith, common_steps))
    (λ at w. get_or-take (volume c.args.need) c.copy_needed.new.out (number at c.args.need) 0 (number_below_volume at c.args.need w) ∙ c.copy_needed.ensures.taken at w
    ∙ ap (λ bytes. element_of c.args.width bytes (number at c.in_ok-sides.sides)) rest
    ∙ ap (λ sides. element_of c.args.width (drop 16 c.args.bytes.now) (number at sides)) e.sides)

pub returns-clause-values : goal.returns-clause-values
returns-clause-values c = values_given c.args.width c.args.need c.args.full c.args.bytes.now _ c.requires.some c.requires.within c.requires.small (returns-clause-good c)

pub returns-in_err-sides-clause-only : goal.returns-in_err-sides-clause-only
returns-in_err-sides-clause-only c = λ values good.
    let fits = small_sides c.args.need c.args.full c.requires.some c.requires.within c.requires.small in
    let sound = sound_of_good c.args.width c.args.need c.args.full c.args.bytes.now values fits.0 fits.1 fits.2 good in
    absurd (none_some _ (sym (unbroken c.args.width c.args.need c.args.full c.args.bytes.now sound) ∙ sym c.in_err-sides.ensures.refused))
  where
    none_some : {X : Type 0} (x : X) → None ≡ Some x → ⊥
    none_some x e = cc

pub returns-in_err-sides-clause-void : goal.returns-in_err-sides-clause-void
returns-in_err-sides-clause-void c =
    let p = err_from_is_err_and c.from_residual.result c.from_residual.ensures.1 in
    rw p.1 (none_given c.args.width c.args.need c.args.full c.args.bytes.now _ c.in_err-sides.ensures.refused)
