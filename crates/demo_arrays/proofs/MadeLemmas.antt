-- What stores hold once the keys of a list were put into them, one after another.
use Rattle.std.proofs.Common.{◌≡◌, ◌∙◌, inl, inr, ℕ, List, [], ◌∷◌, length, Some, sym, ap, subst}
use Rattle.std.specs.Prelude.{All}
use Rattle.std.proofs.lemmas.List.Elements.{All-cons, All-head, All-nil, All-tail, All-weaker}
use Rattle.cell_store.specs.Store.{Contents}
use Rattle.demo_volume.specs.Puts.{MadeKey}
use Rattle.demo_volume.proofs.MakesLemmas.{HasMade}
use Rattle.demo_arrays.specs.Held.{IsMade}
use Rattle.demo_arrays.proofs.AllKeys.{AgreesWith}
use Rattle.demo_arrays.proofs.PutLemmas.{AreTold, held_at, put_here, put_lanes, put_there, put_told}

-- The keys that were made are held, and the others are as they were.
pub record Leaves (due : List MadeKey) (old new : List Contents) : Type 0 where
  pub lanes : length new ≡ length old
  pub told : AreTold new
  pub others : (lane : ℕ) (key : List ℕ) → All (λ (m : MadeKey). m.key ≡ key → ⊥) due → held_at new lane key ≡ held_at old lane key
  pub keeps : (made : MadeKey) → All (AgreesWith made) due → IsMade old made → IsMade new made
  pub makes : All (λ (m : MadeKey). All (AgreesWith m) due → IsMade new m) due

none : (stores new : List Contents) → new ≡ stores → AreTold stores → Leaves [] stores new
none stores new e told = record {
  lanes = ap length e;
  told = subst AreTold (sym e) told;
  others = λ lane key _. ap (λ (s : List Contents). held_at s lane key) e;
  keeps = λ made _ held. subst (λ (s : List Contents). IsMade s made) (sym e) held;
  makes = All-nil (λ (m : MadeKey). All (AgreesWith m) [] → IsMade new m);
}

pub leaves_made : (due : List MadeKey) (old new : List Contents) → AreTold old → HasMade due old new → Leaves due old new
leaves_made [] old new told e = none old new e told
leaves_made (first ∷ due) old new told (mid, called, rest) =
    let after = leaves_made due mid new (put_told first old mid called told) rest in
    record {
      lanes = after.lanes ∙ put_lanes first old mid called;
      told = after.told;
      others = λ lane key none. after.others lane key (All-tail (λ (m : MadeKey). m.key ≡ key → ⊥) first due none)
          ∙ elim (put_there first old mid called told lane key) [
            | inl same ↦ same
            | inr here ↦ absurd (All-head (λ (m : MadeKey). m.key ≡ key → ⊥) first due none here.0)
          ];
      keeps = λ made agree held. after.keeps made (All-tail (AgreesWith made) first due agree) (elim (put_there first old mid called told made.lane made.key) [
        | inl same ↦ same ∙ held
        | inr here ↦ here.1 ∙ ap Some (All-head (AgreesWith made) first due agree here.0)
      ]);
      makes = All-cons (λ (m : MadeKey). All (AgreesWith m) (first ∷ due) → IsMade new m) first due
          (λ agree. after.keeps first (All-tail (AgreesWith first) first due agree) (put_here first old mid called told))
          (All-weaker (λ (m : MadeKey). All (AgreesWith m) due → IsMade new m) (λ (m : MadeKey). All (AgreesWith m) (first ∷ due) → IsMade new m) (λ m f agree. f (All-tail (AgreesWith m) first due agree)) due after.makes);
    }
