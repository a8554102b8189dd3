-- Stores hold the pyramid once its keys were made, and so do stores that hold the same.
use Rattle.std.proofs.Common.{◌∙◌, ◌++◌, length, codes, sym, subst}
use Rattle.std.specs.Prelude.{All}
use Rattle.std.proofs.lemmas.List.Elements.{All-weaker}
use Rattle.store_calls.specs.Calls.{AreCalled}
use Rattle.demo_volume.specs.Puts.{keys_of}
use Rattle.demo_arrays.specs.Held.{IsMade}
use Rattle.demo_arrays.specs.Laws.{HoldingAlike, MakingHolds}
use Rattle.demo_arrays.proofs.AllKeys.{agree, none_edited}
use Rattle.demo_arrays.proofs.MadeLemmas.{leaves_made}

pub all_made : MakingHolds
all_made number old new told unedited makes =
    let after = leaves_made (keys_of number (length old)) old new told (subst (λ calls. AreCalled calls old new) makes.answered makes.called) in
    record {
      told = after.told;
      made = subst (λ n. All (IsMade new) (keys_of number n)) (sym after.lanes) (λ k d lt. after.makes k d lt (agree number (length old) k d lt));
      unedited = λ lane rest. after.others lane (codes "cells/" ++ rest) (none_edited number (length old) rest) ∙ unedited lane rest;
    }

pub all_alike : HoldingAlike
all_alike number old new lanes told same h = record {
  told = told;
  made = subst (λ n. All (IsMade new) (keys_of number n)) (sym lanes) (All-weaker (IsMade old) (IsMade new) (λ m held. same m.lane m.key ∙ held) (keys_of number (length old)) h.made);
  unedited = λ lane rest. same lane (codes "cells/" ++ rest) ∙ h.unedited lane rest;
}
