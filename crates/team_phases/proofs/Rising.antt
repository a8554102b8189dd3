-- Rises, of the passes that are joined into the first one.
use Rattle.std.proofs.Common.{◌≡◌, ◌∙◌, ℕ, zero, suc, ◌+◌, List, [], ◌∷◌, ap, arith}
use Rattle.pass_roster.specs.History.{total}
use Rattle.pass_roster.proofs.Sums.{total_append}
use Rattle.pin_words.specs.declared.doing.Doing.{Doing}
use Rattle.pin_words.specs.Account.{rise, rise_ended}
use Rattle.pin_words.specs.Ends.{Rejoined, ended_as}
use Rattle.pin_words.specs.Plan.{Plan}
use Rattle.team_actors.specs.Rises.{over_lanes, rises_of, rises_of_ended}
use Rattle.team_passes.specs.Drawn.{AreJoined}

over_both : (n : ℕ) (f g h : ℕ → ℕ) → ((l : ℕ) → f l ≡ g l + h l) → over_lanes n f ≡ over_lanes n g + over_lanes n h
over_both zero f g h each = omega arith
over_both (suc n) f g h each = let a = over_both n f g h each in let b = each n in omega arith

module _ {S M : Type 0} (p : Plan S M) where
  one_joined : (v e w : Doing S M) → Rejoined v e w → rises_of_ended p w ≡ rises_of_ended p v + rises_of p e
  one_joined v e w r = over_both p.lanes (λ l. total (rise_ended l) w.ended) (λ l. total (rise_ended l) v.ended) (λ l. rise l e)
      (λ l. ap (λ d. total (rise_ended l) d.ended) r.0 ∙ (total_append (rise_ended l) v.ended (ended_as e ∷ []) ∙ ap (λ n. total (rise_ended l) v.ended + n) (let z : rise l e + 0 ≡ rise l e = omega arith in z)))

  pub all_joined : (es : List (Doing S M)) (v w : Doing S M) → AreJoined Rejoined es v w → rises_of_ended p w ≡ rises_of_ended p v + total (rises_of p) es
  all_joined [] v w joined = ap (rises_of_ended p) joined ∙ (let z : rises_of_ended p v ≡ rises_of_ended p v + 0 = omega arith in z)
  all_joined (e ∷ es) v w joined = let a = one_joined v e joined.0 joined.1 in let b = all_joined es joined.0 w joined.2 in omega arith
