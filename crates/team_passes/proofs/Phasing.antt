-- A phase, from the passes that were drawn, what they made, and how they were joined.
use Rattle.std.proofs.Common.{◌≡◌, ◌∙◌, ℕ, ◌+◌, List, [], ◌∷◌, ◌++◌, length, sym, refl, ap, subst, append_assoc, arith, length-append}
use Rattle.std.proofs.lemmas.List.{append-nil}
use Rattle.pass_roster.specs.Ends.{AllJoined}
use Rattle.pass_roster.specs.Phases.{AreEnded, TakesIn, TookIn, IsPhase}
use Rattle.pass_roster.specs.Roster.{Passes}
use Rattle.pass_roster.specs.Works.{Works}
use Rattle.pass_roster.proofs.Taking.{takes_one}
use Rattle.team_passes.specs.Drawn.{HasDrawn, IsNew, AreNew, AreJoined}

module _ {D : Type 0} (joins : D → D → D → Type 0) where
  -- joins one after another
  pub joined_on : (es fs : List D) (d m w : D) → AreJoined joins es d m → AreJoined joins fs m w → AreJoined joins (es ++ fs) d w
  joined_on [] fs d m w a b = subst (λ (v : D). AreJoined joins fs v w) a b
  joined_on (e ∷ es) fs d m w a b = (a.0, a.1, joined_on es fs a.0 m w a.2 b)

module _ {D E X : Type 0} (p : Passes D E X) where
  -- passes that were new, numbered from k, and have made these entries since
  abbrev pub AreBack : List E → ℕ → List (List E) → List D → Type 0
  AreBack seen k [] [] = Unit {0}
  AreBack seen k (own ∷ works) (e ∷ es) = (child : D) × IsNew p seen k child × Works p child own e × AreBack seen (k + 1) works es
  AreBack seen k works es = ⊥

  pub back_on : (seen : List E) (k : ℕ) (works more : List (List E)) (es fs : List D) → AreBack seen k works es → AreBack seen (k + length works) more fs → AreBack seen k (works ++ more) (es ++ fs)
  back_on seen k [] more [] fs a b = subst (λ (n : ℕ). AreBack seen n more fs) (let z : length {A = List E} [] ≡ 0 = refl in let e : k + length {A = List E} [] ≡ k = omega arith in e) b
  back_on seen k [] more (e ∷ es) fs a b = absurd a
  back_on seen k (own ∷ works) more [] fs a b = absurd a
  back_on seen k (own ∷ works) more (e ∷ es) fs a b = (
    a.0,
    a.1,
    a.2,
    back_on seen (k + 1) works more es fs a.3 (subst (λ (n : ℕ). AreBack seen n more fs) (let e : k + length (own ∷ works) ≡ (k + 1) + length works = omega arith in e) b),
  )

  -- new passes of two lists
  pub new_on : (seen : List E) (k : ℕ) (es fs : List D) → AreNew p seen k es → AreNew p seen (k + length es) fs → AreNew p seen k (es ++ fs)
  new_on seen k [] fs a b = subst (λ (n : ℕ). AreNew p seen n fs) (let z : length {A = D} [] ≡ 0 = refl in let e : k + length {A = D} [] ≡ k = omega arith in e) b
  new_on seen k (e ∷ es) fs a b = (a.0, new_on seen (k + 1) es fs a.1 (subst (λ (n : ℕ). AreNew p seen n fs) (let e : k + length (e ∷ es) ≡ (k + 1) + length es = omega arith in e) b))

  pub drawn_on : (d m w : D) (i j : ℕ) → HasDrawn p d i m → HasDrawn p m j w → HasDrawn p d (i + j) w
  drawn_on d m w i j a b = record {
    number = b.number ∙ a.number;
    seen = b.seen ∙ a.seen;
    mine = b.mine ∙ a.mine;
    ended = b.ended ∙ a.ended;
    drawn = (let x = a.drawn in let y = b.drawn in omega arith);
  }

  ended_length : (k : ℕ) (works : List (List E)) (xs : List X) → AreEnded p k works xs → length xs ≡ length works
  ended_length k [] xs are = ap length are
  ended_length k (own ∷ works) xs are = let e = ended_length (k + 1) works are.1 are.5 in ap length are.2 ∙ (let z : length (are.0 ∷ are.1) ≡ length (own ∷ works) = omega arith in z)

  module _ (joins : D → D → D → Type 0) (took : (v e w : D) → joins v e w → (x : X) × TookIn p v e w x) where
    takes_all : (k : ℕ) (d : D) (before works : List (List E)) (es : List D) (v w : D)
        → TakesIn p k d before v → AreBack (p.seen d) (k + length before) works es → AreJoined joins es v w → TakesIn p k d (before ++ works) w
    takes_all k d before [] [] v w taken back joined =
        subst (λ (u : D). TakesIn p k d (before ++ []) u) (sym joined) (subst (λ (l : List (List E)). TakesIn p k d l v) (sym (append-nil before)) taken)
    takes_all k d before [] (e ∷ es) v w taken back joined = absurd back
    takes_all k d before (own ∷ works) [] v w taken back joined = absurd back
    takes_all k d before (own ∷ works) (e ∷ es) v w taken back joined =
        let mid = joined.0 in
        let t = took v e mid joined.1 in
        let one = takes_one p k d before own back.0 e v mid t.0 taken back.1.number back.1.has_seen back.1.mine back.2 t.1 in
        let more = length-append before (own ∷ []) in
        let next : AreBack (p.seen d) (k + length (before ++ own ∷ [])) works es =
        subst (λ (n : ℕ). AreBack (p.seen d) n works es) (let z : (k + length before) + 1 ≡ k + length (before ++ own ∷ []) = omega arith in z) back.3 in
        subst (λ (l : List (List E)). TakesIn p k d l w) (append_assoc before (own ∷ []) works) (takes_all k d (before ++ own ∷ []) works es mid w one next joined.2)

    -- the first pass was d, is v with these passes drawn, and w with them joined
    pub phase_is : (d v w : D) (count : ℕ) (works : List (List E)) (es : List D) → HasDrawn p d count v → length works ≡ count
        → AreBack (p.seen d) (p.drawn d) works es → AreJoined joins es v w → AllJoined p d → IsPhase p d works w × AllJoined p w
    phase_is d v w count works es drew len back joined all =
        let none : TakesIn p (p.drawn d) v [] v = record {
          number = refl;
          mine = refl;
          drawn = refl;
          ends = [];
          ended = sym (append-nil (p.ended v));
          are = refl;
          part = [];
          seen = sym (append-nil (p.seen v));
          made = tt;
        } in
        let start : AreBack (p.seen v) (p.drawn d + length {A = List E} []) works es =
        subst (λ (n : ℕ). AreBack (p.seen v) n works es) (let z : length {A = List E} [] ≡ 0 = refl in let e : p.drawn d ≡ p.drawn d + length {A = List E} [] = omega arith in e)
        (subst (λ (l : List E). AreBack l (p.drawn d) works es) (sym drew.seen) back) in
        let taken = takes_all (p.drawn d) v [] works es v w none start joined in
        let drawn : p.drawn w ≡ p.drawn d + length works = taken.drawn ∙ (drew.drawn ∙ ap (λ n. p.drawn d + n) (sym len)) in
        let ended : p.ended w ≡ p.ended d ++ taken.ends = taken.ended ∙ ap (λ l. l ++ taken.ends) drew.ended in (
          record {
            number = taken.number ∙ drew.number;
            mine = taken.mine ∙ drew.mine;
            drawn = drawn;
            ends = taken.ends;
            ended = ended;
            are = taken.are;
            part = taken.part;
            seen = taken.seen ∙ ap (λ l. l ++ taken.part) drew.seen;
            made = taken.made;
          },
          (let a = ap (length {A = X}) ended in let b = length-append (p.ended d) taken.ends in let c = ended_length (p.drawn d) works taken.ends taken.are in omega arith),
        )
