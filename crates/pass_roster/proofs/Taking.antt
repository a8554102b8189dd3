-- A pass at work, and passes that are taken in, one more.
use Rattle.std.proofs.Common.{◌≡◌, ℕ, ◌+◌, List, [], ◌∷◌, ◌++◌, length, sym, refl, ap, ◌∙◌, append_assoc, arith}
use Rattle.std.proofs.lemmas.List.{append_cancel_left}
use Rattle.pass_roster.specs.History.{entries_by}
use Rattle.pass_roster.specs.Roster.{Passes}
use Rattle.pass_roster.specs.Works.{Works}
use Rattle.pass_roster.specs.Phases.{HaveMade, TakesIn, TookIn}
use Rattle.pass_roster.proofs.Entries.{by_append}
use Rattle.pass_roster.proofs.Gathering.{ended_append}

module _ {E : Type 0} (by : E → ℕ) where
  -- more entries behind
  made_before : (k : ℕ) (works : List (List E)) (part more : List E) → HaveMade by k works part → HaveMade by k works (part ++ more)
  made_before k [] part more made = tt
  made_before k (own ∷ works) part more made = (made.0, made.1 ++ more, ap (λ l. l ++ more) made.2 ∙ append_assoc made.0 made.1 more, made.3, made_before (k + 1) works part more made.4)

  -- one pass more
  made_more : (k : ℕ) (works : List (List E)) (own part front back : List E) → HaveMade by k works part → part ≡ front ++ back → entries_by by (k + length works) front ≡ own → HaveMade by k (works ++ own ∷ []) part
  made_more k [] own part front back made split is = (front, back, split, ap (λ n. entries_by by n front) (let z : length {A = List E} [] ≡ 0 = refl in let e : k ≡ k + length {A = List E} [] = omega arith in e) ∙ is, tt)
  made_more k (w ∷ works) own part front back made split is = (
    made.0,
    made.1,
    made.2,
    made.3,
    made_more (k + 1) works own part front back made.4 split (ap (λ n. entries_by by n front) (let e : (k + 1) + length works ≡ k + length (w ∷ works) = omega arith in e) ∙ is),
  )

module _ {D E X : Type 0} (p : Passes D E X) where
  pub works_on : (d w u : D) (own more : List E) → Works p d own w → Works p w more u → Works p d (own ++ more) u
  works_on d w u own more a b = record {
    number = b.number ∙ a.number;
    more = a.more ++ b.more;
    seen = b.seen ∙ (ap (λ l. l ++ b.more) a.seen ∙ append_assoc (p.seen d) a.more b.more);
    mine = b.mine ∙ (ap (λ l. l ++ more) a.mine ∙ append_assoc (p.mine d) own more);
    are_own = by_append p.by (p.number d) a.more b.more ∙ (ap (λ l. l ++ entries_by p.by (p.number d) b.more) a.are_own ∙ ap (λ l. own ++ l) (ap (λ n. entries_by p.by n b.more) (sym a.number) ∙ b.are_own));
  }

  pub takes_one : (k : ℕ) (d : D) (before : List (List E)) (own : List E) (child e v w : D) (x : X)
      → TakesIn p k d before v → p.number child ≡ k + length before → p.seen child ≡ p.seen d → p.mine child ≡ [] → Works p child own e → TookIn p v e w x → TakesIn p k d (before ++ own ∷ []) w
  takes_one k d before own child e v w x h number seen mine worked r =
      let rest = r.first_seen.0 in
      let first : p.seen w ≡ p.seen d ++ (h.part ++ rest) = r.first_seen.1 ∙ (ap (λ l. l ++ rest) h.seen ∙ append_assoc (p.seen d) h.part rest) in
      let other : p.seen w ≡ p.seen d ++ (worked.more ++ r.other_seen.0) = r.other_seen.1 ∙ (ap (λ l. l ++ r.other_seen.0) (worked.seen ∙ ap (λ l. l ++ worked.more) seen) ∙ append_assoc (p.seen d) worked.more r.other_seen.0) in
      record {
        number = r.number ∙ h.number;
        mine = r.mine ∙ h.mine;
        drawn = r.drawn ∙ h.drawn;
        ends = h.ends ++ x ∷ [];
        ended = r.ended ∙ (ap (λ l. l ++ x ∷ []) h.ended ∙ append_assoc (p.ended d) h.ends (x ∷ []));
        are = ended_append p k before (own ∷ []) h.ends (x ∷ []) h.are (x, [], refl, r.ended_number ∙ (worked.number ∙ number), r.ended_mine ∙ (worked.mine ∙ ap (λ l. l ++ own) mine), refl);
        part = h.part ++ rest;
        seen = first;
        made = made_more p.by k before own (h.part ++ rest) worked.more r.other_seen.0 (made_before p.by k before h.part rest h.made)
            (append_cancel_left (p.seen d) (h.part ++ rest) (worked.more ++ r.other_seen.0) (sym first ∙ other))
            (ap (λ n. entries_by p.by n worked.more) (sym number) ∙ worked.are_own);
      }
