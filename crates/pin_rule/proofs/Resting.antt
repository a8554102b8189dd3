-- What lies at rest stays so, and what a table was told makes a plan.
use Rattle.std.proofs.Common.{◌≡◌, ℕ, zero, suc, ◌≤◌, Bool, true, false, List, [], ◌∷◌, ◌++◌, length, take, drop, Option, Some, None, sym, refl, ap, ◌∙◌, subst, arith}
use Rattle.std.specs.Option.{IsSome}
use Rattle.cell_store.specs.Store.{Contents}
use Rattle.pin_words.specs.declared.lane.Change.{Change}
use Rattle.pin_words.specs.declared.lane.Taken.{Taken}
use Rattle.pin_words.specs.declared.doing.Doing.{Doing}
use Rattle.pin_words.specs.Plan.{IsPlan}
use Rattle.pin_words.specs.Rule.{Sat}
use Rattle.pin_words.specs.Cells.{noted}
use Rattle.pin_rule.specs.declared.made.Made.{Made}
use Rattle.pin_rule.specs.Plans.{plan_of, IsPlanOf}
use Rattle.pin_rule.specs.Calls.{carried, Rests, SamePass, HasRoom}
use Rattle.pin_words.specs.Ends.{starting, child}
use Rattle.pin_words.proofs.Passing.{replicate_long}

module _ {S : Type 0} where
  pub made_plan : (shows : S → Contents) (m : Made S) → IsPlanOf m → IsPlan (plan_of shows (Some m))
  made_plan shows m h = record { fits = h.fits; few_slots = h.few_slots; store_each = refl }

  pub rests_as : (m m' : Sat S (Option (Made S))) (made : Made S) (v : Doing S (Option (Made S))) → Rests m made → m'.1 ≡ m.1 → m'.0 ≡ v → v.made ≡ m.0.made → v.stage ≡ m.0.stage → carried v.lane ≡ carried m.0.lane → Rests m' made
  rests_as m m' made v r same is made_is stage lane = (ap (λ (d : Doing S (Option (Made S))). d.made) is ∙ (made_is ∙ r.0), ap (λ (d : Doing S (Option (Made S))). d.stage) is ∙ (stage ∙ r.1), same ∙ (r.2 ∙ (sym lane ∙ ap (λ (d : Doing S (Option (Made S))). carried d.lane) (sym is))))

  pub number_as : (d d' v : Doing S (Option (Made S))) → d' ≡ v → ◌≡◌ {A = ℕ × ℕ × ℕ} (v.number, v.drawn, length v.rises) (d.number, d.drawn, length d.rises) → SamePass d d'
  number_as d d' v is same = (
    ap (λ (x : Doing S (Option (Made S))). x.number) is ∙ ap (λ (q : ℕ × ℕ × ℕ). q.0) same,
    ap (λ (x : Doing S (Option (Made S))). x.drawn) is ∙ ap (λ (q : ℕ × ℕ × ℕ). q.1) same,
    ap (λ (x : Doing S (Option (Made S))). length x.rises) is ∙ ap (λ (q : ℕ × ℕ × ℕ). q.2) same,
  )

  -- the first pass of a table that was just made is one of the table, and starts
  pub first_pass : {T : Type 0} (shows : S → Contents) (a b : T) (m : Sat S (Option (Made S))) (made told : Made S) (room : ℕ) → a ≡ b → m ≡ (starting (plan_of shows (Some told)), []) → made ≡ told → length told.stores.value.items ≤ room
      → ((a ≡ b) × Rests m made × HasRoom m.0 room made × (length m.0.rises ≡ length made.stores.value.items)) × (m.0 ≡ starting (plan_of shows (Some made)))
  first_pass shows a b m made told room same m_is is fits =
      subst (λ (k : Made S). ((a ≡ b) × Rests m k × HasRoom m.0 room k × (length m.0.rises ≡ length k.stores.value.items)) × (m.0 ≡ starting (plan_of shows (Some k)))) (sym is)
      (subst (λ (x : Sat S (Option (Made S))). ((a ≡ b) × Rests x told × HasRoom x.0 room told × (length x.0.rises ≡ length told.stores.value.items)) × (x.0 ≡ starting (plan_of shows (Some told)))) (sym m_is)
      ((same, (refl, refl, refl), (λ _. (omega arith, fits)), replicate_long (length told.stores.value.items)), refl))

  pub same_trans : (a b c : Doing S (Option (Made S))) → SamePass a b → SamePass b c → SamePass a c
  same_trans a b c x y = (y.0 ∙ x.0, y.1 ∙ x.1, y.2 ∙ x.2)

  -- a new pass is at rest, and isn't the first
  pub child_rests : (m n : Sat S (Option (Made S))) (made : Made S) → Rests m made → n ≡ (child m.0, []) → Rests n made
  child_rests m n made r is = (ap (λ (x : Sat S (Option (Made S))). x.0.made) is ∙ r.0, ap (λ (x : Sat S (Option (Made S))). x.0.stage) is, ap (λ (x : Sat S (Option (Made S))). x.1) is ∙ ap (λ (x : Sat S (Option (Made S))). carried x.0.lane) (sym is))

  pub child_room : (m n : Sat S (Option (Made S))) (made : Made S) (a b : ℕ) → m.0.number ≡ 0 → HasRoom m.0 a made → n ≡ (child m.0, []) → HasRoom n.0 b made
  child_room m n made a b first room is z = let d = (room first).0 in let e : n.0.number ≡ m.0.drawn = ap (λ (x : Sat S (Option (Made S))). x.0.number) is in absurd (omega arith)

  -- and counts its rises for as many lanes
  pub child_rises : (m n : Sat S (Option (Made S))) → n ≡ (child m.0, []) → length n.0.rises ≡ length m.0.rises
  child_rises m n is = ap (λ (x : Sat S (Option (Made S))). length x.0.rises) is ∙ replicate_long (length m.0.rises)

  pub carried_noted : (b : Bool) (h : Change) (o : Option (Taken S)) → carried (noted b h o) ≡ carried o
  carried_noted false h o = refl
  carried_noted true h None = refl
  carried_noted true h (Some o) = refl

  -- what came out of the slot that was taken last
  pub taken_first : (cs ds es : List (ℕ × Option S)) (l : ℕ) (x : S) (r : Option S) → cs ≡ (l, Some x) ∷ ds → cs ≡ (l, r) ∷ es → r ≡ Some x
  taken_first cs ds es l x r a b = let c : (l, r) ∷ es ≡ (l, Some x) ∷ ds = sym b ∙ a in let e : ◌≡◌ {A = ℕ × Option S} (l, r) (l, Some x) = cc in ap (λ (q : ℕ × Option S). q.1) e

  pub is_some : (r : Option S) (x : S) → r ≡ Some x → IsSome r
  is_some r x e = subst IsSome (sym e) refl

  pub same_some : (r : Option S) (x y : S) → r ≡ Some x → r ≡ Some y → x ≡ y
  same_some r x y a b = cc

take_long : (i : ℕ) (xs : List ℕ) → i ≤ length xs → length (take i xs) ≡ i
take_long zero xs h = refl
take_long (suc i) [] h = absurd (omega arith)
take_long (suc i) (x ∷ xs) h = ap suc (take_long i xs (omega arith))

take_split : (i : ℕ) (xs : List ℕ) → xs ≡ take i xs ++ drop i xs
take_split zero xs = refl
take_split (suc i) [] = refl
take_split (suc i) (x ∷ xs) = λ k. x ∷ take_split i xs k
