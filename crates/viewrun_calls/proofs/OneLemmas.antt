-- Calls of the same words, over the same script and stores that hold the same, whose calls of the stores fail alike, end alike.
use Rattle.std.proofs.Common.{◌≡◌, ◌∙◌, inl, inr, ℕ, zero, suc, ◌<◌, ◌||◌, Bool, true, false, List, [], ◌∷◌, ◌++◌, length, Option, None, Some, Result, Ok, Err, IsTrue, refl, sym, ap, subst, arith}
use Rattle.std.specs.Prelude.{IfOk, take, codes, if◌then◌else◌}
use Rattle.std.specs.declared.alloc.AllocError.{AllocError}
use Rattle.std.specs.List.{list_any}
use Rattle.std.proofs.lemmas.List.{append-nil}
use Rattle.std.proofs.lemmas.List.Concat.{flat_map-cons}
use Rattle.arr_history.specs.declared.closed.Unsaved.{Unsaved}
use Rattle.arr_history.specs.declared.tally.Tally.{Tally}
use Rattle.cell_grid.specs.declared.level.Level.{Level}
use Rattle.cell_store.specs.Store.{Contents, held_of}
use Rattle.cell_store.specs.Stream.{Stream}
use Rattle.command_words.specs.Request.{request_in}
use Rattle.command_words.specs.declared.request.Request.{Request}
use Rattle.command_words.specs.declared.request.Request.TheVariants.{Info, Solo, Run, Demo}
use Rattle.n5_meta.specs.declared.open_err.OpenErr.{OpenErr}
use Rattle.n5_meta.specs.declared.open_err.OpenErr.TheVariants as refused
use Rattle.n5_meta.specs.Asks.{AsksPyramid, WantsInGets}
use Rattle.n5_meta.specs.Laws as one
use Rattle.run_report.specs.declared.report.Report.{Report}
use Rattle.run_report.specs.declared.report.Unwritten.{Unwritten}
use Rattle.run_report.specs.declared.reply.Reply.{Reply}
use Rattle.run_report.specs.declared.shot.Shot.{Shot}
use Rattle.run_report.specs.declared.stop.Stop.{Stop}
use Rattle.run_report.specs.declared.stop.Stop.TheVariants as stop
use Rattle.run_report.specs.Counts.{put_text, tally_text}
use Rattle.run_report.specs.Reply.{refuses}
use Rattle.run_report.specs.Report.{replies_text, unsaved_lines, unwritten_text, unwritten_lines, agrees, has_unsaved, has_unwritten}
use Rattle.run_report.specs.Words.{◌␣◌, line}
use Rattle.sole_cache.specs.Cached.{store_in}
use Rattle.store_calls.specs.Calls.{StoreCall, AreCalled, FailAlike, wants_memory, is_left_open, is_open}
use Rattle.store_calls.proofs.Leaving.{open_on}
use Rattle.team_run.specs.Range.{commands_over}
use Rattle.team_run.specs.Run.{IsWithinSlotLimits, IsOutsideSlotLimits, run_calls}
use Rattle.view_script.specs.declared.script.Head.{Head}
use Rattle.view_script.specs.declared.script.Head.TheVariants as head
use Rattle.view_script.specs.declared.script.Script.{Script}
use Rattle.view_script.specs.declared.script_error.ScriptErr.{ScriptErr}
use Rattle.view_script.specs.declared.script_error.ScriptErr.TheVariants.{At}
use Rattle.view_script.specs.declared.script_error.ScriptKind.{ScriptKind}
use Rattle.view_script.specs.Meaning.{script_in}
use Rattle.alike_runs.specs.Holding.{HoldAlike, LeftAlike}
use Rattle.alike_runs.specs.Runs.{AreSameShots, TellAlike, RunsAreAlike}
use Rattle.viewrun_calls.specs.Alike.{ShotsAgree, NamedAlike, HoldAlikeUnder}
use Rattle.viewrun_calls.specs.declared.work.Done.{Done}
use Rattle.viewrun_calls.specs.declared.work.Done.TheVariants.{Levels, Ran}
use Rattle.viewrun_calls.specs.Ending.{text_of, status_of}
use Rattle.viewrun_calls.specs.OneFunction.{AreGivenAlike, IsOfStores, EndAlike, WorksAreAlike}
use Rattle.viewrun_calls.specs.Pictures.{PutsWith}
use Rattle.viewrun_calls.specs.Script.{limit, AreFirst, ReadsScript}
use Rattle.viewrun_calls.specs.Stores.{FirstChanges}
use Rattle.viewrun_calls.specs.Volume.{OpensPyramid, OpensVolume, AsksVolume, AnswersAlways, keys_of, raw_levels}
use Rattle.viewrun_calls.specs.Work.{RunsAndWrites, RunsOpen, FollowsOpening, OpensAndRuns, FollowsReading, Stops, Works, told_of}
use Rattle.viewrun_calls.proofs.AlikeLemmas.{writings_alike}
use Rattle.viewrun_calls.proofs.OpenLemmas.{pyramid_settles, others_settle, same_left, tells_after}

-- what two calls come to, that lead from stores to stores
abbrev Same : Result Done Stop → Result Done Stop → List StoreCall → List Contents → List Contents → Type 0
Same work other calls new after = EndAlike work other × LeftAlike calls new after

hold_left : (calls : List StoreCall) (stores others : List Contents) → HoldAlike stores others → LeftAlike calls stores others
hold_left calls stores others hold = record { lanes = hold.lanes; told = hold.told; held = λ lane key there closed. hold.held lane key there }

hold_same : (old new before after : List Contents) → HoldAlike old before → new ≡ old → after ≡ before → HoldAlike new after
hold_same old new before after hold e f = subst (λ (l : List Contents). HoldAlike l after) (sym e) (subst (λ (l : List Contents). HoldAlike old l) (sym f) hold)

end_same : (work other x y : Result Done Stop) → work ≡ x → other ≡ y → y ≡ x → EndAlike work other
end_same work other x y e f same = record { text = ap text_of (f ∙ same ∙ sym e); status = ap status_of (f ∙ same ∙ sym e) }

-- the first stores of two lists
module _ (a b : Contents) (ps qs : List Contents) where
  head_hold : HoldAlike (a ∷ ps) (b ∷ qs) → one.HoldAsOne a b
  head_hold hold = record { first = (hold.told 0 (omega arith)).0; second = (hold.told 0 (omega arith)).1; same = λ key. hold.held 0 key (omega arith) }

  with_heads : (c d : Contents) → HoldAlike (a ∷ ps) (b ∷ qs) → one.HoldAsOne c d → HoldAlike (c ∷ ps) (d ∷ qs)
  with_heads c d hold heads = record { lanes = hold.lanes; told = told; held = held }
    where
      told : (lane : ℕ) → lane < length (c ∷ ps) → IsTrue (store_in (c ∷ ps) lane).told × IsTrue (store_in (d ∷ qs) lane).told
      told zero lt = (heads.first, heads.second)
      told (suc n) lt = hold.told (suc n) lt

      held : (lane : ℕ) (key : List ℕ) → lane < length (c ∷ ps) → (held_of (store_in (d ∷ qs) lane)) key ≡ (held_of (store_in (c ∷ ps) lane)) key
      held zero key lt = heads.same key
      held (suc n) key lt = hold.held (suc n) key lt

-- the text and the status of reports
shots_agree : (s t : List Shot) → AreSameShots s t → ShotsAgree s t
shots_agree [] [] same = tt
shots_agree [] (t ∷ others) same = absurd same
shots_agree (s ∷ shots) [] same = absurd same
shots_agree (s ∷ shots) (t ∷ others) (here, more) = (here.name, here.shown, here.picture, shots_agree shots others more)

heads : {X : Type 0} (x y : X) (xs ys : List X) → y ∷ ys ≡ x ∷ xs → y ≡ x
heads x y xs ys e = cc

tails : {X : Type 0} (x y : X) (xs ys : List X) → y ∷ ys ≡ x ∷ xs → ys ≡ xs
tails x y xs ys e = cc

nil_cons : {X : Type 0} (x : X) (xs : List X) → [] ≡ x ∷ xs → ⊥
nil_cons x xs e = cc

cons_nil : {X : Type 0} (x : X) (xs : List X) → x ∷ xs ≡ [] → ⊥
cons_nil x xs e = cc

text_by : List ℕ → Bool → List ℕ
text_by name memory = line (codes "unwritten" ␣ name ␣ put_text memory)

lines_same : (u v : List Unwritten) → NamedAlike u v → unwritten_lines v ≡ unwritten_lines u
unfolding text_by
lines_same [] [] named = refl
lines_same [] (y ∷ v) named = absurd (cons_nil _ _ named.causes)
lines_same (x ∷ u) [] named = absurd (nil_cons _ _ named.causes)
lines_same (x ∷ u) (y ∷ v) named =
    let rest = lines_same u v (record { names = tails _ _ _ _ named.names; causes = tails _ _ _ _ named.causes }) in
    let name : y.name.bytes ≡ x.name.bytes = heads _ _ _ _ named.names in
    let cause : y.memory ≡ x.memory = heads _ _ _ _ named.causes in
    flat_map-cons (λ (w : Unwritten). line (unwritten_text w)) y v ∙ ap (λ n. text_by n y.memory ++ unwritten_lines v) name ∙ ap (λ m. text_by x.name.bytes m ++ unwritten_lines v) cause
    ∙ ap (λ l. line (unwritten_text x) ++ l) rest ∙ sym (flat_map-cons (λ (w : Unwritten). line (unwritten_text w)) x u)

unwritten_same : (memory : Bool) (u v : List Unwritten) → NamedAlike u v → has_unwritten memory v ≡ has_unwritten memory u
unwritten_same memory [] [] named = refl
unwritten_same memory [] (y ∷ v) named = absurd (cons_nil _ _ named.causes)
unwritten_same memory (x ∷ u) [] named = absurd (nil_cons _ _ named.causes)
unwritten_same memory (x ∷ u) (y ∷ v) named =
    let rest = unwritten_same memory u v (record { names = tails _ _ _ _ named.names; causes = tails _ _ _ _ named.causes }) in
    let cause : y.memory ≡ x.memory = heads _ _ _ _ named.causes in
    ap (λ m. agrees m memory || has_unwritten memory v) cause ∙ ap (λ b. agrees x.memory memory || b) rest

text_told : List Reply → Tally → List Unsaved → List ℕ → List ℕ
text_told replies tally unsaved lines = replies_text replies ++ line (tally_text tally) ++ unsaved_lines unsaved ++ lines

status_told : List Reply → List Unsaved → Bool → Bool → ℕ
status_told replies unsaved wants fails =
    if has_unsaved true unsaved || wants then 7 else
    if has_unsaved false unsaved || fails then 5 else
    if list_any (λ (reply : Reply). refuses reply.answer) replies then 1 else 0

reports_end : (report other : Report) (u v : List Unwritten) → TellAlike report other → NamedAlike u v → EndAlike (Ok (Ran report u)) (Ok (Ran other v))
unfolding text_told status_told
reports_end report other u v tell named = record {
  text = ap (λ r. text_told r other.tally other.unsaved (unwritten_lines v)) tell.replies ∙ ap (λ t. text_told report.replies t other.unsaved (unwritten_lines v)) tell.tally
      ∙ ap (λ w. text_told report.replies report.tally w (unwritten_lines v)) tell.unsaved ∙ ap (text_told report.replies report.tally report.unsaved) (lines_same u v named);
  status = ap (λ r. status_told r other.unsaved (has_unwritten true v) (has_unwritten false v)) tell.replies ∙ ap (λ w. status_told report.replies w (has_unwritten true v) (has_unwritten false v)) tell.unsaved
      ∙ ap (λ b. status_told report.replies report.unsaved b (has_unwritten false v)) (unwritten_same true u v named) ∙ ap (status_told report.replies report.unsaved (has_unwritten true u)) (unwritten_same false u v named);
}

-- the stores after the pictures
module _ (before puts : List StoreCall) (a b c d : Contents) (ps qs cs ds : List Contents) (left : LeftAlike before (a ∷ ps) (b ∷ qs)) (one_put : AreCalled puts (a ∷ []) (c ∷ [])) (two_put : AreCalled puts (b ∷ []) (d ∷ [])) where
  pictures_left : LeftAlike (before ++ puts) (c ∷ ps) (d ∷ qs)
  pictures_left = record { lanes = left.lanes; told = told; held = held }
    where
      told : (lane : ℕ) → lane < length (c ∷ ps) → IsTrue (store_in (c ∷ ps) lane).told × IsTrue (store_in (d ∷ qs) lane).told
      told zero lt = (tells_after puts a c one_put (left.told 0 lt).0, tells_after puts b d two_put (left.told 0 lt).1)
      told (suc n) lt = left.told (suc n) lt

      held : (lane : ℕ) (key : List ℕ) → lane < length (c ∷ ps) → is_open lane key (before ++ puts) ≡ false → (held_of (store_in (d ∷ qs) lane)) key ≡ (held_of (store_in (c ∷ ps) lane)) key
      held zero key lt closed =
          same_left key puts (is_left_open 0 key false before) a b c d (left.told 0 lt).0 (left.told 0 lt).1 one_put two_put (λ shut. left.held 0 key lt shut) (sym (open_on 0 key false before puts) ∙ closed)
      held (suc n) key lt closed =
          left.held (suc n) key lt (sym (others_settle n key (is_left_open (suc n) key false before) puts a c one_put) ∙ sym (open_on (suc n) key false before puts) ∙ closed)

-- the slots are within the limits, or they aren't
within_or_not : (levels : List Level) (slots : ℕ) → IsWithinSlotLimits levels slots → IsOutsideSlotLimits levels slots → ⊥
within_or_not levels slots (low, high) (inl h) = omega (arith, low, h)
within_or_not levels slots (low, high) (inr h) = omega (arith, high, h)

module _ (runs : RunsAreAlike) (opens : one.OpeningsAreAlike) where
  -- two runs with their pictures
  ran_alike : (script : Script) (slots : ℕ) (levels : List Level) (old before : List Contents) (k l : List StoreCall) (report other : Report) (u v : List Unwritten) (mid new left after : List Contents)
      → HoldAlike old before → (r : RunsAndWrites script slots levels old new k report u) → (s : RunsAndWrites script slots levels before after l other v) → r.mid ≡ mid → s.mid ≡ left → FailAlike k l
      → FirstChanges (λ x y. PutsWith report.shots r.puts x y u) mid new → FirstChanges (λ x y. PutsWith other.shots s.puts x y v) left after
      → Same (Ok (Ran report u)) (Ok (Ran other v)) k new after
  ran_alike script slots levels old before k l report other u v [] new left after hold r s rm sm fail put put' = absurd put
  ran_alike script slots levels old before k l report other u v (a ∷ ps) [] left after hold r s rm sm fail put put' = absurd put
  ran_alike script slots levels old before k l report other u v (a ∷ ps) (c ∷ cs) [] after hold r s rm sm fail put put' = absurd put'
  ran_alike script slots levels old before k l report other u v (a ∷ ps) (c ∷ cs) (b ∷ qs) [] hold r s rm sm fail put put' = absurd put'
  ran_alike script slots levels old before k l report other u v (a ∷ ps) (c ∷ cs) (b ∷ qs) (d ∷ ds) hold r s rm sm fail put put' =
      let split : FailAlike (run_calls r.run.completes ++ r.puts) (run_calls s.run.completes ++ s.puts) = subst (λ x. FailAlike x (run_calls s.run.completes ++ s.puts)) r.calls_are (subst (λ y. FailAlike k y) s.calls_are fail) in
      let both = runs levels (keys_of script.head levels) slots (commands_over levels script) old r.mid before s.mid report other r.puts s.puts hold r.run s.run split in
      let held : LeftAlike (run_calls r.run.completes) (a ∷ ps) (b ∷ qs) = subst (λ x. LeftAlike (run_calls r.run.completes) x (b ∷ qs)) rm (subst (λ y. LeftAlike (run_calls r.run.completes) r.mid y) sm both.1) in
      let under : HoldAlikeUnder (λ key. is_left_open 0 key false (run_calls r.run.completes) ≡ false) a b = record { first = (held.told 0 (omega arith)).0; second = (held.told 0 (omega arith)).1; same = λ key shut. held.held 0 key (omega arith) shut } in
      let wrote = writings_alike (λ key. is_left_open 0 key false (run_calls r.run.completes) ≡ false) report.shots other.shots a b c d r.puts s.puts [] [] u v (shots_agree report.shots other.shots both.0.shots) under put.0 put'.0
      (subst (λ x. FailAlike x (s.puts ++ [])) (sym (append-nil r.puts)) (subst (λ y. FailAlike r.puts y) (sym (append-nil s.puts)) both.2)) in
      let made = pictures_left (run_calls r.run.completes) r.puts a b c d ps qs cs ds held put.0.called (subst (λ x. AreCalled x (b ∷ []) (d ∷ [])) wrote.1 put'.0.called) in (
        reports_end report other u v both.0 wrote.0,
        subst (λ x. LeftAlike x (c ∷ cs) (d ∷ ds)) (sym r.calls_are) (subst (λ x. LeftAlike (run_calls r.run.completes ++ r.puts) (c ∷ x) (d ∷ ds)) (sym put.1) (subst (λ y. LeftAlike (run_calls r.run.completes ++ r.puts) (c ∷ ps) (d ∷ y)) (sym put'.1) made)),
      )

  run_open_alike : (script : Script) (slots : ℕ) (levels : List Level) (old new before after : List Contents) (k l : List StoreCall) (work other : Result Done Stop) → HoldAlike old before
      → RunsOpen script slots levels old new k work → RunsOpen script slots levels before after l other → FailAlike k l → IsOfStores work k → IsOfStores other l → Same work other k new after
  run_open_alike script slots levels old new before after k l (Ok (Ran report u)) (Ok (Ran other v)) hold r s fail of of' = ran_alike script slots levels old before k l report other u v r.mid new s.mid after hold r s refl refl fail r.put s.put
  run_open_alike script slots levels old new before after k l (Ok (Ran report u)) (Err (stop.Slots found low high)) hold r s fail of of' = absurd (within_or_not levels slots r.within s.0.0)
  run_open_alike script slots levels old new before after k l (Err (stop.Slots found low high)) (Ok (Ran other v)) hold r s fail of of' = absurd (within_or_not levels slots s.within r.0.0)
  run_open_alike script slots levels old new before after k l (Err (stop.Slots found low high)) (Err (stop.Slots f w h)) hold r s fail of of' = (
    end_same _ _ _ _ refl refl (ap (λ x. Err (stop.Slots x w h)) (s.0.1 ∙ sym r.0.1) ∙ ap (λ x. Err (stop.Slots found x h)) (s.0.2 ∙ sym r.0.2) ∙ ap (λ x. Err (stop.Slots found low x)) (s.0.3 ∙ sym r.0.3)),
    hold_left k new after (hold_same old new before after hold r.0.4 s.0.4),
  )
  run_open_alike script slots levels old new before after k l (Err stop.Memory) other hold r s fail of of' = absurd of
  run_open_alike script slots levels old new before after k l (Ok (Levels x)) other hold r s fail of of' = absurd r
  run_open_alike script slots levels old new before after k l (Err stop.Usage) other hold r s fail of of' = absurd r
  run_open_alike script slots levels old new before after k l (Err (stop.Script x y)) other hold r s fail of of' = absurd r
  run_open_alike script slots levels old new before after k l (Err (stop.Dataset x)) other hold r s fail of of' = absurd r
  run_open_alike script slots levels old new before after k l (Err stop.WriteFault) other hold r s fail of of' = absurd r
  run_open_alike script slots levels old new before after k l (Err stop.ReadFault) other hold r s fail of of' = absurd r
  run_open_alike script slots levels old new before after k l work (Err stop.Memory) hold r s fail of of' = absurd of'
  run_open_alike script slots levels old new before after k l work (Ok (Levels x)) hold r s fail of of' = absurd s
  run_open_alike script slots levels old new before after k l work (Err stop.Usage) hold r s fail of of' = absurd s
  run_open_alike script slots levels old new before after k l work (Err (stop.Script x y)) hold r s fail of of' = absurd s
  run_open_alike script slots levels old new before after k l work (Err (stop.Dataset x)) hold r s fail of of' = absurd s
  run_open_alike script slots levels old new before after k l work (Err stop.WriteFault) hold r s fail of of' = absurd s
  run_open_alike script slots levels old new before after k l work (Err stop.ReadFault) hold r s fail of of' = absurd s

  answers_meant : (opened meant : Result (List Level) OpenErr) → AnswersAlways opened meant → (opened ≡ Err refused.Memory → ⊥) → meant ≡ opened
  answers_meant (Ok levels) meant h none = h
  answers_meant (Err refused.Memory) meant h none = absurd (none refl)
  answers_meant (Err err) meant h none = h

  unwanted : IsTrue (list_any wants_memory []) → ⊥
  unwanted h = cc

  opened_alike : (root : Head) (a b c d : Contents) (r s : Result (List Level) OpenErr) (k l m n : List StoreCall) → one.HoldAsOne a b → OpensVolume root a c r → OpensVolume root b d s → AsksVolume root k r → AsksVolume root l s
      → AreCalled k (a ∷ []) (c ∷ []) → AreCalled l (b ∷ []) (d ∷ []) → WantsInGets k r → WantsInGets l s → FailAlike (k ++ m) (l ++ n) → (s ≡ r) × one.HoldAsOne c d × FailAlike m n
  opened_alike (head.Raw root kind dims cell) a b c d r s k l m n hold (answers, same) (answers', same') none none' called called' wants wants' fail = (
    sym (answers_meant s (raw_levels kind dims cell) answers' (λ e. unwanted (subst (λ x. IsTrue (list_any wants_memory x)) none' (wants' e))))
        ∙ answers_meant r (raw_levels kind dims cell) answers (λ e. unwanted (subst (λ x. IsTrue (list_any wants_memory x)) none (wants e))),
    subst (λ (x : Contents). one.HoldAsOne x d) (sym same) (subst (λ (y : Contents). one.HoldAsOne a y) (sym same') hold),
    subst (λ x. FailAlike (x ++ m) n) none (subst (λ y. FailAlike (k ++ m) (y ++ n)) none' fail),
  )
  opened_alike (head.Pyramid root) a b c d r s k l m n hold o p asks asks' called called' wants wants' fail =
      let both = opens root a b c d k l m n r s hold called called' asks asks' wants wants' fail in (both.0, both.3, both.2)

  volume_settles : (root : Head) (lane : ℕ) (key : List ℕ) (b : Bool) (k : List StoreCall) (r : Result (List Level) OpenErr) → AsksVolume root k r → is_left_open lane key b k ≡ b
  volume_settles (head.Raw root kind dims cell) lane key b k r none = ap (is_left_open lane key b) none
  volume_settles (head.Pyramid root) lane key b k r asks = pyramid_settles lane key root b k r asks

  -- memory was wanting in a get, where the dataset is refused for it
  wants_of : (script : Script) (slots : ℕ) (mid new : List Contents) (gets more k : List StoreCall) (r : Result (List Level) OpenErr) (work : Result Done Stop) → FollowsOpening script slots mid new more r work → k ≡ gets ++ more → IsOfStores work k → WantsInGets gets r
  wants_of script slots mid new gets more k r work follows is of e =
      let end = subst (λ x. FollowsOpening script slots mid new more x work) e follows in
      let wanted : IsTrue (list_any wants_memory k) = subst (λ w. IsOfStores w k) end.0 of in
      subst (λ x. IsTrue (list_any wants_memory x)) (is ∙ ap (λ x. gets ++ x) end.2 ∙ append-nil gets) wanted

  -- what of the calls after the gets is of stores
  of_more : (script : Script) (slots : ℕ) (mid new : List Contents) (gets more k : List StoreCall) (levels : List Level) (work : Result Done Stop) → RunsOpen script slots levels mid new more work → IsOfStores work k → IsOfStores work more
  of_more script slots mid new gets more k levels (Ok (Ran report u)) r of = tt
  of_more script slots mid new gets more k levels (Err (stop.Slots found low high)) r of = tt
  of_more script slots mid new gets more k levels (Err stop.Memory) r of = absurd of
  of_more script slots mid new gets more k levels (Ok (Levels x)) r of = absurd r
  of_more script slots mid new gets more k levels (Err stop.Usage) r of = absurd r
  of_more script slots mid new gets more k levels (Err (stop.Script x y)) r of = absurd r
  of_more script slots mid new gets more k levels (Err (stop.Dataset x)) r of = absurd r
  of_more script slots mid new gets more k levels (Err stop.WriteFault) r of = absurd r
  of_more script slots mid new gets more k levels (Err stop.ReadFault) r of = absurd r

  after_opening : (script : Script) (slots : ℕ) (old new before after : List Contents) (more others k l gets gets' : List StoreCall) (opened : Result (List Level) OpenErr) (work other : Result Done Stop) → HoldAlike old before
      → FollowsOpening script slots old new more opened work → FollowsOpening script slots before after others opened other → FailAlike more others → IsOfStores work k → IsOfStores other l → Same work other more new after
  after_opening script slots old new before after more others k l gets gets' (Ok levels) work other hold r s fail of of' =
      run_open_alike script slots levels old new before after more others work other hold r s fail (of_more script slots old new gets more k levels work r of) (of_more script slots before after gets' others l levels other s of')
  after_opening script slots old new before after more others k l gets gets' (Err err) work other hold r s fail of of' = (end_same work other _ _ r.0 s.0 refl, hold_left more new after (hold_same old new before after hold r.1 s.1))

  opens_alike : (script : Script) (slots : ℕ) (old new before after mid left : List Contents) (k l : List StoreCall) (work other : Result Done Stop) → HoldAlike old before → (r : OpensAndRuns script slots old new k work) → (s : OpensAndRuns script slots before after l other)
      → r.mid ≡ mid → s.mid ≡ left → FailAlike k l → IsOfStores work k → IsOfStores other l
      → FirstChanges (λ x y. OpensVolume script.head x y r.opened) old mid → FirstChanges (λ x y. AreCalled r.gets (x ∷ []) (y ∷ [])) old mid
      → FirstChanges (λ x y. OpensVolume script.head x y s.opened) before left → FirstChanges (λ x y. AreCalled s.gets (x ∷ []) (y ∷ [])) before left → Same work other k new after
  opens_alike script slots [] new before after mid left k l work other hold r s rm sm fail of of' o c o' c' = absurd o
  opens_alike script slots (a ∷ ps) new before after [] left k l work other hold r s rm sm fail of of' o c o' c' = absurd o
  opens_alike script slots (a ∷ ps) new [] after (x ∷ xs) left k l work other hold r s rm sm fail of of' o c o' c' = absurd o'
  opens_alike script slots (a ∷ ps) new (b ∷ qs) after (x ∷ xs) [] k l work other hold r s rm sm fail of of' o c o' c' = absurd o'
  opens_alike script slots (a ∷ ps) new (b ∷ qs) after (x ∷ xs) (y ∷ ys) k l work other hold r s rm sm fail of of' o c o' c' =
      let split : FailAlike (r.gets ++ r.more) (s.gets ++ s.more) = subst (λ z. FailAlike z (s.gets ++ s.more)) r.calls_are (subst (λ z. FailAlike k z) s.calls_are fail) in
      let both = opened_alike script.head a b x y r.opened s.opened r.gets s.gets r.more s.more (head_hold a b ps qs hold) o.0 o'.0 r.asks s.asks c.0 c'.0
      (wants_of script slots r.mid new r.gets r.more k r.opened work r.follows r.calls_are of) (wants_of script slots s.mid after s.gets s.more l s.opened other s.follows s.calls_are of') split in
      let next : HoldAlike (x ∷ xs) (y ∷ ys) = subst (λ z. HoldAlike (x ∷ z) (y ∷ ys)) (sym o.1) (subst (λ z. HoldAlike (x ∷ ps) (y ∷ z)) (sym o'.1) (with_heads a b ps qs x y hold both.1)) in
      let begins : HoldAlike r.mid s.mid = subst (λ z. HoldAlike z s.mid) (sym rm) (subst (λ z. HoldAlike (x ∷ xs) z) (sym sm) next) in
      let done = after_opening script slots r.mid new s.mid after r.more s.more k l r.gets s.gets r.opened work other begins r.follows (subst (λ z. FollowsOpening script slots s.mid after s.more z other) both.0 s.follows) both.2 of of' in (
        done.0,
        record {
          lanes = done.1.lanes;
          told = done.1.told;
          held = λ lane key there closed. done.1.held lane key there
              (sym (ap (λ z. is_left_open lane key z r.more) (volume_settles script.head lane key false r.gets r.opened r.asks)) ∙ sym (open_on lane key false r.gets r.more) ∙ ap (is_left_open lane key false) (sym r.calls_are) ∙ closed);
        },
      )

  script_same : (x y : Script) (a b : Result Script ScriptErr) → a ≡ Ok x → b ≡ Ok y → b ≡ a → y ≡ x
  script_same x y a b e f same = cc

  not_both : (x : Script) (y : ScriptErr) (a b : Result Script ScriptErr) → a ≡ Ok x → b ≡ Err y → b ≡ a → ⊥
  not_both x y a b e f same = cc

  line_same : (m n : ℕ) (x y : ScriptKind) (a b : Result Script ScriptErr) → a ≡ Err (At m x) → b ≡ Err (At n y) → b ≡ a → n ≡ m
  line_same m n x y a b e f same = cc

  kind_same : (m n : ℕ) (x y : ScriptKind) (a b : Result Script ScriptErr) → a ≡ Err (At m x) → b ≡ Err (At n y) → b ≡ a → y ≡ x
  kind_same m n x y a b e f same = cc

  -- the bytes of the same script
  bytes_same : (s t : Stream) (x y : List ℕ) → IsTrue s.told → IsTrue t.told → t.bytes ≡ s.bytes → AreFirst s x → AreFirst t y → script_in y ≡ script_in x
  bytes_same s t x y told told' same first first' = ap script_in (first' told' ∙ ap (take limit) same ∙ sym (first told))

  reads_alike : (slots : ℕ) (s s' t t' : Stream) (old new before after : List Contents) (k l : List StoreCall) (r q : Result Script Stop) (work other : Result Done Stop) → AreGivenAlike s t old before → ReadsScript s s' r → ReadsScript t t' q
      → FollowsReading slots old new k r work → FollowsReading slots before after l q other → FailAlike k l → IsOfStores work k → IsOfStores other l → Same work other k new after
  reads_alike slots s s' t t' old new before after k l (Ok x) (Ok y) work other given (a, (first, is)) (b, (first', is')) r q fail of of' =
      let same : y ≡ x = script_same x y _ _ is is' (bytes_same s t a b given.told given.other_told given.script first first') in
      let again : OpensAndRuns x slots before after l other = subst (λ z. OpensAndRuns z slots before after l other) same q in
      opens_alike x slots old new before after r.mid again.mid k l work other given.hold r again refl refl fail of of' r.opens r.asked again.opens again.asked
  reads_alike slots s s' t t' old new before after k l (Ok x) (Err (stop.Script n y)) work other given (a, (first, is)) (b, (first', is')) r q fail of of' =
      absurd (not_both x (At n y) _ _ is is' (bytes_same s t a b given.told given.other_told given.script first first'))
  reads_alike slots s s' t t' old new before after k l (Err (stop.Script n y)) (Ok x) work other given (a, (first, is)) (b, (first', is')) r q fail of of' =
      absurd (not_both x (At n y) _ _ is' is (sym (bytes_same s t a b given.told given.other_told given.script first first')))
  reads_alike slots s s' t t' old new before after k l (Err (stop.Script m x)) (Err (stop.Script n y)) work other given (a, (first, is)) (b, (first', is')) r q fail of of' =
      let same = bytes_same s t a b given.told given.other_told given.script first first' in (
        end_same work other _ _ r.0 q.0 (ap (λ z. Err (stop.Script z y)) (line_same m n x y _ _ is is' same) ∙ ap (λ z. Err (stop.Script m z)) (kind_same m n x y _ _ is is' same)),
        hold_left k new after (hold_same old new before after given.hold r.1 q.1),
      )
  reads_alike slots s s' t t' old new before after k l (Err stop.ReadFault) q work other given reads reads' r f fail of of' = absurd (subst (λ w. IsOfStores w k) r.0 of)
  reads_alike slots s s' t t' old new before after k l (Err stop.Memory) q work other given reads reads' r f fail of of' = absurd (subst (λ w. IsOfStores w k) r.0 of)
  reads_alike slots s s' t t' old new before after k l (Err stop.Usage) q work other given reads reads' r f fail of of' = absurd reads
  reads_alike slots s s' t t' old new before after k l (Err (stop.Dataset x)) q work other given reads reads' r f fail of of' = absurd reads
  reads_alike slots s s' t t' old new before after k l (Err stop.WriteFault) q work other given reads reads' r f fail of of' = absurd reads
  reads_alike slots s s' t t' old new before after k l (Err (stop.Slots x y z)) q work other given reads reads' r f fail of of' = absurd reads
  reads_alike slots s s' t t' old new before after k l r (Err stop.ReadFault) work other given reads reads' f q fail of of' = absurd (subst (λ w. IsOfStores w l) q.0 of')
  reads_alike slots s s' t t' old new before after k l r (Err stop.Memory) work other given reads reads' f q fail of of' = absurd (subst (λ w. IsOfStores w l) q.0 of')
  reads_alike slots s s' t t' old new before after k l r (Err stop.Usage) work other given reads reads' f q fail of of' = absurd reads'
  reads_alike slots s s' t t' old new before after k l r (Err (stop.Dataset x)) work other given reads reads' f q fail of of' = absurd reads'
  reads_alike slots s s' t t' old new before after k l r (Err stop.WriteFault) work other given reads reads' f q fail of of' = absurd reads'
  reads_alike slots s s' t t' old new before after k l r (Err (stop.Slots x y z)) work other given reads reads' f q fail of of' = absurd reads'

  -- `info`
  wants_told : (opened : Result (List Level) OpenErr) (work : Result Done Stop) (k : List StoreCall) → work ≡ told_of opened → IsOfStores work k → WantsInGets k opened
  wants_told opened work k told of e = subst (λ w. IsOfStores w k) (told ∙ ap told_of e) of

  informs_alike : (root : List ℕ) (old new before after : List Contents) (k l : List StoreCall) (opened opened' : Result (List Level) OpenErr) (work other : Result Done Stop) → HoldAlike old before → FailAlike k l → IsOfStores work k → IsOfStores other l
      → AsksPyramid root k opened → AsksPyramid root l opened' → work ≡ told_of opened → other ≡ told_of opened'
      → FirstChanges (λ x y. OpensPyramid root x y opened) old new → FirstChanges (λ x y. AreCalled k (x ∷ []) (y ∷ [])) old new
      → FirstChanges (λ x y. OpensPyramid root x y opened') before after → FirstChanges (λ x y. AreCalled l (x ∷ []) (y ∷ [])) before after → Same work other k new after
  informs_alike root [] new before after k l opened opened' work other hold fail of of' asks asks' told told' o c o' c' = absurd o
  informs_alike root (a ∷ ps) [] before after k l opened opened' work other hold fail of of' asks asks' told told' o c o' c' = absurd o
  informs_alike root (a ∷ ps) (x ∷ xs) [] after k l opened opened' work other hold fail of of' asks asks' told told' o c o' c' = absurd o'
  informs_alike root (a ∷ ps) (x ∷ xs) (b ∷ qs) [] k l opened opened' work other hold fail of of' asks asks' told told' o c o' c' = absurd o'
  informs_alike root (a ∷ ps) (x ∷ xs) (b ∷ qs) (y ∷ ys) k l opened opened' work other hold fail of of' asks asks' told told' o c o' c' =
      let joined : FailAlike (k ++ []) (l ++ []) = subst (λ z. FailAlike z (l ++ [])) (sym (append-nil k)) (subst (λ z. FailAlike k z) (sym (append-nil l)) fail) in
      let both = opens root a b x y k l [] [] opened opened' (head_hold a b ps qs hold) c.0 c'.0 asks asks' (wants_told opened work k told of) (wants_told opened' other l told' of') joined in
      let next : HoldAlike (x ∷ xs) (y ∷ ys) = subst (λ z. HoldAlike (x ∷ z) (y ∷ ys)) (sym o.1) (subst (λ z. HoldAlike (x ∷ ps) (y ∷ z)) (sym o'.1) (with_heads a b ps qs x y hold both.3)) in
      (end_same work other _ _ told told' (ap told_of both.0), hold_left k (x ∷ xs) (y ∷ ys) next)

  -- two calls that were stopped alike
  stops_alike : (stop : Stop) (s s' t t' : Stream) (old new before after : List Contents) (k l : List StoreCall) (work other : Result Done Stop) → HoldAlike old before
      → Stops stop s s' old new k work → Stops stop t t' before after l other → Same work other k new after
  stops_alike stop s s' t t' old new before after k l work other hold r q = (end_same work other _ _ r.0 q.0 refl, hold_left k new after (hold_same old new before after hold r.2 q.2))

  -- what is done by what is asked for
  asked_alike : (request : Option Request) (s s' t t' : Stream) (old new before after : List Contents) (k l : List StoreCall) (work other : Result Done Stop) → AreGivenAlike s t old before
      → Works (Ok request) s s' old new k work → Works (Ok request) t t' before after l other → FailAlike k l → IsOfStores work k → IsOfStores other l → Same work other k new after
  asked_alike None s s' t t' old new before after k l work other given r q fail of of' = stops_alike stop.Usage s s' t t' old new before after k l work other given.hold r q
  asked_alike (Some (Info root)) s s' t t' old new before after k l work other given r q fail of of' =
      informs_alike root old new before after k l r.0.opened q.0.opened work other given.hold fail of of' r.0.asks q.0.asks r.0.told q.0.told r.0.opens r.0.asked q.0.opens q.0.asked
  asked_alike (Some (Solo script slots)) s s' t t' old new before after k l work other given r q fail of of' =
      reads_alike slots s s' t t' old new before after k l r.read q.read work other given r.reads q.reads r.follows q.follows fail of of'
  asked_alike (Some (Run script slots fetchers)) s s' t t' old new before after k l work other given r q fail of of' = stops_alike stop.Usage s s' t t' old new before after k l work other given.hold r q
  asked_alike (Some (Demo number)) s s' t t' old new before after k l work other given r q fail of of' = stops_alike stop.Usage s s' t t' old new before after k l work other given.hold r q

  -- memory that was wanting when the words were read was wanting in no call of the stores
  read_alike : (words : List (List ℕ)) (s s' t t' : Stream) (old new before after : List Contents) (k l : List StoreCall) (work other : Result Done Stop) (read again : Result (Option Request) AllocError)
      → IfOk read (λ request. request ≡ request_in words) → IfOk again (λ request. request ≡ request_in words) → AreGivenAlike s t old before
      → Works read s s' old new k work → Works again t t' before after l other → FailAlike k l → IsOfStores work k → IsOfStores other l → Same work other k new after
  read_alike words s s' t t' old new before after k l work other (Ok x) (Ok y) is is' given r q fail of of' =
      asked_alike x s s' t t' old new before after k l work other given r (subst (λ (z : Option Request). Works (Ok z) t t' before after l other) (is' ∙ sym is) q) fail of of'
  read_alike words s s' t t' old new before after k l work other (Err memory) again is is' given r q fail of of' = absurd (subst (λ w. IsOfStores w k) r.0 of)
  read_alike words s s' t t' old new before after k l work other (Ok x) (Err memory) is is' given r q fail of of' = absurd (subst (λ w. IsOfStores w l) q.0 of')

  -- What is done by the same words.
  pub works_alike : WorksAreAlike
  works_alike words s s' t t' old new before after k l work other given r q fail of of' =
      read_alike words s s' t t' old new before after k l work other r.read q.read r.reads q.reads given r.works q.works fail of of'
