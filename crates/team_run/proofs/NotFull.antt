-- No answer tells that every slot had a pin.
use Rattle.std.proofs.Common.{◌≡◌, ◌∙◌, ℕ, ◌<◌, ◌≤◌, List, [], ◌∷◌, length, All, Result, Ok, Err, refl, sym, subst, arith}
use Rattle.std.proofs.lemmas.List.Elements.{All-nil, All-cons}
use Rattle.std.proofs.lemmas.List.Sums.{get_or-le-sum_by}
use Rattle.arr_history.specs.declared.event.Event.{Event}
use Rattle.arr_history.specs.Shape.{IsSameShape}
use Rattle.cell_file.specs.declared.errors.AcquireErr.TheVariants as cause
use Rattle.fetchers.specs.declared.fetched.Fetched.{Fetched}
use Rattle.run_report.specs.declared.reply.Answer.{Answer}
use Rattle.run_report.specs.declared.reply.Answer.TheVariants as answer
use Rattle.run_report.specs.declared.reply.Refusal.TheVariants as refusal
use Rattle.run_report.specs.declared.reply.Reply.{Reply}
use Rattle.sole_cache.specs.Acquires.{Acquires}
use Rattle.sole_cache.specs.Cached.{Cached, handles_out, shape_of, slot_at}
use Rattle.sole_cache.specs.Room.{IsFull}
use Rattle.sole_cache.specs.Slot.{SlotValue, no_slot}
use Rattle.sole_cache.specs.Valid.{IsCache}
use Rattle.store_calls.specs.Calls.{StoreCall}
use Rattle.view_script.specs.declared.command.Command.{Command}
use Rattle.view_script.specs.declared.command.Command.TheVariants as command
use Rattle.view_script.specs.Script.{NumberedCommand}
use Rattle.team_run.specs.Desk.{Desk}
use Rattle.team_run.specs.Fetches.{fetch_answer}
use Rattle.team_run.specs.Headline.{IsFullRefusal}
use Rattle.team_run.specs.Serve.{IsServed, ServesTasks}
use Rattle.team_run.specs.Trace.{Trace}

-- a cache with no handle out isn't full
free_not_full : (c d : Cached) → IsSameShape (shape_of c) (shape_of d) → IsCache d → handles_out c ≡ 0 → IsFull c → ⊥
free_not_full c d shape valid free full =
    let two : 2 ≤ length c.slots = subst (λ n. 2 ≤ n) (sym shape.slots) valid.fitted.some_slots in
    let pinned : 0 < (slot_at c 0).pins = full 0 (omega (arith, two)) in
    let most : (slot_at c 0).pins ≤ handles_out c = get_or-le-sum_by (λ (s : SlotValue). s.pins) c.slots 0 no_slot (omega (arith, two)) in
    omega (arith, pinned, most, free)

fetch_not_full : (result : Result Fetched (Unit {0})) → answer.Refused (refusal.Acquire cause.Full) ≡ fetch_answer result → ⊥
fetch_not_full (Ok fetched) e = cc
fetch_not_full (Err memory) e = cc

module _ (a b : Desk) (viewer : ℕ) (t : Trace) (free : handles_out a.cache ≡ 0) (left : handles_out b.cache ≡ 0) where
  acquire_not_full : (cell : ℕ) (events : List Event) (calls : List StoreCall) → Acquires a.cache cell (Err cause.Full) events calls b.cache → ⊥
  acquire_not_full cell events calls done = free_not_full a.cache b.cache done.runs.moves.shape done.valid free done.is.1

  served_full : (c : Command) → IsServed a viewer c (answer.Refused (refusal.Acquire cause.Full)) t b → ⊥
  served_full (command.Get level pos) (((cell, at, voxel, done), caused), only) = acquire_not_full cell t.events t.stores done
  served_full (command.Set level pos x) (((cell, at, voxel, small, done), caused), only) = acquire_not_full cell t.events t.stores done
  served_full (command.View name view) (shot, one, none, named, viewed) =
      let why = viewed.cut.cause in
      free_not_full viewed.cut.between.cache b.cache why.acquires.runs.moves.shape why.acquires.valid (sym why.handles ∙ left) (why.full refl)
  served_full (command.Fetch count) (none, fetched) = fetch_not_full fetched.result fetched.told_is

  pub served_not_full : (c : Command) (told : Answer) → IsServed a viewer c told t b → ¬ IsFullRefusal told
  served_not_full c told served = λ is. served_full c (subst (λ (x : Answer). IsServed a viewer c x t b) is served)

-- the replies to commands
pub serves_not_full : (a d : Desk) (commands : List NumberedCommand) (replies : List Reply) (trace : Trace) → ServesTasks a commands replies trace d → All (λ (r : Reply). ¬ IsFullRefusal r.answer) replies
serves_not_full a d [] [] trace served = All-nil (λ (r : Reply). ¬ IsFullRefusal r.answer)
serves_not_full a d (c ∷ commands) (r ∷ replies) trace (mid, first, rest, split, one, others) =
    All-cons (λ (s : Reply). ¬ IsFullRefusal s.answer) r replies one.not_full (serves_not_full mid d commands replies rest others)
serves_not_full a d [] (r ∷ replies) trace served = absurd served
serves_not_full a d (c ∷ commands) [] trace served = absurd served
