-- What a fetch answers, from the servings that it led to; and what a fetcher served.
use Rattle.std.proofs.Common.{◌≡◌, ◌∙◌, ◌+◌, ◌≤◌, ℕ, cond, Bool, false, List, [], ◌∷◌, length, refl, sym, ap, subst, arith}
use Rattle.std.specs.Prelude.{Result, Ok, Err, Option}
use Rattle.std.proofs.lemmas.List.{append-nil}
use Rattle.std.proofs.lemmas.List.Sums.{sum_by-cons}
use Rattle.arr_history.specs.declared.event.Event.{Event}
use Rattle.fetchers.specs.declared.fetched.Fetched.{Fetched}
use Rattle.fetchers.specs.declared.served.Served.{Served}
use Rattle.fetchers.specs.declared.served.Served.TheVariants as served
use Rattle.fetchers.specs.Servings.{IsAnswer, IsServing, AreServings, IsFetch, AreServed}
use Rattle.pin_rule.specs.declared.made.Made.{Made}
use Rattle.pin_rule.specs.Calls.{plan_at}
use Rattle.pin_words.specs.Plan.{Plan}
use Rattle.run_report.specs.declared.reply.Answer.{Answer}
use Rattle.team_eyes.specs.Teammate.{Teammate, TeamLeads, team_front, plan_in, levels_in}
use Rattle.team_eyes.specs.TeammateLaws.{team_on, same_team}
use Rattle.team_run.specs.Commands.{IsServingOf, AreServingsOf}
use Rattle.team_run.specs.Faults.{is_fault, is_fault_served, fault_servings}
use Rattle.team_run.specs.Fetches.{fetch_answer}
use Rattle.view_script.specs.declared.command.Command.TheVariants as command
use Rattle.volatile_cell.specs.Asked.{Asked}
use Rattle.volatile_cell.specs.Front.{Looker}
use Rattle.team_actors.specs.Answers.{AnswersCommand}
use Rattle.team_actors.specs.Deeds.{Fetches}
use Rattle.team_actors.specs.Rises.{rises_of}
use Rattle.team_actors.proofs.RefusalLemmas.{later_refusal}
use Rattle.team_actors.proofs.RiseLemmas.{rises_stay}

-- a fetch that wants memory tells it as no fault
fetched_faults : {X : Type 0} (result : Result Fetched X) → is_fault (fetch_answer result) ≡ false
fetched_faults (Ok fetched) = refl
fetched_faults (Err memory) = refl

-- a fact counts one where it holds
abbrev one_if : Bool → ℕ
one_if b = cond b 1 0

answer_as : {X Y : Type 0} (y : Y) (count : ℕ) (servings : List Served) (result : Result Fetched X) → IsAnswer count servings result → (r : Result Fetched Y) × IsAnswer count servings r × (fetch_answer result ≡ fetch_answer r)
answer_as y count servings (Ok fetched) h = (Ok fetched, h, refl)
answer_as y count servings (Err memory) h = (Err y, h, refl)

module _ {S : Type 0} where
  same_plan : (a b : Teammate S) (events : List Event) (calls : List Asked) → TeamLeads a events calls b → plan_in b ≡ plan_in a
  same_plan a b events calls led = λ i. plan_at (led.shows i) (led.table i)

  serving_leads : (a b : Teammate S) (s : Served) (events : List Event) (calls : List Asked) → IsServing team_front a s events calls b → TeamLeads a events calls b
  serving_leads a b served.Idle events calls one = one.led
  serving_leads a b served.Held events calls one = one.led
  serving_leads a b served.Loaded events calls one = one.led
  serving_leads a b (served.Refused err) events calls one = subst (λ (u : List Asked). TeamLeads a events u b) (append-nil calls) (team_on a one.mid b [] events calls [] one.taken one.tried)

  serving_of : (a b : Teammate S) (s : Served) (events : List Event) (calls : List Asked) → IsServing team_front a s events calls b → IsServingOf (team_front.looker a) s events calls
  serving_of a b served.Idle events calls one = (one.none, one.took)
  serving_of a b served.Held events calls one = (one.request, one.inside, one.took, one.piece, one.granted, one.given_back)
  serving_of a b served.Loaded events calls one = (one.request, one.inside, one.took, one.piece, one.granted, one.given_back)
  serving_of a b (served.Refused err) events calls one = (one.request, one.inside, one.took, one.refused)

  pub servings_of : (who : Looker) (a b : Teammate S) → team_front.looker a ≡ who → (servings : List Served) (events : List Event) (calls : List Asked) → AreServings team_front a servings events calls b
      → AreServingsOf who servings events calls
  servings_of who a b same [] events calls (none, silent, stays) = (none, silent)
  servings_of who a b same (s ∷ servings) events calls (mid, first, rest, asked, more, one, others, split, asks) = (
    first,
    rest,
    asked,
    more,
    subst (λ (w : Looker). IsServingOf w s first asked) same (serving_of a mid s first asked one),
    servings_of who mid b (sym (same_team a mid first asked (serving_leads a mid s first asked one)) ∙ same) servings rest more others,
    split,
    asks,
  )

  serving_rise : (a b : Teammate S) (s : Served) (events : List Event) (calls : List Asked) → IsServing team_front a s events calls b → length a.cells.rises ≡ (plan_in a).lanes
      → rises_of (plan_in a) a.cells + cond (is_fault_served s) 1 0 ≤ rises_of (plan_in a) b.cells
  serving_rise a b served.Idle events calls one each = let stay = rises_stay (plan_in a) a.cells b.cells events one.led.cells.went in omega (arith, stay)
  serving_rise a b served.Held events calls one each = let stay = rises_stay (plan_in a) a.cells b.cells events one.led.cells.went in omega (arith, stay)
  serving_rise a b served.Loaded events calls one each = let stay = rises_stay (plan_in a) a.cells b.cells events one.led.cells.went in omega (arith, stay)
  serving_rise a b (served.Refused err) events calls one each = (later_refusal a one.mid b [] calls one.request.cell err one.taken one.cause each).licensed

  servings_rise : (p : Plan S (Option (Made S))) (a b : Teammate S) → plan_in a ≡ p → length a.cells.rises ≡ p.lanes → (servings : List Served) (events : List Event) (calls : List Asked) → AreServings team_front a servings events calls b
      → rises_of p a.cells + fault_servings servings ≤ rises_of p b.cells
  servings_rise p a b same each [] events calls (none, silent, stays) =
      let still : rises_of p a.cells ≡ rises_of p b.cells = ap (λ (m : Teammate S). rises_of p m.cells) (sym stays) in omega (arith, still)
  servings_rise p a b same each (s ∷ servings) events calls (mid, first, rest, asked, more, one, others, split, asks) =
      let led = serving_leads a mid s first asked one in
      let now : rises_of p a.cells + cond (is_fault_served s) 1 0 ≤ rises_of p mid.cells =
      subst (λ (q : Plan _ _). length a.cells.rises ≡ q.lanes → rises_of q a.cells + cond (is_fault_served s) 1 0 ≤ rises_of q mid.cells) same (serving_rise a mid s first asked one) each in
      let later = servings_rise p mid b (same_plan a mid first asked led ∙ same) (led.cells.went.lanes ∙ each) servings rest more others in
      let sum : fault_servings (s ∷ servings) ≡ cond (is_fault_served s) 1 0 + fault_servings servings = sum_by-cons _ s servings in
      omega (arith, now, later, sum)

  pub fetch_answers : {X : Type 0} (a b : Teammate S) (count : ℕ) (told : Answer) (result : Result Fetched X) → told ≡ fetch_answer result → IsFetch team_front a count result b → length a.cells.rises ≡ (plan_in a).lanes
      → AnswersCommand a (command.Fetch count) told [] b
  fetch_answers a b count told result is fetch each =
      let same = answer_as (tt {0}) count fetch.servings result fetch.answer in
      let quiet : one_if (is_fault told) ≡ 0 = ap one_if (ap is_fault is ∙ fetched_faults result) in
      let rose = servings_rise (plan_in a) a b refl each fetch.servings fetch.events fetch.calls fetch.are in
      record {
        deed = record { events = fetch.events; calls = fetch.calls; servings = fetch.servings };
        does = record { went = fetch.led.cells.went; asked = fetch.led.queue };
        is = ((same.0, same.1, is ∙ same.2, servings_of (team_front.looker a) a b refl fetch.servings fetch.events fetch.calls fetch.are), refl);
        caused = tt;
        licensed = omega (arith, quiet, rose);
      }

  pub fetcher_serves : (a b : Teammate S) → a.viewer ≡ 0 → AreServed team_front a b → Fetches (plan_in a) (levels_in a) a.cells a.queue b.cells b.queue
  fetcher_serves a b nobody served = record {
    deed = record { events = served.events; calls = served.calls; servings = served.servings };
    does = record { went = served.led.cells.went; asked = served.led.queue };
    are = servings_of _ a b (λ i. record { pass = a.cells.number; alone = false; viewer = nobody i; levels = levels_in a }) served.servings served.events served.calls served.are;
  }
