-- What led from one moment of eyes to another leads from one desk to another.
use Rattle.std.proofs.Common.{◌≡◌, ◌∙◌, ℕ, nat_lt, List, [], ◌∷◌, ◌++◌, length, refl, sym, ap, subst, arith, Option, Some, None, true, false, Bool, cond}
use Rattle.arr_history.specs.declared.event.Event.{Event}
use Rattle.cell_grid.specs.Pyramid.{cells_of}
use Rattle.cell_grid.specs.declared.level.Level.{Level}
use Rattle.fetch_queue.specs.declared.request.Request.{Request}
use Rattle.fetch_queue.specs.Queue.{Queue, put_request, pair, without_next, next_request, cleared}
use Rattle.sole_cache.specs.Cached.{Cached, handles_out}
use Rattle.volatile_cell.specs.declared.queue_call.QueueCall.{QueueCall}
use Rattle.volatile_cell.specs.declared.queue_call.QueueCall.TheVariants as call
use Rattle.volatile_cell.specs.Asked.{Asked, AskedFrom, after_call, puts_request}
use Rattle.sole_eyes.specs.SoleLaws.{leads_nowhere, leads_after}
use Rattle.volatile_cell.proofs.Asking.{asked_after}
use Rattle.team_run.specs.Desk.{Desk, DeskLeads, DeskFollows, IsReady, desk}
use Rattle.std.proofs.lemmas.Grind.{common_steps}

-- A queue is for as many viewers, cells and priorities as another.
record SameShape (q q' : Queue) : Type 0 where
  viewers : q'.viewers ≡ q.viewers
  cells : q'.cells ≡ q.cells
  lists : length q'.lists ≡ length q.lists

itself : (q : Queue) → SameShape q q
itself q = record { viewers = refl; cells = refl; lists = refl }

taken_same : (q : Queue) (next : Option Request) → SameShape q (without_next q next)
taken_same q None = itself q
taken_same q (Some r) = record { viewers = refl; cells = refl; lists = grind (arith, common_steps) }

put_same : (q : Queue) (r : Request) (priority : ℕ) (to_front : Bool) → SameShape q (put_request q r priority to_front)
put_same q r priority to_front = record { viewers = refl; cells = refl; lists = grind (arith, common_steps) }

cleared_same : (q : Queue) (viewer : ℕ) → SameShape q (cleared q viewer)
cleared_same q viewer = record { viewers = refl; cells = refl; lists = grind (arith, common_steps) }

chosen_same : (b : Bool) (q p : Queue) → SameShape q p → SameShape q (cond b p q)
chosen_same true q p h = h
chosen_same false q p h = itself q

call_same : (q : Queue) (c : QueueCall) → SameShape q (after_call q c)
call_same q (call.Put viewer cell priority to_front) = chosen_same (puts_request q viewer cell priority) q (put_request q (pair viewer cell) priority to_front) (put_same q (pair viewer cell) priority to_front)
call_same q call.Take = taken_same q (next_request q)
call_same q (call.Clear viewer) = chosen_same (nat_lt viewer q.viewers) q (cleared q viewer) (cleared_same q viewer)

asked_same : (q q' : Queue) (calls : List Asked) → AskedFrom q calls q' → SameShape q q'
asked_same q q' [] same = subst (SameShape q) same (itself q)
asked_same q q' (a ∷ calls) asked =
    let first = call_same q a.call in
    let rest = asked_same (after_call q a.call) q' calls asked.1 in
    record { viewers = rest.viewers ∙ first.viewers; cells = rest.cells ∙ first.cells; lists = rest.lists ∙ first.lists }

-- what is ready stays so where no handle is out
pub ready_after : (a b : Desk) (events : List Event) (calls : List Asked) → DeskLeads a events calls b → IsReady a → handles_out b.cache ≡ 0 → IsReady b
ready_after a b events calls led ready free =
    let shape = asked_same a.queue b.queue calls led.queue in
    let levels = led.cache.moves.levels in
    record {
      handles = free;
      queue = record {
        cells = shape.cells ∙ ready.queue.cells ∙ ap cells_of (sym levels);
        priorities = shape.lists ∙ ready.queue.priorities ∙ ap (length {A = Level}) (sym levels);
      };
      viewers = shape.viewers ∙ ready.viewers;
    }

-- what leads on from where something led
pub desk_on : (a b d : Desk) (p q : List Event) (u v : List Asked) → DeskLeads a p u b → DeskLeads b q v d → DeskLeads a (p ++ q) (u ++ v) d
desk_on a b d p q u v first second = record {
  cache = leads_after a.cache b.cache d.cache p q first.cache second.cache;
  queue = asked_after a.queue b.queue d.queue u v first.queue second.queue;
}

pub desk_stays : (a : Desk) → DeskLeads a [] [] a
desk_stays a = record { cache = leads_nowhere a.cache; queue = refl }

-- what steps of eyes led to
pub desk_leads : (a b : Desk) (p : List Event) (u : List Asked) → DeskFollows a p u b → DeskLeads a p u b
desk_leads a b p u led = record { cache = led.cache.leads; queue = led.queue }

-- a fact of a desk is one of the same desk by other names
pub at_desk : (Fact : Desk → Type 0) (x x' : Cached) (q q' : Queue) → x' ≡ x → q' ≡ q → Fact (desk x q) → Fact (desk x' q')
at_desk Fact x x' q q' same_cache same_queue fact = subst (λ y. Fact (desk y q')) (sym same_cache) (subst (λ r. Fact (desk x r)) (sym same_queue) fact)
