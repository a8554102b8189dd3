-- Passes of cells and of their queue that are drawn and taken in, one list after another.
use Rattle.std.proofs.Common.{◌≡◌, ◌∙◌, ℕ, ◌+◌, ◌<◌, List, [], ◌∷◌, ◌++◌, length, map, sym, refl, ap, subst, arith, length-append}
use Rattle.std.proofs.lemmas.List.{map-append, length-map}
use Rattle.std.proofs.lemmas.List.Elements.{All-append, All-cons, All-nil}
use Rattle.live_cells.specs.declared.cells.Cells.{Cells}
use Rattle.pass_roster.specs.Phases.{TookIn}
use Rattle.pin_words.specs.declared.doing.Doing.{Doing}
use Rattle.pin_words.specs.declared.doing.Ended.{Ended}
use Rattle.turn_cell.specs.declared.views.Ended as queue_ended
use Rattle.turn_cell.specs.declared.views.PassView.{PassView}
use Rattle.volatile_cell.specs.declared.queue_call.QueueCall.{QueueCall}
use Rattle.volatile_cell.specs.declared.queue_reply.QueueReply.{QueueReply}
use Rattle.pin_words.specs.Ends as cells
use Rattle.pin_words.specs.Words as cells_words
use Rattle.turn_cell.specs.PassView as queue_view
use Rattle.turn_cell.specs.Plays as queue
use Rattle.team_passes.specs.declared.team_pass.TeamPass.{TeamPass}
use Rattle.team_passes.specs.Drawn.{HasDrawn, AreNew, AreJoined}
use Rattle.team_passes.specs.Teams.{QueueTurn, cells_in, asks_in, IsTeamPass, MayDraw, AreDrawn, AreTakenIn}
use Rattle.team_passes.proofs.Phasing.{joined_on, new_on, drawn_on}

module _ {S : Type 0} where
  pub taken_none : (a : TeamPass S) → AreTakenIn a [] a
  taken_none a = record { cells = refl; asks = refl }

  pub taken_on : (a m b : TeamPass S) (xs ys : List (TeamPass S)) → AreTakenIn a xs m → AreTakenIn m ys b → AreTakenIn a (xs ++ ys) b
  taken_on a m b xs ys h k = record {
    cells = subst (λ l. AreJoined cells.Rejoined l (cells_in a) (cells_in b)) (sym (map-append cells_in xs ys))
        (joined_on cells.Rejoined (map cells_in xs) (map cells_in ys) (cells_in a) (cells_in m) (cells_in b) h.cells k.cells);
    asks = subst (λ l. AreJoined queue.Rejoined l (asks_in a) (asks_in b)) (sym (map-append asks_in xs ys))
        (joined_on queue.Rejoined (map asks_in xs) (map asks_in ys) (asks_in a) (asks_in m) (asks_in b) h.asks k.asks);
  }

  module _ (t : Cells S) (q : QueueTurn) where
    pub drawn_none : (a : TeamPass S) → AreDrawn t q a [] a
    drawn_none a = let z : length {A = TeamPass S} [] ≡ 0 = refl in record {
      own = All-nil (IsTeamPass t q);
      cells = record { number = refl; seen = refl; mine = refl; ended = refl; drawn = omega arith };
      asks = record { number = refl; seen = refl; mine = refl; ended = refl; drawn = omega arith };
      new_cells = tt;
      new_asks = tt;
    }

    pub drawn_more : (a m b : TeamPass S) (xs ys : List (TeamPass S)) → AreDrawn t q a xs m → AreDrawn t q m ys b → AreDrawn t q a (xs ++ ys) b
    drawn_more a m b xs ys h k =
        let len = length-append xs ys in record {
          own = All-append (IsTeamPass t q) xs ys h.own k.own;
          cells = subst (λ (n : ℕ). HasDrawn cells_words.passes (cells_in a) n (cells_in b)) (sym len) (drawn_on cells_words.passes (cells_in a) (cells_in m) (cells_in b) (length xs) (length ys) h.cells k.cells);
          asks = subst (λ (n : ℕ). HasDrawn queue_view.passes (asks_in a) n (asks_in b)) (sym len) (drawn_on queue_view.passes (asks_in a) (asks_in m) (asks_in b) (length xs) (length ys) h.asks k.asks);
          new_cells = subst (λ l. AreNew cells_words.passes (cells_in a).seen (cells_in a).drawn l) (sym (map-append cells_in xs ys))
              (new_on cells_words.passes (cells_in a).seen (cells_in a).drawn (map cells_in xs) (map cells_in ys) h.new_cells
              (subst (λ n. AreNew cells_words.passes (cells_in a).seen n (map cells_in ys)) (h.cells.drawn ∙ ap (λ n. (cells_in a).drawn + n) (sym (length-map xs cells_in)))
              (subst (λ l. AreNew cells_words.passes l (cells_in m).drawn (map cells_in ys)) h.cells.seen k.new_cells)));
          new_asks = subst (λ l. AreNew queue_view.passes (asks_in a).seen (asks_in a).drawn l) (sym (map-append asks_in xs ys))
              (new_on queue_view.passes (asks_in a).seen (asks_in a).drawn (map asks_in xs) (map asks_in ys) h.new_asks
              (subst (λ n. AreNew queue_view.passes (asks_in a).seen n (map asks_in ys)) (h.asks.drawn ∙ ap (λ n. (asks_in a).drawn + n) (sym (length-map xs asks_in)))
              (subst (λ l. AreNew queue_view.passes l (asks_in m).drawn (map asks_in ys)) h.asks.seen k.new_asks)));
        }

-- one pass that was split, and one that was joined
module _ {S : Type 0} (t : Cells S) (q : QueueTurn) where
  pub drew_one : (a b x : TeamPass S) → cells_in b ≡ cells.parent (cells_in a) → asks_in b ≡ queue_view.parent (asks_in a) → IsTeamPass t q x → cells_in x ≡ cells.child (cells_in a) → asks_in x ≡ queue_view.child (asks_in a)
      → AreDrawn t q a (x ∷ []) b
  drew_one a b x kept asked own is new = let z : length {A = TeamPass S} [] ≡ 0 = refl in record {
    own = All-cons (IsTeamPass t q) x [] own (All-nil (IsTeamPass t q));
    cells = record { number = ap (λ d. d.number) kept; seen = ap (λ d. d.seen) kept; mine = ap (λ d. d.mine) kept; ended = ap (λ d. d.ended) kept; drawn = ap (λ d. d.drawn) kept ∙ (let e : (cells_in a).drawn + 1 ≡ (cells_in a).drawn + length (x ∷ []) = omega arith in e) };
    asks = record { number = ap (λ d. d.number) asked; seen = ap (λ d. d.seen) asked; mine = ap (λ d. d.mine) asked; ended = ap (λ d. d.ended) asked; drawn = ap (λ d. d.drawn) asked ∙ (let e : (asks_in a).drawn + 1 ≡ (asks_in a).drawn + length (x ∷ []) = omega arith in e) };
    new_cells = (record { number = ap (λ d. d.number) is; has_seen = ap (λ d. d.seen) is; mine = ap (λ d. d.mine) is }, tt);
    new_asks = (record { number = ap (λ d. d.number) new; has_seen = ap (λ d. d.seen) new; mine = ap (λ d. d.mine) new }, tt);
  }

  -- a first pass that has drawn more can draw as many fewer
  pub may_draw : (count : ℕ) (a b : TeamPass S) (xs : List (TeamPass S)) → AreDrawn t q a xs b → MayDraw count a → length xs < count → MayDraw 1 b
  may_draw count a b xs h room few =
      let i = h.cells.drawn in let j = h.asks.drawn in
      let e = ap (length {A = Ended}) h.cells.ended in let f = ap (length {A = queue_ended.Ended QueueCall QueueReply}) h.asks.ended in
      record { cells_room = (let r = room.cells_room in omega arith); cells_numbers = (let r = room.cells_numbers in omega arith); asks_room = (let r = room.asks_room in omega arith); asks_numbers = (let r = room.asks_numbers in omega arith) }

-- what the first pass is once another was joined into it
module _ {S M : Type 0} where
  pub took_cells : (v e w : Doing S M) → cells.Rejoined v e w → (x : Ended) × TookIn cells_words.passes v e w x
  took_cells v e w r = (
    cells.ended_as e,
    record {
      number = ap (λ d. d.number) r.0;
      mine = ap (λ d. d.mine) r.0;
      drawn = ap (λ d. d.drawn) r.0;
      ended = ap (λ d. d.ended) r.0;
      first_seen = r.1;
      other_seen = r.2;
      ended_number = refl;
      ended_mine = refl;
    },
  )

module _ {T C R : Type 0} where
  pub took_asks : (v e w : PassView T C R) → queue.Rejoined v e w → (x : queue_ended.Ended C R) × TookIn queue_view.passes v e w x
  took_asks v e w r = (
    queue_view.ended_as e,
    record {
      number = ap (λ d. d.number) r.is;
      mine = ap (λ d. d.mine) r.is;
      drawn = ap (λ d. d.drawn) r.is;
      ended = ap (λ d. d.ended) r.is;
      first_seen = r.first_seen;
      other_seen = r.other_seen;
      ended_number = refl;
      ended_mine = refl;
    },
  )
