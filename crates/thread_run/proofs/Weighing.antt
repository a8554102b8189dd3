-- The tally of a whole history is that of what its passes have made.
use Rattle.std.proofs.Common.{◌≡◌, ◌∙◌, ℕ, ◌+◌, Bool, cond, List, [], ◌∷◌, ◌++◌, map, refl, sym, ap, arith}
use Rattle.std.specs.List.{count_by, flat_map}
use Rattle.arr_history.specs.declared.event.Event.{Event}
use Rattle.arr_history.specs.Tally.{is_hit, is_miss, is_load, is_gone, is_writeback, cut, tally_of}
use Rattle.arr_history.proofs.Counts.{count_by-append}
use Rattle.live_cells.specs.Actors.{made_by_ended, made_by_all}
use Rattle.pass_roster.specs.Ends.{IsWhole}
use Rattle.pass_roster.specs.History.{total}
use Rattle.pass_roster.proofs.Sums.{total_append, total_counts}
use Rattle.pass_roster.proofs.Weights.{whole_weighs}
use Rattle.pin_words.specs.declared.doing.Doing.{Doing}
use Rattle.pin_words.specs.declared.doing.Ended.{Ended}
use Rattle.pin_words.specs.Words.{passes}

ended_weigh : (weight : Event → ℕ) (xs : List Ended) → total weight (flat_map (λ x. x.mine) xs) ≡ total (total weight) (map (λ x. x.mine) xs)
ended_weigh weight [] = refl
ended_weigh weight (x ∷ xs) = total_append weight x.mine (flat_map (λ y. y.mine) xs) ∙ ap (λ n. total weight x.mine + n) (ended_weigh weight xs)

-- The pass d went on to w by what closes its history, which is whole then.
module _ {S M : Type 0} (d w : Doing S M) (closing : List Event) (whole : IsWhole passes w) (seen : w.seen ≡ d.seen ++ closing) (mine : w.mine ≡ d.mine ++ closing) (ended : w.ended ≡ d.ended) where
  made_count : (test : Event → Bool) → count_by test (made_by_all d) ≡ count_by test d.seen
  made_count test =
      let weight : Event → ℕ = λ e. cond (test e) 1 0 in
      let a = whole_weighs passes weight w whole in
      let b : total weight w.seen ≡ total weight d.seen + total weight closing = ap (total weight) seen ∙ total_append weight d.seen closing in
      let c : total weight w.mine ≡ total weight d.mine + total weight closing = ap (total weight) mine ∙ total_append weight d.mine closing in
      let f : total (total weight) (map (λ (x : Ended). x.mine) w.ended) ≡ total (total weight) (map (λ (x : Ended). x.mine) d.ended) = ap (λ (xs : List Ended). total (total weight) (map (λ x. x.mine) xs)) ended in
      let g : total weight (made_by_all d) ≡ total weight (made_by_ended d) + total weight d.mine = total_append weight (made_by_ended d) d.mine in
      let h : total weight (made_by_ended d) ≡ total (total weight) (map (λ (x : Ended). x.mine) d.ended) = ended_weigh weight d.ended in
      let same : total weight (made_by_all d) ≡ total weight d.seen = omega (arith, a, b, c, f, g, h) in
      sym (total_counts test (made_by_all d)) ∙ same ∙ total_counts test d.seen

  both_count : (test : Event → Bool) → count_by test (made_by_all d ++ closing) ≡ count_by test (d.seen ++ closing)
  both_count test = count_by-append test (made_by_all d) closing ∙ ap (λ n. n + count_by test closing) (made_count test) ∙ sym (count_by-append test d.seen closing)

  pub whole_tally : tally_of (made_by_all d) closing ≡ tally_of d.seen closing
  whole_tally = λ i. record {
    hits = cut (both_count is_hit i);
    misses = cut (both_count is_miss i);
    loads = cut (both_count is_load i);
    evictions = cut (made_count is_gone i);
    writebacks = cut (both_count is_writeback i);
    closed = cut (count_by is_gone closing);
  }
