-- How often things happened: in the run part of a history, and in its shutting part, which is what the shutting adds.
use Rattle.std.specs.Prelude.{◌≡◌, ℕ, ◌+◌, ◌-◌, ◌^◌, ◌≤◌, Bool, true, false, List, [], ◌∷◌, ◌++◌, map, min}
use Rattle.std.specs.List.{count_by}
use Rattle.pass_roster.specs.History.{total}
use Rattle.arr_history.specs.declared.event.Event.{Event}
use Rattle.arr_history.specs.declared.event.Event.TheVariants.{Pin, Miss, Live, Gone}
use Rattle.arr_history.specs.declared.tally.Tally.{Tally}

abbrev pub is_hit : Event → Bool
is_hit (Pin k c) = true
is_hit other = false

abbrev pub is_miss : Event → Bool
is_miss (Miss k c) = true
is_miss other = false

abbrev pub is_load : Event → Bool
is_load (Live k c slot) = true
is_load other = false

abbrev pub is_gone : Event → Bool
is_gone (Gone k c saved) = true
is_gone other = false

abbrev pub is_writeback : Event → Bool
is_writeback (Gone k c saved) = saved
is_writeback other = false

-- a count as 64 bits show it
abbrev pub cut : ℕ → ℕ
cut n = min n (2 ^ 64 - 1)

-- the counts of a run part and a shutting part
abbrev pub tally_of : List Event → List Event → Tally
tally_of run closing = record {
  hits = cut (count_by is_hit (run ++ closing));
  misses = cut (count_by is_miss (run ++ closing));
  loads = cut (count_by is_load (run ++ closing));
  evictions = cut (count_by is_gone run);
  writebacks = cut (count_by is_writeback (run ++ closing));
  closed = cut (count_by is_gone closing);
}

-- counts with those of more events, of which the last part is of the shutting
abbrev pub tally_raised : Tally → List Event → List Event → Tally
tally_raised t run closing = record {
  hits = cut (t.hits + count_by is_hit (run ++ closing));
  misses = cut (t.misses + count_by is_miss (run ++ closing));
  loads = cut (t.loads + count_by is_load (run ++ closing));
  evictions = cut (t.evictions + count_by is_gone run);
  writebacks = cut (t.writebacks + count_by is_writeback (run ++ closing));
  closed = cut (t.closed + count_by is_gone closing);
}

-- the counts of two runs together
abbrev pub plus : Tally → Tally → Tally
plus t u = record {
  hits = cut (t.hits + u.hits);
  misses = cut (t.misses + u.misses);
  loads = cut (t.loads + u.loads);
  evictions = cut (t.evictions + u.evictions);
  writebacks = cut (t.writebacks + u.writebacks);
  closed = cut (t.closed + u.closed);
}

-- the counts of many runs together
abbrev pub sum_of : List Tally → Tally
sum_of [] = tally_of [] []
sum_of (t ∷ tallies) = plus t (sum_of tallies)

-- each count fits 64 bits
pub record IsTally (t : Tally) : Type 0 where
  pub hits : t.hits ≤ 2 ^ 64 - 1
  pub misses : t.misses ≤ 2 ^ 64 - 1
  pub loads : t.loads ≤ 2 ^ 64 - 1
  pub evictions : t.evictions ≤ 2 ^ 64 - 1
  pub writebacks : t.writebacks ≤ 2 ^ 64 - 1
  pub closed : t.closed ≤ 2 ^ 64 - 1

-- no event of these is counted
pub record AreUncounted (events : List Event) : Type 0 where
  pub hits : count_by is_hit (events ++ []) ≡ 0
  pub misses : count_by is_miss (events ++ []) ≡ 0
  pub loads : count_by is_load (events ++ []) ≡ 0
  pub evictions : count_by is_gone events ≡ 0
  pub writebacks : count_by is_writeback (events ++ []) ≡ 0

-- The tally of a run grows by the counts of what follows.
abbrev pub TalliesGrow : Type 0
TalliesGrow = (run more closing : List Event) → tally_of (run ++ more) closing ≡ tally_raised (tally_of run []) more closing

-- The tally of a history in two parts is that of both together.
abbrev pub PartsAddUp : Type 0
PartsAddUp = (run more closing rest : List Event) → tally_of (run ++ more) (closing ++ rest) ≡ plus (tally_of run closing) (tally_of more rest)

-- Where each weight of a history is that of the passes' own events, its tally is that of all passes together.
abbrev pub PassesAddUp : Type 0
PassesAddUp = (history : List Event) (passes : List (List Event)) → ((weight : Event → ℕ) → total weight history ≡ total (total weight) passes)
    → tally_of history [] ≡ sum_of (map (λ own. tally_of own []) passes)

-- Every tally fits.
abbrev pub TalliesFit : Type 0
TalliesFit = (run closing : List Event) → IsTally (tally_of run closing)
