-- Views over moments that nothing tells apart.
use Rattle.std.proofs.Common.{◌≡◌, ◌∙◌, ℕ, ◌<◌, Bool, false, IsTrue, List, ◌++◌, length, Option, refl, sym, ap, subst, arith}
use Rattle.std.specs.Prelude.{IfSome}
use Rattle.arr_history.specs.declared.event.Event.{Event}
use Rattle.cell_file.specs.declared.errors.AcquireErr.{AcquireErr}
use Rattle.cell_grid.specs.declared.level.Level.{Level}
use Rattle.run_report.specs.declared.reply.Answer.{Answer}
use Rattle.run_report.specs.declared.reply.Answer.TheVariants as answer
use Rattle.run_report.specs.declared.reply.Refusal.TheVariants as refusal
use Rattle.run_report.specs.declared.shot.Shot.{Shot}
use Rattle.scale_pick.specs.declared.painted.Painted.{Painted}
use Rattle.scale_pick.specs.declared.view.View.{View}
use Rattle.scale_pick.specs.Painted.{painted_of}
use Rattle.scale_pick.specs.Wanted.{wanted_level}
use Rattle.store_calls.specs.Calls.{StoreCall, FailAlike}
use Rattle.volatile_cell.specs.Asked.{Asked}
use Rattle.team_run.specs.Desk.{Desk, desk_front}
use Rattle.team_run.specs.Views as team
use Rattle.alike_frames.specs.Frames.{FramesAreAlike, FramesAskAlike, PicturesAreOne}
use Rattle.alike_frames.proofs.OverEyes as over
use Rattle.alike_runs.proofs.AtDesk.{cache_at, queue_at, stores_at, follows_at, asks_at, tried_at, acquires_at}
use Rattle.alike_runs.specs.Runs.{DesksAreAlike}
use Rattle.alike_runs.specs.Commands.{ViewsAreAlike}

untrue : (b : Bool) → b ≡ false → IsTrue b → ⊥
untrue b e h = cc

-- a level that exists isn't one that doesn't
has_no_lack : (levels : List Level) (view : View) → team.HasLevel levels view → team.LacksLevel levels view → ⊥
has_no_lack levels view has (level, is, past) = let below : level < length levels = subst (λ (o : Option ℕ). IfSome o (λ level. level < length levels)) is has in omega (arith, below, past)

module _ (law : FramesAreAlike) (ask : FramesAskAlike) (one : PicturesAreOne) (a b a' b' : Desk) (viewer : ℕ) (view : View) (s t : Shot) (e f : List Event) (u v : List Asked) (k l m n : List StoreCall) (alike : DesksAreAlike a b) (fail : FailAlike (k ++ m) (l ++ n)) where
  -- what two views tell and show
  abbrev Same : Answer → Answer → Type 0
  Same p q = (q ≡ p) × (t.shown ≡ s.shown) × (IsTrue s.shown → t.picture ≡ s.picture) × DesksAreAlike a' b' × FailAlike m n

  same_levels : b.cache.levels ≡ a.cache.levels
  same_levels = alike.cache.levels

  -- the calls of the stores, as they were told
  told_fail : (x y : List StoreCall) → k ≡ x → l ≡ y → FailAlike (x ++ m) (y ++ n)
  told_fail x y p q = subst (λ (c : List StoreCall). FailAlike (c ++ m) (y ++ n)) p (subst (λ (c : List StoreCall). FailAlike (k ++ m) (c ++ n)) q fail)

  both_painted : (p q : Painted) → team.Paints a viewer view s e u k p a' → team.Paints b viewer view t f v l q b' → Same (answer.Frame p) (answer.Frame q)
  both_painted p q g h =
      let both = over.paints_alike (desk_front viewer) cache_at queue_at (λ _. refl) stores_at follows_at asks_at tried_at acquires_at law ask
      a a' b b' view s.picture t.picture m n g.frame h.frame alike.cache alike.queue refl (told_fail _ _ g.stores_are h.stores_are) in
      let picture : t.picture ≡ s.picture = one s.picture t.picture g.filled h.filled both.2 in
      let told : q ≡ p = h.told ∙ ap (λ (ls : List Level). painted_of (wanted_level ls view) t.picture) same_levels ∙ ap (painted_of (wanted_level a.cache.levels view)) picture ∙ sym g.told in
      (ap answer.Frame told, h.shown ∙ sym g.shown, (λ _. picture), record { cache = both.3; queue = both.4 }, both.5)

  both_cut : (x y : AcquireErr) → team.CutsOff a viewer view s e u k x a' → team.CutsOff b viewer view t f v l y b' → Same (answer.Refused (refusal.Acquire x)) (answer.Refused (refusal.Acquire y))
  both_cut x y g h =
      let both = over.cuts_alike (desk_front viewer) cache_at queue_at (λ _. refl) stores_at follows_at asks_at tried_at acquires_at law ask
      a a' b b' view s.picture t.picture x y m n g.cut h.cut alike.cache alike.queue refl (told_fail _ _ g.stores_are h.stores_are) in
      (ap (λ z. answer.Refused (refusal.Acquire z)) both.0, h.hidden ∙ sym g.hidden, (λ shown. absurd (untrue s.shown g.hidden shown)), record { cache = both.4; queue = both.5 }, both.6)

  not_painted_cut : (p : Painted) (y : AcquireErr) → team.Paints a viewer view s e u k p a' → team.CutsOff b viewer view t f v l y b' → ⊥
  not_painted_cut p y g h = over.not_paints_cuts (desk_front viewer) cache_at queue_at (λ _. refl) stores_at follows_at asks_at tried_at acquires_at law
      a a' b b' view s.picture t.picture y m n g.frame h.cut alike.cache refl (told_fail _ _ g.stores_are h.stores_are)

  not_cut_painted : (x : AcquireErr) (q : Painted) → team.CutsOff a viewer view s e u k x a' → team.Paints b viewer view t f v l q b' → ⊥
  not_cut_painted x q g h = over.not_cuts_paints (desk_front viewer) cache_at queue_at (λ _. refl) stores_at follows_at asks_at tried_at acquires_at law
      a a' b b' view s.picture t.picture x m n g.cut h.frame alike.cache refl (told_fail _ _ g.stores_are h.stores_are)

  both_lack : team.FindsNoLevel a viewer view s e u k a' → team.FindsNoLevel b viewer view t f v l b' → Same (answer.Refused refusal.Outside) (answer.Refused refusal.Outside)
  both_lack g h = (
    refl,
    h.hidden ∙ sym g.hidden,
    (λ shown. absurd (untrue s.shown g.hidden shown)),
    subst (λ (x : Desk). DesksAreAlike x b') (sym g.stays) (subst (λ (y : Desk). DesksAreAlike a y) (sym h.stays) alike),
    subst (λ (x : List StoreCall). FailAlike (x ++ m) n) g.no_stores (subst (λ (y : List StoreCall). FailAlike (k ++ m) (y ++ n)) h.no_stores fail),
  )

  lacks_too : team.LacksLevel a.cache.levels view → team.HasLevel b.cache.levels view → ⊥
  lacks_too lacks has = has_no_lack a.cache.levels view (subst (λ (ls : List Level). team.HasLevel ls view) same_levels has) lacks

  has_too : team.HasLevel a.cache.levels view → team.LacksLevel b.cache.levels view → ⊥
  has_too has lacks = has_no_lack a.cache.levels view has (subst (λ (ls : List Level). team.LacksLevel ls view) same_levels lacks)

  pub view_alike : (p q : Answer) → team.IsViewed a viewer view s e u k p a' → team.IsViewed b viewer view t f v l q b' → Same p q
  view_alike (answer.Frame p) (answer.Frame q) g h = both_painted p q g h
  view_alike (answer.Frame p) (answer.Refused refusal.Outside) g h = absurd (has_too g.exists h.lacks)
  view_alike (answer.Frame p) (answer.Refused (refusal.Acquire y)) g h = absurd (not_painted_cut p y g h)
  view_alike (answer.Refused refusal.Outside) (answer.Frame q) g h = absurd (lacks_too g.lacks h.exists)
  view_alike (answer.Refused refusal.Outside) (answer.Refused refusal.Outside) g h = both_lack g h
  view_alike (answer.Refused refusal.Outside) (answer.Refused (refusal.Acquire y)) g h = absurd (lacks_too g.lacks h.exists)
  view_alike (answer.Refused (refusal.Acquire x)) (answer.Frame q) g h = absurd (not_cut_painted x q g h)
  view_alike (answer.Refused (refusal.Acquire x)) (answer.Refused refusal.Outside) g h = absurd (has_too g.exists h.lacks)
  view_alike (answer.Refused (refusal.Acquire x)) (answer.Refused (refusal.Acquire y)) g h = both_cut x y g h
  view_alike (answer.Value x) q g h = absurd g
  view_alike answer.Done q g h = absurd g
  view_alike (answer.Fetched loaded held refused) q g h = absurd g
  view_alike (answer.Refused (refusal.TooLarge x)) q g h = absurd g
  view_alike p (answer.Value y) g h = absurd h
  view_alike p answer.Done g h = absurd h
  view_alike p (answer.Fetched loaded held refused) g h = absurd h
  view_alike p (answer.Refused (refusal.TooLarge y)) g h = absurd h

pub views_alike : FramesAreAlike → FramesAskAlike → PicturesAreOne → ViewsAreAlike
views_alike law ask one a b a' b' viewer view s t e f u v k l m n p q alike g h fail = view_alike law ask one a b a' b' viewer view s t e f u v k l m n alike fail p q g h
