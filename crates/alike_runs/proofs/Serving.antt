-- Commands, one after another, over moments that nothing tells apart.
use Rattle.std.proofs.Common.{◌≡◌, ◌∙◌, ℕ, List, [], ◌∷◌, ◌++◌, refl, sym, ap, subst, append_assoc}
use Rattle.run_report.specs.declared.reply.Answer.{Answer}
use Rattle.run_report.specs.declared.reply.Reply.{Reply}
use Rattle.run_report.specs.declared.shot.Shot.{Shot}
use Rattle.store_calls.specs.Calls.{StoreCall, FailAlike}
use Rattle.view_script.specs.declared.command.Command.{Command}
use Rattle.view_script.specs.declared.command.Command.TheVariants as command
use Rattle.view_script.specs.Script.{NumberedCommand}
use Rattle.fetch_queue.specs.Queue.{Queue}
use Rattle.volatile_cell.specs.Asked.{Asked, AskedFrom}
use Rattle.team_run.specs.Desk.{Desk, DeskLeads}
use Rattle.team_run.specs.Serve.{IsServed, ServesTasks}
use Rattle.team_run.specs.Trace.{Trace, and_then}
use Rattle.alike_caches.specs.Alike.{AreAlike}
use Rattle.alike_caches.specs.Laws.{GetsAreAlike, SetsAreAlike}
use Rattle.alike_runs.specs.Runs.{DesksAreAlike, IsSameShot, AreSameShots}
use Rattle.alike_runs.specs.Commands.{ViewsAreAlike, FetchCommandsAreAlike}
use Rattle.alike_runs.proofs.Voxels.{get_alike, set_alike}

-- no shots are the same shots
no_shots : (s t : List Shot) → s ≡ [] → t ≡ [] → AreSameShots s t
no_shots s t e f = subst (λ x. AreSameShots x t) (sym e) (subst (λ y. AreSameShots [] y) (sym f) tt)

one_shot : (s t : List Shot) (x y : Shot) → s ≡ x ∷ [] → t ≡ y ∷ [] → IsSameShot x y → AreSameShots s t
one_shot s t x y e f same = subst (λ u. AreSameShots u t) (sym e) (subst (λ v. AreSameShots (x ∷ []) v) (sym f) (same, tt))

shots_on : (s t u v : List Shot) → AreSameShots s t → AreSameShots u v → AreSameShots (s ++ u) (t ++ v)
shots_on [] [] u v g h = h
shots_on [] (t ∷ others) u v g h = absurd g
shots_on (s ∷ shots) [] u v g h = absurd g
shots_on (s ∷ shots) (t ∷ others) u v g h = (g.0, shots_on shots others u v g.1 h)

-- the queue stays where it isn't asked
queue_stays : (a b : Queue) (calls : List Asked) → calls ≡ [] → AskedFrom a calls b → a ≡ b
queue_stays a b calls none asked = subst (λ (u : List Asked). AskedFrom a u b) none asked

desks_stay : (a b a' b' : Desk) (u v : List Asked) → DesksAreAlike a b → u ≡ [] → v ≡ [] → AskedFrom a.queue u a'.queue → AskedFrom b.queue v b'.queue → AreAlike a'.cache b'.cache → DesksAreAlike a' b'
desks_stay a b a' b' u v alike none too asked again caches = record { cache = caches; queue = sym (queue_stays b.queue b'.queue v too again) ∙ alike.queue ∙ queue_stays a.queue a'.queue u none asked }

-- what two commands are, with what they leave
abbrev Both : Desk → Desk → Answer → Answer → Trace → Trace → List StoreCall → List StoreCall → Type 0
Both a' b' p q t u m n = (q ≡ p) × AreSameShots t.shots u.shots × DesksAreAlike a' b' × FailAlike m n

module _ (gets : GetsAreAlike) (sets : SetsAreAlike) (views : ViewsAreAlike) (fetches : FetchCommandsAreAlike) where
  serve_alike : (a b a' b' : Desk) (viewer : ℕ) (c : Command) (p q : Answer) (t u : Trace) (m n : List StoreCall) → DesksAreAlike a b → IsServed a viewer c p t a' → IsServed b viewer c q u b'
      → DeskLeads a t.events t.calls a' → DeskLeads b u.events u.calls b' → FailAlike (t.stores ++ m) (u.stores ++ n) → Both a' b' p q t u m n
  serve_alike a b a' b' viewer (command.Get level pos) p q t u m n alike (got, only) (got', only') lead lead' fail =
      let both = get_alike gets a.cache b.cache a'.cache b'.cache level pos t.events u.events t.stores u.stores m n alike.cache fail p q got got' in
      (both.0, no_shots t.shots u.shots only.shots only'.shots, desks_stay a b a' b' t.calls u.calls alike only.calls only'.calls lead.queue lead'.queue both.1, both.2)
  serve_alike a b a' b' viewer (command.Set level pos x) p q t u m n alike (put, only) (put', only') lead lead' fail =
      let both = set_alike sets a.cache b.cache a'.cache b'.cache level pos x t.events u.events t.stores u.stores m n alike.cache fail p q put put' in
      (both.0, no_shots t.shots u.shots only.shots only'.shots, desks_stay a b a' b' t.calls u.calls alike only.calls only'.calls lead.queue lead'.queue both.1, both.2)
  serve_alike a b a' b' viewer (command.View name view) p q t u m n alike (s, one, none, named, viewed) (s', one', none', named', viewed') lead lead' fail =
      let both = views a b a' b' viewer view s s' t.events u.events t.calls u.calls t.stores u.stores m n p q alike viewed viewed' fail in
      (both.0, one_shot t.shots u.shots s s' one one' (record { name = named' ∙ sym named; shown = both.1; picture = both.2 }), both.3, both.4)
  serve_alike a b a' b' viewer (command.Fetch count) p q t u m n alike (none, fetched) (none', fetched') lead lead' fail =
      let both = fetches a b a' b' count t.servings u.servings t.events u.events t.calls u.calls t.stores u.stores m n p q alike fetched fetched' fail in
      (both.0, no_shots t.shots u.shots none none', both.1, both.2)

  -- replies to the same command
  reply_same : (r s : Reply) (c : NumberedCommand) → r.phase ≡ c.phase → r.actor ≡ c.actor → r.call ≡ c.call → s.phase ≡ c.phase → s.actor ≡ c.actor → s.call ≡ c.call → s.answer ≡ r.answer → s ≡ r
  reply_same r s c p a l p' a' l' same = whole r s (p' ∙ sym p) (a' ∙ sym a) (l' ∙ sym l) same
    where
      whole : (r s : Reply) → s.phase ≡ r.phase → s.actor ≡ r.actor → s.call ≡ r.call → s.answer ≡ r.answer → s ≡ r
      whole r s e f g h = ap (λ x. record { phase = x; actor = s.actor; call = s.call; answer = s.answer }) e ∙ ap (λ x. record { phase = r.phase; actor = x; call = s.call; answer = s.answer }) f
          ∙ ap (λ x. record { phase = r.phase; actor = r.actor; call = x; answer = s.answer }) g ∙ ap (λ x. record { phase = r.phase; actor = r.actor; call = r.call; answer = x }) h

  -- All commands, one after another.
  pub all_alike : (a b a' b' : Desk) (commands : List NumberedCommand) (replies others : List Reply) (t u : Trace) (m n : List StoreCall) → DesksAreAlike a b → ServesTasks a commands replies t a' → ServesTasks b commands others u b'
      → FailAlike (t.stores ++ m) (u.stores ++ n) → (others ≡ replies) × AreSameShots t.shots u.shots × DesksAreAlike a' b' × FailAlike m n
  all_alike a b a' b' [] [] [] t u m n alike (none, stays) (none', stays') fail = (
    refl,
    no_shots t.shots u.shots (ap (λ (x : Trace). x.shots) none) (ap (λ (x : Trace). x.shots) none'),
    subst (λ (x : Desk). DesksAreAlike x b') (sym stays) (subst (λ (y : Desk). DesksAreAlike a y) (sym stays') alike),
    subst (λ (x : Trace). FailAlike (x.stores ++ m) n) none (subst (λ (y : Trace). FailAlike (t.stores ++ m) (y.stores ++ n)) none' fail),
  )
  all_alike a b a' b' [] [] (r ∷ others) t u m n alike served served' fail = absurd served'
  all_alike a b a' b' [] (r ∷ replies) others t u m n alike served served' fail = absurd served
  all_alike a b a' b' (c ∷ commands) [] others t u m n alike served served' fail = absurd served
  all_alike a b a' b' (c ∷ commands) (r ∷ replies) [] t u m n alike served served' fail = absurd served'
  all_alike a b a' b' (c ∷ commands) (r ∷ replies) (s ∷ others) t u m n alike (mid, first, rest, are, one, later) (mid', first', rest', are', one', later') fail =
      let split : FailAlike (first.stores ++ (rest.stores ++ m)) (first'.stores ++ (rest'.stores ++ n)) =
      subst (λ (x : List StoreCall). FailAlike x (first'.stores ++ (rest'.stores ++ n))) (ap (λ (x : Trace). x.stores ++ m) are ∙ append_assoc first.stores rest.stores m)
      (subst (λ (y : List StoreCall). FailAlike (t.stores ++ m) y) (ap (λ (x : Trace). x.stores ++ n) are' ∙ append_assoc first'.stores rest'.stores n) fail) in
      let here = serve_alike a b mid mid' c.actor c.command r.answer s.answer first first' (rest.stores ++ m) (rest'.stores ++ n) alike one.served one'.served one.leads one'.leads split in
      let there = all_alike mid mid' a' b' commands replies others rest rest' m n here.2 later later' here.3 in (
        ap (λ x. x ∷ others) (reply_same r s c one.phase one.actor one.call one'.phase one'.actor one'.call here.0) ∙ ap (λ x. r ∷ x) there.0,
        subst (λ (x : Trace). AreSameShots x.shots u.shots) (sym are) (subst (λ (y : Trace). AreSameShots (and_then first rest).shots y.shots) (sym are') (shots_on first.shots first'.shots rest.shots rest'.shots here.1 there.1)),
        there.2,
        there.3,
      )
