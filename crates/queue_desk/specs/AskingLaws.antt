-- The laws of what a pass has asked.
use Rattle.std.proofs.Common.{◌≡◌, ◌∙◌, List, [], ◌++◌, map, refl, sym, ap, subst, append_assoc}
use Rattle.std.proofs.lemmas.List.{append-nil, map-append}
use Rattle.pass_roster.specs.History.{entries_by}
use Rattle.pass_roster.proofs.Entries.{by_append}
use Rattle.volatile_cell.specs.Asked.{Asked}
use Rattle.queue_desk.specs.Desk.{QueueEntry}
use Rattle.queue_desk.specs.Asking.{AskingPass, asker_of, queue_entry, AsksQueue}

-- nothing was asked
pub asks_nothing : (d : AskingPass) → AsksQueue d [] d
asks_nothing d = record { between = []; seen = sym (append-nil d.seen); own = refl; mine = sym (append-nil d.mine); same = refl }

-- more was asked
pub asks_more : (a b c : AskingPass) (u v : List Asked) → AsksQueue a u b → AsksQueue b v c → AsksQueue a (u ++ v) c
asks_more a b c u v f g =
    let same : b.number ≡ a.number = ap (λ (d : AskingPass). d.number) f.same in
    let own : entries_by asker_of a.number g.between ≡ map (queue_entry a.number) v = subst (λ k. entries_by asker_of k g.between ≡ map (queue_entry k) v) same g.own in
    record {
      between = f.between ++ g.between;
      seen = g.seen ∙ ap (λ (s : List QueueEntry). s ++ g.between) f.seen ∙ append_assoc a.seen f.between g.between;
      own = by_append asker_of a.number f.between g.between
          ∙ ap (λ (s : List QueueEntry). s ++ entries_by asker_of a.number g.between) f.own
          ∙ ap (λ (s : List QueueEntry). map (queue_entry a.number) u ++ s) own ∙ sym (map-append (queue_entry a.number) u v);
      mine = g.mine ∙ ap (λ (s : List QueueEntry). s ++ map (queue_entry b.number) v) f.mine ∙ append_assoc a.mine (map (queue_entry a.number) u) (map (queue_entry b.number) v)
          ∙ ap (λ k. a.mine ++ (map (queue_entry a.number) u ++ map (queue_entry k) v)) same ∙ ap (λ (s : List QueueEntry). a.mine ++ s) (sym (map-append (queue_entry a.number) u v));
      same = g.same ∙ ap (λ (d : AskingPass). record d { seen = c.seen; mine = c.mine }) f.same;
    }
