use Rattle.team_phases.proofs.threads.each.Goals as goal

pub returns : goal.returns
returns g c = record { each = c.for_each_mut.ensures }
