-- What clap found is what it finds in such words, by its clauses of both outcomes.
use Rattle.std.proofs.Common.{rules, ◌≢◌}
use Rattle.clap.specs.Words.{kind_of}
use Rattle.clap.specs.declared.error.kind.ErrorKind.TheVariants as kind
use Rattle.command_words.proofs.TakenLemmas.{all_taken, first_of_both, none_taken}
use Rattle.command_words.proofs.command.matches_in.Goals as goal

pub returns-in-Ok : goal.returns-in-Ok
returns-in-Ok c = all_taken _ _ _ (c.in-Ok.ensures.kinds c.requires) (c.in-Ok.ensures.matches (first_of_both _ _ c.requires)).0

pub returns : goal.returns
returns c =
    let differs : kind_of c.in-Err.err ≢ kind.OutOfMemory = search rules in
    none_taken _ _ c.in-Err.err (c.in-Err.ensures.kinds c.requires) differs
