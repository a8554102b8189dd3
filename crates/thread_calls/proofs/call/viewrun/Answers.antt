-- The words were read, the work was done and its text printed; a run has its headline and its trail, and the demonstration's number decides its line.
use Rattle.std.proofs.Common.{subst}
use Rattle.command_words.specs.Request.{texts}
use Rattle.thread_calls.specs.Ending.{AreFilledBy, EndsBy}
use Rattle.thread_calls.proofs.DecidedLemmas.{whole_call}
use Rattle.thread_calls.proofs.WordLemmas.{few_read}
use Rattle.thread_calls.proofs.call.viewrun.Goals as goal

pub work-work-requires-clause-few_fetchers : goal.work-work-requires-clause-few_fetchers
work-work-requires-clause-few_fetchers g c κs within = few_read c.request_of-request.result (texts c.args.words.now) c.request_of-request.ensures

pub returns : goal.returns
returns g c =
    let work = c.work-work.result.work in
    let before = g.K.Sink.stream c.args.out.now in
    let after = g.K.Sink.stream c.end-status.new.out in
    let ends = subst (λ n. EndsBy n work before after c.end-status.result) c.number_of-number.ensures c.end-status.ensures.ends in
    let filled = subst (λ n. AreFilledBy n work) c.number_of-number.ensures c.end-status.ensures.filled in
    whole_call (texts c.args.words.now) _ _ _ _ _ _ _ _ c.request_of-request.result c.request_of-request.ensures work c.work-work.ensures.works ends filled
