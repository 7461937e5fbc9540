use Rattle.std.proofs.Common.{◌∙◌}
use Rattle.pb_readback.proofs.ResultLemmas.{told_by_results}
use Rattle.pb_readback.proofs.reading.unknown_in.Goals as goal

pub returns-in_err-first_on_stream-clause-value : goal.returns-in_err-first_on_stream-clause-value
returns-in_err-first_on_stream-clause-value c =
    c.from_residual.ensures ∙ c.in_err-first_on_stream.ensures.value ∙ told_by_results c.args.draft.now c.args.results.now c.requires.all c.requires.results

pub returns-clause-value : goal.returns-clause-value
returns-clause-value c =
    c.in_ok-first_on_stream.ensures.value ∙ told_by_results c.args.draft.now c.args.results.now c.requires.all c.requires.results
