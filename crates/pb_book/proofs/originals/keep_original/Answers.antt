use Rattle.std.proofs.lemmas.Result.{on_ok_weaker}
use Rattle.pb_book.proofs.OriginalLemmas.{has_original, no_original}
use Rattle.pb_book.proofs.originals.keep_original.Goals as goal

pub returns-in-Some-clause-kept : goal.returns-in-Some-clause-kept
returns-in-Some-clause-kept c =
    on_ok_weaker c.keep_at.result
    (has_original c.args.id.now c.args.facts.now c.keep_at.new.originals c.in-Some.place c.find.ensures.no_repeats c.in-Some.ensures.value)
    c.keep_at.ensures.kept

pub returns-in-None-clause-kept : goal.returns-in-None-clause-kept
returns-in-None-clause-kept c = no_original c.args.id.now c.args.facts.now c.args.originals.now c.in-None.ensures.value
