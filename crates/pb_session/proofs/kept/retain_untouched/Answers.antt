use Rattle.std.proofs.Common.{rules}
use Rattle.std.specs.Prelude.{not}
use Rattle.std.proofs.lemmas.Fn.{filter_same}
use Rattle.pb_book.specs.TakenOut.{touched_at}
use Rattle.pb_session.specs.declared.kept.KeptStudy.{KeptStudy}
use Rattle.pb_session.proofs.kept.retain_untouched.Goals as goal

pub returns : goal.returns
returns c = filter_same _ (λ (k : KeptStudy). not (touched_at c.args.book.now k.period)) _ (λ x b f' k. search rules) _ _ c.retain.ensures.filtered
