use Rattle.std.proofs.Common.{rules}
use Rattle.std.specs.Prelude.{not}
use Rattle.std.proofs.lemmas.Fn.{filter_same}
use Rattle.pb_session.specs.declared.kept.KeptStudy.{KeptStudy}
use Rattle.pb_session.specs.Keeping.{is_of}
use Rattle.pb_session.proofs.kept.drop_study.Goals as goal

pub returns-clause-items : goal.returns-clause-items
returns-clause-items c = filter_same _ (λ (k : KeptStudy). not (is_of c.args.period k)) _ (λ x b f' k. search rules) _ _ c.retain.ensures.filtered
