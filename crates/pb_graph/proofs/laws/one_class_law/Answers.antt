use Rattle.pb_graph.proofs.ClassLemmas.{each_class, one_class}
use Rattle.pb_graph.proofs.laws.one_class_law.Goals as goal

pub returns : goal.returns
returns c = record { some = each_class; one = one_class }
