use Rattle.pb_check.proofs.ClassLemmas.{class_at}
use Rattle.pb_check.proofs.classes.has_class_at.Goals as goal

pub returns : goal.returns
returns c =
    class_at c.args.stage.now c.args.j c.stream.result c.at.result.now c.args.in_stage c.has_class.result c.requires.in_stage c.stream.ensures c.at.ensures c.has_class.ensures
