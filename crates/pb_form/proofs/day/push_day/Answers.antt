use Rattle.std.proofs.Common.{[]}
use Rattle.pb_form.proofs.TextLemmas.{blank_utf8, text_added}
use Rattle.pb_form.proofs.day.push_day.Goals as goal

pub returns-in-Some-clause-texts : goal.returns-in-Some-clause-texts
returns-in-Some-clause-texts c = text_added _ _ _ _ c.push.ensures.appended c.in-Some.ensures.1

pub returns-in-None-clause-texts : goal.returns-in-None-clause-texts
returns-in-None-clause-texts c = text_added _ _ _ [] c.push-in-None.ensures.appended blank_utf8
