use Rattle.std.proofs.Common.{[]}
use Rattle.pb_form.proofs.RowTextLemmas.{text_told}
use Rattle.pb_form.proofs.TextLemmas.{blank_utf8, text_added, whole_utf8}
use Rattle.pb_form.proofs.texts.push_text.Goals as goal

pub returns-in-Missing-clause-texts : goal.returns-in-Missing-clause-texts
returns-in-Missing-clause-texts c = text_added _ _ _ [] c.push.ensures.appended blank_utf8

pub returns-in-Word-clause-texts : goal.returns-in-Word-clause-texts
returns-in-Word-clause-texts c = text_added _ _ _ _ c.push-in-Word.ensures.appended c.as_bytes.ensures.utf8

pub returns-in-Text-clause-adds : goal.returns-in-Text-clause-adds
returns-in-Text-clause-adds c = rw (c.in-Text.is, text_told) (rw c.as_bytes-in-Text.ensures.value at c.push-in-Text.ensures.appended)

pub returns-in-Text-clause-texts : goal.returns-in-Text-clause-texts
returns-in-Text-clause-texts c = text_added _ _ _ _ c.push-in-Text.ensures.appended c.as_bytes-in-Text.ensures.utf8

pub returns-in-Number-clause-texts : goal.returns-in-Number-clause-texts
returns-in-Number-clause-texts c = text_added _ _ _ _ c.push_whole.ensures.appended (whole_utf8 _)
