-- What crates above may cite of words: they give at most one command.
use Rattle.std.proofs.Common.{◌∙◌, sym}
use Rattle.pb_words.specs.Parts.{said_by}
use Rattle.pb_words.specs.Laws.{OneCommandLaw}
use Rattle.pb_words.proofs.CommandLemmas.{asked_by_both, one_asked}
use Rattle.pb_words.proofs.EndLemmas.{taken_of_parts}

-- both ask for what `clap` returns
pub one_command : OneCommandLaw
one_command words one other a b =
    let given = (taken_of_parts a.parts words (a.are, a.known, a.once)).is ∙ sym (taken_of_parts b.parts words (b.are, b.known, b.once)).is in
    one_asked (said_by b.parts) one other (asked_by_both a.parts b.parts a.known b.known given one a.asks) b.asks
