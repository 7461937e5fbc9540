use Rattle.std.proofs.Common.{◌≡◌, ◌∙◌, ap, ap₂}
use Rattle.clap.specs.Simple.{app_of, is_simple, matches_of}
use Rattle.pb_words.specs.Line.{line}
use Rattle.pb_words.proofs.line.taken_apart.Goals as goal

-- the command is simple, so its matches are those of the words
pub returns-in-Ok-try_get_matches_from-clause-rows : goal.returns-in-Ok-try_get_matches_from-clause-rows
returns-in-Ok-try_get_matches_from-clause-rows c =
    let line_is : app_of c.in-Ok.command ≡ line = c.in-Ok.ensures in
    (c.in-Ok-try_get_matches_from.ensures.matches (ap is_simple line_is)).0 ∙ ap₂ matches_of line_is c.as_slice.ensures
