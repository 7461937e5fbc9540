-- Statement. The words that the system's arguments give, or why they give no words.
use Rattle.std.specs.Prelude.{ℕ, List, drop, map, Result, String, string_bytes}
use Rattle.std.specs.Result.{result_map_both}
use Rattle.std.specs.IoError.{error_kind}
use Rattle.std.specs.Vec.Iter.{into_iter_items}
use Rattle.std.specs.declared.alloc.Global.{Global}
use Rattle.std.specs.declared.io.Error.{Error}
use Rattle.std.specs.declared.io.ErrorKind.{ErrorKind}
use Rattle.std.specs.declared.io.ErrorKind.TheVariants as kind
use Rattle.std.specs.declared.vec.IntoIter.{IntoIter}
use Rattle.pb_words.specs.declared.command.WordsRefused.{WordsRefused}
use Rattle.pb_words.specs.declared.command.WordsRefused.TheVariants.{Usage, NoMemory}

-- why there are no words if the system doesn't give the arguments: it ran out of memory, otherwise one of them isn't text
abbrev pub refused_by : ErrorKind → WordsRefused
refused_by kind.OutOfMemory = NoMemory
refused_by _ = Usage

-- the words that the arguments give: their texts after the first, which is the program's name; or why they give no words
abbrev pub words_given : Result (IntoIter (String Global) Global) Error → Result (List (List ℕ)) WordsRefused
words_given = result_map_both (λ args. map string_bytes (drop 1 (into_iter_items args))) (λ error. refused_by (error_kind error))
