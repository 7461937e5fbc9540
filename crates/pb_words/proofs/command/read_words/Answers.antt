use Rattle.std.proofs.Common.{rules, ◌≡◌, ◌∙◌, IsTrue, All, true, false, true≢false, refl, sym, subst, map, string_bytes, String, List, ℕ}
use Rattle.std.specs.List.{list_all}
use Rattle.std.specs.declared.alloc.Global.{Global}
use Rattle.clap.specs.Matches.{found_of, first_value}
use Rattle.pb_words.specs.Given.{given_of}
use Rattle.pb_words.specs.Line.{IsGivenByClap, is_plain_or_named, said_in}
use Rattle.pb_words.proofs.CommandLemmas.{asked_here, command_here, in_range}
use Rattle.pb_words.proofs.EndLemmas.{all_formed, each_formed, found_given, taken_of_parts}
use Rattle.pb_words.proofs.command.read_words.Goals as goal

-- each of these words is plain or named
formed_words : (words : List (List ℕ)) (texts : List (String Global)) → map (λ w. string_bytes w) texts ≡ words
    → All (λ w. IsTrue (is_plain_or_named (string_bytes w))) texts → IsTrue (list_all is_plain_or_named words)
formed_words words texts are each = subst (λ (ws : List (List ℕ)). IsTrue (list_all is_plain_or_named ws)) are (all_formed string_bytes texts each)

-- a word of another form belongs to no known part
pub returns-then-not-are_plain_or_named-clause-usage : goal.returns-then-not-are_plain_or_named-clause-usage
returns-then-not-are_plain_or_named-clause-usage c = λ e command of.
    let words = c.args.words.now in
    let formed = (taken_of_parts of.parts words (of.are, of.known, of.once)).formed in
    let each = each_formed string_bytes c.as_slice.result.now (subst (λ (ws : List (List ℕ)). IsTrue (list_all is_plain_or_named ws)) (sym c.as_slice.ensures) formed) in
    let yes : c.are_plain_or_named.result ≡ true = c.are_plain_or_named.ensures.1 each in
    let no : c.are_plain_or_named.result ≡ false = search rules in
    true≢false (sym yes ∙ no)

-- what the matches ask for is the command of the words
pub returns-in-Some-clause-ok : goal.returns-in-Some-clause-ok
returns-in-Some-clause-ok c =
    let words = c.args.words.now in
    let yes : c.are_plain_or_named.result ≡ true = search rules in
    let formed = formed_words words c.as_slice.result.now c.as_slice.ensures (c.are_plain_or_named.ensures.0 yes) in
    let said = first_value (found_of c.in-Ok.matches) in
    let taken : IsGivenByClap words (given_of said) =
    record { formed = formed; taken = c.in-Ok.ensures.taken; is = found_given (found_of c.in-Ok.matches) words c.in-Ok.ensures.rows } in
    command_here words said c.in-Some.command taken c.in-Some.ensures.some

-- and if they ask for no command, there is none
pub returns-in-Ok-clause-usage : goal.returns-in-Ok-clause-usage
returns-in-Ok-clause-usage c = λ e command of.
    let words = c.args.words.now in
    let yes : c.are_plain_or_named.result ≡ true = search rules in
    let formed = formed_words words c.as_slice.result.now c.as_slice.ensures (c.are_plain_or_named.ensures.0 yes) in
    let said = first_value (found_of c.in-Ok.matches) in
    let taken : IsGivenByClap words (given_of said) =
    record { formed = formed; taken = c.in-Ok.ensures.taken; is = found_given (found_of c.in-Ok.matches) words c.in-Ok.ensures.rows } in
    c.in-None.ensures.none refl command (asked_here words said command taken of)

-- words that clap refuses belong to no known parts
pub returns-clause-usage : goal.returns-clause-usage
returns-clause-usage c = λ e command of. c.in-Err.ensures.refused e (taken_of_parts of.parts c.args.words.now (of.are, of.known, of.once)).taken

pub returns-in-Some-clause-within : goal.returns-in-Some-clause-within
returns-in-Some-clause-within c = in_range (said_in (first_value (found_of c.in-Ok.matches))) c.in-Some.command c.in-Some.ensures.some

-- after the first test each word is plain or named
pub returns-in-Some-clause-malformed : goal.returns-in-Some-clause-malformed
returns-in-Some-clause-malformed c = λ malformed.
    let yes : c.are_plain_or_named.result ≡ true = search rules in
    absurd (true≢false (sym (formed_words c.args.words.now c.as_slice.result.now c.as_slice.ensures (c.are_plain_or_named.ensures.0 yes)) ∙ malformed))

pub returns-clause-malformed : goal.returns-clause-malformed
returns-clause-malformed c = λ malformed.
    let yes : c.are_plain_or_named.result ≡ true = search rules in
    absurd (true≢false (sym (formed_words c.args.words.now c.as_slice.result.now c.as_slice.ensures (c.are_plain_or_named.ensures.0 yes)) ∙ malformed))
