use Rattle.std.proofs.Common.{rules, ◌≡◌, Some, codes}
use Rattle.clap.specs.Matches.{found_of, first_value}
use Rattle.pb_words.specs.Line.{said_in}
use Rattle.pb_words.proofs.CommandLemmas.{no_check, no_make, no_run}
use Rattle.pb_words.proofs.command.asked.Goals as goal

pub returns-in-Some-run-clause-none : goal.returns-in-Some-run-clause-none
returns-in-Some-run-clause-none c = λ none command asks.
    let mode : first_value (found_of c.args.matches.now) (codes "mode") ≡ Some (codes "run") = search rules in
    no_run (said_in (first_value (found_of c.args.matches.now))) mode (c.run_asked.ensures.none none) command asks

pub returns-in-Some-make-clause-none : goal.returns-in-Some-make-clause-none
returns-in-Some-make-clause-none c = λ none command asks.
    let mode : first_value (found_of c.args.matches.now) (codes "mode") ≡ Some (codes "make") = search rules in
    no_make (said_in (first_value (found_of c.args.matches.now))) mode (c.make_asked.ensures.none none) command asks

pub returns-in-Some-check-clause-none : goal.returns-in-Some-check-clause-none
returns-in-Some-check-clause-none c = λ none command asks.
    let mode : first_value (found_of c.args.matches.now) (codes "mode") ≡ Some (codes "check") = search rules in
    no_check (said_in (first_value (found_of c.args.matches.now))) mode (c.check_asked.ensures.none none) command asks
