use Rattle.std.specs.Prelude.{map, option_map}
use Rattle.std.proofs.Common.{◌≡◌, ◌∙◌, ◌<◌, ℕ, List, Some, length, slice_get, sym, ap, subst}
use Rattle.std.proofs.lemmas.Option.{slice_get-map}
use Rattle.pb_plan.specs.declared.window.Window.{Window}
use Rattle.pb_plan.specs.Codes.{stream_code}
use Rattle.pb_periods.specs.declared.period.Period.{Period}
use Rattle.pb_book.specs.Windows.{OfEnds, window_between}
use Rattle.pb_window.proofs.WindowedLemmas.{ok_so}
use Rattle.pb_window.proofs.between.code_of.Goals as goal

pub at-requires : goal.at-requires
at-requires c =
    let asked = c.requires.asked in
    subst (λ (w : Window). c.args.stream < length w.streams) (sym (c.in_ok-window.ensures.value asked.one asked.other asked.first_is asked.last_is))
    (c.requires.there asked.one asked.other asked.first_is asked.last_is)

pub returns : goal.returns
returns c =
    let rows = c.args.book.now in
    let window = c.in_ok-window.window in
    let stream = c.args.stream in
    ok_so c.stream_code.result (λ (name : List ℕ). name ≡ stream_code c.at.result.now)
    (λ (name : List ℕ). OfEnds rows c.args.first c.args.last (λ (one other : Period). slice_get (map stream_code (window_between rows one other).streams) stream ≡ Some name)) c.stream_code.ensures
    (λ name is one other first_is last_is.
    sym (ap (λ (w : Window). slice_get (map stream_code w.streams) stream) (c.in_ok-window.ensures.value one other first_is last_is))
    ∙ slice_get-map stream_code window.streams stream ∙ ap (option_map stream_code) c.at.ensures ∙ ap (λ (n : List ℕ). Some n) (sym is))
