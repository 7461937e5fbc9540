use Rattle.std.proofs.Common.{◌≡◌, ◌≢◌, ◌∙◌, ℕ, List, Result, Ok, Err, sym, ap, subst}
use Rattle.pb_rows.specs.declared.name.Names.{Names}
use Rattle.pb_graph.specs.ProcessGraph.{ProcessGraph}
use Rattle.pb_plan.specs.Codes.{window_names}
use Rattle.pb_book.specs.Windows.{window_between}
use Rattle.pb_period.specs.declared.graph.Assembly.{Assembly}
use Rattle.pb_period.specs.declared.graph.Assembly.TheVariants.{NoMemory}
use Rattle.pb_period.specs.WindowGraph.{periods_at, window_assembly}
use Rattle.pb_window.specs.Between.{with_names}
use Rattle.pb_window.proofs.NamedLemmas.{window_names_are}
use Rattle.pb_window.proofs.WindowedLemmas.{between_is, window_at}
use Rattle.pb_window.proofs.between.window.Goals as goal

ok_sure : (graph : ProcessGraph) (r : Result ProcessGraph Assembly) → r ≡ Ok graph → r ≢ Err NoMemory
ok_sure graph r is = λ other. cc (is, other)

abbrev failed : Assembly → Result (ProcessGraph × Names) Assembly
failed why = Err why

abbrev made : ProcessGraph → Names → Result (ProcessGraph × Names) Assembly
made graph names = Ok (graph, names)

fault_sure : (why : Assembly) (r : Result ProcessGraph Assembly) → r ≡ Err why → failed why ≢ failed NoMemory → r ≢ Err NoMemory
fault_sure why r is sure = λ none. let same : why ≡ NoMemory = cc (is, none) in sure (ap failed same)

pub assemble_window-requires-clause-streams : goal.assemble_window-requires-clause-streams
assemble_window-requires-clause-streams c =
    let at = window_at c.args.book.now c.args.first c.args.last c.in_ok-periods.periods.items c.in_ok-window.window c.requires c.in_ok-periods.ensures.value c.in_ok-periods.ensures.few
    c.in_ok-window.ensures.value c.in_ok-window.ensures.form c.in_ok-window.ensures.names c.in_ok-window.ensures.there in
    rw c.deref.ensures.value at.named.streams

pub returns-in-Ok-clause-answer : goal.returns-in-Ok-clause-answer
returns-in-Ok-clause-answer c = λ _ one other first_is last_is.
    let rows = c.args.book.now in
    let window = c.in_ok-window.window in
    let result = c.assemble_window.result in
    let answer = c.assemble_window.ensures.answer (ok_sure c.in-Ok.graph result c.in-Ok.is) in
    let answer_now = subst (λ (l : List ℕ). result ≡ window_assembly rows (periods_at rows l) window) c.deref.ensures.value answer in
    let graph_is = sym c.in-Ok.is
    ∙ between_is rows c.args.first c.args.last one other c.in_ok-periods.periods.items window result first_is last_is c.in_ok-periods.ensures.value c.in_ok-window.ensures.value answer_now in
    let names_are = c.in_ok-names.ensures ∙ ap window_names (c.in_ok-window.ensures.value one other first_is last_is) in
    ap (made c.in-Ok.graph) names_are ∙ ap (with_names (window_names (window_between rows one other))) graph_is

pub returns-in-Ok-clause-named : goal.returns-in-Ok-clause-named
returns-in-Ok-clause-named c =
    let rows = c.args.book.now in
    let answer = c.assemble_window.ensures.answer (ok_sure c.in-Ok.graph c.assemble_window.result c.in-Ok.is) in
    rw c.in_ok-names.ensures
    (window_names_are rows (periods_at rows c.deref.result.now) c.in_ok-window.window c.in-Ok.graph c.in_ok-window.ensures.names (sym c.in-Ok.is ∙ answer))

pub returns-clause-answer : goal.returns-clause-answer
returns-clause-answer c = λ sure one other first_is last_is.
    let rows = c.args.book.now in
    let window = c.in_ok-window.window in
    let result = c.assemble_window.result in
    let answer = c.assemble_window.ensures.answer (fault_sure c.in-Err.why result c.in-Err.is sure) in
    let answer_now = subst (λ (l : List ℕ). result ≡ window_assembly rows (periods_at rows l) window) c.deref.ensures.value answer in
    let fault_is = sym c.in-Err.is
    ∙ between_is rows c.args.first c.args.last one other c.in_ok-periods.periods.items window result first_is last_is c.in_ok-periods.ensures.value c.in_ok-window.ensures.value answer_now in
    ap (with_names (window_names (window_between rows one other))) fault_is
