use Rattle.pb_book.proofs.WindowPlantLemmas.{contains_at}
use Rattle.pb_book.proofs.book.Book.say_window.Goals as goal

pub judge_window-requires-clause-first : goal.judge_window-requires-clause-first
judge_window-requires-clause-first c = contains_at c.self.inside.periods c.args.first c.at-one.result c.at-one.ensures.value

pub judge_window-requires-clause-last : goal.judge_window-requires-clause-last
judge_window-requires-clause-last c = contains_at c.self.inside.periods c.args.last c.at-other.result c.at-other.ensures.value
