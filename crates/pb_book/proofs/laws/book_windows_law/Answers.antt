use Rattle.pb_book.proofs.WindowPlantLemmas.{book_windows}
use Rattle.pb_book.proofs.laws.book_windows_law.Goals as goal

pub returns : goal.returns
returns c = book_windows c.plant_law.ensures c.window_form_law.ensures c.window_names_law.ensures c.window_places_law.ensures
