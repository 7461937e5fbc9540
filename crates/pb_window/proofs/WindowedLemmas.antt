-- A window of a book: the places of its periods, and the names of its graph.
use Rattle.std.specs.Prelude.{filter_map, map}
use Rattle.std.specs.List.{cons_option}
use Rattle.std.proofs.Common.{◌≡◌, ◌∙◌, ◌<◌, ◌≤◌, ℕ, List, [], ◌∷◌, length, slice_get, All, Option, Some, IfOk, Result, Ok, Err, refl, sym, ap, ap₂, subst, arith}
use Rattle.std.proofs.lemmas.List.Elements.{All-cons, All-nil}
use Rattle.std.proofs.lemmas.Option.{slice_get_within}
use Rattle.pb_limits.specs.Limits.{most_periods_of_window}
use Rattle.pb_graph.specs.ProcessGraph.{ProcessGraph}
use Rattle.pb_plan.specs.declared.names.WindowPlace.{WindowPlace}
use Rattle.pb_plan.specs.declared.window.Window.{Window}
use Rattle.pb_plan.specs.Codes.{AreWindowNames}
use Rattle.pb_plan.specs.Places.{HaveNames, window_places}
use Rattle.pb_plan.specs.Window.{IsWindow}
use Rattle.pb_site.specs.Site.{names_of}
use Rattle.pb_periods.specs.declared.period.Period.{Period}
use Rattle.pb_kinds.specs.declared.rows.StoredRow.{StoredRow}
use Rattle.pb_book.specs.Rows.{declared_of, periods_of}
use Rattle.pb_book.specs.Windows.{ArePlacesBetween, HavePlaceNames, IsWindowAsked, IsWindowBetween, OfEnds}
use Rattle.pb_periods.specs.Windows.{names_of_periods, periods_between}
use Rattle.pb_period.specs.declared.graph.Assembly.{Assembly}
use Rattle.pb_period.specs.WindowGraph.{periods_at, window_assembly}
use Rattle.pb_window.specs.Between.{assembly_between, places_between}
use Rattle.pb_window.specs.Windowed.{IsWindowAt}

-- ---- the periods at some places

record ArePlacesOf {A : Type 0} (xs : List A) (places : List ℕ) (items : List A) : Type 0 where
  items_are : filter_map (slice_get xs) places ≡ items
  there : All (λ (i : ℕ). i < length xs) places
  many : length places ≡ length items

-- items that are found at some places, one at each
places_found : {A : Type 0} (xs : List A) (places : List ℕ) (items : List A) → map (slice_get xs) places ≡ map (λ (x : A). Some x) items → ArePlacesOf xs places items
places_found xs [] [] is = record { items_are = refl; there = All-nil (λ (i : ℕ). i < length xs); many = refl }
places_found xs [] (x ∷ items) is = cc is
places_found xs (i ∷ places) [] is = cc is
places_found {A = A} xs (i ∷ places) (x ∷ items) is =
    let at : slice_get xs i ≡ Some x = cc is in
    let left : map (slice_get xs) places ≡ map (λ (y : A). Some y) items = cc is in
    let rest = places_found xs places items left in
    record {
      items_are = ap (λ (o : Option A). cons_option o (filter_map (slice_get xs) places)) at ∙ ap (λ (ys : List A). x ∷ ys) rest.items_are;
      there = All-cons (λ (k : ℕ). k < length xs) i places (slice_get_within xs i x at) rest.there;
      many = omega (arith, rest.many);
    }

-- what the book says about a window that is asked for
pub window_at : (rows : List StoredRow) (first last : ℕ) (places : List ℕ) (window : Window) → IsWindowAsked rows first last → ArePlacesBetween rows first last places
    → length places ≤ most_periods_of_window → IsWindowBetween rows first last window → IsWindow window → AreWindowNames window → HavePlaceNames rows first last window
    → IsWindowAt rows first last places window
window_at rows first last places window asked between few is form codes named =
    let periods = periods_between (periods_of rows) asked.one asked.other in
    let found = places_found (periods_of rows) places periods (between asked.one asked.other asked.first_is asked.last_is) in
    record {
      one = asked.one;
      first_is = asked.first_is;
      other = asked.other;
      last_is = asked.last_is;
      periods = found.items_are;
      there = found.there;
      many = found.many;
      few = few;
      window_is = is asked.one asked.other asked.first_is asked.last_is;
      form = form;
      codes = codes;
      named = subst (λ (ps : List Period). HaveNames (names_of (declared_of rows)) (names_of_periods ps) window) (sym found.items_are)
          (named asked.one asked.other asked.first_is asked.last_is);
    }

pub same_found : {A : Type 0} (a b : A) (found : Option A) → found ≡ Some a → found ≡ Some b → a ≡ b
same_found a b found one other = cc (one, other)

-- ---- the graph

-- what is assembled of the window between two periods
pub between_is : (rows : List StoredRow) (first last : ℕ) (one other : Period) (places : List ℕ) (window : Window) (r : Result ProcessGraph Assembly)
    → slice_get (periods_of rows) first ≡ Some one → slice_get (periods_of rows) last ≡ Some other → ArePlacesBetween rows first last places → IsWindowBetween rows first last window
    → r ≡ window_assembly rows (periods_at rows places) window → r ≡ assembly_between rows one other
between_is rows first last one other places window r first_is last_is between is answer =
    let found = places_found (periods_of rows) places (periods_between (periods_of rows) one other) (between one other first_is last_is) in
    answer ∙ ap₂ (window_assembly rows) found.items_are (is one other first_is last_is)

-- ---- what is known of both ends

-- what holds for one pair of periods at two places holds for each
pub of_ends : (rows : List StoredRow) (first last : ℕ) (a b : Period) (P : Period → Period → Type 0) → slice_get (periods_of rows) first ≡ Some a → slice_get (periods_of rows) last ≡ Some b → P a b
    → OfEnds rows first last P
of_ends rows first last a b P a_is b_is holds = λ one other first_is last_is.
    subst (λ (x : Period). P x other) (same_found a one (slice_get (periods_of rows) first) a_is first_is)
    (subst (λ (y : Period). P a y) (same_found b other (slice_get (periods_of rows) last) b_is last_is) holds)

-- what follows from what holds of an answer holds of it
pub ok_so : {T E : Type 0} (r : Result T E) (P Q : T → Type 0) → IfOk r P → ((x : T) → P x → Q x) → IfOk r Q
ok_so (Ok x) P Q holds so = so x holds
ok_so (Err e) P Q holds so = tt

-- what the names of a window stand for
pub places_are : (rows : List StoredRow) (first last : ℕ) (places : List ℕ) (window : Window) (stand_for : List WindowPlace) → IsWindowAt rows first last places window
    → stand_for ≡ window_places (names_of (declared_of rows)) (names_of_periods (periods_at rows places)) window
    → OfEnds rows first last (λ (one other : Period). stand_for ≡ places_between rows one other)
places_are rows first last places window stand_for at is =
    of_ends rows first last at.one at.other (λ (one other : Period). stand_for ≡ places_between rows one other) at.first_is at.last_is
    (is ∙ ap₂ (λ (ps : List Period) (w : Window). window_places (names_of (declared_of rows)) (names_of_periods ps) w) at.periods at.window_is)
