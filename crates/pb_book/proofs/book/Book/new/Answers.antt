use Rattle.std.proofs.Common.{refl, arith}
use Rattle.pb_book.proofs.AcceptedLemmas.{none_accepted}
use Rattle.pb_book.proofs.book.Book.new.Goals as goal

pub invariant_of-result : goal.invariant_of-result
invariant_of-result c =
    rw (c.new.ensures.items, c.new-2.ensures.items, c.new-3.ensures.items, c.new-4.ensures, c.new-5.ensures, c.new-7.ensures, c.new-8.ensures)
    (record {
      placed = λ i d lt. absurd (omega (arith, lt));
      parts = record { site = refl; facts = refl; spans = refl; assayed = refl };
      accepted = none_accepted;
      told = λ place past. rw c.new-6.ensures.empty refl;
      edited = λ i d lt. absurd (omega (arith, lt));
      edit_rows = refl;
    })
