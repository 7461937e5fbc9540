use Rattle.std.proofs.Common.{subst}
use Rattle.pb_book.specs.Accepted.{AreAccepted}
use Rattle.pb_book.proofs.book.Book.site.Goals as goal

pub returns-clause-accepted : goal.returns-clause-accepted
returns-clause-accepted c = subst AreAccepted c.self.view_is c.self.invariant.accepted
