use Rattle.std.proofs.Common.{◌≡◌, ◌∙◌, ℕ, List, false, ap, subst}
use Rattle.std.specs.Prelude.{not}
use Rattle.std.specs.List.{list_any}
use Rattle.csv.specs.Writing.{default_writer, needs_quotes}
use Rattle.pb_rows.proofs.JoinLemmas.{plain_fields, plain_found}
use Rattle.pb_rows.proofs.row.Row.is_plain.Goals as goal

pub returns-then-is_none : goal.returns-then-is_none
returns-then-is_none c = λ rest.
    let record_of = c.as_record.result.now in
    let three = rw c.as_slice-bytes.ensures at c.memchr3.ensures in
    let one = rw c.as_slice-bytes.ensures at c.memchr.ensures in
    let none = plain_found record_of.bytes c.memchr3.result c.memchr.result (c.is_none.ensures ∙ ap not c.if-is_none.true) (c.is_none-then-is_none.ensures ∙ ap not rest) three one in
    subst (λ (fields : List (List ℕ)). list_any (needs_quotes default_writer) fields ≡ false) c.as_record.ensures
    (plain_fields 0 record_of.ends record_of.bytes none)
