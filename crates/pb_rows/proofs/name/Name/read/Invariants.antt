use Rattle.std.proofs.Common.{◌≡◌, take, true}
use Rattle.std.specs.List.{list_all}
use Rattle.pb_rows.specs.Name.{is_name_byte}
use Rattle.pb_rows.proofs.NameLemmas.{IsCopied}
use Rattle.pb_rows.proofs.name.Name.read.Given as goal

abbrev pub invariant-loop-i : goal.invariant-loop-i
invariant-loop-i l = record {
  copied : IsCopied 32 l.i l.bytes l.field;
  form : list_all is_name_byte (take l.i l.field) ≡ true;
}
