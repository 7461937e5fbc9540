use Rattle.std.proofs.Common.{◌≡◌, ◌++◌, map, drop, All, IsUtf8}
use Rattle.pb_form.specs.Given.{values_as}
use Rattle.pb_form.specs.Seen.{column_seen}
use Rattle.pb_form.specs.Texts.{texts_of}
use Rattle.pb_form.proofs.texts.write_texts.Given as goal

-- the texts so far, with the texts of the values that are left, are the texts of all values
abbrev pub invariant-loop-i : goal.invariant-loop-i
invariant-loop-i l = record {
  texts : All IsUtf8 l.row;
  rest : l.row ++ texts_of (map column_seen (drop l.i l.columns)) (values_as (map column_seen (drop l.i l.columns)) (drop l.i l.values))
      ≡ texts_of (map column_seen l.columns) (values_as (map column_seen l.columns) l.values);
}
