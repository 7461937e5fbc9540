-- Statement. The columns of a kind of rows.
--
-- A kind of rows is described once, as a schema: a list of columns with their keys, the first of which takes the kind's word. Columns
-- of one word identify the kind (Telling): two kinds with the same word differ in a further word or in the number of their fields. A
-- record is read by a schema to one value for each column, or to its first fault in one order (Reading). A record writes values if it
-- reads as them (Writing), and no two records write the same values (Laws). If the values fit, the record consists of their texts
-- (Texts, TextLaws). Rows of pairs or more have a tail, whose columns are repeated. Columns that may be missing at the end of a row
-- make a second schema. The kinds are in two tables, SessionRows and OutputRows; what a row means beyond its form isn't said here.
use Prim.Native.String.{String}
use Rattle.std.specs.Prelude.{ℕ, Bool, true, false, List, [], ◌∷◌, codes}
use Rattle.pb_form.specs.Holds.{Holds, Word}

-- a column: its key, and what it takes; an optional column also takes an empty field
pub record Column : Type 0 where
  pub key : List ℕ
  pub holds : Holds
  pub optional : Bool

-- the columns of a kind of rows, the first of which holds the kind's word, and the columns that are repeated after them
pub record Schema : Type 0 where
  pub columns : List Column
  pub tail : List Column

-- a column that takes no empty field, and one that does
abbrev pub column : String → Holds → Column
column key holds = record { key = codes key; holds = holds; optional = false }

abbrev pub optional : String → Holds → Column
optional key holds = record { key = codes key; holds = holds; optional = true }

-- a column that identifies the kind of its row: it takes one word
abbrev pub word_column : String → String → Column
word_column key word = column key (Word (codes word ∷ []))

-- the columns of a kind of rows with this word, and with these columns after the one of the word
abbrev pub row : String → List Column → List Column
row word columns = word_column "row" word ∷ columns
