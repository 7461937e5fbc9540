use Rattle.std.proofs.Common.{◌≡◌, drop, map}
use Rattle.serde_json.specs.Data.{no_members}
use Rattle.serde_json.specs.View.{members_view}
use Rattle.pb_form.specs.Json.{members_after}
use Rattle.pb_form.specs.Seen.{column_seen}
use Rattle.pb_form.proofs.json.object_of.Given as goal

-- the members so far, with the fields that are left, make up all members
abbrev pub invariant-loop-i : goal.invariant-loop-i
invariant-loop-i l = members_after (members_view l.members.entries) (map column_seen (drop l.i l.columns)) (drop l.i l.row) ≡ members_after no_members (map column_seen l.columns) l.row
