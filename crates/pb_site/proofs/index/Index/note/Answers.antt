use Rattle.std.proofs.Common.{◌∙◌, ◌++◌, ◌∷◌, [], ℕ, List, Some, FitsSigned, refl, sym, ap, rules}
use Rattle.std.specs.Prelude.{if◌then◌else◌}
use Rattle.std.specs.HashMap.{get}
use mir.Syntax.{w128}
use Rattle.std.proofs.lemmas.Int.{to_z-of_z}
use Rattle.std.proofs.lemmas.List.{append-nil}
use Rattle.pb_rows.specs.Name.{same_name}
use Rattle.pb_strap.specs.declared.strap.Point.{Point}
use Rattle.pb_site.specs.declared.declared.Arc.{Arc}
use Rattle.pb_site.specs.declared.declared.ArcKind.{ArcKind}
use Rattle.pb_site.proofs.LookUpLemmas.{last_node}
use Rattle.pb_site.proofs.index.Index.note.Goals as goal

pub returns-in-Tank-clause-ok : goal.returns-in-Tank-clause-ok
returns-in-Tank-clause-ok c =
    let fits : FitsSigned w128 c.in-Tank.base = search rules in
    let new = rw c.in-Tank.is at c.requires.new in
    let from = last_node c.args.self.now.boundaries.keys c.args.self.now.nodes.keys c.put_name-in-Tank.new.names.keys c.in-Tank.name c.put_name-in-Tank.ensures new.0 in
    let arc = simp to_z-of_z at c.inventory.ensures in
    let inventory : ℕ → Arc = λ n. record { name = c.in-Tank.name; from = n; to = 0; kind = ArcKind.Tank; base = c.in-Tank.base; service = c.in-Tank.service } in
    rw c.in-Tank.is
    (record {
      version = refl;
      boundaries = sym (append-nil c.args.self.now.boundaries.keys);
      nodes = c.put_name-in-Tank.ensures;
      arc_names = c.put_name-in-Tank-2.ensures;
      arcs = c.push_reserved.ensures.items ∙ ap (λ (a : Arc). c.args.self.now.arcs.items ++ a ∷ []) (arc ∙ ap inventory from);
      straps = λ q. c.put.ensures q ∙ ap (λ (points : List Point). if same_name c.in-Tank.name q then Some points else get same_name c.args.self.now.straps q) c.new.ensures;
      global = λ dof. refl;
      nodal = refl;
      measure = refl;
    })
