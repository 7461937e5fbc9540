use Rattle.std.proofs.Common.{◌≡◌, ◌∙◌, ◌+◌, ◌*◌, ◌≤◌, ℤ, unsigned_abs, FitsSigned, List, [], ◌∷◌, None, get_or, take, ap, sym, subst, arith}
use mir.Syntax.{w128}
use Rattle.std.proofs.lemmas.Int.{ints}
use Rattle.std.proofs.lemmas.List.{take_more}
use Rattle.std.proofs.Math.Facts.{to_z-of_z}
use Rattle.pb_fixed.specs.Sums.{item}
use Rattle.pb_forest.specs.Flows.{most_given_flow}
use Rattle.pb_forest.specs.Balancing.{Chord, brought, gathered}
use Rattle.pb_forest.proofs.NetLemmas.{item_small}
use Rattle.pb_forest.proofs.ChordLemmas.{brought_small, gathered-append}
use Rattle.pb_forest.proofs.flows.gather.Goals as goal

-- one more chord is brought
pub loop-chord-preserved : goal.loop-chord-preserved
loop-chord-preserved c =
    let cs = c.args.chords.now in
    let off = c.args.off.now in
    let i = c.loop-chord.chord-index in
    let out = c.loop-chord.out in
    let first : Chord = record { stream = 0; from = None; to = None } in
    let chord : Chord = get_or cs i first in
    let x : ℤ = item off chord.stream in
    let small : unsigned_abs x ≤ most_given_flow = item_small off most_given_flow c.requires.given chord.stream in
    let fits : FitsSigned w128 x = omega (arith, ints, small) in
    let is : c.bring.new.out ≡ brought chord x out = simp to_z-of_z at c.bring.ensures in
    let more : gathered (take (i + 1) cs) off c.args.out.now ≡ brought chord x out =
    ap (λ (l : List Chord). gathered l off c.args.out.now) (take_more cs i first c.loop-chord-test.true) ∙ gathered-append (take i cs) (chord ∷ []) off c.args.out.now
    ∙ ap (brought chord x) (sym c.loop-chord.invariant.so_far) in
    record {
      each = c.bring.auto.out ∙ c.loop-chord.invariant.each;
      so_far = is ∙ sym more;
      small = λ k.
          let le = brought_small chord x out ((2 * i + 1) * most_given_flow) c.loop-chord.invariant.small small k in
          subst (λ (l : List ℤ). unsigned_abs (item l k) ≤ (2 * (i + 1) + 1) * most_given_flow) (sym is) (omega (arith, le));
    }
