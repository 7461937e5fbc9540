use Rattle.std.specs.Prelude.{not, if◌then◌else◌}
use Rattle.std.proofs.Common.{◌≡◌, ◌∙◌, ◌∷◌, ◌++◌, ◌+◌, [], Bool, true, false, List, ℕ, drop, ap, refl, sym}
use Rattle.pb_book.proofs.CostLemmas.{is_seen, none_seen, one_is_new, one_repeats, repeats}
use Rattle.pb_book.proofs.costs.some_twice.Goals as goal

not_new : (b : Bool) → not b ≡ false → b ≡ true
not_new true is = refl
not_new false is = cc is

is_new : (b : Bool) → not b ≡ true → b ≡ false
is_new true is = cc is
is_new false is = refl

pub loop-i-init : goal.loop-i-init
loop-i-init c = ap (λ (names : List (List ℕ)). repeats names c.args.named.now) c.new-streams.ensures.empty ∙ none_seen c.args.named.now

pub returns-then-not-branch : goal.returns-then-not-branch
returns-then-not-branch c =
    let seen : is_seen c.loop-i.streams.keys c.at.result ≡ true = not_new _ (sym c.in_ok-insert.ensures.added ∙ c.if-not-branch.true) in
    one_repeats c.loop-i.streams.keys c.args.named.now c.loop-i.i c.at.result c.at.ensures.value c.loop-i.invariant seen

pub loop-i-preserved : goal.loop-i-preserved
loop-i-preserved c =
    let names = c.loop-i.streams.keys in
    let new : is_seen names c.at.result ≡ false = is_new _ (sym c.in_ok-insert.ensures.added ∙ c.if-not-branch.false) in
    let keys : c.insert.new.self.keys ≡ names ++ c.at.result.stream ∷ [] = c.in_ok-insert.ensures.keys ∙ ap (λ (b : Bool). if b then names else names ++ c.at.result.stream ∷ []) new in
    ap (λ (ns : List (List ℕ)). repeats ns (drop (c.loop-i.i + 1) c.args.named.now)) keys
    ∙ one_is_new names c.args.named.now c.loop-i.i c.at.result c.at.ensures.value c.loop-i.invariant new
