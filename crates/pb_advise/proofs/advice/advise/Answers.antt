use Rattle.std.proofs.Common.{Result, Ok, Err, IfOk}
use Rattle.pb_advise.proofs.AdviceLemmas.{cheapest_is}
use Rattle.pb_advise.proofs.FormLemmas.{form_is}
use Rattle.pb_advise.proofs.advice.advise.Goals as goal

if_ok : {T E : Type 0} (P Q : T → Type 0) (r : Result T E) → ((x : T) → P x → Q x) → IfOk r P → IfOk r Q
if_ok P Q (Ok x) f p = f x p
if_ok P Q (Err e) f p = tt

pub returns-clause-cheapest : goal.returns-clause-cheapest
returns-clause-cheapest c =
    if_ok _ _ c.meters_of.result (λ advice is. cheapest_is c.args.graph.now c.args.costs.now advice c.advised_choice.ensures.limits c.requires is) c.meters_of.ensures

pub returns-clause-within : goal.returns-clause-within
returns-clause-within c =
    if_ok _ _ c.meters_of.result (λ advice is. form_is c.args.graph.now c.args.costs.now advice c.advised_choice.ensures.limits c.requires is) c.meters_of.ensures
