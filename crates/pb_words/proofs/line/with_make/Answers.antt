use Rattle.std.proofs.Common.{rules, ◌∙◌, ap, ap₂}
use Rattle.std.proofs.lemmas.Result.{IfOk-weaker}
use Rattle.clap.specs.Simple.{app_of, with_rule}
use Rattle.pb_words.proofs.line.with_make.Goals as goal

-- each argument joins the command
pub returns : goal.returns
returns c =
    let first = c.in_ok-with_number.ensures.shape (search rules) ∙ ap (with_rule (app_of c.args.command)) c.option.ensures.rule in
    let second = c.in_ok-with_streams.ensures.shape (search rules) ∙ ap₂ with_rule first c.option-2.ensures.rule in
    IfOk-weaker c.arg-3.result _ _ (λ r h. h.shape (search rules) ∙ ap₂ with_rule second c.flag.ensures.rule) c.arg-3.ensures
