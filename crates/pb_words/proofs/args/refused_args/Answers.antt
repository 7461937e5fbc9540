use Rattle.std.proofs.Common.{◌≡◌, refl, sym}
use Rattle.std.specs.declared.io.ErrorKind.{ErrorKind}
use Rattle.std.specs.declared.io.ErrorKind.TheVariants as kind
use Rattle.pb_words.specs.Args.{refused_by}
use Rattle.pb_words.specs.declared.command.WordsRefused.TheVariants.{Usage}
use Rattle.pb_words.proofs.args.refused_args.Goals as goal

-- no other kind means that memory ran out
others : (k : ErrorKind) → (k ≡ kind.OutOfMemory → ⊥) → refused_by k ≡ Usage
others kind.OutOfMemory not = absurd (not refl)
others _ not = refl

pub returns-in_default : goal.returns-in_default
returns-in_default c = sym (others c.args.kind c.in_default.not-OutOfMemory)
