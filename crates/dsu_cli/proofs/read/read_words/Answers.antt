use Rattle.std.proofs.Common.{◌≡◌, ◌∙◌, ◌∷◌, sym, ap, refl, None, Some, rules}
use Rattle.dsu_cli.specs.Words.{command_of, items}
use Rattle.dsu_cli.proofs.Jobs.{job_found, job_missing, job_of_command}
use Rattle.dsu_cli.proofs.read.read_words.Goals as goal

pub returns-then-not-fit-clause-usage : goal.returns-then-not-fit-clause-usage
returns-then-not-fit-clause-usage c =
    let is : c.args.words.now ≡ c.in-Some.name.now ∷ c.in-Some.words.now = search rules in
    let named : command_of c.in-Some.name.now ≡ Some c.in-Some-of.command = ap command_of (sym c.as_str.ensures) ∙ sym c.of.ensures ∙ c.in-Some-of.is in
    let missing = job_missing c.in-Some-of.command (items None c.in-Some.words.now) (sym c.fit.ensures ∙ c.if-not-fit.true) in
    ((λ _. job_of_command c.args.words.now c.in-Some.words.now c.in-Some.name.now c.in-Some-of.command is named ∙ missing), (λ _. refl))

pub returns-in-Err-clause-usage : goal.returns-in-Err-clause-usage
returns-in-Err-clause-usage c =
    let is : c.args.words.now ≡ c.in-Some.name.now ∷ c.in-Some.words.now = search rules in
    let named : command_of c.in-Some.name.now ≡ Some c.in-Some-of.command = ap command_of (sym c.as_str.ensures) ∙ sym c.of.ensures ∙ c.in-Some-of.is in
    let found = job_found c.in-Some-of.command (items None c.in-Some.words.now) (sym c.fit.ensures ∙ c.if-not-fit.false) in (
      (λ e. cc),
      (λ none. absurd (found
          (sym (job_of_command c.args.words.now c.in-Some.words.now c.in-Some.name.now c.in-Some-of.command is named) ∙ none))),
    )
