use Rattle.std.specs.Prelude.{IfOk, [], codes}
use Rattle.std.proofs.Common.{◌≡◌, ◌∙◌, subst}
use Rattle.c_types.specs.Definitions.{all_faults, main_faults, names_of}
use Rattle.c_expr_types.specs.Faults.{first}
use Rattle.c_definitions.specs.Lookup.{definition_of}
use Rattle.c_types.specs.Statements.{hiding}
use Rattle.c_types.proofs.program.examine.Goals as goal

pub returns-clause-fault : goal.returns-clause-fault
returns-clause-fault c =
    let end = c.args.program.now.end in
    subst (λ text. IfOk c.examine_text.result (λ found. found.fault ≡ first (hiding (all_faults text [] text) (main_faults end (definition_of text (codes "main"))))))
    (c.in_ok-known.ensures ∙ c.as_slice.ensures)
    c.examine_text.ensures.fault

pub returns-clause-names : goal.returns-clause-names
returns-clause-names c =
    subst (λ text. IfOk c.examine_text.result (λ found. found.names ≡ names_of text)) (c.in_ok-known.ensures ∙ c.as_slice.ensures) c.examine_text.ensures.names
