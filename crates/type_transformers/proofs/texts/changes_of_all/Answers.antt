use Rattle.std.proofs.Common.{map, refl, ap, ◌∙◌, string_bytes}
use Rattle.name_sets.specs.NameLists.{name_set}
use Rattle.c_tree.specs.Bare.{bare_def}
use Rattle.c_semantics.specs.Texts.{names}
use Rattle.type_transformers.proofs.Outcomes.{if_ok}
use Rattle.type_transformers.proofs.Together.{all_named, all_made}
use Rattle.type_transformers.proofs.texts.changes_of_all.Goals as goal

pub returns-clause-names : goal.returns-clause-names
returns-clause-names c =
    if_ok c.changes_named.result
    (λ made are. all_named c.as_slice-definitions.result.now c.args.new.now.definitions c.args.old.now.definitions c.args.new.now.definitions
    (map string_bytes c.as_slice.result.now) made.items
    (c.as_slice-definitions.ensures ∙ ap (λ p. p.definitions) c.program.ensures.tree) refl
    (ap (map string_bytes) c.as_slice.ensures.value ∙ c.in_ok-names.ensures ∙ ap (λ ds. name_set (names (map bare_def ds))) (c.as_slice-definitions.ensures ∙ ap (λ p. p.definitions) c.program.ensures.tree))
    are)
    c.changes_named.ensures

pub returns-clause-changes : goal.returns-clause-changes
returns-clause-changes c =
    if_ok c.changes_named.result
    (λ made are. all_made c.as_slice-definitions.result.now c.args.new.now.definitions c.args.old.now.definitions c.args.new.now.definitions
    (map string_bytes c.as_slice.result.now) made.items
    (c.as_slice-definitions.ensures ∙ ap (λ p. p.definitions) c.program.ensures.tree) refl are)
    c.changes_named.ensures
