use Rattle.std.proofs.Common.{◌≡◌, ◌≤◌, [], map, length, string_bytes, ap, sym, subst, ◌∙◌}
use Rattle.name_sets.specs.Limit.{most_names}
use Rattle.name_sets.specs.NameLists.{name_set}
use Rattle.name_sets.specs.Texts.{IsTable}
use Rattle.c_tree.specs.Bare.{bare_def}
use Rattle.c_tree.specs.declared.def.Program.{Program}
use Rattle.c_types.specs.Definitions.{Types}
use Rattle.c_semantics.specs.Texts.{names}
use Rattle.c_semantics.specs.SourceTexts.{text_of}
use Rattle.patch_build.specs.Tables.{with_texts}
use Rattle.installed_versions.proofs.Firsts.{few_first, table_of_first}
use Rattle.installed_versions.proofs.installed.names_of.Goals as goal

pub add_all-requires : goal.add_all-requires
add_all-requires c =
    let definitions = c.as_slice.ensures ∙ ap (λ (p : Program). p.definitions) c.program.ensures.tree in
    let sorted = c.in_ok-sorted.ensures ∙ ap (λ ds. name_set (names (map bare_def ds))) definitions in
    let types = subst Types c.program.ensures.tree c.program.ensures.typed in
    let all : with_texts c.new-names.result (map string_bytes c.as_slice-2.result.now)
    ≡ with_texts [] (name_set (names (map bare_def c.args.text.now.definitions))) =
    ap (λ texts. with_texts c.new-names.result (map string_bytes texts)) c.as_slice-2.ensures.value
    ∙ ap (with_texts c.new-names.result) sorted
    ∙ ap (λ old. with_texts old (name_set (names (map bare_def c.args.text.now.definitions)))) c.new-names.ensures
    in
    subst (λ table. length table ≤ most_names) (sym all) (few_first c.args.text.now types)

pub returns : goal.returns
returns c =
    let definitions = c.as_slice.ensures ∙ ap (λ (p : Program). p.definitions) c.program.ensures.tree in
    let sorted = c.in_ok-sorted.ensures ∙ ap (λ ds. name_set (names (map bare_def ds))) definitions in
    table_of_first (text_of c.args.text.now) c.add_all.new.names
    (c.in_ok-add_all.ensures
    ∙ ap (λ texts. with_texts c.new-names.result (map string_bytes texts)) c.as_slice-2.ensures.value
    ∙ ap (with_texts c.new-names.result) sorted
    ∙ ap (λ old. with_texts old (name_set (names (map bare_def c.args.text.now.definitions)))) c.new-names.ensures)
    (subst IsTable c.names.view_is c.names.invariant)
