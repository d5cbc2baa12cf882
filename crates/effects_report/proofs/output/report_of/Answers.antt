use Rattle.std.proofs.Common.{List, Contains, ◌≤◌, length, map, subst, sym, refl, ap, ◌∙◌}
use Rattle.name_sets.specs.Limit.{most_names}
use Rattle.name_sets.specs.NameLists.{name_set}
use Rattle.c_tree.specs.Bare.{bare_def}
use Rattle.c_tree.specs.declared.def.Def.{Def}
use Rattle.c_semantics.specs.SourceTexts.{text_of}
use Rattle.c_semantics.specs.Texts.{definition, names}
use Rattle.check_in_places.specs.CheckIns.{functions}
use Rattle.brought_bodies.proofs.FewNames.{few_names}
use Rattle.accepted_bodies.proofs.DefinedUses.{accepted_texts_are_known, in_name_set}
use Rattle.effects_report.proofs.Assembled.{report_is, report_ready}
use Rattle.effects_report.proofs.output.report_of.Goals as goal

pub returns-clause-blocks : goal.returns-clause-blocks
returns-clause-blocks c =
    let bodies = c.in_ok-bodies.bodies in
    report_is c.args.program.now c.in_ok-names.names bodies.flow bodies.sections.items c.in_ok-effects.effects
    c.in_ok-names.ensures.ordered c.in_ok-bodies.ensures c.in_ok-effects.ensures.effects

pub returns-clause-ready : goal.returns-clause-ready
returns-clause-ready c =
    let bodies = c.in_ok-bodies.bodies in
    report_ready c.in_ok-names.names (definition (text_of c.args.program.now).definitions) (functions c.args.program.now)
    bodies.sections.items 0 c.in_ok-bodies.ensures.sections

pub names_of-requires : goal.names_of-requires
names_of-requires c = subst {A = List Def} (λ ds. length (name_set (names (map bare_def ds))) ≤ most_names) (sym c.as_slice.ensures) (few_names c.args.program.now c.requires.types)

pub bodies_of-requires-clause-known : goal.bodies_of-requires-clause-known
bodies_of-requires-clause-known c =
    let text = text_of c.args.program.now in
    let all = names text.definitions in
    accepted_texts_are_known c.in_ok-names.names text (record { bytes = c.args.text.now; accepted = c.requires; is = refl })
    (λ name there. subst (λ table. Contains table name) (sym (c.in_ok-names.ensures.all ∙ ap (λ ds. name_set (names (map bare_def ds))) c.as_slice.ensures))
    (in_name_set all name there))
