use Rattle.std.proofs.Common.{ap, sym, ◌∙◌}
use Rattle.std.specs.Option.{is_some}
use Rattle.c_semantics.specs.Changes.{agree, same_interface}
use Rattle.c_semantics.specs.Texts.{definition}
use Rattle.version_laws.specs.Histories.{text_in}
use Rattle.source_programs.specs.Programs.{current_of, name_of, table_of, versions_of}
use Rattle.source_programs.proofs.Interfaces.{agrees_with_itself, some_copied}
use Rattle.source_programs.proofs.programs.Programs.is_right.Goals as goal

pub returns-then-version : goal.returns-then-version
returns-then-version c = record {
  right = λ h.
      let p = c.args.self.now in
      let name = name_of (table_of p) c.args.name in
      let found = c.find_in.ensures (c.in_force.ensures.ready h) in
      c.is_some.ensures ∙ some_copied c.find_in.result ∙ found.there
      ∙ ap (λ text. is_some (definition text name)) c.in_force.ensures.text
      ∙ agrees_with_itself (current_of p) name
      ∙ ap (λ v. agree same_interface (definition (text_in (versions_of p) v) name) (definition (current_of p) name))
      (sym (c.if-version.true ∙ c.version.ensures));
}
