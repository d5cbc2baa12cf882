use Rattle.std.proofs.Common.{[], ap, ◌∙◌}
use Rattle.std.specs.Option.{option_map_or}
use Rattle.source_programs.specs.Programs.{text_at}
use Rattle.source_programs.proofs.Numbered.{text_of_version}
use Rattle.source_programs.proofs.programs.Programs.number_of.Goals as goal

pub returns-else-version-eq0 : goal.returns-else-version-eq0
returns-else-version-eq0 c =
    let p = c.args.self.now in
    ap (λ o. option_map_or (text_at p) o []) c.get.ensures ∙ text_of_version (text_at p) p.installed c.args.version c.if-version-eq0.false
