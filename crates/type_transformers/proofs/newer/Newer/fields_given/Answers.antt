use Rattle.std.proofs.Common.{map, [], ap, sym, ◌∙◌, option_copied}
use Rattle.std.specs.Option.{option_map_or}
use Rattle.c_tree.specs.Bare.{bare_field_value}
use Rattle.type_transformers.specs.Newer.{values_in}
use Rattle.type_transformers.proofs.Transforming.{fields_given}
use Rattle.type_transformers.proofs.newer.Newer.fields_given.Goals as goal

pub returns-in-Some : goal.returns-in-Some
returns-in-Some c =
    ap (map bare_field_value) c.values_in.ensures
    ∙ ap (λ o. map bare_field_value (option_map_or (λ d. values_in d.kind) o [])) (sym (ap option_copied c.in-Some.is) ∙ c.transformer.ensures)
    ∙ sym (fields_given c.args.self.now c.args.tag.now)

pub returns-in-None : goal.returns-in-None
returns-in-None c =
    ap (λ o. map bare_field_value (option_map_or (λ d. values_in d.kind) o [])) (sym (ap option_copied c.in-None.is) ∙ c.transformer.ensures)
    ∙ sym (fields_given c.args.self.now c.args.tag.now)
