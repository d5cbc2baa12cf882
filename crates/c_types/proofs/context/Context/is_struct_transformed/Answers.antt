use Rattle.std.proofs.Common.{◌∙◌, ap, take}
use Rattle.std.specs.List.{list_any}
use Rattle.c_definitions.specs.declared.key.Key.TheVariants as by
use Rattle.c_definitions.specs.Index.{is_key, keys}
use Rattle.c_types.proofs.Counts.{struct_transformed}
use Rattle.c_types.proofs.context.Context.is_struct_transformed.Goals as goal

pub returns : goal.returns
returns c =
    let before = take c.args.self.now.index c.args.self.now.known.now in
    c.is_found_before.ensures
    ∙ ap (λ n. list_any (is_key n) (keys by.StructTransformer before)) c.as_str.ensures
    ∙ struct_transformed before c.args.tag.now.text
