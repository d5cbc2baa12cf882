use Rattle.std.proofs.Common.{◌∙◌, ap, not, take}
use Rattle.std.specs.List.{list_any}
use Rattle.c_expr_types.specs.declared.fault.TypeKind.TheVariants.{DeclaredTwice}
use Rattle.c_definitions.specs.declared.key.Key.TheVariants as by
use Rattle.c_expr_types.specs.Faults.{first, unless}
use Rattle.c_definitions.specs.Index.{is_key, keys}
use Rattle.c_types.proofs.Counts.{name_free}
use Rattle.c_types.proofs.context.Context.named_twice.Goals as goal

pub returns : goal.returns
returns c =
    let before = take c.args.self.now.index c.args.self.now.known.now in
    let name = c.args.name.now in
    c.unless.ensures
    ∙ ap (λ b. first (unless (not b) DeclaredTwice name.place))
    (c.is_found_before-is_taken.ensures ∙ ap (λ n. list_any (is_key n) (keys by.Name before)) c.as_str.ensures)
    ∙ ap (λ b. first (unless b DeclaredTwice name.place)) (name_free before name.text)
