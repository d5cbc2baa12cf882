use Rattle.std.proofs.Common.{◌∙◌, ap, take, if◌then◌else◌}
use Rattle.std.specs.List.{list_any}
use Rattle.c_definitions.specs.Index.{is_key, keys, new_key}
use Rattle.c_types.proofs.context.new_key.Goals as goal

pub returns-in-Some : goal.returns-in-Some
returns-in-Some c =
    let before = keys c.args.by (take c.args.index c.args.known.now) in
    c.one_unless.ensures
    ∙ ap (λ b. if b then 0 else 1) (c.is_found_before.ensures ∙ ap (λ n. list_any (is_key n) before) c.as_str.ensures)
    ∙ ap (λ o. new_key o before) c.in-Some.ensures
