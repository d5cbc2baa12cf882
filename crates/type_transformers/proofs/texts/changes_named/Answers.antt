use Rattle.std.proofs.Common.{map, refl, string_bytes}
use Rattle.type_transformers.proofs.Outcomes.{if_ok}
use Rattle.type_transformers.proofs.Together.{moved}
use Rattle.type_transformers.proofs.texts.changes_named.Goals as goal

pub returns : goal.returns
returns c =
    if_ok c.changes_after.result
    (λ made are. moved c.in_ok-known.known c.args.new.now.definitions c.args.old.now c.args.new.now.definitions (map string_bytes c.args.names.now) made.items
    c.in_ok-known.ensures refl are)
    c.changes_after.ensures
