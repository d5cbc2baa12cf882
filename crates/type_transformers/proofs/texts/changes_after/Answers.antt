use Rattle.std.proofs.Common.{map, refl, string_bytes}
use Rattle.type_transformers.proofs.Outcomes.{if_ok}
use Rattle.type_transformers.proofs.Together.{moved}
use Rattle.type_transformers.proofs.texts.changes_after.Goals as goal

pub returns : goal.returns
returns c =
    if_ok c.changes_among.result
    (λ made are. moved c.args.old.now c.in_ok-newer.newer c.args.old.now c.args.new.now.definitions (map string_bytes c.args.names.now) made.items
    refl c.in_ok-newer.ensures are)
    c.changes_among.ensures
