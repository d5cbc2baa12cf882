use Rattle.std.proofs.Common.{◌≡◌, ◌+◌, ◌<◌, List, [], ◌∷◌, ◌++◌, map, length, take, ap, sym, ◌∙◌, subst, arith, string_bytes}
use Rattle.std.proofs.lemmas.List.{map_more}
use Rattle.c_tree.specs.Bare.{bare_def}
use Rattle.c_tree.specs.BareExpr.{Bytes}
use Rattle.type_transformers.specs.Made.{AreChanges}
use Rattle.type_transformers.proofs.texts.changes_among.Goals as goal

pub loop-name-preserved : goal.loop-name-preserved
loop-name-preserved c =
    let names = c.args.names.now in
    let i = c.loop-name.name-index in
    let within : i < length names = omega arith in
    let list : map string_bytes (take (i + 1) names) ≡ map string_bytes (take i names) ++ c.as_str.result.now ∷ [] =
    map_more string_bytes names i c.name-item.result within
    ∙ ap (λ x. map string_bytes (take i names) ++ string_bytes x ∷ []) (sym c.name-item.is)
    ∙ ap (λ x. map string_bytes (take i names) ++ x ∷ []) (sym c.as_str.ensures.value)
    in
    subst {A = List Bytes} (λ zs. AreChanges (map bare_def c.args.old.now) (map bare_def c.args.new.now) zs c.add_change.new.changes.items) (sym list)
    (c.in_ok-add_change.ensures (map string_bytes (take i names)) c.loop-name.invariant)
