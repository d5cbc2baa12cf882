use Rattle.std.proofs.Common.{◌≡◌, ◌<◌, false, length, Some, sym, ap, subst, ◌∙◌}
use Rattle.std.specs.Prelude.{IfSome}
use Rattle.std.specs.Option.{option_map_or}
use Rattle.name_sets.specs.NameLists.{is_among}
use Rattle.name_sets.specs.Texts.{text_of}
use Rattle.run_types.specs.Skeleton.{direct_use}
use Rattle.skeletons.specs.Meaning.{kind_of}
use Rattle.brought_bodies.proofs.NamesUsed.{held}
use Rattle.brought_bodies.proofs.uses.uses.Goals as goal

pub returns-in-Some : goal.returns-in-Some
returns-in-Some c = λ names list is known.
    let id = c.in-Some.name in
    let own : Some (text_of names id) ≡ direct_use (kind_of names c.args.kind) = c.in-Some.ensures.meaning names in
    let below : id < length names = subst (λ o. IfSome o (λ id. id < length names)) (sym c.in-Some.ensures.kind) known in
    held names list c.args.set.now id c.holds.result is below c.holds.ensures.answer
    ∙ ap (λ o. option_map_or (is_among list) o false) own
