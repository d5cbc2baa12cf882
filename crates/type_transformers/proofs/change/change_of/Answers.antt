use Rattle.std.proofs.Common.{◌≡◌, Some, Bor, true, map, ap, sym, ◌∙◌, option_map}
use Rattle.c_tree.specs.Bare.{bare_def, bare_kind}
use Rattle.c_tree.specs.declared.def.Def.{Def}
use Rattle.c_semantics.specs.Texts.{definition}
use Rattle.type_transformers.specs.Made.{has_new_data}
use Rattle.type_transformers.proofs.Outcomes.{if_ok}
use Rattle.type_transformers.proofs.Changing.{change_made, no_change, not_before}
use Rattle.type_transformers.proofs.change.change_of.Goals as goal

pub returns-in_default : goal.returns-in_default
returns-in_default c =
    let p = map bare_def c.args.old.now in
    let q = map bare_def c.args.new.now in
    not_before p q c.args.name.now (sym c.definition.ensures ∙ ap (option_map (λ (d : Bor Def). bare_def d.now)) c.in_default.is)

pub returns-then-has_new_data : goal.returns-then-has_new_data
returns-then-has_new_data c =
    let p = map bare_def c.args.old.now in
    let q = map bare_def c.args.new.now in
    let name = c.args.name.now in
    let a = bare_kind c.in-Some.before.now.kind in
    let b = bare_kind c.in-Some-definition.after.now.kind in
    let was : definition p name ≡ Some a = sym c.definition.ensures ∙ ap (option_map (λ (d : Bor Def). bare_def d.now)) c.in-Some.is in
    let is : definition q name ≡ Some b =
    sym c.definition-2.ensures.found ∙ ap (option_map (λ (d : Bor Def). bare_def d.now)) c.in-Some-definition.is
    in
    let new : has_new_data a b ≡ true = sym c.has_new_data.ensures ∙ c.if-has_new_data.true in
    if_ok c.change_between.result (λ o made. change_made p q name a b o was is new made) c.change_between.ensures

pub returns-else-has_new_data : goal.returns-else-has_new_data
returns-else-has_new_data c =
    let p = map bare_def c.args.old.now in
    let q = map bare_def c.args.new.now in
    let name = c.args.name.now in
    let a = bare_kind c.in-Some.before.now.kind in
    let b = bare_kind c.in-Some-definition.after.now.kind in
    let was : definition p name ≡ Some a = sym c.definition.ensures ∙ ap (option_map (λ (d : Bor Def). bare_def d.now)) c.in-Some.is in
    let is : definition q name ≡ Some b =
    sym c.definition-2.ensures.found ∙ ap (option_map (λ (d : Bor Def). bare_def d.now)) c.in-Some-definition.is
    in
    no_change p q name a b was is (sym c.has_new_data.ensures ∙ c.if-has_new_data.false)
