use Rattle.std.proofs.Common.{Contains, subst, sym, ◌∙◌}
use Rattle.std.proofs.lemmas.List.Elements.{All-get_or}
use Rattle.patch_build.proofs.Ids.{ids_of_none, ids_of_more, ids_of_all}
use Rattle.patch_build.proofs.sets.ids_of.Goals as goal

pub loop-name-init : goal.loop-name-init
loop-name-init c = λ table all. ids_of_none c.args.names.now c.empty-ids.result c.empty-ids.ensures

pub loop-name-preserved : goal.loop-name-preserved
loop-name-preserved c = λ table all.
    let names = c.args.names.now in
    let list = c.args.list.now in
    let i = c.loop-name.name-index in
    let there = subst (Contains names) (sym (c.as_str.ensures ∙ c.name-item.is))
    (All-get_or (Contains names) list i c.name-item.result c.loop-name-test.true all) in
    ids_of_more names list i c.loop-name.ids c.add_name.new.ids c.name-item.result c.as_str.result.now c.loop-name-test.true
    c.name-item.is c.as_str.ensures (c.loop-name.invariant table all) (c.add_name.ensures table there)

pub returns : goal.returns
returns c = λ table all. record {
  members = ids_of_all c.args.names.now c.args.list.now c.loop-name.name-index c.loop-name.ids c.loop-name-test.false (c.loop-name.invariant table all);
  known = all;
}
