use Rattle.std.proofs.Common.{map, string_bytes, subst, sym, ◌∙◌, ap, arith, length}
use Rattle.std.proofs.lemmas.List.{length-map}
use Rattle.c_tree.specs.Bare.{bare_def}
use Rattle.c_semantics.specs.Texts.{names}
use Rattle.sorted_names.proofs.Order.{set_ascends}
use Rattle.effects_report.specs.Tables.{Ascend}
use Rattle.effects_report.proofs.OrderedTable.{ordered}
use Rattle.effects_report.proofs.table.names_of.Goals as goal

pub table_of-requires-clause-ascend : goal.table_of-requires-clause-ascend
table_of-requires-clause-ascend c =
    subst Ascend (sym (ap (map string_bytes) c.as_slice.ensures.value ∙ c.in_ok-texts.ensures)) (set_ascends (names (map bare_def c.args.definitions.now)))

pub table_of-requires-clause-few : goal.table_of-requires-clause-few
table_of-requires-clause-few c =
    let texts = c.as_slice.result.now in
    let same = ap length (ap (map string_bytes) c.as_slice.ensures.value ∙ c.in_ok-texts.ensures) in
    let long = length-map texts string_bytes in
    omega (arith, c.requires, same, long)

pub returns-clause-ordered : goal.returns-clause-ordered
returns-clause-ordered c =
    let texts = c.as_slice.result.now in
    let ascend : Ascend (map string_bytes texts) =
    subst Ascend (sym (ap (map string_bytes) c.as_slice.ensures.value ∙ c.in_ok-texts.ensures)) (set_ascends (names (map bare_def c.args.definitions.now))) in
    ordered c.in_ok-names.names (map string_bytes texts) c.len-many.ensures.table c.in_ok-names.ensures ascend

pub returns-clause-all : goal.returns-clause-all
returns-clause-all c = c.in_ok-names.ensures ∙ ap (map string_bytes) c.as_slice.ensures.value ∙ c.in_ok-texts.ensures
