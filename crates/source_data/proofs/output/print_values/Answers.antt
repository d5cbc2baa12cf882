use Rattle.std.proofs.Common.{◌≡◌, ◌-◌, ◌∷◌, ◌++◌, length, map, take, drop, sym, ap, ◌∙◌, arith}
use Rattle.std.proofs.lemmas.List.{take_rest}
use Rattle.c_semantics.specs.Values.{int_of}
use Rattle.source_model.specs.Moves.{arguments_of}
use Rattle.source_model.specs.Printing.{printed}
use Rattle.resolved_tree.specs.Nodes.{word}
use Rattle.source_data.specs.Stores.{with_store}
use Rattle.resolved_tree.specs.Trees.{table}
use Rattle.local_evaluation.specs.Values.{seen}
use Rattle.local_evaluation.specs.Work.{newest}
use Rattle.source_data.proofs.Newest.{take_last, drop_last}
use Rattle.source_data.proofs.Printing.{prints}
use Rattle.source_data.proofs.output.print_values.Goals as goal

pub returns-clause-made : goal.returns-clause-made
returns-clause-made c = λ text slot.
    let t = table c.args.trees.now in
    let format = word t c.args.format in
    let old = c.args.store.now in
    let values = c.args.values.now.items in
    let n = c.args.count in
    let at = c.saturating_sub-at.result in
    let is : at ≡ length values - n = omega (arith, c.saturating_sub-at.ensures, c.len.ensures, c.args.values.now.ok.0) in
    let arguments : map seen (take (length c.as_slice.result.now - at) (drop at c.as_slice.result.now)) ≡ arguments_of n (newest values) =
    ap (map seen) (take_rest c.as_slice.result.now at ∙ ap (drop at) c.as_slice.ensures.value ∙ ap (λ k. drop k values) is)
    ∙ sym (take_last seen values n)
    in
    prints t text slot old (record old { output = c.print.new.output }) format n values c.done.new.values.items
    (λ w. ap (λ bytes. record (with_store t old w) { output = bytes })
    (c.in_ok-print.ensures
    ∙ ap (λ f. old.output.items ++ printed f (map seen (take (length c.as_slice.result.now - at) (drop at c.as_slice.result.now)))) c.text.ensures
    ∙ ap (λ l. old.output.items ++ printed format l) arguments))
    (c.in_ok-done.ensures
    ∙ ap (λ l. int_of 0 ∷ newest l) (c.truncate.ensures.items ∙ ap (λ k. take k values) is)
    ∙ ap (λ l. int_of 0 ∷ l) (sym (drop_last seen values n)))
