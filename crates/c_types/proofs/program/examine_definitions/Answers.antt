use Rattle.std.proofs.Common.{◌≡◌, ◌+◌, ◌∙◌, min, refl, sym, ap, take, arith}
use Rattle.c_expr_types.specs.Faults.{sooner}
use Rattle.c_types.specs.Definitions.{names_of, cells_of, cells_in, name_added}
use Rattle.c_types.proofs.Counts.{taken_more, names_more, cells_more}
use Rattle.c_types.proofs.DefinitionsByIndex.{definition_at_index, definition_faults_step}
use Rattle.c_types.proofs.program.examine_definitions.Goals as goal

pub invariant_of-context : goal.invariant_of-context
invariant_of-context c =
    let text = c.args.known.now in
    let i = c.loop-index.index in
    let d = c.index-definitions-index.result in
    let at = definition_at_index c.definitions-definitions.result.now text i d c.definitions-definitions.ensures c.loop-index-test.true c.index-definitions-index.is in
    let next = taken_more text i d at in
    let names : c.loop-index.names ≡ names_of (take i text) = c.loop-index.invariant.names ∙ ap (λ ds. names_of (take i ds)) c.definitions-definitions.ensures in
    let cells : c.loop-index.cells ≡ min (cells_of (take i text)) 65537 = c.loop-index.invariant.cells ∙ ap (λ ds. min (cells_of (take i ds)) 65537) c.definitions-definitions.ensures in
    let all_names : names_of (take (i + 1) text) ≡ names_of (take i text) + name_added (take i text) d.kind = ap names_of next ∙ names_more (take i text) d in
    let all_cells : cells_of (take (i + 1) text) ≡ cells_of (take i text) + cells_in d.kind = ap cells_of next ∙ cells_more (take i text) d in
    record {
      at_index = at;
      names_counted = omega (arith, names, all_names, c.name_added.ensures.value);
      cells_counted = omega (arith, cells, all_cells, c.more_cells-cells.ensures);
    }

pub loop-index-preserved : goal.loop-index-preserved
loop-index-preserved c =
    let ds = c.definitions-definitions.result.now in
    let i = c.loop-index.index in
    let d = c.index-definitions-index.result in
    let at = definition_at_index ds ds i d refl c.loop-index-test.true c.index-definitions-index.is in
    let next = taken_more ds i d at in
    let all_names : names_of (take (i + 1) ds) ≡ names_of (take i ds) + name_added (take i ds) d.kind = ap names_of next ∙ names_more (take i ds) d in
    let all_cells : cells_of (take (i + 1) ds) ≡ cells_of (take i ds) + cells_in d.kind = ap cells_of next ∙ cells_more (take i ds) d in
    let added : c.name_added.result ≡ name_added (take i ds) d.kind = c.name_added.ensures.value ∙ ap (λ xs. name_added (take i xs) d.kind) (sym c.definitions-definitions.ensures) in
    record {
      few = omega (arith, c.loop-index.invariant.few, c.name_added.ensures.bound);
      names = omega (arith, c.loop-index.invariant.names, all_names, added);
      cells = omega (arith, c.loop-index.invariant.cells, all_cells, c.more_cells-cells.ensures);
      same = c.definitions-definitions.ensures;
      faults =
          definition_faults_step ds c.args.known.now i d c.loop-index.fault c.sooner-fault.result c.definitions-definitions.ensures c.loop-index-test.true
          c.index-definitions-index.is (c.sooner-fault.ensures ∙ ap (sooner c.loop-index.fault) c.in_ok-kind_fault.ensures)
          ∙ c.loop-index.invariant.faults;
    }
