use Rattle.std.proofs.Common.{◌-◌, Bool, Some, bytes_eq, if◌then◌else◌, sym, ap, ◌∙◌, arith}
use Rattle.std.proofs.lemmas.List.{get_or-map, length-map}
use Rattle.c_tree.specs.BareExpr.{Bytes}
use Rattle.source_model.specs.Worlds.{Cells}
use Rattle.source_programs.specs.Globals.{cells_of, globals_of}
use Rattle.source_programs.specs.Places.{place_in}
use Rattle.source_programs.proofs.Placed.{placed_all, placed_more}
use Rattle.source_programs.proofs.globals.found_by_name.Goals as goal

abbrev named : Bytes → Cells → Bool
named name g = bytes_eq name g.name

pub loop-left-preserved : goal.loop-left-preserved
loop-left-preserved c =
    let list = c.args.list.items in
    let left = c.loop-left.left in
    let item = c.index.result.now in
    let within = c.loop-left.invariant.within in
    record {
      within = omega (arith, within);
      placed = placed_more named c.loop-left.places c.put.new.self left (left - 1) (globals_of list) (cells_of item)
          (omega (arith, c.loop-left-test.true)) (omega (arith, c.loop-left-test.true, within, length-map list cells_of))
          (get_or-map cells_of list (left - 1) item (cells_of item) (omega (arith, c.loop-left-test.true, within)) ∙ ap cells_of (sym c.index.ensures))
          (λ name. c.in_ok-put.ensures name ∙ ap (λ s. if bytes_eq name s then Some (left - 1) else place_in c.loop-left.places name) c.as_str.ensures.value)
          c.loop-left.invariant.placed;
    }

pub invariant_of-result : goal.invariant_of-result
invariant_of-result c = record {
  placed = placed_all named c.loop-left.places c.loop-left.left (globals_of c.args.list.items) (omega (arith, c.loop-left-test.false)) c.loop-left.invariant.placed;
}
