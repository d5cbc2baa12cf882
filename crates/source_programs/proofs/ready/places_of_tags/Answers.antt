use Rattle.std.proofs.Common.{◌-◌, Some, bytes_eq, if◌then◌else◌, sym, ap, ◌∙◌, arith}
use Rattle.c_semantics.specs.Names.{struct_name}
use Rattle.resolved_tree.specs.Nodes.{word}
use Rattle.resolved_tree.specs.Trees.{table}
use Rattle.source_programs.specs.Places.{place_in}
use Rattle.source_programs.proofs.Placed.{placed_all, placed_more}
use Rattle.source_programs.proofs.ready.places_of_tags.Goals as goal

pub loop-left-preserved : goal.loop-left-preserved
loop-left-preserved c =
    let t = table c.args.trees.now in
    let left = c.loop-left.left in
    let d = c.index-definitions-left.result in
    let within = c.loop-left.invariant.within in
    record {
      within = omega (arith, within);
      placed = placed_more (λ name d. bytes_eq (struct_name name) (word t d.name)) c.loop-left.places c.put_tag.new.places left (left - 1) c.args.definitions.now d
          (omega (arith, c.loop-left-test.true)) (omega (arith, c.loop-left-test.true, within)) (sym c.index-definitions-left.is)
          (λ name. c.in_ok-put_tag.ensures name ∙ ap (λ s. if bytes_eq (struct_name name) s then Some (left - 1) else place_in c.loop-left.places name)
          (c.text.ensures ∙ ap (λ x. word t x.name) (sym c.index-definitions-left.is)))
          c.loop-left.invariant.placed;
    }

pub returns : goal.returns
returns c =
    let t = table c.args.trees.now in
    placed_all (λ name d. bytes_eq (struct_name name) (word t d.name)) c.loop-left.places c.loop-left.left c.args.definitions.now (omega (arith, c.loop-left-test.false)) c.loop-left.invariant.placed
