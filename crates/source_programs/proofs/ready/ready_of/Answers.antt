use Rattle.std.proofs.Common.{◌≡◌, bytes_eq, map, ap, sym, subst, ◌∙◌}
use Rattle.std.specs.List.{position}
use Rattle.c_tree.specs.Bare.{bare_def}
use Rattle.c_types.specs.Definitions.{Types}
use Rattle.c_semantics.specs.Names.{struct_name}
use Rattle.resolved_tree.specs.Nodes.{word}
use Rattle.resolved_tree.specs.Trees.{table}
use Rattle.name_resolution.proofs.Kept.{grows_refl}
use Rattle.source_programs.specs.Definitions.{AreDefinitions, HaveTrees, names_in}
use Rattle.source_programs.proofs.Mains.{has_main}
use Rattle.source_programs.proofs.Placed.{same_position}
use Rattle.source_programs.proofs.ready.ready_of.Goals as goal

pub returns-clause-ready : goal.returns-clause-ready
returns-clause-ready c = λ u g.
    let t = table c.definitions_of.new.trees in
    let text = c.args.text in
    let ds = c.in_ok-definitions.definitions.items in
    let made = c.in_ok-definitions.ensures in
    let own : map bare_def c.as_slice.result.now ≡ map bare_def text.definitions =
    ap (map bare_def) (c.as_slice.ensures ∙ ap (λ p. p.definitions) c.program.ensures.tree) in
    let same : names_in t ds ≡ names_in u ds = made.names t (grows_refl t) ∙ sym (made.names u g) in
    record {
      definitions = subst (λ bs. AreDefinitions u bs ds) own (made.definitions u g);
      trees = subst (λ bs. HaveTrees u bs ds) own (made.trees u g);
      names = λ name.
          c.in_ok-names.ensures.names name
          ∙ ap (position (λ d. bytes_eq name (word t d.name))) c.as_slice-2.ensures.value
          ∙ same_position (bytes_eq name) (λ d. word t d.name) (λ d. word u d.name) ds same;
      tags = λ tag.
          c.in_ok-names.ensures.tags tag
          ∙ ap (position (λ d. bytes_eq (struct_name tag) (word t d.name))) c.as_slice-2.ensures.value
          ∙ same_position (bytes_eq (struct_name tag)) (λ d. word t d.name) (λ d. word u d.name) ds same;
      main = has_main text (subst Types c.program.ensures.tree c.program.ensures.typed);
    }
