use Rattle.std.proofs.Common.{◌<◌, List, map, length, refl, sym, ap, subst, ◌∙◌, arith}
use Rattle.std.specs.Prelude.{All, Vec, flat_map}
use Rattle.std.specs.declared.alloc.Global.{Global}
use Rattle.std.proofs.lemmas.List.{length-map}
use Rattle.std.proofs.lemmas.Option.{slice_get-map, slice_get_within}
use Rattle.name_resolution.proofs.Kept.{grows_refl}
use Rattle.resolved_tree.specs.declared.words.Word.{Word}
use Rattle.resolved_tree.specs.Nodes.{word}
use Rattle.resolved_tree.specs.Trees.{table}
use Rattle.source_programs.specs.Programs.{text_in}
use Rattle.text_code.specs.declared.body.Body.{Body}
use Rattle.text_code.specs.declared.outline.Outline.{Outline}
use Rattle.code_image.specs.Acts.{named}
use Rattle.code_image.specs.Images.{IsFunctionOf, each_once}
use Rattle.code_image.specs.StopHeights.{StopsLead}
use Rattle.image_load.specs.MadeTexts.{AreCallees, AreOutlined, body_names}
use Rattle.image_load.proofs.NamesOfTexts.{counted}
use Rattle.image_load.proofs.RunNumbers.{are_numbers}
use Rattle.image_load.proofs.Whole.{all_lead, bodies_of, bodies_within, functions_are}
use Rattle.image_load.proofs.loading.image.Goals as goal

pub compiled-requires : goal.compiled-requires
compiled-requires c =
    let t = table c.outlined.new.trees in
    subst (λ (os : List (Vec Outline Global)). AreOutlined t (map text_in c.args.texts.now) (map (λ v. v.items) os)) (sym c.as_slice.ensures.value)
    (c.in_ok-outlines.ensures t (grows_refl t))

pub parts_of-requires-clause-numbers : goal.parts_of-requires-clause-numbers
parts_of-requires-clause-numbers c =
    let t = table c.outlined.new.trees in
    let callees = c.in_ok-callees.callees in
    are_numbers _ c.args.numbers.now callees c.in_ok-bodies.bodies.items c.requires.numbers
    (subst (λ (bs : List (Vec Body Global)). AreCallees t (each_once (flat_map (λ v. body_names t v.items) bs)) callees) c.as_slice-2.ensures.value
    c.in_ok-callees.ensures)
    c.in_ok-bodies.ensures c.as_slice-3.ensures.value c.requires.tags refl refl refl refl

pub invariant_of-result : goal.invariant_of-result
invariant_of-result c =
    let t = table c.outlined.new.trees in
    let p = c.in_ok-parts.parts in
    let are = c.in_ok-parts.ensures.parts in
    let words = c.as_slice-3.result.now in
    let within : p.main < length (map (word t) words) = slice_get_within (map (word t) words) p.main _ are.main in
    record {
      begins = omega (arith, within, length-map words (word t), ap length c.as_slice-3.ensures.value);
      few = omega (arith, c.len.ensures, c.requires.mutexes, c.args.numbers.now.mutexes.names.ok.0);
      leads = λ n f there.
          subst (λ (ws : List Word). StopsLead (length ws) f.stops.items) c.as_slice-3.ensures.value
          (all_lead _ p.made.functions.items are.made.functions n f there);
      found = λ number n k row there e. bodies_within _ p.made are.made number n k row there e;
      short = are.short;
      prints = are.prints;
      low = are.low;
      highest = are.highest;
    }

pub returns-clause-image : goal.returns-clause-image
returns-clause-image c = λ whole accepted is.
    let t = table c.outlined.new.trees in
    let texts = map text_in c.args.texts.now in
    let p = c.in_ok-parts.parts in
    let are = c.in_ok-parts.ensures.parts in
    let words = c.as_slice-3.result.now in
    let same = c.as_slice-3.ensures.value in
    rw is (record {
      functions =
          subst (λ (ws : List Word). All (IsFunctionOf t texts ws) p.made.functions.items) same
          (functions_are _ p.made.functions.items are.made.functions c.code_of_texts_is_that_of_their_functions.ensures whole accepted is);
      many = are.made.many ∙ sym (length-map c.args.texts.now text_in);
      bodies = λ number text row at there. bodies_of _ _ refl (sym same) number text row (are.made.bodies number text row at there);
      main = ap (λ ws. named t ws p.main) (sym same) ∙ sym (slice_get-map (word t) words p.main) ∙ are.main;
      mutexes = omega (arith, c.len.ensures, c.args.numbers.now.mutexes.names.ok.0, counted _ c.args.numbers.now.mutexes c.requires.numbers.mutexes);
    })
