use Rattle.std.proofs.Common.{◌++◌, map, ap, ◌∙◌}
use Rattle.std.specs.List.{flat_map}
use Rattle.admits_report.specs.AdmitsText.{block_text, end_text}
use Rattle.admits_report.specs.Shown.{block_of}
use Rattle.admits_report.proofs.Adding.{two_added, from_nothing}
use Rattle.admits_report.proofs.Counted.{counted_of}
use Rattle.admits_report.proofs.output.text_of_sections.Goals as goal

pub returns : goal.returns
returns c =
    let text = c.args.lines.now.text.now in
    let names = c.args.admission.now.names.now in
    let functions = c.in_ok-functions.functions.items in
    let blocks = map (block_of names) functions in
    let counts = c.counts_of-counts.result in
    record {
      functions = functions;
      are = c.in_ok-functions.ensures;
      printed = from_nothing (flat_map (block_text text) blocks ++ end_text blocks) _ _ c.new-text.ensures.items
          (two_added (flat_map (block_text text) blocks) (end_text blocks) _ c.add_functions.new.text.items _
          (c.in_ok-add_functions.ensures
          ∙ ap (λ fs. c.new-text.result.items ++ flat_map (block_text text) (map (block_of names) fs)) c.as_slice-2.ensures.value)
          (c.in_ok-add_counts.ensures
          ∙ ap (λ line. c.add_functions.new.text.items ++ line)
          (counted_of names c.as_slice.result.now functions counts.admitted counts.all c.as_slice.ensures.value
          c.counts_of-counts.ensures.admitted c.counts_of-counts.ensures.all)));
    }
