use Rattle.std.proofs.Common.{◌∙◌, ◌++◌, ap, append_assoc, codes, map}
use Rattle.fault_notes.specs.Notes.{shown}
use Rattle.fault_notes.proofs.NotesGrow.{notes_more}
use Rattle.fault_notes.proofs.lines.add_line.Goals as goal

pub returns-clause-notes : goal.returns-clause-notes
returns-clause-notes c =
    let old = c.args.text.now.items in
    let mark = c.args.mark.now in
    let bytes = map shown c.args.bytes.now in
    notes_more mark old c.push.new.self.items c.args.bytes.now (c.in_ok-push.ensures.items
    ∙ ap (λ l. l ++ codes "\n") (c.in_ok-add_shown.ensures ∙ ap (λ l. l ++ bytes) c.in_ok-extend_from_slice.ensures.items)
    ∙ ap (λ l. l ++ codes "\n") (append_assoc old mark bytes) ∙ append_assoc old (mark ++ bytes) (codes "\n"))
