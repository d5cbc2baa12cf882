use Rattle.std.proofs.Common.{◌≡◌, ◌∙◌, ◌+◌, ◌++◌, add-one, ap, sym, take}
use Rattle.std.proofs.lemmas.List.{take-append-drop}
use Rattle.dsu_io.proofs.Written.{take-rest}
use Rattle.noted_reports.proofs.FirstLine.{line_up_to}
use Rattle.noted_reports.proofs.lines.first_line.Goals as goal

pub returns-in-Some : goal.returns-in-Some
returns-in-Some c =
    let text = c.args.text.now in
    let end = c.in-Some.end in
    let found = c.in-Some.ensures in (
      rw add-one (line_up_to text end found.0.before found.1 found.0.high),
      sym (ap (λ rest. take (end + 1) text ++ rest) (take-rest text (end + 1)) ∙ take-append-drop (end + 1) text),
    )
