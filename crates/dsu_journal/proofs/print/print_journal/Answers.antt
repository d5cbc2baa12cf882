use Rattle.std.proofs.Common.{◌++◌, codes}
use Rattle.std.proofs.lemmas.Result.{err_from_is_err_and}
use Rattle.dsu_journal.specs.Journals.{event_lines, first_line}
use Rattle.dsu_journal.proofs.Pieces.{AppendsFront-first, PutAppends-then}
use Rattle.dsu_journal.proofs.print.print_journal.Goals as goal

pub returns-in_err-put-clause-bytes : goal.returns-in_err-put-clause-bytes
returns-in_err-put-clause-bytes g c =
    let p = err_from_is_err_and c.from_residual.result c.from_residual.ensures.1 in
    rw p.1 (AppendsFront-first _ _ (first_line ++ codes "\n") (event_lines c.args.events.now) c.in_err-put.ensures.bytes)

pub returns-clause-bytes : goal.returns-clause-bytes
returns-clause-bytes g c =
    PutAppends-then _ _ _ c.put_events.result (first_line ++ codes "\n") (event_lines c.args.events.now) c.in_ok-put.ensures.bytes c.put_events.ensures.bytes
