use Rattle.std.proofs.Common.{◌++◌, codes, decimal}
use Rattle.std.proofs.lemmas.Result.{err_from_is_err_and}
use Rattle.journal_versions.specs.Journals.{event_lines}
use Rattle.journal_versions.proofs.Pieces.{AppendsFront-first, PutAppends-then}
use Rattle.journal_versions.proofs.print.print_journal.Goals as goal

pub returns-in_err-put_first-clause-bytes : goal.returns-in_err-put_first-clause-bytes
returns-in_err-put_first-clause-bytes g c =
    let p = err_from_is_err_and c.from_residual.result c.from_residual.ensures.1 in
    rw p.1 (AppendsFront-first _ _ (codes "ginseng-journal 2 " ++ decimal c.args.slots ++ codes "\n") (event_lines c.args.events.now)
    c.in_err-put_first.ensures.bytes)

pub returns-clause-bytes : goal.returns-clause-bytes
returns-clause-bytes g c =
    PutAppends-then _ _ _ c.put_events.result (codes "ginseng-journal 2 " ++ decimal c.args.slots ++ codes "\n") (event_lines c.args.events.now)
    c.in_ok-put_first.ensures.bytes c.put_events.ensures.bytes
