use Rattle.std.proofs.Common.{sym, ◌∙◌}
use Rattle.version_spans.proofs.FollowingTexts.{some_differ, some_last}
use Rattle.version_spans.proofs.record.Record.has_changed.Goals as goal

pub returns-in-Some : goal.returns-in-Some
returns-in-Some c = λ texts q h.
    c.meets.ensures ∙ some_differ texts q c.args.began.now c.in-Some.names.now c.args.self.now.names h (sym c.in-Some.ensures)

pub returns-in-None : goal.returns-in-None
returns-in-None c = λ texts q h. absurd (some_last texts q c.args.began.now h (sym c.in-None.ensures))
