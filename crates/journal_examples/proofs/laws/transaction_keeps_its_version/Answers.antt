use Rattle.journal_examples.proofs.PinnedPlay.{transaction_keeps_its_version}
use Rattle.journal_examples.proofs.laws.transaction_keeps_its_version.Goals as goal

pub returns : goal.returns
returns c =
    transaction_keeps_its_version c.each_mark_has_one_row.ensures.exists c.each_mark_has_one_row.ensures.unique
    c.effects_grow.ensures.rows
