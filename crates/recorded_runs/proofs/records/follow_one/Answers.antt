use Rattle.std.proofs.Common.{subst}
use Rattle.source_model.specs.Versions.{current, next_table}
use Rattle.version_laws.specs.Histories.{last_text}
use Rattle.recorded_runs.specs.RecordedRuns.{IsOpen}
use Rattle.recorded_runs.proofs.KeptRecords.{open_follows}
use Rattle.recorded_runs.proofs.records.follow_one.Goals as goal

pub returns-in-Some : goal.returns-in-Some
returns-in-Some c = λ texts q table uses is main began before.
    open_follows table (next_table (current table) (last_text texts) q table) c.in-Some.kept c.follow.new.self uses
    (λ u kept. c.follow.ensures texts q table u is main began kept) (subst (λ o. IsOpen table o uses) c.in-Some.is before)
