use Rattle.std.proofs.Common.{List, ℕ, subst, sym}
use Rattle.dsu_cli.specs.declared.job.EngineKind.TheVariants.{Compiled}
use Rattle.dsu_cli.specs.declared.job.Job.{Job as Asked}
use Rattle.dsu_cli.specs.declared.job.Job.TheVariants.{Changes}
use Rattle.job_answers.specs.Jobs.{IsKnownFault}
use Rattle.top_call.proofs.plain.done.Goals as goal

pub returns-in-Replay-clause-first : goal.returns-in-Replay-clause-first
returns-in-Replay-clause-first g c = λ line file fault.
    c.replay_file.ensures.first line file
    (subst {A = Asked} (λ j. IsKnownFault j (g.F.Files.content c.args.files.now) line file) c.in-Replay.is fault)

pub returns-in-Changes-clause-first : goal.returns-in-Changes-clause-first
returns-in-Changes-clause-first g c = λ line file fault.
    let job = c.in-Changes in
    let content = g.F.Files.content c.args.files.now in
    c.changes_files.ensures.first line file
    (subst {A = List ℕ} (λ old. IsKnownFault (Changes old c.as_str-in-Changes-2.result.now) content line file)
    (sym c.as_str-in-Changes.ensures)
    (subst {A = List ℕ} (λ new. IsKnownFault (Changes job.old new) content line file) (sym c.as_str-in-Changes-2.ensures)
    (subst {A = Asked} (λ j. IsKnownFault j content line file) c.in-Changes.is fault)))

pub returns-in-Gen-clause-answers : goal.returns-in-Gen-clause-answers
returns-in-Gen-clause-answers g c =
    rw c.in-Gen.is (c.run_generated.ensures.answers _ (g.F.Files.content c.args.files.now) (g.F.Files.faults c.args.files.now))

pub returns-in-Gen-clause-complete : goal.returns-in-Gen-clause-complete
returns-in-Gen-clause-complete g c = λ ready.
    c.run_generated.ensures.complete Compiled (g.F.Files.content c.args.files.now) (rw c.in-Gen.is at ready)

pub returns-in-Gen-clause-first : goal.returns-in-Gen-clause-first
returns-in-Gen-clause-first g c = λ line file fault.
    c.run_generated.ensures.first Compiled (g.F.Files.content c.args.files.now) line file (rw c.in-Gen.is at fault)
