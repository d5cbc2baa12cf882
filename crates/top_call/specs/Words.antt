-- What the words of a command line ask for.
use Rattle.std.specs.Prelude.{◌<◌, ◌≤◌, ⊤, List, length, Option, Some, None, option_and_then, if◌then◌else◌}
use Rattle.dsu_cli.specs.Words.{Text, job_of}
use Rattle.dsu_cli.specs.declared.job.Job.{Job}
use Rattle.dsu_cli.specs.declared.job.Job.TheVariants.{Run, Replay, Check, Effects, Changes, Admits, Gen}
use Rattle.job_answers.specs.Jobs.{is_built}

-- a job, where it is built
abbrev pub if_built : Job → Option Job
if_built job = if is_built job then Some job else None

-- the job that the words ask for; none where they fit no command, or have an option that isn't built
abbrev pub asked : List Text → Option Job
asked words = option_and_then if_built (job_of words)

-- a job has at most 63 offers, and a generated program has a function
abbrev pub IsInRange : Job → Type 0
IsInRange (Run job) = length job.offers ≤ 63
IsInRange (Replay job) = length job.offers ≤ 63
IsInRange (Check file) = ⊤
IsInRange (Effects file) = ⊤
IsInRange (Changes old new) = ⊤
IsInRange (Admits old new) = ⊤
IsInRange (Gen seed size engine) = 0 < size
