use Rattle.std.proofs.Common.{◌≡◌, ◌∙◌, ℕ, Some, ap, ap₂, subst, sym, true}
use Rattle.std.specs.Prelude.{unwrap_or}
use Rattle.dsu_cli.specs.declared.command.Command.{Command}
use Rattle.dsu_cli.specs.declared.job.Job.TheVariants.{Gen}
use Rattle.dsu_cli.specs.declared.setting.Setting.TheVariants.{Offer, Workers, Moves, Objects}
use Rattle.dsu_cli.specs.Words.{fits, job, line, positionals}
use Rattle.dsu_cli.proofs.Jobs.{gen_is, given_pass, replay_is, run_is}
use Rattle.dsu_cli.proofs.read.job.Goals as goal

pub offers-requires : goal.offers-requires
offers-requires c = given_pass c.args.command c.requires.its c.args.matches.now c.requires.sorts c.requires.fit Offer

pub number_of-requires-clause-known : goal.number_of-requires-clause-known
number_of-requires-clause-known c = given_pass c.args.command c.requires.its c.args.matches.now c.requires.sorts c.requires.fit Workers

pub number_of-requires-in-Run-clause-known : goal.number_of-requires-in-Run-clause-known
number_of-requires-in-Run-clause-known c = given_pass c.args.command c.requires.its c.args.matches.now c.requires.sorts c.requires.fit Moves

pub number_of-requires-in-Run-2-clause-known : goal.number_of-requires-in-Run-2-clause-known
number_of-requires-in-Run-2-clause-known c = given_pass c.args.command c.requires.its c.args.matches.now c.requires.sorts c.requires.fit Objects

pub offers-requires-in-Replay : goal.offers-requires-in-Replay
offers-requires-in-Replay c = given_pass c.args.command c.requires.its c.args.matches.now c.requires.sorts c.requires.fit Offer

pub number_of-requires-in-Replay-clause-known : goal.number_of-requires-in-Replay-clause-known
number_of-requires-in-Replay-clause-known c = given_pass c.args.command c.requires.its c.args.matches.now c.requires.sorts c.requires.fit Objects

pub returns-in_ok-offers-in-Run : goal.returns-in_ok-offers-in-Run
returns-in_ok-offers-in-Run c its sorts fit =
    let fit_run = subst (λ (k : Command). fits (line k) its ≡ true) c.in-Run.is fit in
    ap (λ k. job k its (positionals its)) c.in-Run.is
    ∙ run_is its c.args.matches.now sorts _ _ _ _ _ _ _ fit_run c.in_ok-file-in-Run.ensures c.in_ok-offers-in-Run.ensures c.number_of.ensures
    (c.unwrap_or.ensures ∙ ap (λ o. unwrap_or o 1000000) c.number_of-in-Run.ensures)
    (c.unwrap_or-in-Run.ensures ∙ ap (λ o. unwrap_or o 4096) c.number_of-in-Run-2.ensures) c.engine.ensures c.is_used.ensures

pub returns-in_ok-offers-in-Replay : goal.returns-in_ok-offers-in-Replay
returns-in_ok-offers-in-Replay c its sorts fit =
    let fit_replay = subst (λ (k : Command). fits (line k) its ≡ true) c.in-Replay.is fit in
    ap (λ k. job k its (positionals its)) c.in-Replay.is
    ∙ replay_is its c.args.matches.now sorts _ _ _ _ _ fit_replay c.in_ok-file-in-Replay.ensures c.in_ok-file-in-Replay-2.ensures c.in_ok-offers-in-Replay.ensures
    (c.unwrap_or-in-Replay.ensures ∙ ap (λ o. unwrap_or o 4096) c.number_of-in-Replay.ensures) c.engine-in-Replay.ensures

pub returns-in-Gen : goal.returns-in-Gen
returns-in-Gen c its sorts fit =
    let fit_gen = subst (λ (k : Command). fits (line k) its ≡ true) c.in-Gen.is fit in
    let numbers = ap₂ (λ (seed size : ℕ). Some (Gen seed size c.engine-in-Gen.result)) c.known_number-seed.ensures.value c.known_number-size.ensures.value in
    ap (λ k. job k its (positionals its)) c.in-Gen.is
    ∙ gen_is its c.args.matches.now sorts _ _ _ fit_gen c.positional.ensures c.positional-in-Gen.ensures c.engine-in-Gen.ensures ∙ sym numbers
