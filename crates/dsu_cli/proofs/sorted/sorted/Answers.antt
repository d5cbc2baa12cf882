use Rattle.std.proofs.Common.{◌≡◌, ◌∙◌, ap, subst, true, map}
use Rattle.std.proofs.lemmas.Bool.{both_ways}
use Rattle.clap.specs.Words.{App, HasMatchesOf, app_of, takes}
use Rattle.dsu_cli.proofs.Matches.{words_sorted, words_taken}
use Rattle.dsu_cli.proofs.sorted.sorted.Goals as goal
use Rattle.dsu_cli.proofs.sorted.sorted.Goals.{in-OutOfMemory, in_default}

pub prove-unreachable-requires : goal.prove-unreachable-requires
prove-unreachable-requires c =
    let words = map (λ word. word.now) c.args.words.now in
    let taken : takes (app_of c.in_ok-parser.field-0) words ≡ true = ap (λ a. takes a words) c.in_ok-parser.ensures ∙ words_taken words c.requires.0 c.requires.1 in
    let memory = c.in-Err.ensures.passes taken in
    elim c.match-matches.branch [
      | in-OutOfMemory w ↦ both_ways _ c.if-prove.true w.matches-is
      | in_default w ↦ w.in_default.not-OutOfMemory (c.kind.ensures ∙ memory)
    ]

pub returns-in-Ok : goal.returns-in-Ok
returns-in-Ok c its h =
    let words = map (λ word. word.now) c.args.words.now in
    words_sorted words its h c.in-Ok.matches (subst (λ (a : App). HasMatchesOf a words c.in-Ok.matches) c.in_ok-parser.ensures c.in-Ok.ensures.matches)
