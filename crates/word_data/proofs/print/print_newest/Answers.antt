use Rattle.std.proofs.Common.{◌++◌, List, ℕ, ap, ◌∙◌, arith}
use Rattle.code_runs.specs.SharedStops.{printed_words}
use Rattle.word_data.proofs.StackWords.{newest_part}
use Rattle.word_data.proofs.print.print_newest.Goals as goal

pub returns-clause-printed : goal.returns-clause-printed
returns-clause-printed c =
    c.in_ok-print.ensures.printed
    ∙ ap (λ (ws : List ℕ). c.args.output.now.items ++ printed_words c.args.format.now ws)
    (newest_part c.args.words.now c.args.stack.low c.args.stack.height c.args.count _ c.requires.taken (omega arith) (omega arith))
