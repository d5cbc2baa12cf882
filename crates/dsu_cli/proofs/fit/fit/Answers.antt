use Rattle.std.proofs.Common.{◌≡◌, ◌∙◌, ◌+◌, ◌<◌, sym, ap, drop, length, ◌∷◌, arith}
use Rattle.std.proofs.lemmas.List.{drop_more}
use Rattle.dsu_cli.specs.Words.{Text, line}
use Rattle.dsu_cli.specs.Fit.{fits_from}
use Rattle.dsu_cli.proofs.fit.fit.Goals as goal

pub returns-in-None : goal.returns-in-None
returns-in-None c =
    let i = c.loop-word.word-index in
    let within : i < length c.args.words.now = omega arith in
    let at : drop i c.args.words.now ≡ c.as_str.result.now ∷ drop (i + 1) c.args.words.now =
    drop_more c.args.words.now i c.word-item.result within
    ∙ ap (λ (word : Text). word ∷ drop (i + 1) c.args.words.now) (sym (c.as_str.ensures ∙ c.word-item.is)) in
    sym (c.in-None.ensures (drop (i + 1) c.args.words.now)) ∙ ap (fits_from (line c.args.command) c.loop-word.seen) (sym at) ∙ c.loop-word.invariant
