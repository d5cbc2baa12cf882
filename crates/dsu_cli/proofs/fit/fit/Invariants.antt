use Rattle.std.proofs.Common.{◌≡◌, None}
use Rattle.std.specs.Prelude.{drop}
use Rattle.dsu_cli.specs.Words.{items, line}
use Rattle.dsu_cli.specs.Fit.{fits_from, fits_items}
use Rattle.dsu_cli.proofs.fit.fit.Given as goal

-- the words that are left fit what was seen exactly where all words fit
abbrev pub invariant-loop-word : goal.invariant-loop-word
invariant-loop-word l = fits_from (line l.command) l.seen (drop l.word-index l.words) ≡ fits_items (line l.command) (items None l.words)
