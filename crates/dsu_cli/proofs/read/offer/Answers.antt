use Rattle.std.proofs.Common.{◌∙◌, Option, Bor, sym, ap}
use Rattle.std.specs.Option.{option_map}
use Rattle.std.proofs.lemmas.Option.{none-some}
use Rattle.dsu_cli.specs.Words.{Text}
use Rattle.dsu_cli.proofs.Given.{is_there, offer_parts}
use Rattle.dsu_cli.proofs.read.offer.Goals as goal

abbrev now_both : Option (Bor Text × Bor Text) → Option (Text × Text)
now_both = option_map (λ parts. (parts.0.now, parts.1.now))

pub unwrap-requires : goal.unwrap-requires
unwrap-requires c = is_there c.file_and_lines.result (λ none.
    let parts = offer_parts c.args.value.now c.requires in
    none-some (parts.file, parts.lines) (ap now_both (sym none) ∙ c.file_and_lines.ensures ∙ parts.are))
