use Rattle.std.proofs.Common.{◌≡◌, ◌∙◌, Some, sym, ap}
use Rattle.std.specs.Prelude.{slice_get}
use Rattle.std.specs.Option.{option_map}
use Rattle.std.specs.Str.Parse.{digits_value}
use Rattle.dsu_cli.specs.Words.{is_number}
use Rattle.dsu_cli.specs.Sorted.{given}
use Rattle.dsu_cli.proofs.Given.{first_given, first_passes}
use Rattle.dsu_cli.proofs.read.number_of.Goals as goal

pub known_number-requires : goal.known_number-requires
known_number-requires c =
    let first : Some c.in-Some.word.now ≡ slice_get (given c.args.id.now c.args.matches.now) 0 = c.in-Some.ensures ∙ first_given c.args.matches.now c.args.id.now in
    let passes = first_passes (is_number 7 1 c.args.most) _ c.in-Some.word.now c.requires.known (sym first) in
    passes

pub returns-in-Some : goal.returns-in-Some
returns-in-Some c =
    let first : Some c.in-Some.word.now ≡ slice_get (given c.args.id.now c.args.matches.now) 0 = c.in-Some.ensures ∙ first_given c.args.matches.now c.args.id.now in
    ap Some c.known_number.ensures.value ∙ ap (option_map (digits_value 10)) first

pub returns-in-None : goal.returns-in-None
returns-in-None c = ap (option_map (digits_value 10)) (c.in-None.ensures ∙ first_given c.args.matches.now c.args.id.now)
