use Rattle.std.proofs.Common.{◌+◌, ◌++◌, map, drop, sym, ap, ◌∙◌}
use Rattle.source_model.specs.Printing.{shown, others}
use Rattle.local_evaluation.specs.Values.{seen}
use Rattle.source_data.proofs.Seen.{from_one}
use Rattle.source_data.proofs.print.print_argument.Goals as goal

pub returns-in_ok-print_value-in-Some-clause-bytes : goal.returns-in_ok-print_value-in-Some-clause-bytes
returns-in_ok-print_value-in-Some-clause-bytes c =
    let values = c.args.arguments.now in
    let lookup = c.in-Some.ensures.lookup in
    c.in_ok-print_value-in-Some.ensures (drop (c.args.used + 1) (map seen values))
    ∙ ap (λ vs. c.args.output.now.items ++ shown vs) (sym (from_one values c.args.used c.in-Some.argument.now lookup.3.0 lookup.1))

pub returns-in_ok-print_value-in-Some-clause-others : goal.returns-in_ok-print_value-in-Some-clause-others
returns-in_ok-print_value-in-Some-clause-others c =
    let lookup = c.in-Some.ensures.lookup in
    sym (ap others (from_one c.args.arguments.now c.args.used c.in-Some.argument.now lookup.3.0 lookup.1))
