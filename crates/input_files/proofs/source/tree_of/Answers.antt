use Rattle.std.proofs.Common.{refl}
use Rattle.c_front.proofs.TextsWithin.{first_fault_within}
use Rattle.input_files.proofs.source.tree_of.Goals as goal

pub line_of-requires-clause-within : goal.line_of-requires-clause-within
line_of-requires-clause-within c =
    first_fault_within c.args.text.now c.in-Err-Refused.wrong c.in-Err-Refused.at
    (c.in-Err-Refused.ensures.refused c.in-Err-Refused.wrong c.in-Err-Refused.at (search (refl, c.in-Err-Refused.field-0-is)))
