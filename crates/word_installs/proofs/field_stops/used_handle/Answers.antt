use Rattle.std.proofs.Common.{◌≤◌, subst, sym, ap, ◌∙◌}
use Rattle.word_data.specs.Resolved.{takes}
use Rattle.word_data.specs.Stacks.{stack_of}
use Rattle.word_installs.specs.Freshened.{used_handle}
use Rattle.word_installs.proofs.Freshening.{handle_under}
use Rattle.word_installs.proofs.field_stops.used_handle.Goals as goal

pub returns-in-WriteField : goal.returns-in-WriteField
returns-in-WriteField c =
    let stack = c.args.stack in
    let two : 2 ≤ stack.height = subst (λ s. takes s ≤ c.args.stack.height) c.in-WriteField.is c.requires.taken in
    sym (ap (λ s. used_handle s (stack_of c.args.words.now c.args.stack)) c.in-WriteField.is
    ∙ handle_under c.args.words.now stack.low stack.height c.in-WriteField.field-0 two)
