use Rattle.std.proofs.Common.{List, ap, ◌∙◌}
use Rattle.std.specs.Prelude.{option_map, slice_get}
use Rattle.resolved_tree.specs.declared.words.Word.{Word}
use Rattle.resolved_tree.specs.Nodes.{word}
use Rattle.code_machine.specs.Seen.{words_of}
use Rattle.code_machine.proofs.AskedThreads.{enters_name}
use Rattle.code_machine.proofs.running.Running.entering.Goals as goal

pub returns-in-Enters : goal.returns-in-Enters
returns-in-Enters c =
    ap (option_map (word (words_of c.args.image.now)))
    (c.word_at.ensures ∙ ap (λ (ws : List Word). slice_get ws c.in-Enters.n) c.as_slice.ensures.value)
    ∙ enters_name c.args.image.now c.args.self.now c.in-Enters.n c.in-Enters.field-1 c.requires c.in-Enters.is
