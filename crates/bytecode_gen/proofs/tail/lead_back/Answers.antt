use Rattle.std.proofs.Common.{◌∷◌, ◌++◌, ap, ◌∙◌}
use Rattle.bytecode.specs.declared.instr.Instr.TheVariants as instr
use Rattle.bytecode.specs.Instructions.{Back}
use Rattle.bytecode_gen.proofs.Preceding.{led_back, back_length}
use Rattle.bytecode_gen.proofs.tail.lead_back.Goals as goal

pub returns : goal.returns
returns c = λ t.
    let items = c.args.tail.now.items in
    record {
      code = λ inside rest i there long. led_back t inside rest i items c.args.after (instr.Back c.in_ok-over.over c.args.point c.args.variables) there long
          ∙ ap (λ n. inside ++ Back n c.args.point c.args.variables ∷ rest) (back_length t inside rest i items c.args.after c.in_ok-over.over there long c.in_ok-over.ensures);
    }
