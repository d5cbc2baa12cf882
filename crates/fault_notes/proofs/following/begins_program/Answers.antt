use Rattle.std.proofs.Common.{Ok, Err, ap, subst, sym, refl, true≢false}
use Rattle.c_expr_parser.specs.declared.parser.SyntaxFault.{SyntaxFault}
use Rattle.c_parser.specs.Programs.{IsFault}
use Rattle.fault_notes.proofs.Fronts.{at_tells, deep_begins_not, read_begins}
use Rattle.fault_notes.proofs.following.begins_program.Goals.{in-Ok, in-Err-At, in-Err-TooDeep, in-Err-Memory}
use Rattle.fault_notes.proofs.following.begins_program.Goals as goal

pub returns : goal.returns
returns c = elim c.match-parse.branch [
  | in-Ok w ↦
      rw w.result-is (
        (λ t. read_begins c.args.tokens.now (Ok w.in-Ok.field-0) w.in-Ok.ensures.stuck w.in-Ok.ensures.deep w.in-Ok.field-0 refl),
        (λ b. refl),
      )
  | in-Err-At w ↦
      rw w.result-is (at_tells c.args.tokens.now (Err w.in-Err-At.field-0) w.in-Err-At.ensures.stuck w.in-Err-At.ensures.deep w.in-Err-At.number
      (ap (λ (f : SyntaxFault). Err f) w.in-Err-At.field-0-is)
      (subst {A = SyntaxFault} (IsFault c.args.tokens.now) w.in-Err-At.field-0-is w.in-Err-At.ensures.sound))
  | in-Err-TooDeep w ↦
      rw w.result-is (
        (λ t. absurd (true≢false (sym t))),
        (λ begins. absurd (deep_begins_not c.args.tokens.now w.in-Err-TooDeep.field-0-0
            (subst {A = SyntaxFault} (IsFault c.args.tokens.now) w.in-Err-TooDeep.field-0-is w.in-Err-TooDeep.ensures.sound) begins)),
      )
  | in-Err-Memory w ↦ rw w.result-is tt
]
