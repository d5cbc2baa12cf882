use Rattle.std.proofs.Common.{subst, sym}
use Rattle.code_verify.specs.declared.source.Body.{Body}
use Rattle.sound_code.specs.Executable.{IsExecutable}
use Rattle.verified_code.proofs.unit.CodeUnit.verify.Goals as goal

pub invariant_of-result : goal.invariant_of-result
invariant_of-result c = record {
  executable =
      subst (λ (b : Body). IsExecutable b c.in_ok-verified.verified.heights.items) (sym c.in_ok-verified.ensures.same)
      (c.verified_code_is_sound.ensures.bodies c.args.source.now c.args.body c.in_ok-verified.verified.heights.items c.in_ok-verified.ensures.well_formed);
}
