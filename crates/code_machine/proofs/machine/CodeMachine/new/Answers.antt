use Rattle.std.proofs.Common.{◌≡◌, ℕ, suc, List, ◌∷◌, length, Some, ap, refl, subst, sym, ◌∙◌, arith}
use Rattle.std.specs.Prelude.{slice_get}
use Rattle.code_runs.specs.CodeData.{Data}
use Rattle.code_image.specs.declared.image.CodeImage.{CodeImage}
use Rattle.code_image.specs.Images.{IsImage, names_in}
use Rattle.code_machine.specs.declared.running.Running.{Running}
use Rattle.code_machine.specs.Kept.{FitsImage}
use Rattle.code_machine.proofs.FirstVersion.{runs_first, uses_none}
use Rattle.code_machine.proofs.Starting.{not_continues}
use Rattle.code_machine.proofs.machine.CodeMachine.new.Goals as goal

pub returns-clause-run : goal.returns-clause-run
returns-clause-run c = λ text texts is few.
    runs_first _ c.args.image.main c.in_ok-slots.ensures.fresh text texts c.in_ok-image.image.value
    (subst (λ (i : CodeImage). IsImage (text ∷ texts) i) (sym c.in_ok-image.ensures) is) c.in_ok-versions.ensures.items refl
    (ap (λ (d : Data). d.version) c.in_ok-shared.ensures) (c.new-2.ensures.stands text (names_in (text ∷ texts)).tags few)

pub returns-clause-used : goal.returns-clause-used
returns-clause-used c =
    uses_none _ c.args.image.main c.in_ok-slots.ensures.fresh (ap (λ (d : Data). d.objects.created) c.in_ok-shared.ensures) refl

pub returns-clause-settled : goal.returns-clause-settled
returns-clause-settled c = record {
  none = λ n d. not_continues c.args.image.main 0 (sym (c.in_ok-slots.ensures.fresh n d.running d.there).next ∙ d.due);
  leaves = refl;
}

pub invariant_of-result-clause-kept : goal.invariant_of-result-clause-kept
invariant_of-result-clause-kept c =
    let slots = c.in_ok-slots.slots.items in
    let one : length c.in_ok-versions.versions.items ≡ 1 = ap (λ (vs : List ℕ). length vs) c.in_ok-versions.ensures.items in
    record {
      slots = record {
        fit = subst (λ (i : CodeImage). (n : ℕ) (r : Running) → slice_get slots n ≡ Some r → FitsImage i r) (sym c.in_ok-image.ensures) c.in_ok-slots.ensures.fit;
        few = c.in_ok-slots.ensures.few;
        counted = omega arith;
      };
      versions = omega (arith, one);
      version = ap suc (ap (λ (d : Data). d.version) c.in_ok-shared.ensures) ∙ sym one;
      leaves = λ e n r there. (c.in_ok-slots.ensures.fresh n r there).leaves;
    }
