use Rattle.std.proofs.Common.{List, [], ◌∷◌, ◌++◌, take, get_or, sym, ap, subst, ◌∙◌}
use Rattle.std.specs.List.{AllZip}
use Rattle.std.proofs.lemmas.List.{take_more, take_all}
use Rattle.check_in_places.specs.declared.section.Section.{Section}
use Rattle.admits_report.specs.declared.answers.FunctionAnswers.{FunctionAnswers}
use Rattle.admits_report.specs.Answered.{AreAnswersOf}
use Rattle.admits_report.proofs.Blocks.{zip_push}
use Rattle.admits_report.proofs.answers.answers.Goals as goal

pub loop-section-init : goal.loop-section-init
loop-section-init c = subst {A = List FunctionAnswers} (AllZip (AreAnswersOf c.args.admission.now) []) (sym c.new-answers.ensures.items) tt

pub loop-section-preserved : goal.loop-section-preserved
loop-section-preserved c =
    let a = c.args.admission.now in
    let sections = c.args.sections.now in
    let section = c.section-item.result in
    let i = c.loop-section.section-index in
    subst {A = List Section} (λ list. AllZip (AreAnswersOf a) list c.push.new.self.items)
    (ap (λ s. take i sections ++ s ∷ []) c.section-item.is ∙ sym (take_more sections i section c.loop-section-test.true))
    (subst {A = List FunctionAnswers} (AllZip (AreAnswersOf a) (take i sections ++ section ∷ [])) (sym c.in_ok-push.ensures.items)
    (zip_push (AreAnswersOf a) (take i sections) c.loop-section.answers.items section c.in_ok-function.function c.loop-section.invariant c.in_ok-function.ensures))

pub returns : goal.returns
returns c =
    subst {A = List Section} (λ list. AllZip (AreAnswersOf c.args.admission.now) list c.loop-section.answers.items)
    (take_all c.loop-section.section-index c.args.sections.now c.loop-section-test.false) c.loop-section.invariant
