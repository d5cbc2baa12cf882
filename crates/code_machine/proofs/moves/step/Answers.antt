use Rattle.std.proofs.Common.{◌∙◌, ap, inl, refl, subst, sym}
use Rattle.code_image.specs.Images.{names_in}
use Rattle.code_machine.specs.declared.running.Next.TheVariants.{Stands}
use Rattle.code_machine.specs.Seen.{world_of}
use Rattle.code_machine.specs.Steps.{StepsTo}
use Rattle.code_machine.specs.Stops.{Lives}
use Rattle.code_machine.specs.Versions.{texts_of}
use Rattle.code_machine.proofs.Keeping.{keeps_all}
use Rattle.code_machine.proofs.LeadingMoves.{enter_leads, trap_leads}
use Rattle.code_machine.proofs.moves.step.Goals as goal

pub returns-in-None-clause-keeps : goal.returns-in-None-clause-keeps
returns-in-None-clause-keeps c =
    keeps_all c.args.image.now c.args.run.now _ (record { versions = refl; in_force = refl; layouts = refl }) refl refl c.requires.kept refl refl refl

pub returns-in-None-clause-stays : goal.returns-in-None-clause-stays
returns-in-None-clause-stays c = λ e. record { output = refl; used = λ n u. u }

pub returns-in-None-clause-came : goal.returns-in-None-clause-came
returns-in-None-clause-came c = λ all ready. record {
  world = refl;
  output = refl;
  cannot = inl (c.in-None.ensures (texts_of all c.args.run.now) (names_in all) c.args.image.now);
}

pub returns-in-Some-Enters-clause-stays : goal.returns-in-Some-Enters-clause-stays
returns-in-Some-Enters-clause-stays c = λ e. c.enter.ensures.stays (sym c.stepped.ensures.moved ∙ e)

pub returns-in-Some-Enters-clause-came : goal.returns-in-Some-Enters-clause-came
returns-in-Some-Enters-clause-came c = λ all ready.
    subst (StepsTo all c.args.image.now c.args.slot c.args.run.now c.enter.new.run) (sym c.stepped.ensures.moved) (c.enter.ensures.came all ready)

pub returns-in-Some-Enters-clause-led : goal.returns-in-Some-Enters-clause-led
returns-in-Some-Enters-clause-led c = λ all is.
    let image = c.args.image.now in
    let old = c.args.run.now in
    c.stepped.ensures.led (texts_of all old) (names_in all) image (world_of image old) c.args.slot
    (enter_leads all image old c.args.slot c.in-Some-Enters.n c.in-Some-Enters.count
    (subst (Lives old c.args.slot) c.in-Some-Enters.field-0-is c.in-Some-Enters.ensures))

pub returns-in-Some-Stands-Traps-clause-stays : goal.returns-in-Some-Stands-Traps-clause-stays
returns-in-Some-Stands-Traps-clause-stays c = λ e. c.trap.ensures.stays (sym c.stepped-in-Some-Stands-Traps.ensures.moved ∙ e)

pub returns-in-Some-Stands-Traps-clause-came : goal.returns-in-Some-Stands-Traps-clause-came
returns-in-Some-Stands-Traps-clause-came c = λ all ready.
    subst (StepsTo all c.args.image.now c.args.slot c.args.run.now c.trap.new.run) (sym c.stepped-in-Some-Stands-Traps.ensures.moved)
    (c.trap.ensures.came all ready)

pub returns-in-Some-Stands-Traps-clause-led : goal.returns-in-Some-Stands-Traps-clause-led
returns-in-Some-Stands-Traps-clause-led c = λ all is.
    let image = c.args.image.now in
    let old = c.args.run.now in
    let at = c.in-Some-Stands-Traps in
    let l = subst (λ next. Lives old c.args.slot next) (at.field-0-is ∙ ap Stands at.field-0-0-is) at.ensures in
    c.stepped-in-Some-Stands-Traps.ensures.led (texts_of all old) (names_in all) image (world_of image old) c.args.slot
    (trap_leads all image old c.args.slot at.kind l (c.requires.kept.slots.fit c.args.slot l.running l.there) is)

pub returns-in-Some-Continues-clause-keeps : goal.returns-in-Some-Continues-clause-keeps
returns-in-Some-Continues-clause-keeps c =
    keeps_all c.args.image.now c.args.run.now _ (record { versions = refl; in_force = refl; layouts = refl }) refl refl c.requires.kept refl refl refl

pub returns-in-Some-Continues-clause-stays : goal.returns-in-Some-Continues-clause-stays
returns-in-Some-Continues-clause-stays c = λ e. record { output = refl; used = λ n u. u }

pub returns-in-Some-Continues-clause-came : goal.returns-in-Some-Continues-clause-came
returns-in-Some-Continues-clause-came c = λ all ready.
    let l = subst (Lives c.args.run.now c.args.slot) c.in-Some-Continues.field-0-is c.in-Some-Continues.ensures in
    absurd (c.requires.settled (record { running = l.running; there = l.there; due = l.does }))
