use Rattle.std.proofs.Common.{◌+◌, ◌<◌, length, refl, sym, subst, ap, ◌∙◌, arith}
use Rattle.std.specs.Prelude.{Ok, is_ok}
use Rattle.std.proofs.lemmas.Bool.{true≢false}
use Rattle.object_store.specs.Handles.{creation_limit}
use Rattle.code_image.specs.Images.{names_in}
use Rattle.run_machine.specs.Machines.{MovedBy}
use Rattle.code_machine.specs.Leading.{Led, has_moved as moves_by}
use Rattle.code_machine.specs.Seen.{code_world, image_of, output_of}
use Rattle.code_machine.specs.Versions.{texts_by, versions_of}
use Rattle.compiled_run.specs.Compiled.{compiled_shown}
use Rattle.compiled_run.proofs.Asking.{led}
use Rattle.compiled_run.proofs.Lasting.{bytes_counted, numbers_left}
use Rattle.compiled_run.proofs.MovesMade.{each_made, has_moved, was_made}
use Rattle.compiled_run.proofs.Moving.{ready, stayed_so, went_so}
use Rattle.compiled_run.proofs.run.CompiledRun.make_move.Goals as goal

pub returns-in-CannotMove-clause-moved : goal.returns-in-CannotMove-clause-moved
returns-in-CannotMove-clause-moved c = λ texts limits moves h needs.
    let new = c.step.new.self in
    let stepped = c.in_ok-step.ensures in
    let laws = c.code_moves_as_the_source_machine.ensures in
    let stay = c.used_names_stay.ensures in
    let slot = c.args.slot in
    stayed_so texts limits moves _ _ _ h slot needs new (stepped.run texts h.machine_is) stepped.versions laws.stays stay.names _
    (ap moves_by c.in-CannotMove.is) (stepped.came texts (ready texts limits moves _ _ _ h slot needs stay.fields))

pub returns-in-Moved-clause-moved : goal.returns-in-Moved-clause-moved
returns-in-Moved-clause-moved c = λ texts limits moves h needs.
    let new = c.step.new.self in
    let old = c.args.self.now in
    let slot = c.args.slot in
    let stepped = c.in_ok-step.ensures in
    let laws = c.code_moves_as_the_source_machine.ensures in
    let next = subst (Led (texts_by texts (versions_of old.machine)) (names_in texts) (image_of old.machine) (code_world old.machine) slot) c.in-Moved.is (stepped.led texts h.machine_is) in
    let came = stepped.came texts (ready texts limits moves _ _ _ h slot needs c.used_names_stay.ensures.fields) in
    each_made (MovedBy texts limits moves slot (compiled_shown (record old { machine = new }))) _ c.made.result c.in-Moved.leads _ _
    c.made.ensures.made c.made.ensures.counted (λ made few leads_is same.
    has_moved texts limits moves slot old (record old { machine = new }) h
    (went_so texts limits moves _ _ _ h slot needs new (stepped.run texts h.machine_is) stepped.versions laws.moves
    c.accepted_texts_are_coded.ensures _ (ap moves_by c.in-Moved.is) came few)
    made c.in-Moved.leads (led texts limits moves _ _ _ h slot c.in-Moved.leads next) leads_is
    (λ none. same none ∙ c.threads-threads.ensures))

pub returns-in_err-step-clause-lasts : goal.returns-in_err-step-clause-lasts
returns-in_err-step-clause-lasts c = λ n l.
    let within = l.spent.within in
    let few : l.spent.moves < creation_limit = omega (arith, within) in
    let numbers = numbers_left l.spent.moves c.args.self.now.machine c.args.slot l.spent.used few in
    absurd (true≢false (sym (c.step.ensures.enough numbers l.emptied) ∙ ap is_ok c.in_err-step.was))

pub returns-in-CannotMove-clause-lasts : goal.returns-in-CannotMove-clause-lasts
returns-in-CannotMove-clause-lasts c = λ n l.
    let new = c.step.new.self in
    let old = c.args.self.now in
    let stepped = c.in_ok-step.ensures in
    let within = l.spent.within in
    let few : l.spent.moves < creation_limit = omega (arith, within) in
    let counted = bytes_counted l.spent.moves old.kept (output_of old.machine) (output_of new) (image_of old.machine).longest_print l.emptied l.spent.short few stepped.long (image_of old.machine).short in (
      refl,
      record {
        moves = 1 + l.spent.moves;
        used = stepped.used l.spent.moves l.spent.used;
        within = omega (arith, within);
        short = counted.1;
        works = l.spent.works;
      },
    )

pub returns-in-CannotMove-clause-stays : goal.returns-in-CannotMove-clause-stays
returns-in-CannotMove-clause-stays c = λ n l none.
    let stays = c.step.ensures.stays (c.in_ok-step.was ∙ ap Ok c.in-CannotMove.is) in
    let shorter = ap length stays.0 in
    let short = l.spent.short in
    record {
      spent = record {
        moves = l.spent.moves;
        used = stays.1 l.spent.moves l.spent.used;
        within = l.spent.within;
        short = omega (arith, short, shorter);
        works = l.spent.works;
      };
      emptied = stays.0 ∙ l.emptied;
    }

pub returns-in-Moved-clause-lasts : goal.returns-in-Moved-clause-lasts
returns-in-Moved-clause-lasts c = λ n l.
    let new = c.step.new.self in
    let old = c.args.self.now in
    let stepped = c.in_ok-step.ensures in
    let within = l.spent.within in
    let few : l.spent.moves < creation_limit = omega (arith, within) in
    let counted = bytes_counted l.spent.moves old.kept (output_of old.machine) (output_of new) (image_of old.machine).longest_print l.emptied l.spent.short few stepped.long (image_of old.machine).short in (
      c.made.ensures.few counted.0,
      record {
        moves = 1 + l.spent.moves;
        used = stepped.used l.spent.moves l.spent.used;
        within = omega (arith, within);
        short = counted.1;
        works = l.spent.works;
      },
    )

pub returns-in-Moved-clause-stays : goal.returns-in-Moved-clause-stays
returns-in-Moved-clause-stays c = λ n l none.
    absurd (was_made c.made.result c.in-Moved.leads _ _ c.made.ensures.made none)
