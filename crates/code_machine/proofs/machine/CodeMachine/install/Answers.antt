use Rattle.std.proofs.Common.{ap, refl, arith}
use Rattle.object_store.specs.Stores.{Store}
use Rattle.code_image.specs.Images.{names_in}
use Rattle.code_machine.specs.Seen.{code_world}
use Rattle.code_machine.specs.Versions.{texts_of}
use Rattle.code_machine.proofs.Installing.{kept_newer, objects_stay, on_err, runs_newer, version_next}
use Rattle.code_machine.proofs.Keeping.{same_used, stays_run}
use Rattle.code_machine.proofs.machine.CodeMachine.install.Goals as goal

pub returns-in_err-add_version-clause-used : goal.returns-in_err-add_version-clause-used
returns-in_err-add_version-clause-used c = λ n u. same_used c.args.self.now.run _ refl refl refl n u

pub returns-in_err-add_version-clause-fault : goal.returns-in_err-add_version-clause-fault
returns-in_err-add_version-clause-fault c =
    let old = c.args.self.now.run in
    let same = c.in_err-add_version.ensures.fault in
    on_err c.from_residual.result (refl, same.0, λ texts is. stays_run texts c.args.self.now.image.value old _ same.0 refl same.1 refl is.frames is)

pub invariant_of-self-2-clause-kept : goal.invariant_of-self-2-clause-kept
invariant_of-self-2-clause-kept c =
    let old = c.args.self.now.run in
    kept_newer c.args.self.now.image.value old _ c.args.text c.args.self.now.kept c.in_ok-add_version.ensures.versions
    (omega (arith, c.if-len-ge-MOST_VERSIONS.false, c.len.ensures))
    (version_next c.args.rows.items c.args.gone.now old.shared c.install.new.shared c.install.ensures.exact) refl c.args.self.now.kept.slots refl

pub returns-clause-run : goal.returns-clause-run
returns-clause-run c = λ texts q is there few changes.
    let old = c.args.self.now.run in
    runs_newer texts c.args.self.now.image.value old _ c.args.text q is there c.in_ok-add_version.ensures.versions refl
    (version_next c.args.rows.items c.args.gone.now old.shared c.install.new.shared c.install.ensures.exact) refl
    (c.in_ok-add_version.ensures.stands (texts_of texts old) q (names_in texts).tags is.stand few changes)

pub returns-clause-installs : goal.returns-clause-installs
returns-clause-installs c = λ texts q is there prepared.
    c.install.ensures.installs (texts_of texts c.args.self.now.run) (names_in texts) q (code_world c.args.self.now) refl prepared

pub returns-clause-used : goal.returns-clause-used
returns-clause-used c = λ n u.
    let old = c.args.self.now.run in
    same_used old _ refl refl
    (ap (λ (s : Store). s.created) (objects_stay c.args.rows.items c.args.gone.now old.shared c.install.new.shared c.install.ensures.exact)) n u

pub returns-in_err-add_version-clause-settled : goal.returns-in_err-add_version-clause-settled
returns-in_err-add_version-clause-settled c = λ s. record {
  none = λ n d. s.none n (record { running = d.running; there = d.there; due = d.due });
  leaves = s.leaves;
}

pub returns-clause-settled : goal.returns-clause-settled
returns-clause-settled c = λ s. record {
  none = λ n d. s.none n (record { running = d.running; there = d.there; due = d.due });
  leaves = s.leaves;
}
