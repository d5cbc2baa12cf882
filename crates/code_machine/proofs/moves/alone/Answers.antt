use Rattle.std.proofs.Common.{◌≡◌, length, Some, refl, sym, subst, arith}
use Rattle.std.specs.Prelude.{slice_get}
use Rattle.std.specs.Vec.{with_item}
use Rattle.resolved_tree.specs.Trees.{table}
use Rattle.code_image.specs.Images.{names_in}
use Rattle.code_machine.specs.declared.running.Running.{Running}
use Rattle.code_machine.specs.declared.stops.Outcome.{Outcome}
use Rattle.code_machine.specs.Enough.{ActMayFail}
use Rattle.code_machine.specs.Stops.{Stopped}
use Rattle.code_machine.specs.Versions.{RunsCode, UsesObjectsWell, texts_of}
use Rattle.code_machine.proofs.Going.{runs_there}
use Rattle.code_machine.proofs.Keeping.{keeps_thread, uses_nothing}
use Rattle.code_machine.proofs.Lists.{inside, same_read}
use Rattle.code_machine.proofs.NeverLacking.{never_lacks, prints_few}
use Rattle.code_machine.proofs.Stopping.{ends_run, goes_on, stays_there}
use Rattle.code_machine.proofs.ThreadSlots.{there_read}
use Rattle.code_machine.proofs.UsedObjects.{uses_well}
use Rattle.code_machine.proofs.moves.alone.Goals as goal

pub returns-in_err-make-clause-keeps : goal.returns-in_err-make-clause-keeps
returns-in_err-make-clause-keeps c =
    let l = c.requires.lives in
    let old = c.args.run.now in
    let slot = c.args.slot in
    let before = c.index_mut-running.result.now in
    let there : slice_get old.slots.items slot ≡ Some before =
    there_read old.slots.items (length old.slots.items) slot before refl (inside old.slots.items slot l.running l.there) c.index_mut-running.ensures.value in
    keeps_thread c.args.image.now old _ slot before c.make.new.self there refl refl c.requires.kept (record { versions = refl; in_force = refl; layouts = refl }) refl
    c.make.ensures.version c.make.ensures.fits c.make.ensures.runs c.make.ensures.depth c.make.ensures.created c.make.ensures.leaves

pub returns-in-Goes-clause-keeps : goal.returns-in-Goes-clause-keeps
returns-in-Goes-clause-keeps c =
    let l = c.requires.lives in
    let old = c.args.run.now in
    let slot = c.args.slot in
    let before = c.index_mut-running.result.now in
    let there : slice_get old.slots.items slot ≡ Some before =
    there_read old.slots.items (length old.slots.items) slot before refl (inside old.slots.items slot l.running l.there) c.index_mut-running.ensures.value in
    keeps_thread c.args.image.now old _ slot before c.make.new.self there refl refl c.requires.kept (record { versions = refl; in_force = refl; layouts = refl }) refl
    c.make.ensures.version c.make.ensures.fits c.make.ensures.runs c.make.ensures.depth c.make.ensures.created c.make.ensures.leaves

pub returns-in-Stays-clause-keeps : goal.returns-in-Stays-clause-keeps
returns-in-Stays-clause-keeps c =
    let l = c.requires.lives in
    let old = c.args.run.now in
    let slot = c.args.slot in
    let before = c.index_mut-running.result.now in
    let there : slice_get old.slots.items slot ≡ Some before =
    there_read old.slots.items (length old.slots.items) slot before refl (inside old.slots.items slot l.running l.there) c.index_mut-running.ensures.value in
    keeps_thread c.args.image.now old _ slot before c.make.new.self there refl refl c.requires.kept (record { versions = refl; in_force = refl; layouts = refl }) refl
    c.make.ensures.version c.make.ensures.fits c.make.ensures.runs c.make.ensures.depth c.make.ensures.created c.make.ensures.leaves

pub returns-in-Ends-clause-keeps : goal.returns-in-Ends-clause-keeps
returns-in-Ends-clause-keeps c =
    let l = c.requires.lives in
    let old = c.args.run.now in
    let slot = c.args.slot in
    let before = c.index_mut-running.result.now in
    let there : slice_get old.slots.items slot ≡ Some before =
    there_read old.slots.items (length old.slots.items) slot before refl (inside old.slots.items slot l.running l.there) c.index_mut-running.ensures.value in
    keeps_thread c.args.image.now old _ slot before c.make.new.self there refl refl c.requires.kept (record { versions = refl; in_force = refl; layouts = refl }) refl
    c.make.ensures.version c.make.ensures.fits c.make.ensures.runs c.make.ensures.depth c.make.ensures.created c.make.ensures.leaves

pub returns-in-Stays-clause-stays : goal.returns-in-Stays-clause-stays
returns-in-Stays-clause-stays c = λ e.
    let l = c.requires.lives in
    let old = c.args.run.now in
    let slot = c.args.slot in
    let before = c.index_mut-running.result.now in
    let there : slice_get old.slots.items slot ≡ Some before =
    there_read old.slots.items (length old.slots.items) slot before refl (inside old.slots.items slot l.running l.there) c.index_mut-running.ensures.value in
    let idle = c.in_ok-make.ensures.stays c.in-Stays.is in
    uses_nothing c.args.image.now old _ slot before c.make.new.self there refl refl idle.0 idle.1 idle.2

pub returns-in-Goes-clause-came : goal.returns-in-Goes-clause-came
returns-in-Goes-clause-came c = λ all ready.
    let l = c.requires.lives in
    let old = c.args.run.now in
    let image = c.args.image.now in
    let slot = c.args.slot in
    let x = c.args.stop.now in
    let after = c.make.new.self in
    let runs = runs_there all image old slot l.running ready.run_is l.there in
    let same : c.index_mut-running.result.now ≡ l.running =
    sym (same_read old.slots.items slot l.running c.index_mut-running.result.now l.there (inside old.slots.items slot l.running l.there) c.index_mut-running.ensures.value) in
    let s =
    subst (λ (r : Running). RunsCode all old.versions.items image r → UsesObjectsWell all old.versions.items old.layouts image r old.shared
    → Stopped (texts_of all old) (names_in all) image slot x r after old.shared c.make.new.shared old.output.items c.make.new.output.items c.in_ok-make.field-0) same
    (c.in_ok-make.ensures.made all old.versions.items) runs (uses_well all image old slot l.running x ready l.there l.rests l.going) in
    goes_on all image old (record old { shared = c.make.new.shared; slots = with_item old.slots slot after; finish = old.finish; output = c.make.new.output }) slot x l.running after runs
    l.there l.rests l.going refl refl refl
    (subst (λ (o : Outcome). Stopped (texts_of all old) (names_in all) image slot x l.running after old.shared c.make.new.shared old.output.items c.make.new.output.items o) c.in-Goes.is s)

pub returns-in-Stays-clause-came : goal.returns-in-Stays-clause-came
returns-in-Stays-clause-came c = λ all ready.
    let l = c.requires.lives in
    let old = c.args.run.now in
    let image = c.args.image.now in
    let slot = c.args.slot in
    let x = c.args.stop.now in
    let after = c.make.new.self in
    let runs = runs_there all image old slot l.running ready.run_is l.there in
    let same : c.index_mut-running.result.now ≡ l.running =
    sym (same_read old.slots.items slot l.running c.index_mut-running.result.now l.there (inside old.slots.items slot l.running l.there) c.index_mut-running.ensures.value) in
    let s =
    subst (λ (r : Running). RunsCode all old.versions.items image r → UsesObjectsWell all old.versions.items old.layouts image r old.shared
    → Stopped (texts_of all old) (names_in all) image slot x r after old.shared c.make.new.shared old.output.items c.make.new.output.items c.in_ok-make.field-0) same
    (c.in_ok-make.ensures.made all old.versions.items) runs (uses_well all image old slot l.running x ready l.there l.rests l.going) in
    stays_there all image old (record old { shared = c.make.new.shared; slots = with_item old.slots slot after; finish = old.finish; output = c.make.new.output }) slot x l.running after runs
    l.there l.rests l.going refl refl refl
    (subst (λ (o : Outcome). Stopped (texts_of all old) (names_in all) image slot x l.running after old.shared c.make.new.shared old.output.items c.make.new.output.items o) c.in-Stays.is s)

pub returns-in-Ends-clause-came : goal.returns-in-Ends-clause-came
returns-in-Ends-clause-came c = λ all ready.
    let l = c.requires.lives in
    let old = c.args.run.now in
    let image = c.args.image.now in
    let slot = c.args.slot in
    let x = c.args.stop.now in
    let after = c.make.new.self in
    let runs = runs_there all image old slot l.running ready.run_is l.there in
    let same : c.index_mut-running.result.now ≡ l.running =
    sym (same_read old.slots.items slot l.running c.index_mut-running.result.now l.there (inside old.slots.items slot l.running l.there) c.index_mut-running.ensures.value) in
    let s =
    subst (λ (r : Running). RunsCode all old.versions.items image r → UsesObjectsWell all old.versions.items old.layouts image r old.shared
    → Stopped (texts_of all old) (names_in all) image slot x r after old.shared c.make.new.shared old.output.items c.make.new.output.items c.in_ok-make.field-0) same
    (c.in_ok-make.ensures.made all old.versions.items) runs (uses_well all image old slot l.running x ready l.there l.rests l.going) in
    ends_run all image old (record old { shared = c.make.new.shared; slots = with_item old.slots slot after; finish = Some c.in-Ends.finish; output = c.make.new.output }) slot x l.running after runs
    l.there l.rests l.going refl refl c.in-Ends.finish refl
    (subst (λ (o : Outcome). Stopped (texts_of all old) (names_in all) image slot x l.running after old.shared c.make.new.shared old.output.items c.make.new.output.items o) c.in-Ends.is s)

pub returns-in_err-make-clause-enough : goal.returns-in_err-make-clause-enough
returns-in_err-make-clause-enough c = λ enough.
    let l = c.requires.lives in
    let old = c.args.run.now in
    let image = c.args.image.now in
    let slot = c.args.slot in
    let same : c.index_mut-running.result.now ≡ l.running =
    sym (same_read old.slots.items slot l.running c.index_mut-running.result.now l.there (inside old.slots.items slot l.running l.there) c.index_mut-running.ensures.value) in
    absurd (never_lacks image l.running c.args.stop.now l.rests old slot l.there enough
    (subst (λ (r : Running). ActMayFail (table image.trees) c.args.stop.now.act r.depth old.shared old.output) same c.in_err-make.ensures.cause))

pub returns-in-Goes-clause-long : goal.returns-in-Goes-clause-long
returns-in-Goes-clause-long c =
    let few = prints_few c.args.image.now c.requires.lives.running c.args.stop.now c.requires.lives.rests in
    omega (arith, few, c.in_ok-make.ensures.long)

pub returns-in-Stays-clause-long : goal.returns-in-Stays-clause-long
returns-in-Stays-clause-long c =
    let few = prints_few c.args.image.now c.requires.lives.running c.args.stop.now c.requires.lives.rests in
    omega (arith, few, c.in_ok-make.ensures.long)

pub returns-in-Ends-clause-long : goal.returns-in-Ends-clause-long
returns-in-Ends-clause-long c =
    let few = prints_few c.args.image.now c.requires.lives.running c.args.stop.now c.requires.lives.rests in
    omega (arith, few, c.in_ok-make.ensures.long)
