use Rattle.std.proofs.Common.{◌≡◌, ◌<◌, ◌≤◌, inr, refl, sym, subst, ap, ◌∙◌, arith}
use Rattle.std.specs.Vec.{with_item}
use Rattle.source_model.specs.Moves.{frame_count}
use Rattle.word_frames.specs.Seen.{IsKept, depth_of}
use Rattle.code_machine.specs.declared.running.Next.TheVariants.{Enters}
use Rattle.code_machine.specs.declared.running.Running.{Running}
use Rattle.code_machine.specs.declared.running.Stand.TheVariants.{Live as LiveStand}
use Rattle.code_machine.specs.Kept.{FitsImage}
use Rattle.code_machine.specs.Stops.{Entered}
use Rattle.code_machine.specs.Versions.{RunsCode, texts_of}
use Rattle.code_image.specs.Images.{names_in}
use Rattle.code_machine.proofs.Entering.{enter_moves, overflow_moves}
use Rattle.code_machine.proofs.Going.{runs_there}
use Rattle.code_machine.proofs.InForce.{enters_none, in_force}
use Rattle.code_machine.proofs.Keeping.{keeps_all, keeps_slot}
use Rattle.code_machine.proofs.Lists.{inside, same_read}
use Rattle.code_machine.proofs.Reaching.{none_left}
use Rattle.code_machine.proofs.moves.enter.Goals as goal

pub returns-then-is_full-clause-keeps : goal.returns-then-is_full-clause-keeps
returns-then-is_full-clause-keeps c =
    keeps_all c.args.image.now c.args.run.now _ (record { versions = refl; in_force = refl; layouts = refl }) refl refl c.requires.kept refl refl refl

pub returns-then-is_full-clause-came : goal.returns-then-is_full-clause-came
returns-then-is_full-clause-came c = λ all ready.
    let old = c.args.run.now in
    let l = c.requires.lives in
    let same : l.running ≡ c.index.result.now = same_read old.slots.items c.args.slot l.running c.index.result.now l.there (inside old.slots.items c.args.slot l.running l.there) c.index.ensures in
    let kept : IsKept l.running.frames = (c.requires.kept.slots.fit c.args.slot l.running l.there).kept in
    let full : frame_count ≤ depth_of l.running.frames = subst (λ (r : Running). frame_count ≤ depth_of r.frames) (sym same) (c.is_full.ensures.0 c.if-is_full.true) in
    overflow_moves (texts_of all old) (names_in all) c.args.image.now old c.args.slot c.args.n c.args.count l.running l.there l.live l.does l.going
    (omega (arith, full, kept.few))

pub returns-in_default-clause-keeps : goal.returns-in_default-clause-keeps
returns-in_default-clause-keeps c =
    keeps_all c.args.image.now c.args.run.now _ (record { versions = refl; in_force = refl; layouts = refl }) refl refl c.requires.kept refl refl refl

pub returns-in_default-clause-stays : goal.returns-in_default-clause-stays
returns-in_default-clause-stays c = λ e. record { output = refl; used = λ n u. u }

pub returns-in_default-clause-came : goal.returns-in_default-clause-came
returns-in_default-clause-came c = λ all ready.
    let l = c.requires.lives in
    let fits = c.requires.kept.slots.fit c.args.slot l.running l.there in
    record {
      world = refl;
      output = refl;
      cannot = inr (inr (enters_none all c.args.image.now c.args.run.now ready.run_is c.args.slot c.args.n c.args.count l.running fits l.there l.live l.does
          (sym c.body.ensures.body ∙ none_left c.body.result c.in_default.not-Some)));
    }

pub index_mut-requires : goal.index_mut-requires
index_mut-requires c =
    let l = c.requires.lives in
    omega (arith, inside c.args.run.now.slots.items c.args.slot l.running l.there, c.args.run.now.slots.ok.0)

pub enter-requires-clause-fits : goal.enter-requires-clause-fits
enter-requires-clause-fits c =
    let l = c.requires.lives in
    let old = c.args.run.now in
    subst (FitsImage c.args.image.now)
    (same_read old.slots.items c.args.slot l.running c.index_mut.result.now l.there (inside old.slots.items c.args.slot l.running l.there) c.index_mut.ensures.value)
    (c.requires.kept.slots.fit c.args.slot l.running l.there)

pub enter-requires-clause-next : goal.enter-requires-clause-next
enter-requires-clause-next c =
    let l = c.requires.lives in
    let old = c.args.run.now in
    subst (λ (r : Running). r.next ≡ Enters c.args.n c.args.count)
    (same_read old.slots.items c.args.slot l.running c.index_mut.result.now l.there (inside old.slots.items c.args.slot l.running l.there) c.index_mut.ensures.value)
    l.does

pub enter-requires-clause-few : goal.enter-requires-clause-few
enter-requires-clause-few c =
    let l = c.requires.lives in
    let old = c.args.run.now in
    let first : l.running ≡ c.index.result.now = same_read old.slots.items c.args.slot l.running c.index.result.now l.there (inside old.slots.items c.args.slot l.running l.there) c.index.ensures in
    let again : l.running ≡ c.index_mut.result.now = same_read old.slots.items c.args.slot l.running c.index_mut.result.now l.there (inside old.slots.items c.args.slot l.running l.there) c.index_mut.ensures.value in
    let few : depth_of c.index.result.now.frames < frame_count = grind (arith, c.is_full.ensures, c.if-is_full.false) in
    subst (λ (r : Running). depth_of r.frames < frame_count) (sym first ∙ again) few

pub returns-clause-keeps : goal.returns-clause-keeps
returns-clause-keeps c =
    let l = c.requires.lives in
    let old = c.args.run.now in
    let image = c.args.image.now in
    let kept = c.requires.kept in
    let same : l.running ≡ c.index_mut.result.now = same_read old.slots.items c.args.slot l.running c.index_mut.result.now l.there (inside old.slots.items c.args.slot l.running l.there) c.index_mut.ensures.value in
    let depth : c.enter.new.self.depth ≡ l.running.depth = c.enter.ensures.same.depth ∙ ap (λ (r : Running). r.depth) (sym same) in
    keeps_slot image old _ (record { versions = refl; in_force = refl; layouts = refl }) refl refl kept c.args.slot c.enter.new.self refl c.enter.ensures.fits
    (λ all is.
    (c.enter.ensures.runs all old.versions.items
    (subst (RunsCode all old.versions.items image) same (runs_there all image old c.args.slot l.running is l.there))
    (omega (arith, c.len-version.ensures, kept.versions))
    (in_force all image old is c.args.n c.in-Some.function (sym c.body.ensures.body ∙ c.in-Some.is))).frames)
    (λ n u. let deep = u.depths c.args.slot l.running l.there in omega (arith, deep, depth))
    kept.slots.counted (omega arith) (λ n created. omega (arith, created))
    (λ e. c.enter.ensures.same.leaves ∙ ap (λ (r : Running). r.leaves_work) (sym same) ∙ kept.leaves e c.args.slot l.running l.there)

pub returns-clause-came : goal.returns-clause-came
returns-clause-came c = λ all ready.
    let l = c.requires.lives in
    let old = c.args.run.now in
    let image = c.args.image.now in
    let same : l.running ≡ c.index_mut.result.now = same_read old.slots.items c.args.slot l.running c.index_mut.result.now l.there (inside old.slots.items c.args.slot l.running l.there) c.index_mut.ensures.value in
    let first : l.running ≡ c.index.result.now = same_read old.slots.items c.args.slot l.running c.index.result.now l.there (inside old.slots.items c.args.slot l.running l.there) c.index.ensures in
    let few : depth_of c.index.result.now.frames < frame_count = grind (arith, c.is_full.ensures, c.if-is_full.false) in
    let runs = subst (RunsCode all old.versions.items image) same (runs_there all image old c.args.slot l.running ready.run_is l.there) in
    enter_moves (texts_of all old) (names_in all) image old c.args.slot c.args.n c.args.count l.running l.there l.live l.does l.going
    (with_item old.slots c.args.slot c.enter.new.self) c.enter.new.self refl
    (c.enter.ensures.same.stand ∙ subst (λ (r : Running). r.stand ≡ LiveStand) same l.live)
    (subst (λ (r : Running). depth_of r.frames < frame_count) (sym first) few)
    (subst (λ (r : Running). Entered (texts_of all old) image r c.enter.new.self c.args.n c.args.count) (sym same)
    (c.enter.ensures.entered all old.versions.items runs (omega (arith, c.len-version.ensures, c.requires.kept.versions))
    (in_force all image old ready.run_is c.args.n c.in-Some.function (sym c.body.ensures.body ∙ c.in-Some.is))))
