use Rattle.std.proofs.Common.{◌≡◌, inl, inr, length, Some, None, refl, sym, ap, subst, ◌∙◌}
use Rattle.std.specs.Prelude.{nat_lt, option_copied, slice_get}
use Rattle.std.specs.Option.{option_flatten}
use Rattle.local_evaluation.specs.Pieces.{stop_of}
use Rattle.word_frames.specs.declared.frame.Frame.{Frame}
use Rattle.word_frames.specs.Seen.{depth_of, innermost}
use Rattle.code_machine.specs.declared.running.Running.{Running}
use Rattle.code_machine.specs.Leading.{LeadsNext, stop_leads}
use Rattle.code_machine.specs.Seen.{words_of, world_of}
use Rattle.code_machine.specs.Steps.{StepsTo}
use Rattle.code_machine.specs.Versions.{texts_of}
use Rattle.code_image.specs.Images.{names_in}
use Rattle.code_machine.proofs.Going.{runs_there}
use Rattle.code_machine.proofs.Keeping.{keeps_all}
use Rattle.code_machine.proofs.LeadingMoves.{rest_leads}
use Rattle.code_machine.proofs.Lists.{inside, same_read}
use Rattle.code_machine.proofs.Losing.{lost}
use Rattle.code_machine.proofs.Reaching.{lives_at, none_left}
use Rattle.code_machine.proofs.moves.stop.Goals as goal

pub returns-in_default-clause-keeps : goal.returns-in_default-clause-keeps
returns-in_default-clause-keeps c =
    keeps_all c.args.image.now c.args.run.now _ (record { versions = refl; in_force = refl; layouts = refl }) refl refl c.requires.kept refl refl refl

pub returns-in_default-clause-stays : goal.returns-in_default-clause-stays
returns-in_default-clause-stays c = λ e. record { output = refl; used = λ n u. u }

pub returns-in_default-clause-came : goal.returns-in_default-clause-came
returns-in_default-clause-came c = λ all ready.
    let l = c.requires.lives in
    let old = c.args.run.now in
    let same : l.running ≡ c.index-running.result.now = same_read old.slots.items c.args.slot l.running c.index-running.result.now l.there (inside old.slots.items c.args.slot l.running l.there) c.index-running.ensures in
    let frame : c.innermost-frame.result ≡ innermost l.running.frames = c.innermost-frame.ensures ∙ ap (λ (r : Running). innermost r.frames) (sym same) in
    let fits = c.requires.kept.slots.fit c.args.slot l.running l.there in
    let g = c.function.result.now in
    let found : slice_get c.args.image.now.functions.items (innermost l.running.frames).unit ≡ Some c.function.result.now =
    subst (λ (f : Frame). slice_get c.args.image.now.functions.items f.unit ≡ Some c.function.result.now) frame c.function.ensures in
    let none : option_flatten (slice_get g.stops.items (innermost l.running.frames).place) ≡ None =
    subst (λ (f : Frame). option_flatten (slice_get g.stops.items f.place) ≡ None) frame (sym c.stop_at.ensures ∙ ap option_copied (none_left c.stop_at.result c.in_default.not-Some)) in
    record {
      world = refl;
      output = refl;
      cannot = inr (inl (lost all c.args.image.now old c.args.slot l.running g
          (runs_there all c.args.image.now old c.args.slot l.running ready.run_is l.there) fits l.there l.live l.does found none));
    }

pub make_stop-requires-clause-lives : goal.make_stop-requires-clause-lives
make_stop-requires-clause-lives c =
    let l = c.requires.lives in
    let old = c.args.run.now in
    let same : l.running ≡ c.index-running.result.now = same_read old.slots.items c.args.slot l.running c.index-running.result.now l.there (inside old.slots.items c.args.slot l.running l.there) c.index-running.ensures in
    let frame : c.innermost-frame.result ≡ innermost l.running.frames = c.innermost-frame.ensures ∙ ap (λ (r : Running). innermost r.frames) (sym same) in
    let fits = c.requires.kept.slots.fit c.args.slot l.running l.there in
    lives_at c.args.image.now.functions.items (length c.args.image.now.callees.items) old c.args.slot l.running c.innermost-frame.result c.function.result.now c.in-Some.stop.now l.there fits l.live l.does l.going frame
    c.function.ensures (sym c.stop_at.ensures ∙ ap option_copied c.in-Some.is)

pub returns-in-Ok-clause-came : goal.returns-in-Ok-clause-came
returns-in-Ok-clause-came c = λ all ready.
    subst (StepsTo all c.args.image.now c.args.slot c.args.run.now c.make_stop.new.run) (sym c.stepped.ensures.moved) (c.in-Ok.ensures.came all ready)

pub returns-in-Ok-clause-stays : goal.returns-in-Ok-clause-stays
returns-in-Ok-clause-stays c = λ e. c.in-Ok.ensures.stays (sym c.stepped.ensures.moved ∙ e)

pub returns-in-Ok-clause-led : goal.returns-in-Ok-clause-led
returns-in-Ok-clause-led c = λ all is.
    let l = c.requires.lives in
    let old = c.args.run.now in
    let image = c.args.image.now in
    let x = c.in-Some.stop.now in
    let same : l.running ≡ c.index-running.result.now = same_read old.slots.items c.args.slot l.running c.index-running.result.now l.there (inside old.slots.items c.args.slot l.running l.there) c.index-running.ensures in
    let frame : c.innermost-frame.result ≡ innermost l.running.frames = c.innermost-frame.ensures ∙ ap (λ (r : Running). innermost r.frames) (sym same) in
    let fits = c.requires.kept.slots.fit c.args.slot l.running l.there in
    let g = c.function.result.now in
    let found : slice_get image.functions.items (innermost l.running.frames).unit ≡ Some g =
    subst (λ (f : Frame). slice_get image.functions.items f.unit ≡ Some g) frame c.function.ensures in
    let there : option_flatten (slice_get g.stops.items (innermost l.running.frames).place) ≡ Some x =
    subst (λ (f : Frame). option_flatten (slice_get g.stops.items f.place) ≡ Some x) frame (sym c.stop_at.ensures ∙ ap option_copied c.in-Some.is) in
    let deep : nat_lt 1 (depth_of l.running.frames) ≡ nat_lt 1 c.depth-is_called.result =
    ap (λ (r : Running). nat_lt 1 (depth_of r.frames)) same ∙ ap (nat_lt 1) (sym c.depth-is_called.ensures) in
    c.stepped.ensures.led (texts_of all old) (names_in all) image (world_of image old) c.args.slot
    (subst (LeadsNext (texts_of all old) (names_in all) image (world_of image old) c.args.slot)
    (ap (stop_leads (stop_of (words_of image) x.stop)) deep ∙ sym (c.stop_leads-leads.ensures (words_of image)))
    (rest_leads all image old c.args.slot l fits is g found x there))
