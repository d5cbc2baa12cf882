use Rattle.std.proofs.Common.{◌≡◌, refl, sym, ap, ◌∙◌, arith}
use Rattle.std.specs.Prelude.{slice_index}
use Rattle.std.proofs.lemmas.List.{with_items_is}
use Rattle.word_frames.specs.Blocks.{base_of}
use Rattle.word_frames.specs.Seen.{depth_of}
use Rattle.word_frames.proofs.FrameCalls.{entered}
use Rattle.word_frames.proofs.frames.Frames.enter.Goals as goal

pub returns-clause-enters : goal.returns-clause-enters
returns-clause-enters c = λ t.
    let to : c.base-to.result ≡ base_of c.args.self.now.highest_stack (depth_of c.args.self.now) =
    c.base-to.ensures.value ∙ ap (base_of c.args.self.now.highest_stack) (c.len.ensures ∙ c.args.self.now.frames.ok.0) in
    let row = with_items_is c.fill.new.words c.copy_reversed.new.words (omega (arith, c.copy_reversed.auto.words, c.deref_mut.ensures.len, c.fill.new.words.ok.0)) in
    entered t c.args.self.now _ c.args.function c.args.version c.args.unit c.args.count c.deref_mut.result.now c.copy_reversed.new.words c.arguments-from.result c.base-to.result
    c.requires.kept c.requires.arguments c.arguments-from.ensures to (λ i p. ap (λ xs. slice_index xs i) c.deref_mut.ensures.value ∙ c.fill.ensures.same i p) refl (sym row) c.copy_reversed.ensures.copied c.copy_reversed.ensures.elsewhere
    c.push_reserved.ensures.items
