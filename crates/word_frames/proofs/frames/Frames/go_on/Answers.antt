use Rattle.std.proofs.Common.{ℕ, subst, sym, ap, ◌∙◌, arith}
use Rattle.std.proofs.lemmas.List.{with_items_is}
use Rattle.resolved_tree.specs.Nodes.{Table}
use Rattle.bytecode.specs.Seen.{code_of}
use Rattle.thread_state.specs.Heights.{Sound}
use Rattle.fused_code.specs.Fused.{AreFused}
use Rattle.word_frames.proofs.FrameCalls.{went_on}
use Rattle.word_frames.proofs.frames.Frames.go_on.Goals as goal

pub burst-reached-requires-clause-sound : goal.burst-reached-requires-clause-sound
burst-reached-requires-clause-sound c =
    subst (λ (m : ℕ). (t : Table) → Sound (code_of t c.args.code.now) m c.args.heights.now) (sym c.variables.ensures.few) c.requires.sound

pub burst-reached-requires-clause-fused : goal.burst-reached-requires-clause-fused
burst-reached-requires-clause-fused c =
    subst (λ (m : ℕ). AreFused c.args.code.now m c.args.heights.now c.args.ops.now) (sym c.variables.ensures.few) c.requires.fused

pub stand-requires-clause-low : goal.stand-requires-clause-low
stand-requires-clause-low c = c.requires.low c.burst-reached.result.place c.burst-reached.result.height c.burst-reached.ensures.held

pub returns-clause-goes : goal.returns-clause-goes
returns-clause-goes c = λ t.
    let row = with_items_is c.args.self.now.words c.burst-reached.new.words (omega (arith, c.burst-reached.auto.words, c.deref_mut.ensures.len, c.args.self.now.words.ok.0)) in
    went_on t c.args.code.now c.args.self.now c.stand.new.self c.args.point c.args.place c.args.height c.burst-reached.result.place c.burst-reached.result.height
    c.burst-reached.result.end c.last_base-base.result c.variables.result c.deref_mut.result.now c.burst-reached.new.words
    c.requires.kept c.requires.frame c.stand.ensures.high c.deref_mut.ensures.value (sym (ap (λ v. v.items) c.stand.ensures.words ∙ row)) c.last_base-base.ensures.value c.variables.ensures.value
    (c.burst-reached.ensures.ends t) c.burst-reached.ensures.elsewhere c.stand.ensures.frames
