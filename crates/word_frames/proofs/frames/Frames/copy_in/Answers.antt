use Rattle.std.proofs.Common.{◌≡◌, ◌-◌, sym, ap, ◌∙◌, arith}
use Rattle.std.proofs.lemmas.List.{with_items_is}
use Rattle.word_frames.specs.declared.frame.Frame.{Frame}
use Rattle.word_frames.specs.Seen.{depth_of, innermost}
use Rattle.word_frames.proofs.FrameCalls.{read_innermost, state_set}
use Rattle.word_frames.proofs.frames.Frames.copy_in.Goals as goal

pub returns-clause-set : goal.returns-clause-set
returns-clause-set c = λ t.
    let old = c.args.self.now in
    let row = with_items_is old.words c.copy.new.to (omega (arith, c.copy.auto.to, c.deref_mut.ensures.len, old.words.ok.0)) in
    let deep : c.len-last.result - 1 ≡ depth_of old - 1 = omega (arith, c.len-last.ensures, old.frames.ok.0) in
    let here = read_innermost old.frames.items (c.len-last.result - 1) c.index.result.now c.index.ensures c.requires.frame deep in
    let stopped : c.index.result.now.point ≡ (innermost old).point = ap (λ (f : Frame). f.point) here in
    state_set t old c.stand.new.self c.index.result.now.point c.args.place c.args.height c.last_base-base.result c.variables.result c.deref_mut.result.now c.copy.new.to c.args.row.now
    c.requires.kept c.requires.frame c.stand.ensures.high c.deref_mut.ensures.value (sym (ap (λ v. v.items) c.stand.ensures.words ∙ row)) c.last_base-base.ensures.value c.variables.ensures.value stopped
    c.copy.ensures.copied c.copy.ensures.elsewhere c.stand.ensures.frames
