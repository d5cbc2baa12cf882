use Rattle.std.proofs.Common.{◌≡◌, ◌+◌, ◌-◌, ℕ, length, take, sym, ap, ◌∙◌, arith}
use Rattle.std.proofs.lemmas.List.{length-take-le}
use Rattle.word_frames.specs.declared.frame.Frame.{Frame}
use Rattle.word_frames.specs.Blocks.{base_of, low_of}
use Rattle.word_frames.specs.Seen.{depth_of, frame_at}
use Rattle.word_frames.proofs.FrameCalls.{left, left_frames, read_innermost}
use Rattle.word_frames.proofs.frames.Frames.leave.Goals as goal

pub returns-clause-leaves : goal.returns-clause-leaves
returns-clause-leaves c = λ t.
    let old = c.args.self.now in
    let popped = c.pop.new.self.items in
    let f = c.index-frame.result.now in
    let deep : depth_of c.args.self.now ≡ c.args.self.now.frames.len = sym c.args.self.now.frames.ok.0 in
    let rest : c.pop.new.self.items ≡ take (depth_of c.args.self.now - 1) c.args.self.now.frames.items = c.pop.ensures.rest ∙ ap (λ (n : ℕ). take (n - 1) c.args.self.now.frames.items) (sym deep) in
    let few : length c.pop.new.self.items ≡ depth_of c.args.self.now - 1 = ap length rest ∙ length-take-le (depth_of c.args.self.now - 1) c.args.self.now.frames.items (omega arith) in
    let last : c.len-last.result - 1 ≡ length c.pop.new.self.items - 1 = omega (arith, c.len-last.ensures, c.pop.new.self.ok.0) in
    let read = read_innermost c.pop.new.self.items (c.len-last.result - 1) c.index-frame.result.now c.index-frame.ensures (omega (arith, few, c.requires.frames)) last in
    let is = left_frames c.args.self.now.frames.items c.pop.new.self.items c.stand.new.self.frames.items c.index-frame.result.now c.requires.frames rest read c.stand.ensures.frames in
    let at : c.last_base.result + c.variables.result + c.index-frame.result.now.height
    ≡ low_of c.args.self.now.highest_stack (depth_of c.args.self.now - 2) + (frame_at c.args.self.now (depth_of c.args.self.now - 2)).height =
    ap (λ (b : ℕ). b + c.variables.result + c.index-frame.result.now.height) (c.last_base.ensures.value ∙ ap (λ (n : ℕ). base_of c.args.self.now.highest_stack n) (omega (arith, few)))
    ∙ ap (λ (m : ℕ). base_of c.args.self.now.highest_stack (depth_of c.args.self.now - 2) + m + c.index-frame.result.now.height) c.variables.ensures.value
    ∙ ap (λ (g : Frame). low_of c.args.self.now.highest_stack (depth_of c.args.self.now - 2) + g.height) is.0 in
    left t c.args.self.now c.stand.new.self c.newest-word.result (c.last_base.result + c.variables.result + c.index-frame.result.now.height)
    c.requires.kept c.requires.frames c.requires.word c.requires.space c.newest-word.ensures at c.stand.ensures.high (ap (λ v. v.items) c.stand.ensures.words) is.1
