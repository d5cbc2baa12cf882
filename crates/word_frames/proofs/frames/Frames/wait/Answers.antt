use Rattle.std.proofs.Common.{◌≡◌, ◌-◌, ap, ◌∙◌, arith}
use Rattle.word_frames.specs.declared.frame.Frame.{Frame}
use Rattle.word_frames.specs.Seen.{depth_of, innermost}
use Rattle.word_frames.specs.Changes.{with_innermost}
use Rattle.word_frames.proofs.FrameCalls.{read_innermost, waited, waits_there}
use Rattle.word_frames.proofs.frames.Frames.wait.Goals as goal

stands : (c : goal.After-stand) → c.stand.new.self.frames.items ≡ with_innermost c.args.self.now (record (innermost c.args.self.now) { point = c.args.point; place = c.args.place; height = (innermost c.args.self.now).height - c.args.count })
stands c =
    let deep : c.len-last.result - 1 ≡ depth_of c.args.self.now - 1 = omega (arith, c.len-last.ensures, c.args.self.now.frames.ok.0) in
    let here = read_innermost c.args.self.now.frames.items (c.len-last.result - 1) c.index.result.now c.index.ensures c.requires.frame deep in
    c.stand.ensures.frames ∙ ap (λ (f : Frame). with_innermost c.args.self.now (record (innermost c.args.self.now) { point = c.args.point; place = c.args.place; height = f.height - c.args.count })) here

pub returns-clause-there : goal.returns-clause-there
returns-clause-there c = waits_there c.args.self.now c.stand.new.self c.args.count c.args.point c.args.place c.requires.kept c.requires.frame c.requires.words c.stand.ensures.high (stands c)

pub returns-clause-waits : goal.returns-clause-waits
returns-clause-waits c = λ t. waited t c.args.self.now c.stand.new.self c.args.count c.args.point c.args.place c.requires.kept c.requires.frame c.requires.words c.stand.ensures.high c.stand.ensures.words (stands c)
