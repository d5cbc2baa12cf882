use Rattle.std.proofs.Common.{◌≡◌, ◌-◌, ℕ, ap, ◌∙◌, arith}
use Rattle.word_frames.specs.Blocks.{base_of}
use Rattle.word_frames.specs.Seen.{depth_of}
use Rattle.word_frames.proofs.FrameCalls.{block_there}
use Rattle.word_frames.proofs.frames.Frames.last_base.Goals as goal

pub returns-clause-space : goal.returns-clause-space
returns-clause-space c =
    let s = c.args.self.now in
    let same : c.base.result ≡ base_of c.args.self.now.highest_stack (depth_of c.args.self.now - 1) =
    c.base.ensures.value ∙ ap (λ (n : ℕ). base_of c.args.self.now.highest_stack (n - 1)) (c.len.ensures ∙ c.args.self.now.frames.ok.0) in
    omega (arith, same, block_there s c.requires.kept c.requires.frame)
