use Rattle.word_frames.specs.Seen.{IsKept}
use Rattle.word_frames_tests.proofs.driver.run.Given as goal

abbrev pub invariant-loop : goal.invariant-loop
invariant-loop l = IsKept l.frames
