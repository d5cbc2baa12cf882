use Rattle.std.proofs.Common.{◌≡◌, vec_len}
use Rattle.code_verify.specs.Seen.{shapes_of, function_code}
use Rattle.code_verify.proofs.Passes.{Known}
use Rattle.code_verify.proofs.verifier.shapes.Given as goal

abbrev pub invariant-loop-place : goal.invariant-loop-place
invariant-loop-place l =
    (vec_len l.known ≡ vec_len l.body.code) × Known (function_code l.source l.body) (shapes_of l.known.items) l.place l.place
