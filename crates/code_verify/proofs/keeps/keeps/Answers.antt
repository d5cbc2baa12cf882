use Rattle.std.proofs.Common.{◌≡◌, ℕ, suc, ◌-◌, drop, vec_len, ap, ◌∙◌, arith}
use Rattle.bytecode.specs.Seen.{code_of}
use Rattle.code_kinds.specs.WellFormed.{kept_from}
use Rattle.code_verify.proofs.Edges.{noted_down}
use Rattle.code_verify.proofs.keeps.keeps.Goals as goal

pub loop-place-preserved : goal.loop-place-preserved
loop-place-preserved c =
    let p = c.loop-place.place in
    let one : suc (p - 1) ≡ p = omega arith in (
      omega arith,
      c.note.ensures.length ∙ c.loop-place.invariant.1,
      λ t q h. noted_down t c.args.code.now c.loop-place.keeps.items c.note.new.keeps.items p (p - 1) (vec_len c.loop-place.keeps) c.instruction_at.result q
          one c.loop-place.invariant.1 (c.instruction_at.ensures t) c.loop-place.invariant.2 c.note.ensures.keeps h,
    )

pub returns-clause-keeps : goal.returns-clause-keeps
returns-clause-keeps c = λ t q h.
    let zero : c.loop-place.place ≡ 0 = omega arith in
    c.loop-place.invariant.2 t q h ∙ ap (λ p. kept_from (drop p (code_of t c.args.code.now)) p q) zero
