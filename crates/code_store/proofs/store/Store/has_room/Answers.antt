use Rattle.std.proofs.Common.{◌≡◌, map, ap, ◌∙◌, arith}
use Rattle.std.specs.Prelude.{count_by}
use Rattle.skeletons.specs.Meaning.{meant, point_of}
use Rattle.c_semantics.specs.Skeletons.{check_ins, is_check_in_kind}
use Rattle.c_semantics.specs.Store.{Body}
use Rattle.code_store.specs.Stored.{meant_body}
use Rattle.code_store.proofs.Room.{sum_at, past_check_ins, past_tokens}
use Rattle.code_store.proofs.store.Store.has_room.Goals as goal
use Rattle.code_store.proofs.store.Store.has_room.Goals.{then-more-check_ins-via-then-more-check_ins, then-more-check_ins-via-else-more-check_ins+then-more_tokens-tokens}

pub returns-then-more-check_ins : goal.returns-then-more-check_ins
returns-then-more-check_ins c = λ names.
    let m = meant_body names in
    let old = map m c.args.self.now in
    let bodies = c.args.bodies.now in
    let i = c.loop-body.body-index in
    let body = c.body-item.result in
    elim c.then-more-check_ins.branch [
      | then-more-check_ins-via-then-more-check_ins w ↦
          let part = sum_at (λ (b : Body). check_ins b.skeleton) m bodies i body (omega arith) c.body-item.is in
          let so_far = c.loop-body.invariant.check_ins_are names in
          let own : c.check_ins_among-more.result ≡ check_ins (meant names body.skeleton) =
          c.check_ins_among-more.ensures.number names
          ∙ ap (λ ps. count_by (λ p. is_check_in_kind p.kind) (map (point_of names) ps)) c.deref.ensures.value
          in
          past_check_ins old (map m bodies) (omega arith)
      | then-more-check_ins-via-else-more-check_ins+then-more_tokens-tokens w ↦
          let part = sum_at (λ (b : Body). b.tokens) m bodies i body (omega arith) c.body-item.is in
          let so_far = c.loop-body.invariant.tokens_are names in
          past_tokens old (map m bodies) (omega arith)
    ]
