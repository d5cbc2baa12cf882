use Rattle.std.proofs.Common.{◌≡◌, ◌∷◌, ap, sym, ◌∙◌, inl, inr, if◌then◌else◌, arith}
use Rattle.c_semantics.specs.Pieces.{Nothing}
use Rattle.c_semantics.specs.Evaluation.{ways, local}
use Rattle.local_evaluation.specs.declared.work.Jump.TheVariants.{Break, Continue}
use Rattle.local_evaluation.specs.Pieces.{piece_of, pending}
use Rattle.local_evaluation.specs.Weights.{weight}
use Rattle.local_evaluation.specs.Work.{scopes_of, way}
use Rattle.local_evaluation.proofs.Leaving.{way_closes, no_way, after_body_of_loop, after_body_of_do, passes}
use Rattle.local_evaluation.proofs.jump.leave.Goals as goal

pub returns-then-not-close-clause-meaning : goal.returns-then-not-close-clause-meaning
returns-then-not-close-clause-meaning c = λ t q values.
    let j = c.args.jump in
    let rest = pending t c.next.new.pieces.items in
    let scopes = scopes_of t c.loop-piece.scopes.items in
    c.loop-piece.invariant.meaning t values
    ∙ ap (λ ps. way j (ways ps) values scopes) (c.in-Some.ensures.first t)
    ∙ ap (λ p. way j (ways (piece_of t p ∷ rest)) values scopes) c.in-Close.is
    ∙ ap (λ f. f values scopes) (way_closes j (ways rest))
    ∙ c.close.ensures t (way j (ways rest)) values
    ∙ ap (λ b. if b then way j (ways rest) values (scopes_of t c.close.new.scopes.items) else Nothing) c.if-not-close.true

pub returns-then-not-close-clause-falls : goal.returns-then-not-close-clause-falls
returns-then-not-close-clause-falls c = λ t.
    let h = ap weight (c.in-Some.ensures.first t) in let i = c.loop-piece.invariant.falls t in omega arith

pub loop-piece-preserved-else-not-close : goal.loop-piece-preserved-else-not-close
loop-piece-preserved-else-not-close c = record {
  meaning = λ t values.
      let j = c.args.jump in
      let rest = pending t c.next.new.pieces.items in
      let scopes = scopes_of t c.loop-piece.scopes.items in
      c.loop-piece.invariant.meaning t values
      ∙ ap (λ ps. way j (ways ps) values scopes) (c.in-Some.ensures.first t)
      ∙ ap (λ p. way j (ways (piece_of t p ∷ rest)) values scopes) c.in-Close.is
      ∙ ap (λ f. f values scopes) (way_closes j (ways rest))
      ∙ c.close.ensures t (way j (ways rest)) values
      ∙ ap (λ b. if b then way j (ways rest) values (scopes_of t c.close.new.scopes.items) else Nothing) c.if-not-close.false;
  falls = λ t. let h = ap weight (c.in-Some.ensures.first t) in let i = c.loop-piece.invariant.falls t in omega arith;
}

pub returns-in_ok-put-in-AfterBody-clause-meaning : goal.returns-in_ok-put-in-AfterBody-clause-meaning
returns-in_ok-put-in-AfterBody-clause-meaning c = λ t q values.
    let rest = pending t c.next.new.pieces.items in
    let scopes = scopes_of t c.loop-piece.scopes.items in
    let on : way Continue (ways (piece_of t c.in-Some.piece ∷ rest)) ≡ local (piece_of t c.in-Some.piece ∷ rest) =
    elim c.in-AfterBody.is [ inl h ↦ rw h.1 (after_body_of_loop t h.0 rest).0 | inr h ↦ rw h.3 (after_body_of_do t h.0 h.1 h.2 rest).0 ]
    in
    c.loop-piece.invariant.meaning t values
    ∙ ap (λ ps. way c.args.jump (ways ps) values scopes) (c.in-Some.ensures.first t)
    ∙ ap (λ j. way j (ways (piece_of t c.in-Some.piece ∷ rest)) values scopes) c.in-Continue.is
    ∙ ap (λ f. f values scopes) on
    ∙ ap (λ ps. local ps values scopes) (sym (c.in_ok-put-in-AfterBody.ensures t))

pub returns-in_ok-put-in-AfterBody-clause-falls : goal.returns-in_ok-put-in-AfterBody-clause-falls
returns-in_ok-put-in-AfterBody-clause-falls c = λ t.
    let h = ap weight (c.in-Some.ensures.first t) in
    let i = c.loop-piece.invariant.falls t in
    let k = ap weight (c.in_ok-put-in-AfterBody.ensures t) in
    omega arith

pub returns-in_default-jump-clause-meaning : goal.returns-in_default-jump-clause-meaning
returns-in_default-jump-clause-meaning c = λ t q values.
    let rest = pending t c.next.new.pieces.items in
    let scopes = scopes_of t c.loop-piece.scopes.items in
    let on : way Break (ways (piece_of t c.in-Some.piece ∷ rest)) ≡ local rest =
    elim c.in-AfterBody.is [ inl h ↦ rw h.1 (after_body_of_loop t h.0 rest).1 | inr h ↦ rw h.3 (after_body_of_do t h.0 h.1 h.2 rest).1 ]
    in
    c.loop-piece.invariant.meaning t values
    ∙ ap (λ ps. way c.args.jump (ways ps) values scopes) (c.in-Some.ensures.first t)
    ∙ ap (λ j. way j (ways (piece_of t c.in-Some.piece ∷ rest)) values scopes) c.in_default-jump.is
    ∙ ap (λ f. f values scopes) on

pub returns-in_default-jump-clause-falls : goal.returns-in_default-jump-clause-falls
returns-in_default-jump-clause-falls c = λ t.
    let h = ap weight (c.in-Some.ensures.first t) in let i = c.loop-piece.invariant.falls t in omega arith

pub loop-piece-preserved : goal.loop-piece-preserved
loop-piece-preserved c = record {
  meaning = λ t values.
      let rest = pending t c.next.new.pieces.items in
      let scopes = scopes_of t c.loop-piece.scopes.items in
      c.loop-piece.invariant.meaning t values
      ∙ ap (λ ps. way c.args.jump (ways ps) values scopes) (c.in-Some.ensures.first t)
      ∙ ap (λ f. f values scopes)
      (passes c.args.jump t c.in-Some.piece rest c.in_default-piece.not-Close c.in_default-piece.not-AfterBody c.in_default-piece.not-Until);
  falls = λ t. let h = ap weight (c.in-Some.ensures.first t) in let i = c.loop-piece.invariant.falls t in omega arith;
}

pub returns-clause-meaning : goal.returns-clause-meaning
returns-clause-meaning c = λ t q values.
    let scopes = scopes_of t c.loop-piece.scopes.items in
    c.loop-piece.invariant.meaning t values
    ∙ ap (λ ps. way c.args.jump (ways ps) values scopes) ((c.in_default.ensures.first t).0)
    ∙ ap (λ f. f values scopes) (no_way c.args.jump)

pub returns-clause-falls : goal.returns-clause-falls
returns-clause-falls c = λ t.
    let h = ap weight ((c.in_default.ensures.first t).1) in omega arith
