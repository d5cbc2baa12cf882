use Rattle.std.proofs.Common.{◌++◌, ◌∙◌, sym, ap, if◌then◌else◌, arith, map}
use Rattle.c_semantics.specs.Evaluation.{local, choose}
use Rattle.local_evaluation.specs.Pieces.{piece_of, pending}
use Rattle.local_evaluation.specs.Work.{newest}
use Rattle.local_evaluation.proofs.StepLaws.{weight_append}
use Rattle.local_evaluation.proofs.operate.decide.Goals as goal

pub returns-in_ok-put-clause-meaning : goal.returns-in_ok-put-clause-meaning
returns-in_ok-put-clause-meaning c = λ t q scopes.
    let rest = pending t c.args.work.now.pieces.items in
    let yes = local (map (piece_of t) c.args.yes.now ++ rest) in
    let no = local (map (piece_of t) c.args.no.now ++ rest) in
    let left = newest c.pop.new.values.items in
    ap (λ vs. choose yes no vs scopes) c.in-Some.ensures
    ∙ ap (λ b. (if b then yes else no) left scopes) (sym c.is_true.ensures ∙ c.if-is_true.true)
    ∙ ap (λ ps. local ps left scopes) (sym (c.in_ok-put.ensures t))

pub returns-in_ok-put-clause-falls : goal.returns-in_ok-put-clause-falls
returns-in_ok-put-clause-falls c = λ t.
    rw (c.in_ok-put.ensures t, weight_append (map (piece_of t) c.args.yes.now) (pending t c.args.work.now.pieces.items)) (omega arith)

pub returns-in_ok-put-2-clause-meaning : goal.returns-in_ok-put-2-clause-meaning
returns-in_ok-put-2-clause-meaning c = λ t q scopes.
    let rest = pending t c.args.work.now.pieces.items in
    let yes = local (map (piece_of t) c.args.yes.now ++ rest) in
    let no = local (map (piece_of t) c.args.no.now ++ rest) in
    let left = newest c.pop.new.values.items in
    ap (λ vs. choose yes no vs scopes) c.in-Some.ensures
    ∙ ap (λ b. (if b then yes else no) left scopes) (sym c.is_true.ensures ∙ c.if-is_true.false)
    ∙ ap (λ ps. local ps left scopes) (sym (c.in_ok-put-2.ensures t))

pub returns-in_ok-put-2-clause-falls : goal.returns-in_ok-put-2-clause-falls
returns-in_ok-put-2-clause-falls c = λ t.
    rw (c.in_ok-put-2.ensures t, weight_append (map (piece_of t) c.args.no.now) (pending t c.args.work.now.pieces.items)) (omega arith)
