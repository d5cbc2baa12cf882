use Rattle.std.proofs.Common.{Err, ◌++◌, map, not, ap, ◌∙◌}
use Rattle.std.proofs.lemmas.Result.{err_from_is_err_and}
use Rattle.code_store.specs.Limits.{are_too_many}
use Rattle.code_store.specs.Stored.{meant_body}
use Rattle.installed_versions.proofs.Firsts.{bodies_fault, too_many}
use Rattle.installed_versions.proofs.installed.store_of.Goals as goal

pub returns-in_err-bodies-clause-fault : goal.returns-in_err-bodies-clause-fault
returns-in_err-bodies-clause-fault c =
    let p = err_from_is_err_and c.from_residual.result c.from_residual.ensures.1 in
    rw (p.1, p.2) (bodies_fault c.args.names.now c.args.text.now c.in_err-bodies.field-0.0 (λ is. c.in_err-bodies.ensures.unknown (ap Err is)))

pub returns-then-not-has_room-clause-fault : goal.returns-then-not-has_room-clause-fault
returns-then-not-has_room-clause-fault c =
    let table = c.args.names.now in
    let bodies = c.in_ok-bodies.bodies.items in
    too_many c.args.text.now (map (meant_body table) bodies) c.has_room.result
    (c.has_room.ensures table
    ∙ ap (λ bs. not (are_too_many (map (meant_body table) c.new-store.result ++ map (meant_body table) bs))) c.deref.ensures.value
    ∙ ap (λ old. not (are_too_many (map (meant_body table) old ++ map (meant_body table) bodies))) c.new-store.ensures.none)
    c.if-not-has_room.true c.in_ok-bodies.ensures.bodies
