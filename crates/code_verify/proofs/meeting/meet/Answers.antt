use Rattle.std.proofs.Common.{◌≡◌, true, take, length, option_map, Bor, ap, sym, ◌∙◌, rules}
use Rattle.code_verify.specs.declared.shape.Shape.{Shape as ShapeNode}
use Rattle.code_verify.specs.Meeting.{common, alike}
use Rattle.code_verify.specs.Seen.{shape_of}
use Rattle.code_verify.proofs.Meets.{take_common, meet_some}
use Rattle.code_verify.proofs.meeting.meet.Goals as goal

pub returns : goal.returns
returns c =
    let old = shape_of c.in-Some.old.now in
    let s = shape_of c.args.shape in
    let same : alike old s ≡ true = first_of (cc, search rules) in
    meet_some (option_map (λ (x : Bor ShapeNode). shape_of x.now) c.args.there) old s c.truncate.new.self.items
    (ap (option_map (λ (x : Bor ShapeNode). shape_of x.now)) c.in-Some.is) same
    (c.truncate.ensures.items
    ∙ ap (λ n. take n s.variables) (c.common-many.ensures.value ∙ ap (λ a. length (common a c.as_slice-2.result.now)) c.as_slice.ensures.value ∙ ap (λ b. length (common old.variables b)) c.as_slice-2.ensures.value)
    ∙ take_common old.variables s.variables)
