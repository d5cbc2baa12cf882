use Rattle.std.proofs.Common.{◌≡◌, ◌↔◌, ◌∷◌, ◌++◌, ◌∙◌, [], List, IsTrue, length, append_assoc, append-nil, arith, sym, ap, subst, refl}
use Rattle.std.specs.Vec.Iter.{into_iter_items}
use Rattle.c_lexer.specs.declared.token.Token.{Token}
use Rattle.fault_notes.specs.Expected.{AreTried, BeginsProgram}
use Rattle.fault_notes.proofs.Trying.{none_left, tried_more}
use Rattle.fault_notes.proofs.following.expected.Goals as goal

pub loop-candidate-init : goal.loop-candidate-init
loop-candidate-init c =
    let given = c.into_iter-candidate-iterator.ensures.into_iter_gives in
    record {
      rest = sym given.0;
      left = let long = c.args.candidates.ok.0 in let items = ap length given.0 in let many = given.1 in omega (arith, long, items, many);
      tried = rw c.new-fits.ensures.items tt;
      same = refl;
    }

pub loop-candidate-preserved : goal.loop-candidate-preserved
loop-candidate-preserved c =
    let at = c.loop-candidate in
    let one = c.in-Some.candidate in
    let steps : into_iter_items at.candidate-iterator ≡ one ∷ into_iter_items c.next.new.self = c.in-Some.ensures.steps.0 in
    record {
      rest = at.invariant.rest ∙ ap (λ l. at.yielded ++ l) steps ∙ sym (append_assoc at.yielded (one ∷ []) _);
      left = let was = at.invariant.left in let gone = c.in-Some.ensures.steps.1 in let short = ap length steps in omega arith;
      tried = rw c.in_ok-push.ensures.items (tried_more c.args.before.items at.yielded at.fits.items one c.in_ok-may_follow.field-0
          at.invariant.tried
          (subst {A = List Token} (λ ts. IsTrue c.in_ok-may_follow.field-0 ↔ BeginsProgram (ts ++ one ∷ [])) at.invariant.same
          c.in_ok-may_follow.ensures.fits));
      same = c.in_ok-may_follow.ensures.same ∙ at.invariant.same;
    }

pub returns : goal.returns
returns c =
    let at = c.loop-candidate in
    let empty : into_iter_items at.candidate-iterator ≡ [] = none_left _ (sym at.invariant.left ∙ c.in-None.ensures.steps.0) in
    subst {A = List Token} (λ ts. AreTried c.args.before.items ts at.fits.items)
    (sym (at.invariant.rest ∙ ap (λ l. at.yielded ++ l) empty ∙ append-nil at.yielded)) at.invariant.tried
