use Rattle.std.proofs.Common.{◌↔◌, ◌∙◌, List, IsTrue, subst}
use Rattle.c_lexer.specs.declared.token.Token.{Token}
use Rattle.fault_notes.specs.Expected.{BeginsProgram}
use Rattle.fault_notes.proofs.following.may_follow.Goals as goal

pub returns-clause-fits : goal.returns-clause-fits
returns-clause-fits c =
    subst {A = List Token} (λ ts. IsTrue c.in_ok-fits.fits ↔ BeginsProgram ts) (c.deref.ensures.value ∙ c.in_ok-push.ensures.items)
    c.in_ok-fits.ensures
