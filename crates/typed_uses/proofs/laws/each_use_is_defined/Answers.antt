use Rattle.typed_uses.proofs.DeclaredNames.{names_of_texts_are_apart}
use Rattle.typed_uses.proofs.Uses.{accepted_texts_define_their_uses, each_use_is_defined}
use Rattle.typed_uses.proofs.laws.each_use_is_defined.Goals as goal

pub returns-clause-typed : goal.returns-clause-typed
returns-clause-typed c = each_use_is_defined

pub returns-clause-apart : goal.returns-clause-apart
returns-clause-apart c = names_of_texts_are_apart

pub returns-clause-accepted : goal.returns-clause-accepted
returns-clause-accepted c = accepted_texts_define_their_uses
