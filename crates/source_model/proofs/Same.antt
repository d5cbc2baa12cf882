-- The test of equal bodies says equality.
use Rattle.std.proofs.Common.{true, ◌≡◌, subst}
use Rattle.c_semantics.specs.Same.{same_stmts}
use Rattle.source_model.specs.ChangeLaws.{SameDecides}
use Rattle.definition_laws.proofs.SameTrees.{blocks_same, block_alike}

pub same_decides : SameDecides
same_decides x y = (blocks_same x y, λ is. subst (λ z. same_stmts x z ≡ true) is (block_alike x))
