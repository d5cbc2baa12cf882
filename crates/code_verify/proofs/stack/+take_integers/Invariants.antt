use Rattle.code_verify.proofs.stack.+take_integers.Given as goal

abbrev pub decreases-take_integers : goal.decreases-take_integers
decreases-take_integers l = l.many
