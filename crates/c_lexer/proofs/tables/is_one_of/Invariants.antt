use Rattle.std.proofs.Common.{◌≡◌, map, take, false}
use Rattle.c_lexer.specs.Words.{is_one_of}
use Rattle.c_lexer.proofs.tables.is_one_of.Given as goal

abbrev pub invariant-loop-one : goal.invariant-loop-one
invariant-loop-one l = is_one_of (map (λ t. t.now) (take l.one-index l.texts)) l.text ≡ false
