use Rattle.std.proofs.Common.{◌≡◌, map, take, false}
use Rattle.std.specs.List.{list_any}
use Rattle.c_lexer.specs.Units.{names_header}
use Rattle.c_lexer.proofs.tables.is_some_header.Given as goal

abbrev pub invariant-loop-name : goal.invariant-loop-name
invariant-loop-name l = list_any (names_header l.text) (map (λ t. t.now) (take l.name-index l.names)) ≡ false
