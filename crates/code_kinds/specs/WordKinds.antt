-- Which word a value of a type is.
use Rattle.std.specs.Prelude.{Bool, true, false}
use Rattle.c_tree.specs.BareExpr.{BareType, Integer as IntegerType, Handle as HandleType, Thread as ThreadType}
use Rattle.bytecode.specs.declared.kind.ValueKind.{ValueKind}
use Rattle.bytecode.specs.declared.kind.ValueKind.TheVariants as value_kind
use Rattle.code_kinds.specs.declared.kind.WordKind.{WordKind}
use Rattle.code_kinds.specs.declared.kind.WordKind.TheVariants.{Integer, Handle, Thread}

abbrev pub word_kind : BareType → WordKind
word_kind (IntegerType k) = Integer
word_kind (HandleType tag) = Handle
word_kind ThreadType = Thread

abbrev pub kind_of_value : ValueKind → WordKind
kind_of_value (value_kind.Number k) = Integer
kind_of_value value_kind.Handle = Handle
kind_of_value value_kind.Thread = Thread

-- whether two kinds are one
abbrev pub same_kind : WordKind → WordKind → Bool
same_kind Integer Integer = true
same_kind Handle Handle = true
same_kind Thread Thread = true
same_kind _ _ = false
