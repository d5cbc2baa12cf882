-- Words are numbers of names and formats in the list of their texts.
use Rattle.std.specs.Prelude.{List, [], slice_index_or}
use Rattle.c_tree.specs.BareExpr.{Bytes}
use Rattle.resolved_tree.specs.declared.words.Word.{Word}

-- the text of a word; a number that isn't in the list has the empty one
abbrev pub text_of : List Bytes → Word → Bytes
text_of texts word = slice_index_or texts word.0 []
