-- How many bytes prints write at most (7.21.6.1), whatever their arguments.
use Rattle.std.specs.Prelude.{ℕ, ◌+◌, ◌^◌, Bool, List, [], ◌∷◌, if◌then◌else◌}
use Rattle.c_ints.specs.declared.kind.Kind.{Kind}
use Rattle.c_format.specs.declared.reading.Reading.{Reading}
use Rattle.c_format.specs.declared.reading.Reading.TheVariants.{Text}
use Rattle.c_format.specs.Formats.{read, taken}
use Rattle.c_tree.specs.BareExpr.{Bytes}
use Rattle.source_model.specs.Printing.{is_literal}
use Rattle.resolved_tree.specs.Nodes.{Table, word}
use Rattle.word_data.specs.declared.stop.SharedStop.{SharedStop}
use Rattle.word_data.specs.declared.stop.SharedStop.TheVariants.{Print}

-- an integer: those of -9223372036854775808
abbrev pub longest_number : ℕ
longest_number = 20

-- one byte of a format, by the kind that its conversion takes there, and by whether it stands for itself
abbrev pub longest_for : List Kind → Bool → ℕ
longest_for [] literal = if literal then 1 else 0
longest_for (kind ∷ kinds) literal = longest_number

-- a format, from one byte on
abbrev pub longest_from : Reading → Bytes → ℕ
longest_from reading [] = 0
longest_from reading (c ∷ cs) = longest_for (taken reading c) (is_literal reading c) + longest_from (read reading c) cs

-- a format
abbrev pub longest_print : Bytes → ℕ
longest_print = longest_from Text

-- a stop
abbrev pub longest_of : Table → SharedStop → ℕ
longest_of t (Print format count) = longest_print (word t format)
longest_of t _ = 0

-- so many bytes at most one print of a run may write
abbrev pub most_printed : ℕ
most_printed = 2 ^ 31
