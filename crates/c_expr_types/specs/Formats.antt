-- The arguments that a format of `printf` takes (7.21.6.1).
use Rattle.std.specs.Prelude.{Bool, true, false, ◌&&◌, List, [], ◌∷◌, Option, Some, None}
use Rattle.c_ints.specs.declared.kind.Kind.{Kind}
use Rattle.c_ints.specs.Kind.{promoted}
use Rattle.c_format.specs.declared.reading.Reading.TheVariants.{Text}
use Rattle.c_format.specs.Formats.{kinds}
use Rattle.c_tree.specs.BareExpr.{Bytes}
use Rattle.c_expr_types.specs.declared.found.Part.{Part}
use Rattle.c_expr_types.specs.Found.{is_integer, has_value, same_kind, kind_of_type}

-- an integer that is of a kind once it is promoted (6.5.2.2p7)
abbrev pub is_promoted_to : Kind → Part → Bool
is_promoted_to kind part =
    has_value (λ t. is_integer t && same_kind (promoted (kind_of_type (Some t))) kind) part.found

-- the arguments are as many as the kinds, and each is of its kind
abbrev pub are_taken : List Kind → List Part → Bool
are_taken [] [] = true
are_taken (kind ∷ kinds) (argument ∷ arguments) = is_promoted_to kind argument && are_taken kinds arguments
are_taken _ _ = false

-- and there are kinds
abbrev pub take_all : Option (List Kind) → List Part → Bool
take_all None arguments = false
take_all (Some kinds) arguments = are_taken kinds arguments

-- the format fits its arguments
abbrev pub fits_format : Bytes → List Part → Bool
fits_format format arguments = take_all (kinds Text format) arguments
