-- Sets of ids as sets of names.
use Rattle.std.specs.Prelude.{ℕ, ◌<◌, ◌↔◌, Bool, false, List, All, length, Contains}
use Rattle.std.specs.Option.{option_map_or}
use Rattle.name_sets.specs.Texts.{text_of}
use Rattle.name_sets.specs.IdSet.{Holds}
use Rattle.name_sets.specs.NameLists.{is_among}
use Rattle.run_types.specs.Skeleton.{direct_use}
use Rattle.c_tree.specs.BareExpr.{Bytes}
use Rattle.skeletons.specs.declared.point.PointKind.{PointKind}
use Rattle.skeletons.specs.Meaning.{kind_of}

-- a set of ids is that of some names, by a table that has each of them
pub record IsSetOf (names : List Bytes) (set : ℕ) (list : List Bytes) : Type 0 where
  pub members : (id : ℕ) → id < length names → Holds set id ↔ Contains list (text_of names id)
  pub known : All (Contains names) list

-- the name that is used at a point, if one is, is among some
abbrev pub uses_one : List Bytes → List Bytes → PointKind → Bool
uses_one names list kind = option_map_or (is_among list) (direct_use (kind_of names kind)) false
