-- Which texts aren't patches of the versions so far.
use Rattle.std.specs.Prelude.{ℕ, suc, nat_le, nat_lt, Bool, ◌||◌, List, [], ◌∷◌, ◌++◌, flat_map, length, Option, Some, None, option_map, if◌then◌else◌}
use Rattle.std.specs.Option.{option_or}
use Rattle.c_tree.specs.BareExpr.{Bytes}
use Rattle.c_tree.specs.BareDef.{BareDef}
use Rattle.c_tree.specs.declared.def.Def.{Def}
use Rattle.name_sets.specs.Limit.{most_names}
use Rattle.name_sets.specs.NameLists.{name_set}
use Rattle.c_semantics.specs.Texts.{names}
use Rattle.source_model.specs.declared.patch.NotPatch.{NotPatch}
use Rattle.source_model.specs.declared.patch.NotPatch.TheVariants.{Versions, Names, Kind, Transform, StoreFull}
use Rattle.c_semantics.specs.SourceTexts.{Text}
use Rattle.c_semantics.specs.Store.{Body, brought_bodies, all_check_ins, all_tokens}
use Rattle.patch_faults.specs.Sorts.{other_kind}
use Rattle.patch_faults.specs.TransformFaults.{first_transform_fault, place_of}

-- the limits; the names have that of `name_sets`
abbrev pub version_limit : ℕ
version_limit = 64

abbrev pub check_in_limit : ℕ
check_in_limit = 63000

abbrev pub token_limit : ℕ
token_limit = 131072

-- the definitions of the last of some texts
abbrev pub last_definitions : List Text → List BareDef
last_definitions [] = []
last_definitions (text ∷ []) = text.definitions
last_definitions (text ∷ other ∷ texts) = last_definitions (other ∷ texts)

-- the definitions in its tree, with their places
abbrev pub last_tree : List Text → List Def
last_tree [] = []
last_tree (text ∷ []) = text.tree.definitions
last_tree (text ∷ other ∷ texts) = last_tree (other ∷ texts)

-- all names of some texts
abbrev pub all_names : List Text → List Bytes
all_names texts = name_set (flat_map (λ t. names t.definitions) texts)

abbrev pub is_full : List Body → Bool
is_full bodies = nat_lt check_in_limit (all_check_ins bodies) || nat_lt token_limit (all_tokens bodies)

-- a cause where a test holds
abbrev pub cause_if : Bool → NotPatch → Option NotPatch
cause_if test cause = if test then Some cause else None

-- the first cause for which a text isn't a patch, where there is one, over the bodies so far
abbrev pub not_patch : List Body → List Text → Text → Option NotPatch
not_patch bodies versions q =
    let p = last_definitions versions in
    let n = length versions in
    option_or (cause_if (nat_le version_limit n) Versions)
    (option_or (cause_if (nat_lt most_names (length (all_names (versions ++ q ∷ [])))) Names)
    (option_or (option_map Kind (other_kind p q.definitions))
    (option_or (option_map (λ f. Transform (place_of f)) (first_transform_fault (last_tree versions) q.tree.definitions))
    (cause_if (is_full (bodies ++ brought_bodies (suc n) p q)) StoreFull))))
