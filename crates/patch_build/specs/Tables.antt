-- Tables of names to which texts are added, for the contracts of private functions.
use Rattle.std.specs.Prelude.{◌<◌, List, [], ◌∷◌, length}
use Rattle.name_sets.specs.Limit.{most_names}
use Rattle.name_sets.specs.Texts.{with_text}
use Rattle.c_tree.specs.BareExpr.{Bytes}
use Rattle.source_model.specs.declared.patch.NotPatch.TheVariants.{Names}
use Rattle.patch_build.specs.declared.fault.PatchFault.{PatchFault}
use Rattle.patch_build.specs.declared.fault.PatchFault.TheVariants.{Not, Memory}

-- a table with texts added in their order, each unless it is there
abbrev pub with_texts : List Bytes → List Bytes → List Bytes
with_texts names [] = names
with_texts names (text ∷ texts) = with_texts (with_text names text) texts

-- why there is no table of these texts: they are too many, or there is no memory
abbrev pub IsNamesFault : List Bytes → PatchFault → Type 0
IsNamesFault texts (Not Names) = most_names < length texts
IsNamesFault texts Memory = Unit {0}
IsNamesFault texts _ = ⊥
