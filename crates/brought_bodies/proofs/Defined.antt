-- A text defines the names that its table of definitions finds.
use Rattle.std.proofs.Common.{◌≡◌, Bool, true, false, List, [], ◌∷◌, map, Option, None, Some, option_copied, Bor, refl, ap, ◌∙◌}
use Rattle.std.specs.Prelude.{◌||◌, bytes_eq, is_some, if◌then◌else◌}
use Rattle.std.specs.Option.{option_map_or}
use Rattle.std.specs.List.{cons_option}
use Rattle.name_sets.specs.NameLists.{is_among}
use Rattle.c_tree.specs.BareExpr.{Bytes}
use Rattle.c_tree.specs.Bare.{bare_def, bare_kind}
use Rattle.c_tree.specs.declared.def.Def.{Def}
use Rattle.c_tree.specs.declared.def.DefKind.{DefKind}
use Rattle.c_tree.specs.declared.def.DefKind.TheVariants as kind
use Rattle.c_definitions.specs.Lookup.{full_name, declared_as}
use Rattle.c_semantics.specs.Texts.{defined, names}

same_name : (made : DefKind) → full_name made ≡ defined (bare_kind made)
same_name (kind.Struct tag members) = refl
same_name (kind.Forward tag) = refl
same_name (kind.Mutex own) = refl
same_name (kind.Function f) = refl
same_name (kind.Prototype p) = refl
same_name (kind.Global d) = refl
same_name (kind.Array a) = refl
same_name (kind.TransformStruct t) = refl
same_name (kind.TransformGlobal global e) = refl

found_one : (b : Bool) (d : Def) (o : Option Def) (later : Bool) → is_some o ≡ later → is_some (if b then Some d else o) ≡ (b || later)
found_one true d o later e = refl
found_one false d o later e = e

pub found_among : (text : List Def) (name : Bytes) → is_some (declared_as text name) ≡ is_among (names (map bare_def text)) name
found_among [] name = refl
found_among (d ∷ text) name =
    ap (λ o. is_some (if option_map_or (bytes_eq name) o false then Some d else declared_as text name)) (same_name d.kind)
    ∙ by (defined (bare_def d)) (found_among text name)
  where
    by : (o : Option Bytes) → is_some (declared_as text name) ≡ is_among (names (map bare_def text)) name
        → is_some (if option_map_or (bytes_eq name) o false then Some d else declared_as text name)
        ≡ is_among (cons_option o (names (map bare_def text))) name
    by None rest = rest
    by (Some z) rest = found_one (bytes_eq name z) d (declared_as text name) (is_among (names (map bare_def text)) name) rest

pub copied_some : {A : Type 0} (r : Option (Bor A)) → is_some r ≡ is_some (option_copied r)
copied_some None = refl
copied_some (Some x) = refl
