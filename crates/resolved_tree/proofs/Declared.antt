-- The definition that a text has for a full name is that of the name in the definitions of `c_semantics`.
use Rattle.std.proofs.Common.{◌≡◌, Bool, true, false, List, [], ◌∷◌, map, Option, None, Some, option_map, option_copied, Bor, bytes_eq, refl, ap, ◌∙◌, if◌then◌else◌}
use Rattle.std.specs.Option.{option_map_or}
use Rattle.c_tree.specs.BareExpr.{Bytes}
use Rattle.c_tree.specs.Bare.{bare_def, bare_kind}
use Rattle.c_tree.specs.declared.def.Def.{Def}
use Rattle.c_tree.specs.declared.def.DefKind.{DefKind}
use Rattle.c_tree.specs.declared.def.DefKind.TheVariants as kind
use Rattle.c_definitions.specs.Lookup.{full_name, declared_as}
use Rattle.c_semantics.specs.Texts.{defines, definition}

defines_alike : (name : Bytes) (made : DefKind) → option_map_or (bytes_eq name) (full_name made) false ≡ defines name (bare_kind made)
defines_alike name (kind.Struct tag members) = refl
defines_alike name (kind.Forward tag) = refl
defines_alike name (kind.Mutex own) = refl
defines_alike name (kind.Function f) = refl
defines_alike name (kind.Prototype p) = refl
defines_alike name (kind.Global d) = refl
defines_alike name (kind.Array a) = refl
defines_alike name (kind.TransformStruct t) = refl
defines_alike name (kind.TransformGlobal global e) = refl

pub with_copied : {A B : Type 0} (f : A → B) (r : Option (Bor A)) → option_map (λ x. f x.now) r ≡ option_map f (option_copied r)
with_copied f None = refl
with_copied f (Some x) = refl

pub declared_is : (text : List Def) (name : Bytes) → option_map bare_def (declared_as text name) ≡ definition (map bare_def text) name
declared_is [] name = refl
declared_is (d ∷ text) name =
    ap (λ b. option_map bare_def (if b then Some d else declared_as text name)) (defines_alike name d.kind)
    ∙ by (defines name (bare_def d)) (declared_is text name)
  where
    by : (b : Bool) → option_map bare_def (declared_as text name) ≡ definition (map bare_def text) name →
        option_map bare_def (if b then Some d else declared_as text name) ≡ (if b then Some (bare_def d) else definition (map bare_def text) name)
    by true rest = refl
    by false rest = rest
