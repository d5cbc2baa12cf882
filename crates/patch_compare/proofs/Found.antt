-- The definition that a text has for a full name is that of the name in the definitions of `c_semantics`.
use Rattle.std.proofs.Common.{◌≡◌, Bool, true, false, List, [], ◌∷◌, ◌||◌, map, Option, None, Some, option_map, option_copied, Bor, bytes_eq, IfSome, refl, sym, ap, subst, ◌∙◌, if◌then◌else◌}
use Rattle.std.specs.Option.{option_map_or, is_some}
use Rattle.std.specs.List.{cons_option}
use Rattle.std.proofs.lemmas.Slice.Eq.{bytes_eq-Decides}
use Rattle.c_tree.specs.BareExpr.{Bytes}
use Rattle.c_tree.specs.BareDef.{BareDef}
use Rattle.c_tree.specs.Bare.{bare_def, bare_kind}
use Rattle.c_tree.specs.declared.def.Def.{Def}
use Rattle.c_tree.specs.declared.def.DefKind.{DefKind}
use Rattle.c_tree.specs.declared.def.DefKind.TheVariants as kind
use Rattle.c_definitions.specs.Lookup.{full_name, declared_as}
use Rattle.c_semantics.specs.Texts.{defined, defines, definition, names}
use Rattle.name_sets.specs.NameLists.{is_among}

defines_alike : (name : Bytes) (made : DefKind) → option_map_or (bytes_eq name) (full_name made) false ≡ defines name (bare_kind made)
defines_alike name (kind.Struct tag members) = refl
defines_alike name (kind.Forward tag) = refl
defines_alike name (kind.Mutex own) = refl
defines_alike name (kind.Function f) = refl
defines_alike name (kind.Prototype p) = refl
defines_alike name (kind.Global d) = refl
defines_alike name (kind.Array a) = refl
defines_alike name (kind.TransformStruct t) = refl
defines_alike name (kind.TransformGlobal global e) = refl

pub with_copied : {A B : Type 0} (f : A → B) (r : Option (Bor A)) → option_map (λ x. f x.now) r ≡ option_map f (option_copied r)
with_copied f None = refl
with_copied f (Some x) = refl

pub declared_is : (text : List Def) (name : Bytes) → option_map bare_def (declared_as text name) ≡ definition (map bare_def text) name
declared_is [] name = refl
declared_is (d ∷ text) name =
    ap (λ b. option_map bare_def (if b then Some d else declared_as text name)) (defines_alike name d.kind)
    ∙ by (defines name (bare_def d)) (declared_is text name)
  where
    by : (b : Bool) → option_map bare_def (declared_as text name) ≡ definition (map bare_def text) name →
        option_map bare_def (if b then Some d else declared_as text name) ≡ (if b then Some (bare_def d) else definition (map bare_def text) name)
    by true rest = refl
    by false rest = rest

-- a definition of a name defines it
defines_name : (name : Bytes) (d : BareDef) → defines name d ≡ true → defined d ≡ Some name
defines_name name d e = by (defined d) e
  where
    by : (own : Option Bytes) → option_map_or (bytes_eq name) own false ≡ true → own ≡ Some name
    by None e = cc
    by (Some x) e = ap Some (sym ((bytes_eq-Decides name x).0 e))

-- so does the one that is found
pub found_name : (text : List BareDef) (name : Bytes) → IfSome (definition text name) (λ d. defined d ≡ Some name)
found_name [] name = tt
found_name (d ∷ text) name = by (defines name d) refl (found_name text name)
  where
    by : (b : Bool) → defines name d ≡ b → IfSome (definition text name) (λ d. defined d ≡ Some name)
        → IfSome (if b then Some d else definition text name) (λ d. defined d ≡ Some name)
    by true e rest = defines_name name d e
    by false e rest = rest

-- the same of what was found as a loan
pub named_found : (text : List BareDef) (name : Bytes) (r : Option (Bor Def)) → option_map (λ d. bare_def d.now) r ≡ definition text name
    → IfSome r (λ d. defined (bare_def d.now) ≡ Some name)
named_found text name None e = tt
named_found text name (Some d) e = subst (λ o. IfSome o (λ d. defined d ≡ Some name)) (sym e) (found_name text name)

-- a name is among those of a text exactly if it has a definition there
pub among_names : (text : List BareDef) (name : Bytes) → is_some (definition text name) ≡ is_among (names text) name
among_names [] name = refl
among_names (d ∷ text) name = by (defined d) (among_names text name)
  where
    met : (b : Bool) → is_some (definition text name) ≡ is_among (names text) name
        → is_some (if b then Some d else definition text name) ≡ (b || is_among (names text) name)
    met true rest = refl
    met false rest = rest

    by : (own : Option Bytes) → is_some (definition text name) ≡ is_among (names text) name
        → is_some (if option_map_or (bytes_eq name) own false then Some d else definition text name)
        ≡ is_among (cons_option own (names text)) name
    by None rest = rest
    by (Some x) rest = met (bytes_eq name x) rest

-- the same of what was found as a loan
pub among_found : (text : List BareDef) (name : Bytes) (r : Option (Bor Def)) → option_map (λ d. bare_def d.now) r ≡ definition text name
    → is_some r ≡ is_among (names text) name
among_found text name r e = some_alike r ∙ ap is_some e ∙ among_names text name
  where
    some_alike : (r : Option (Bor Def)) → is_some r ≡ is_some (option_map (λ d. bare_def d.now) r)
    some_alike None = refl
    some_alike (Some d) = refl
