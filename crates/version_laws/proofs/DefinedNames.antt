-- Which names that texts define stay where a text follows another.
use Rattle.std.proofs.Common.{◌≡◌, Bool, true, false, not, ◌&&◌, List, [], ◌∷◌, is_some, Option, Some, None, sym, refl, ap, ap₂, ◌∙◌, bytes_eq, if◌then◌else◌}
use Rattle.std.specs.Option.{option_map_or}
use Rattle.std.proofs.lemmas.Option.{none-some, same_Some}
use Rattle.c_tree.specs.BareExpr.{Bytes}
use Rattle.c_tree.specs.BareDef.{BareDef}
use Rattle.name_sets.specs.NameLists.{is_among, name_set}
use Rattle.c_semantics.specs.Texts.{defined, definition, names}
use Rattle.c_semantics.specs.Changes.{agree, changed, same_definition}
use Rattle.definition_laws.proofs.Names.{among_names, among_set, among_filtered}
use Rattle.version_laws.specs.Histories.{Alike}
use Rattle.version_laws.proofs.SameDefinitions.{definition_is_itself}

-- what is found under a name defines one
pub found_defines : (text : List BareDef) (name : Bytes) (d : BareDef) → definition text name ≡ Some d → is_some (defined d) ≡ true
found_defines [] name d h = absurd (none-some d h)
found_defines (x ∷ text) name d h = by (defined x) refl (found_defines text name d) h
  where
    under : (b : Bool) → is_some (defined x) ≡ true → (definition text name ≡ Some d → is_some (defined d) ≡ true)
        → (if b then Some x else definition text name) ≡ Some d → is_some (defined d) ≡ true
    under true e rest g = ap (λ y. is_some (defined y)) (sym (same_Some x d g)) ∙ e
    under false e rest g = rest g

    by : (o : Option Bytes) → defined x ≡ o → (definition text name ≡ Some d → is_some (defined d) ≡ true)
        → (if option_map_or (bytes_eq name) o false then Some x else definition text name) ≡ Some d → is_some (defined d) ≡ true
    by None e rest g = rest g
    by (Some n) e rest g = under (bytes_eq name n) (ap is_some e) rest g

-- what a text defines is alike to itself
pub alike_itself : (text : List BareDef) (name : Bytes) → Alike (definition text name) (definition text name)
alike_itself text name = by (definition text name) refl
  where
    by : (o : Option BareDef) → definition text name ≡ o → Alike o o
    by None e = tt
    by (Some d) e = definition_is_itself d (found_defines text name d e)

-- a name stays where both texts have it and their definitions are the same
pub stays_where_same : (p q : List BareDef) (name : Bytes)
    → (is_among (names p) name && not (is_among (changed p q) name)) ≡ agree same_definition (definition p name) (definition q name)
stays_where_same p q name =
    ap₂ (λ a b. a && not b) (among_names p name)
    (among_filtered (λ z. not (agree same_definition (definition p z) (definition q z))) (name_set (names p)) name
    ∙ ap (λ b. not (agree same_definition (definition p name) (definition q name)) && b) (among_set (names p) name ∙ among_names p name))
    ∙ by (definition p name) (definition q name)
  where
    twice : (b : Bool) → not (not b && true) ≡ b
    twice true = refl
    twice false = refl

    by : (o u : Option BareDef) → (is_some o && not (not (agree same_definition o u) && is_some o)) ≡ agree same_definition o u
    by None u = refl
    by (Some d) u = twice (agree same_definition (Some d) u)
