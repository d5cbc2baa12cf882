-- The names on which two texts differ are among those of both.
use Rattle.std.proofs.Common.{◌≡◌, ◌||◌, ◌&&◌, Bool, true, false, List, is_some, Option, Some, None, refl, ap, ap₂, ◌∙◌}
use Rattle.c_tree.specs.BareExpr.{Bytes}
use Rattle.c_tree.specs.BareDef.{BareDef}
use Rattle.name_sets.specs.NameLists.{is_among, name_set}
use Rattle.c_semantics.specs.Texts.{definition, names}
use Rattle.definition_laws.proofs.Names.{among_names, among_set}
use Rattle.version_spans.specs.declared.names.NameForm.{NameForm as Form}
use Rattle.version_spans.specs.declared.names.NameSet.{NameSet}
use Rattle.version_spans.specs.Beginnings.{differ, differ_by}
use Rattle.version_spans.specs.Kept.{AreDifferences, name_of, texts_in}

both_asked : (o u : Option BareDef) → ((is_some u && differ_by o u) || ((is_some o && differ_by o u) || false)) ≡ differ_by o u
both_asked None None = refl
both_asked None (Some d) = refl
both_asked (Some a) u = by (is_some u) (differ_by (Some a) u)
  where
    by : (b d : Bool) → ((b && d) || (d || false)) ≡ d
    by true true = refl
    by true false = refl
    by false true = refl
    by false false = refl

-- a set to which those of the names of both are added
pub are_differences : (p q : List BareDef) (older newer : List Bytes) (none first second : NameSet)
    → older ≡ name_set (names p) → newer ≡ name_set (names q) → ((form : Form) (text : Bytes) → is_among (texts_in none form) text ≡ false)
    → ((form : Form) (text : Bytes) → is_among (texts_in first form) text
    ≡ ((is_among older (name_of form text) && differ p q (name_of form text)) || is_among (texts_in none form) text))
    → ((form : Form) (text : Bytes) → is_among (texts_in second form) text
    ≡ ((is_among newer (name_of form text) && differ p q (name_of form text)) || is_among (texts_in first form) text))
    → AreDifferences p q second
are_differences p q older newer none first second old_is new_is empty one two form text =
    two form text
    ∙ ap₂ (λ b rest. (b && differ p q (name_of form text)) || rest) (named q newer new_is)
    (one form text ∙ ap₂ (λ b rest. (b && differ p q (name_of form text)) || rest) (named p older old_is) (empty form text))
    ∙ both_asked (definition p (name_of form text)) (definition q (name_of form text))
  where
    named : (t : List BareDef) (ns : List Bytes) → ns ≡ name_set (names t)
        → is_among ns (name_of form text) ≡ is_some (definition t (name_of form text))
    named t ns is = ap (λ l. is_among l (name_of form text)) is ∙ among_set (names t) (name_of form text) ∙ among_names t (name_of form text)
