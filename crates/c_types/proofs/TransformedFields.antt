-- Fields that are given a value, looked at from the last to the first.
use Rattle.std.proofs.Common.{◌≡◌, ℕ, ◌+◌, ◌<◌, Bool, true, not, ◌||◌, ◌&&◌, List, [], ◌∷◌, drop, length, get_or, Option, Some, is_some, option_and_then, refl, sym, ap, ◌∙◌, bytes_eq, if◌then◌else◌}
use Rattle.std.specs.List.{list_any}
use Rattle.std.proofs.lemmas.List.{at_drop_more}
use Rattle.c_scope.specs.Tables.{look_up, look_up_first, declared}
use Rattle.c_tree.specs.BareExpr.{Bytes}
use Rattle.c_tree.specs.declared.def.Binding.{Binding}
use Rattle.c_tree.specs.declared.def.FieldValue.{FieldValue}
use Rattle.c_tree.specs.declared.def.Def.{Def}
use Rattle.c_definitions.specs.Lookup.{member}
use Rattle.c_types.specs.TransformSyntax.{transforms_fields, is_transforming}
use Rattle.c_types.proofs.Bindings.{some_of_two}
use Rattle.c_definitions.proofs.Index.{one_more, one_more_is, look_up_one_more}

-- the fields of some, the last first
pub later_of : List FieldValue → List (Bytes × Bool)
later_of [] = []
later_of (v ∷ vs) = one_more v.field.text true (later_of vs)

later_has : (vs : List FieldValue) (name : Bytes) → is_some (look_up (later_of vs) name) ≡ list_any (λ w. bytes_eq name w.field.text) vs
unfolding later_of
later_has [] name = refl
later_has (v ∷ vs) name =
    ap is_some (look_up_one_more (later_of vs) v.field.text true name)
    ∙ some_of_two (look_up (later_of vs) name) (bytes_eq name v.field.text) true
    ∙ ap (λ b. bytes_eq name v.field.text || b) (later_has vs name)

pub none_later : later_of [] ≡ []
unfolding later_of
none_later = refl

-- the field of one more
pub one_later : (vs : List FieldValue) (i : ℕ) (v : FieldValue) (tables next : List (List (Bytes × Bool))) → i < length vs → v ≡ get_or vs i v →
    tables ≡ later_of (drop (i + 1) vs) ∷ [] →
    next ≡ (if is_some (look_up_first tables v.field.text) then tables else declared tables v.field.text true) →
    next ≡ later_of (drop i vs) ∷ []
unfolding later_of
one_later vs i v tables next below is are made =
    made
    ∙ ap (λ ts. if is_some (look_up_first ts v.field.text) then ts else declared ts v.field.text true) are
    ∙ one_more_is (later_of (drop (i + 1) vs)) v.field.text true
    ∙ ap (λ w. one_more w.field.text true (later_of (drop (i + 1) vs)) ∷ []) is
    ∙ sym (at_drop_more (λ ws. later_of ws ∷ []) vs i v below)

-- whether one more is right, and those after it
pub transforms_fields_step : (text : List Def) (members : List Binding) (own : Option (List Binding)) (vs : List FieldValue) (i : ℕ) (v : FieldValue)
    (tables : List (List (Bytes × Bool))) (others told : Bool) → i < length vs → v ≡ get_or vs i v →
    own ≡ Some members → tables ≡ later_of (drop (i + 1) vs) ∷ [] → others ≡ transforms_fields text members (drop (i + 1) vs) →
    told ≡ (is_some (option_and_then (λ ms. member ms v.field.text) own) && not (is_some (look_up_first tables v.field.text)) && is_transforming text v.value && others) →
    told ≡ transforms_fields text members (drop i vs)
transforms_fields_step text members own vs i v tables others told below is own_is are rest made =
    let later : List FieldValue = drop (i + 1) vs in
    made
    ∙ ap (λ o. is_some (option_and_then (λ ms. member ms v.field.text) o) && not (is_some (look_up_first tables v.field.text)) && is_transforming text v.value && others) own_is
    ∙ ap (λ b. is_some (member members v.field.text) && not b && is_transforming text v.value && others)
    (ap (λ ts. is_some (look_up_first ts v.field.text)) are ∙ later_has later v.field.text)
    ∙ ap (λ b. is_some (member members v.field.text) && not (list_any (λ w. bytes_eq v.field.text w.field.text) later) && is_transforming text v.value && b) rest
    ∙ ap (λ u. is_some (member members u.field.text) && not (list_any (λ w. bytes_eq u.field.text w.field.text) later) && is_transforming text u.value && transforms_fields text members later) is
    ∙ sym (at_drop_more (transforms_fields text members) vs i v below)
