-- Copies of transforms.
use Rattle.std.proofs.Common.{◌≡◌, ℕ, List, [], ◌∷◌, ◌++◌, take, get_or, sym, ap, ◌∙◌}
use Rattle.std.proofs.lemmas.List.{map-append}
use Rattle.c_tree.specs.BareExpr.{Bytes}
use Rattle.c_tree.specs.BareDef.{BareDef}
use Rattle.c_semantics.specs.Values.{Value}
use Rattle.versioned_structs.specs.declared.transform.FieldChange.{FieldChange}
use Rattle.versioned_structs.specs.Transforms.{layout_in, new_value, new_values, variables, IsTransformOf}
use Rattle.word_layouts.specs.Copies.{AreCopies, IsCopy}

pub copied_transform : (p q : List BareDef) (tag : Bytes) (a b : List FieldChange) → IsTransformOf p q tag a → AreCopies a b → IsTransformOf p q tag b
copied_transform p q tag a b is copies = record {
  each_field = copies.count ∙ is.each_field;
  transforms = λ vs many. ap (variables (layout_in q tag)) (copies.values vs) ∙ is.transforms vs many;
}

-- one copy more
pub copies_more : (changes copies : List FieldChange) (i : ℕ) (old : List Value) (copy d : FieldChange)
    → ((old : List Value) → new_values copies old ≡ new_values (take i changes) old) → IsCopy (get_or changes i d) copy
    → new_values (copies ++ copy ∷ []) old ≡ new_values (take i changes ++ get_or changes i d ∷ []) old
copies_more changes copies i old copy d before is =
    map-append (new_value old) copies (copy ∷ [])
    ∙ ap (λ vs. vs ++ new_value old copy ∷ []) (before old)
    ∙ ap (λ v. new_values (take i changes) old ++ v ∷ []) (is old)
    ∙ sym (map-append (new_value old) (take i changes) (get_or changes i d ∷ []))
