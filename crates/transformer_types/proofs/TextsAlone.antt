-- The transformers of a text that types have the same faults with the names of the text and without.
use Rattle.std.proofs.Common.{◌≡◌, ℕ, true, not, ◌&&◌, List, [], ◌∷◌, ◌++◌, map, Option, Some, None, is_some, bytes_eq, refl, ap, ◌∙◌, if◌then◌else◌}
use Rattle.std.specs.Prelude.{flat_map, codes}
use Rattle.std.specs.List.{list_any}
use Rattle.std.specs.Option.{option_map_or}
use Rattle.c_tree.specs.Bare.{bare_binding, bare_type}
use Rattle.c_tree.specs.declared.name.CType.{CType}
use Rattle.c_tree.specs.declared.expr.Expr.{Expr}
use Rattle.c_tree.specs.declared.def.Binding.{Binding}
use Rattle.c_tree.specs.declared.def.FieldValue.{FieldValue}
use Rattle.c_tree.specs.declared.def.Def.{Def}
use Rattle.c_tree.specs.declared.def.DefKind.{DefKind}
use Rattle.c_tree.specs.declared.def.DefKind.TheVariants.{TransformStruct, TransformGlobal}
use Rattle.c_tree.specs.declared.def.Program.{Program}
use Rattle.c_expr_types.specs.declared.fault.Fault.{Fault}
use Rattle.c_expr_types.specs.declared.fault.TypeKind.TheVariants.{BadTransformer, OverLimit}
use Rattle.c_definitions.specs.Lookup.{Meaning, definition_of, defined, members_of}
use Rattle.c_definitions.specs.Lookup.Meaning.{AVariable}
use Rattle.c_expr_types.specs.Found.{converts, required}
use Rattle.c_expr_types.specs.Faults.{unless}
use Rattle.c_definitions.specs.Lookup.{member}
use Rattle.c_expr_types.specs.Need.{need, greatest}
use Rattle.c_types.specs.Statements.{hiding}
use Rattle.c_types.specs.TransformSyntax.{is_transforming, transforms_fields, transforms_struct, is_global, of_struct, of_global}
use Rattle.c_types.specs.Definitions.{Types, kind_faults, all_faults, main_faults, max_need}
use Rattle.std.specs.Prelude.{nat_le}
use Rattle.c_semantics.specs.Same.{same_type}
use Rattle.c_semantics.specs.Changes.{same_layout}
use Rattle.patch_faults.specs.declared.fault.TransformFault.TheVariants.{NotChanged}
use Rattle.patch_faults.specs.TransformTypes.{Old, AnObject, AValue}
use Rattle.patch_faults.specs.TransformFaults.{of_expression, value_faults, field_faults, struct_faults, global_faults, faults_at, transform_faults}
use Rattle.transformer_types.specs.Alone.{value_faults_alone, given_faults, field_faults_alone, struct_faults_alone, variable_type, global_faults_alone, faults_at_alone}
use Rattle.transformer_types.proofs.Tests.{both, neither, holds}
use Rattle.transformer_types.proofs.ExpressionsAlone.{expression_alone}

module _ (q : List Def) where
  value_alone : (old : Old) (t : CType) (e : Expr) → is_transforming q e ≡ true → value_faults q old t e ≡ value_faults_alone old t e
  value_alone old t e h =
      ap (λ value. map of_expression (required (converts t value.found) value)) (expression_alone q old e h)

  given_alone : (old : Old) (t : Option CType) (e : Expr) → is_transforming q e ≡ true →
      option_map_or (λ t'. value_faults q old t' e) t [] ≡ given_faults old t e
  given_alone old None e h = refl
  given_alone old (Some t) e h = value_alone old t e h

  fields_alone : (old new members : List Binding) (vs : List FieldValue) → transforms_fields q members vs ≡ true →
      flat_map (field_faults q old new) vs ≡ flat_map (field_faults_alone old new) vs
  fields_alone old new members [] h = refl
  fields_alone old new members (v ∷ vs) h =
      let named = is_some (member members v.field.text) && not (list_any (λ w. bytes_eq v.field.text w.field.text) vs) in
      let k = both (named && is_transforming q v.value) (transforms_fields q members vs) h in
      let l = both named (is_transforming q v.value) k.0 in
      ap (λ faults. faults ++ flat_map (field_faults q old new) vs) (given_alone (AnObject old) (member new v.field.text) v.value l.1)
      ∙ ap (λ rest. field_faults_alone old new v ++ rest) (fields_alone old new members vs k.1)

  struct_alone : (place : ℕ) (old new : Option (List Binding)) (vs : List FieldValue) → transforms_struct q new vs ≡ true →
      struct_faults q place old new vs ≡ struct_faults_alone place old new vs
  struct_alone place (Some old) (Some new) vs h =
      ap
      (λ faults. if same_layout (map bare_binding old) (map bare_binding new) then NotChanged place ∷ [] else faults)
      (fields_alone old new new vs h)
  struct_alone place (Some old) None vs h = refl
  struct_alone place None (Some new) vs h = refl
  struct_alone place None None vs h = refl

  global_alone : (place : ℕ) (old new : Option Meaning) (e : Expr) → is_transforming q e ≡ true →
      global_faults q place old new e ≡ global_faults_alone place (variable_type old) (variable_type new) e
  global_alone place (Some (AVariable old)) (Some (AVariable new)) e h =
      ap
      (λ faults. if same_type (bare_type old) (bare_type new) then NotChanged place ∷ [] else faults)
      (value_alone (AValue old) new e h)
  global_alone place _ _ e h = refl

  definition_alone : (p before : List Def) (d : Def) (place : ℕ) (made : DefKind) → kind_faults q before d made ≡ [] →
      faults_at p q place made ≡ faults_at_alone p q place made
  definition_alone p before d place (TransformStruct t) h =
      let first = not (list_any (λ d'. of_struct t.name.text d'.kind) before) in
      let right = transforms_struct q (members_of q t.name.text) t.values in
      let k = neither (unless (first && right) BadTransformer d.place) (unless (nat_le (greatest (map (λ v. need v.value) t.values)) max_need) OverLimit d.place) h in
      let l = both first right (holds (first && right) BadTransformer d.place k.0) in
      struct_alone place (members_of p t.name.text) (members_of q t.name.text) t.values l.1
  definition_alone p before d place (TransformGlobal name e) h =
      let first = not (list_any (λ d'. of_global name.text d'.kind) before) in
      let global = is_global (defined q name.text) in
      let right = is_transforming q e in
      let k = neither (unless (first && global && right) BadTransformer d.place) (unless (nat_le (need e) max_need) OverLimit d.place) h in
      let l = both (first && global) right (holds (first && global && right) BadTransformer d.place k.0) in
      global_alone place (defined p name.text) (defined q name.text) e l.1
  definition_alone p before d place _ h = refl

  definitions_alone : (p before ds : List Def) → all_faults q before ds ≡ [] →
      flat_map (λ d. faults_at p q d.place d.kind) ds ≡ flat_map (λ d. faults_at_alone p q d.place d.kind) ds
  definitions_alone p before [] h = refl
  definitions_alone p before (d ∷ ds) h =
      let k = neither (kind_faults q before d d.kind) (all_faults q (before ++ d ∷ []) ds) h in
      ap (λ faults. faults ++ flat_map (λ d'. faults_at p q d'.place d'.kind) ds) (definition_alone p before d d.place d.kind k.0)
      ∙ ap (λ rest. faults_at_alone p q d.place d.kind ++ rest) (definitions_alone p (before ++ d ∷ []) ds k.1)

-- a text without faults has none in its definitions
parts_hide : (parts whole : List Fault) → hiding parts whole ≡ [] → parts ≡ []
parts_hide [] whole h = refl
parts_hide (f ∷ parts) whole h = h

pub text_alone : (p : List Def) (program : Program) → Types program →
    transform_faults p program.definitions
    ≡ flat_map (λ d. faults_at_alone p program.definitions d.place d.kind) program.definitions
text_alone p program h =
    definitions_alone program.definitions p [] program.definitions
    (parts_hide
    (all_faults program.definitions [] program.definitions)
    (main_faults program.end (definition_of program.definitions (codes "main"))) h)
