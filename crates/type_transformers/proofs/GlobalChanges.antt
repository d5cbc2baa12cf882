-- How the cells of globals come from old ones, by the sorts of their definitions.
use Rattle.std.proofs.Common.{◌≡◌, ℕ, zero, suc, ◌-◌, true, false, List, [], ◌∷◌, ◌++◌, length, take, Option, None, Some, refl, sym, ap, ◌∙◌, arith, if◌then◌else◌}
use Rattle.std.specs.Prelude.{replicate}
use Rattle.c_ints.specs.declared.int.Int.{Int}
use Rattle.c_tree.specs.BareExpr.{Bytes, BareType, BareExpr}
use Rattle.c_tree.specs.BareStmt.{BareDeclaration}
use Rattle.c_tree.specs.BareDef.{BareDef, Global, Array}
use Rattle.c_semantics.specs.Values.{Value, zero_of, converted_to}
use Rattle.c_semantics.specs.Constants.{constant, elements, filled}
use Rattle.c_semantics.specs.Transformers.{old_value, first_cell}
use Rattle.constant_values.specs.Kinds.{kind_of, zero_of_kind}
use Rattle.versioned_structs.specs.Formulas.{value_in}
use Rattle.versioned_structs.specs.declared.formula.Formula.{Formula}
use Rattle.type_transformers.specs.declared.global.GlobalChange.TheVariants.{Given, Copied, Zero}
use Rattle.type_transformers.specs.Hows as how
use Rattle.type_transformers.specs.Globals.{IsGlobalBy, is_variable, is_array_of}
use Rattle.type_transformers.proofs.ByKind.{zero_by_kind, converted_by_kind}

one_zero : (t : BareType) → replicate 1 (zero_of_kind (kind_of t)) ≡ zero_of t ∷ []
one_zero t = ap (λ z. z ∷ []) (zero_by_kind t)

-- a variable with a transformer, which was a variable
pub given_cell_is : (old : BareDef) (d : BareDeclaration) (e : BareExpr) (formula : Formula) → is_variable old ≡ true
    → ((values : List Value) → value_in values formula ≡ constant (old_value (first_cell values)) e)
    → IsGlobalBy (Some old) (Some (Global d)) (Some e) (Given (kind_of d.declared) formula)
given_cell_is (Global a) d e formula was is = record {
  cells = λ cells.
      ap (λ v. v ∷ []) (converted_by_kind d.declared (value_in cells formula) ∙ ap (converted_to d.declared) (is cells));
  how = refl;
}
given_cell_is _ d e formula was is = cc

-- a variable without a transformer
pub zero_cell_without : (old : BareDef) (d : BareDeclaration)
    → IsGlobalBy (Some old) (Some (Global d)) None (Zero 1 (kind_of d.declared))
zero_cell_without (Global a) d = record { cells = λ cells. one_zero d.declared; how = refl }
zero_cell_without _ d = record { cells = λ cells. one_zero d.declared; how = refl }

-- what was no variable
pub zero_cell_of_other : (old : BareDef) (d : BareDeclaration) (given : Option BareExpr) → is_variable old ≡ false
    → IsGlobalBy (Some old) (Some (Global d)) given (Zero 1 (kind_of d.declared))
zero_cell_of_other (Global a) d given was = cc
zero_cell_of_other _ d given was = record { cells = λ cells. one_zero d.declared; how = refl }

take_none : (n : ℕ) → take n (let none : List Value = [] in none) ≡ []
take_none zero = refl
take_none (suc n) = refl

zeros : (u : BareType) (n : ℕ) → replicate n (zero_of_kind (kind_of u)) ≡ filled u n []
zeros u n =
    let same : n ≡ n - 0 = omega arith in
    ap (replicate n) (zero_by_kind u) ∙ ap (λ k. replicate k (zero_of u)) same
    ∙ sym (ap (λ xs. xs ++ replicate (n - 0) (zero_of u)) (take_none n))

-- an array whose elements stay
pub copied_cells : (old : BareDef) (u : BareType) (name : Bytes) (m : Int) (values : Option (List BareExpr)) (given : Option BareExpr)
    → is_array_of old u ≡ true
    → IsGlobalBy (Some old) (Some (Array u name m values)) given (Copied (elements m) (kind_of u))
copied_cells (Array t other n initial) u name m values given same = record {
  cells = λ cells.
      ap (λ z. take (elements m) cells ++ replicate (elements m - length cells) z) (zero_by_kind u)
      ∙ sym (ap (λ t. filled u (elements m) (if t then cells else [])) same);
  how = sym (ap (λ t. if t then how.Copied else how.Zero) same);
}
copied_cells _ u name m values given same = cc

-- another array, or what was none
pub zero_cells : (old : BareDef) (u : BareType) (name : Bytes) (m : Int) (values : Option (List BareExpr)) (given : Option BareExpr)
    → is_array_of old u ≡ false
    → IsGlobalBy (Some old) (Some (Array u name m values)) given (Zero (elements m) (kind_of u))
zero_cells (Array t other n initial) u name m values given differs = record {
  cells = λ cells. zeros u (elements m) ∙ sym (ap (λ t. filled u (elements m) (if t then cells else [])) differs);
  how = sym (ap (λ t. if t then how.Copied else how.Zero) differs);
}
zero_cells _ u name m values given differs = record { cells = λ cells. zeros u (elements m); how = refl }
