-- The tables of operators as look-ups by spelling: each spelling has at most one meaning in each table.
use Rattle.std.specs.Prelude.{unwrap_or, ◌≡◌, ℕ, Bool, true, false, if◌then◌else◌, List, [], ◌∷◌, Option, Some}
use Rattle.std.specs.Str.{bytes_eq}
use Rattle.std.proofs.Common.{refl, ap, sym, subst, arith}
use Rattle.std.proofs.lemmas.Slice.Eq.{bytes_eq-Decides}
use Rattle.c_ints.specs.declared.operator.BinOp.{BinOp}
use Rattle.c_ints.specs.declared.operator.UnOp.{UnOp}
use Rattle.c_expr_parser.specs.declared.operators.Joint.{Joint}
use Rattle.c_expr_parser.specs.Operators.{BinaryOperator, UnaryOperator, CompoundOperator}
use Rattle.c_expr_parser.specs.Tables.{look, binary_operators, unary_operators, compound_operators}

-- P holds of each row
abbrev pub Rows : {A : Type 0} → (List ℕ → A → Type 0) → List (List ℕ × A) → Type 0
Rows P [] = Unit {0}
Rows P (row ∷ rows) = P row.0 row.1 × Rows P rows

pick : {A : Type 0} (P : List ℕ → A → Type 0) (spelling : List ℕ) (a : A) (row : List ℕ × A) (next : Option A) (same : Bool)
    → bytes_eq spelling row.0 ≡ same → P row.0 row.1 → (next ≡ Some a → P spelling a)
    → (if same then Some row.1 else next) ≡ Some a → P spelling a
pick P spelling a row next true s p later k =
    let value : row.1 ≡ a = ap (λ o. unwrap_or o row.1) k in
    subst (λ t. P t a) (sym ((bytes_eq-Decides spelling row.0).0 s)) (subst (P row.0) value p)
pick P spelling a row next false s p later k = later k

-- what is found is a row
pub found : {A : Type 0} (P : List ℕ → A → Type 0) (spelling : List ℕ) (a : A) (rows : List (List ℕ × A)) → Rows P rows
    → look spelling rows ≡ Some a → P spelling a
found P spelling a [] e h = grind (arith, h)
found P spelling a (row ∷ rows) e h =
    pick P spelling a row (look spelling rows) (bytes_eq spelling row.0) refl e.0 (found P spelling a rows e.1) h

pub binary_look : {level : ℕ} {spelling : List ℕ} {joint : Joint} → BinaryOperator level spelling joint
    → look spelling binary_operators ≡ Some (level, joint)
binary_look BinaryOperator.times = refl
binary_look BinaryOperator.divide = refl
binary_look BinaryOperator.remainder = refl
binary_look BinaryOperator.plus = refl
binary_look BinaryOperator.minus = refl
binary_look BinaryOperator.shift_left = refl
binary_look BinaryOperator.shift_right = refl
binary_look BinaryOperator.less = refl
binary_look BinaryOperator.greater = refl
binary_look BinaryOperator.at_most = refl
binary_look BinaryOperator.at_least = refl
binary_look BinaryOperator.equal = refl
binary_look BinaryOperator.unequal = refl
binary_look BinaryOperator.bit_and = refl
binary_look BinaryOperator.bit_xor = refl
binary_look BinaryOperator.bit_or = refl
binary_look BinaryOperator.and = refl
binary_look BinaryOperator.or = refl

pub binary_found : (level : ℕ) (spelling : List ℕ) (joint : Joint) → look spelling binary_operators ≡ Some (level, joint)
    → BinaryOperator level spelling joint
binary_found level spelling joint =
    found (λ s a. BinaryOperator a.0 s a.1) spelling (level, joint) binary_operators (
      BinaryOperator.times,
      (
        BinaryOperator.divide,
        (
          BinaryOperator.remainder,
          (
            BinaryOperator.plus,
            (
              BinaryOperator.minus,
              (
                BinaryOperator.shift_left,
                (
                  BinaryOperator.shift_right,
                  (
                    BinaryOperator.less,
                    (
                      BinaryOperator.greater,
                      (
                        BinaryOperator.at_most,
                        (
                          BinaryOperator.at_least,
                          (
                            BinaryOperator.equal,
                            (
                              BinaryOperator.unequal,
                              (
                                BinaryOperator.bit_and,
                                (
                                  BinaryOperator.bit_xor,
                                  (BinaryOperator.bit_or, (BinaryOperator.and, (BinaryOperator.or, tt))),
                                ),
                              ),
                            ),
                          ),
                        ),
                      ),
                    ),
                  ),
                ),
              ),
            ),
          ),
        ),
      ),
    )

pub unary_look : {spelling : List ℕ} {op : UnOp} → UnaryOperator spelling op → look spelling unary_operators ≡ Some op
unary_look UnaryOperator.plus = refl
unary_look UnaryOperator.negate = refl
unary_look UnaryOperator.complement = refl
unary_look UnaryOperator.not = refl

pub unary_found : (spelling : List ℕ) (op : UnOp) → look spelling unary_operators ≡ Some op → UnaryOperator spelling op
unary_found spelling op =
    found UnaryOperator spelling op unary_operators
    (UnaryOperator.plus, (UnaryOperator.negate, (UnaryOperator.complement, (UnaryOperator.not, tt))))

pub compound_look : {spelling : List ℕ} {op : BinOp} → CompoundOperator spelling op → look spelling compound_operators ≡ Some op
compound_look CompoundOperator.add = refl
compound_look CompoundOperator.subtract = refl
compound_look CompoundOperator.multiply = refl
compound_look CompoundOperator.divide = refl
compound_look CompoundOperator.remainder = refl
compound_look CompoundOperator.bit_and = refl
compound_look CompoundOperator.bit_or = refl
compound_look CompoundOperator.bit_xor = refl
compound_look CompoundOperator.shift_left = refl
compound_look CompoundOperator.shift_right = refl

pub compound_found : (spelling : List ℕ) (op : BinOp) → look spelling compound_operators ≡ Some op → CompoundOperator spelling op
compound_found spelling op =
    found CompoundOperator spelling op compound_operators (
      CompoundOperator.add,
      (
        CompoundOperator.subtract,
        (
          CompoundOperator.multiply,
          (
            CompoundOperator.divide,
            (
              CompoundOperator.remainder,
              (
                CompoundOperator.bit_and,
                (
                  CompoundOperator.bit_or,
                  (
                    CompoundOperator.bit_xor,
                    (
                      CompoundOperator.shift_left,
                      (CompoundOperator.shift_right, tt),
                    ),
                  ),
                ),
              ),
            ),
          ),
        ),
      ),
    )
