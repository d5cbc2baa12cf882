-- Since which version a name has its definition, where a text follows.
use Rattle.std.proofs.Common.{◌≡◌, ℕ, zero, suc, ◌≤◌, Bool, true, false, not, List, [], ◌∷◌, ◌++◌, length, is_some, Option, Some, None, refl, ap, ap₂, ◌∙◌, arith, if◌then◌else◌}
use Rattle.c_tree.specs.BareExpr.{Bytes}
use Rattle.c_tree.specs.BareDef.{BareDef}
use Rattle.c_semantics.specs.Changes.{agree, same_definition}
use Rattle.version_laws.specs.Histories.{text_in, last_text}
use Rattle.version_laws.proofs.TableHistories.{text_as_before, text_of_next, one_longer}
use Rattle.version_spans.specs.Beginnings.{differ, differ_by, began_by, since}

began_as_before : (texts : List (List BareDef)) (q : List BareDef) (name : Bytes) (n : ℕ) → n ≤ length texts
    → began_by (texts ++ q ∷ []) name n ≡ began_by texts name n
began_as_before texts q name zero h = refl
began_as_before texts q name (suc n) h =
    ap₂ (λ a b. if differ a b name then suc n else began_by (texts ++ q ∷ []) name n) (text_as_before texts q n (omega (arith, h))) (text_as_before texts q (suc n) h)
    ∙ ap (λ b. if differ (text_in texts n) (text_in texts (suc n)) name then suc n else b) (began_as_before texts q name n (omega (arith, h)))

itself : (n : ℕ) → n ≤ n
itself n = omega arith

-- a text that differs on a name begins its definition, and another leaves it
pub since_next : (texts : List (List BareDef)) (q : List BareDef) (name : Bytes)
    → since (texts ++ q ∷ []) name ≡ (if differ (last_text texts) q name then suc (length texts) else since texts name)
since_next texts q name =
    ap (began_by (texts ++ q ∷ []) name) (one_longer texts q)
    ∙ ap₂ (λ a b. if differ a b name then suc (length texts) else began_by (texts ++ q ∷ []) name (length texts))
    (text_as_before texts q (length texts) (itself (length texts))) (text_of_next texts q)
    ∙ ap (λ b. if differ (last_text texts) q name then suc (length texts) else b) (began_as_before texts q name (length texts) (itself (length texts)))

began_at_most : (texts : List (List BareDef)) (name : Bytes) (n : ℕ) → began_by texts name n ≤ n
began_at_most texts name zero = itself 0
began_at_most texts name (suc n) = by (differ (text_in texts n) (text_in texts (suc n)) name) (began_at_most texts name n)
  where
    by : (b : Bool) → began_by texts name n ≤ n → (if b then suc n else began_by texts name n) ≤ suc n
    by true h = itself (suc n)
    by false h = omega (arith, h)

-- it is one of the versions
pub since_at_most : (texts : List (List BareDef)) (name : Bytes) → since texts name ≤ length texts
since_at_most texts name = began_at_most texts name (length texts)

-- texts differ on a name that one of them defines where they don't agree on it
pub differ_where : (o u : Option BareDef) → is_some u ≡ true → differ_by o u ≡ not (agree same_definition o u)
differ_where None (Some d) h = refl
differ_where (Some a) u h = refl
differ_where None None h = cc

pub differ_of_old : (o u : Option BareDef) → is_some o ≡ true → differ_by o u ≡ not (agree same_definition o u)
differ_of_old (Some a) u h = refl
differ_of_old None u h = cc
