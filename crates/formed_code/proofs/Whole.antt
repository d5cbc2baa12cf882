-- A function's code that is fine from its entry on to its last return is well formed.
use Rattle.std.proofs.Common.{◌≡◌, ◌≤◌, ◌<◌, ℕ, zero, suc, ◌+◌, ◌==◌, Bool, true, false, List, [], ◌∷◌, length, slice_get, Option, Some, None, refl, sym, ap, subst, ◌∙◌, arith, eqb-true}
use Rattle.std.specs.Prelude.{if◌then◌else◌}
use Rattle.c_tree.specs.BareExpr.{BareType}
use Rattle.c_tree.specs.BareDef.{BareBinding}
use Rattle.c_semantics.specs.Texts.{Definitions}
use Rattle.c_semantics.specs.Resolved.{Statements}
use Rattle.c_semantics.specs.Leaving.{leaves_at_ends}
use Rattle.typed_trees.specs.StatementTypes.{BodyTyped}
use Rattle.bytecode.specs.Instructions.{Instruction, Back}
use Rattle.tree_code.specs.Code.{Code, HaveRoom}
use Rattle.code_kinds.specs.Shapes.{Shape}
use Rattle.code_kinds.specs.WellFormed.{Begins, Brings, Comes, FunctionCode, IsFine, Shapes, WellFormed, deepest, entry, first, kept_from, most_variables}
use Rattle.formed_code.specs.Depths.{depth_stmts}
use Rattle.formed_code.specs.FormedLaws.{function_code}
use Rattle.formed_code.proofs.Lists.{none_some, same_item}
use Rattle.formed_code.proofs.Segments.{AllGood, At, Carries, Final, Good, Notes, Sound, Stands}
use Rattle.formed_code.proofs.Words.{length_kinds}
use Rattle.formed_code.proofs.Bodies.{body_formed}

none_on : (p : ℕ) → p + 0 ≡ p
none_on p = omega arith

on_by : (p q : ℕ) → p + suc q ≡ suc p + q
on_by p q = omega arith

from_zero : (q : ℕ) → 0 + q ≡ q
from_zero q = omega arith

-- the shape of a place
note_at : (is : Code) → Notes is → ℕ → Option Shape
note_at [] notes q = None
note_at (i ∷ is) notes zero = notes.0
note_at (i ∷ is) notes (suc q) = note_at is notes.1 q

stands_at : (code : Code) (shapes : Shapes) (p : ℕ) (is : Code) (notes : Notes is) → ((q : ℕ) → slice_get code (p + q) ≡ slice_get is q)
    → ((q : ℕ) → shapes (p + q) ≡ note_at is notes q) → Stands code shapes p is notes
unfolding note_at
stands_at code shapes p [] notes e f = tt
stands_at code shapes p (i ∷ is) notes e f = (
  subst (λ q. slice_get code q ≡ Some i) (none_on p) (e 0),
  subst (λ q. shapes q ≡ notes.0) (none_on p) (f 0),
  stands_at code shapes (suc p) is notes.1
      (λ q. subst (λ z. slice_get code z ≡ slice_get is q) (on_by p q) (e (suc q)))
      (λ q. subst (λ z. shapes z ≡ note_at is notes.1 q) (on_by p q) (f (suc q))),
)

within : (is : Code) (notes : Notes is) (q : ℕ) (s : Shape) → note_at is notes q ≡ Some s → q < length is
unfolding note_at
within [] notes q s e = absurd (none_some refl e)
within (i ∷ is) notes zero s e = omega arith
within (i ∷ is) notes (suc q) s e = omega (arith, within is notes.1 q s e)

got : (is : Code) (q : ℕ) → q < length is → (i : Instruction) × (slice_get is q ≡ Some i)
got [] q h = absurd (omega arith)
got (i ∷ is) zero h = (i, refl)
got (i ∷ is) (suc q) h = got is q (omega (arith, h))

module _ (u : FunctionCode) (f : Final u.look u.result u.room u.code (entry u.parameters)) where
  abbrev shapes : Shapes
  shapes = note_at u.code f.notes

  stands : At u.code shapes 0 u.code f.notes (length u.code)
  stands = record {
    has = stands_at u.code shapes 0 u.code f.notes (λ q. ap (slice_get u.code) (from_zero q)) (λ q. ap shapes (from_zero q));
    ends = sym (from_zero (length u.code));
  }

  all : AllGood u.look u.result u.room u.code shapes 0 u.code
  all = f.good u.code shapes 0 (length u.code) stands (first refl)

  good_from : (p : ℕ) (is : Code) (q : ℕ) (i : Instruction) → AllGood u.look u.result u.room u.code shapes p is → slice_get is q ≡ Some i
      → Good u.look u.result u.room u.code shapes (p + q) i
  good_from p [] q i g e = absurd (none_some refl e)
  good_from p (j ∷ is) zero i g e =
      subst (λ z. Good u.look u.result u.room u.code shapes z i) (sym (none_on p))
      (subst (λ z. Good u.look u.result u.room u.code shapes p z) (same_item refl e) g.0)
  good_from p (j ∷ is) (suc q) i g e =
      subst (λ z. Good u.look u.result u.room u.code shapes z i) (sym (on_by p q)) (good_from (suc p) is q i g.1 e)

  good_at : (q : ℕ) (i : Instruction) → slice_get u.code q ≡ Some i → Good u.look u.result u.room u.code shapes q i
  good_at q i e = subst (λ z. Good u.look u.result u.room u.code shapes z i) (from_zero q) (good_from 0 u.code q i all e)

  -- where a back edge leads, as many variables are in scope as it says
  keeps : (is : Code) (p q v : ℕ) (there : Shape) → AllGood u.look u.result u.room u.code shapes p is → kept_from is p q ≡ Some v
      → shapes q ≡ Some there → length there.variables ≡ v
  keeps [] p q v there g e h = absurd (none_some refl e)
  keeps (Back d n w ∷ is) p q v there g e h = by (q + d == p) refl e (λ y. keeps is (suc p) q v there g.1 y h)
    where
      by : (b : Bool) → (q + d == p) ≡ b → (if b then Some w else kept_from is (suc p) q) ≡ Some v
          → (kept_from is (suc p) q ≡ Some v → length there.variables ≡ v) → length there.variables ≡ v
      by true x y later = g.0.edge q (eqb-true (q + d) p x) there h ∙ same_item refl y
      by false x y later = later y
  keeps (i ∷ is) p q v there g e h = keeps is (suc p) q v there g.1 e h

  brings : {s : Shape} {q : ℕ} → Carries shapes s q → Brings u.code shapes s q
  brings {s} {q} c = record {
    there = c.there;
    has = c.has;
    inside = within u.code f.notes q c.there c.has;
    stack = c.stack;
    transactions = c.transactions;
    due = c.due;
    forgotten = c.forgotten;
    variables = c.variables;
    loop = λ v e. keeps u.code 0 q v c.there all e c.has;
  }

  fine : (p : ℕ) (i : Instruction) (s : Shape) → Sound u.look u.result u.room shapes p i s → IsFine u shapes p i s
  fine p i s x = record { left = x.left; leaves = x.leaves; shallow = x.shallow; goes = λ q c. brings (x.goes q c) }

  comes : (p : ℕ) (s : Shape) → p < length u.code → shapes p ≡ Some s → Comes u.code shapes p
  comes p s h e = let i = got u.code p h in (good_at p i.0 i.1).comes s e

  pub well_formed : length u.parameters ≤ u.room → u.room ≤ most_variables → WellFormed u
  well_formed few room =
      let begun : Begins u shapes = record {
        parameters = few;
        room = room;
        entered = brings (f.carries u.code shapes 0 (length u.code) stands);
      } in
      record {
        shapes = shapes;
        begins = begun;
        fits = record {
          begins = λ h. begun;
          fine = λ p i s h e g. fine p i s ((good_at p i e).sound s g);
          comes = comes;
        };
      }

pub of_tree : (look : Definitions) (parameters : List BareBinding) (result : BareType) (most : ℕ) (body : Statements)
    → BodyTyped look result parameters body → HaveRoom most (parameters ∷ []) body
    → length parameters ≤ most → most ≤ most_variables → depth_stmts body ≤ deepest → leaves_at_ends body ≡ true
    → WellFormed (function_code look parameters result most body)
of_tree look parameters result most body typed room few most_few deep leaves =
    well_formed (function_code look parameters result most body)
    (body_formed look result most parameters body typed.statements room deep leaves)
    (subst (λ n. n ≤ most) (sym (length_kinds parameters)) few) most_few
