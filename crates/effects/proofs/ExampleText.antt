-- A small text, its points, and where control goes in it.
use Rattle.std.proofs.Common.{◌≡◌, ℕ, suc, true, not, List, [], ◌∷◌, ◌++◌, map, Some, refl, sym, subst, arith}
use Rattle.std.specs.Prelude.{codes, Contains, slice_get, option_map}
use Rattle.std.specs.List.{range_with_len}
use Rattle.run_types.specs.CheckIns.{Entry}
use Rattle.run_types.specs.CheckIns as check_in
use Rattle.run_types.specs.Skeleton.{Point, CheckIn, Call, Print, Return, Begin, End, point_at, successors}
use Rattle.c_tree.specs.BareExpr.{Bytes}
use Rattle.c_semantics.specs.Resolved.{Expression, Statement, Statements, NoExpressions, NoStatements, StatementThen, ExpressionThen}
use Rattle.c_semantics.specs.Resolved as tree
use Rattle.c_semantics.specs.Points.{at_depth}
use Rattle.c_semantics.specs.Skeletons.{skeleton}
use Rattle.c_semantics.specs.Store.{Body}
use Rattle.effects.specs.Sites.{Site, Next, after_call, point_in, is_outer_end}
use Rattle.effects.specs.Standard.{Standard}
use Rattle.effects.specs.Standard as standard
use Rattle.effects.specs.Nested.{Nested, Inside, IsEndingEnd, GoesOn}
use Rattle.effects.specs.Nested as nested

abbrev in_order : List Statement → Statements
in_order [] = NoStatements
in_order (a ∷ more) = StatementThen a (in_order more)

abbrev call : Bytes → Expression
call name = tree.Call name NoExpressions

-- any expression without points stands for a constant
abbrev nil : Expression
nil = tree.Read (tree.Local [])

abbrev prints : Expression → Statement
prints e = tree.Evaluate (tree.Print [] (ExpressionThen e NoExpressions))

abbrev pub body : Bytes → List Statement → Body
body name statements = record { function = name; generation = 1; skeleton = skeleton (in_order statements); tokens = 1 }

-- int h(void) { return 0; }
-- int g(void) { return 1; }
-- int f(void) { return g(); }
-- int main(void) {
--   dsu_tx { printf("start\n"); h(); printf("%d\n", g()); printf("%d\n", f()); }
--   return 0;
-- }
abbrev pub main : List Statement
main =
    tree.Transaction (in_order
    (tree.Evaluate (tree.Print [] NoExpressions) ∷ tree.Evaluate (call (codes "h")) ∷ prints (call (codes "g"))
    ∷ prints (call (codes "f")) ∷ []))
    ∷ tree.Return nil ∷ []

abbrev pub bodies : List Body
bodies =
    body (codes "h") (tree.Return nil ∷ []) ∷ body (codes "g") (tree.Return nil ∷ [])
    ∷ body (codes "f") (tree.Return (call (codes "g")) ∷ []) ∷ body (codes "main") main ∷ []

-- the points of main, and where control may go from them
points : (skeleton (in_order main)).points
    ≡ at_depth 0 (CheckIn Entry) ∷ at_depth 0 Begin ∷ at_depth 1 (CheckIn check_in.Begin) ∷ at_depth 1 Print
    ∷ at_depth 1 (Call (codes "h")) ∷ at_depth 1 (CheckIn check_in.Call) ∷ at_depth 1 (Call (codes "g"))
    ∷ at_depth 1 (CheckIn check_in.Call) ∷ at_depth 1 Print ∷ at_depth 1 (Call (codes "f"))
    ∷ at_depth 1 (CheckIn check_in.Call) ∷ at_depth 1 Print ∷ at_depth 1 End ∷ at_depth 0 (CheckIn check_in.End)
    ∷ at_depth 0 Return ∷ at_depth 0 Return ∷ []
points = refl

ways : (skeleton (in_order main)).next ≡ map (λ n. suc n ∷ []) (range_with_len 0 14) ++ [] ∷ [] ∷ []
ways = refl

-- point n of main, of h, of f, of g
abbrev pub m : ℕ → Site
m n = record { body = 3; point = n }

abbrev pub h : ℕ → Site
h n = record { body = 0; point = n }

abbrev pub f : ℕ → Site
f n = record { body = 2; point = n }

abbrev pub g : ℕ → Site
g n = record { body = 1; point = n }

one_way : (xs : List ℕ) (b : ℕ) → xs ≡ b ∷ [] → Contains xs b
one_way xs b e = subst (λ ys. Contains ys b) (sym e) (0, omega arith, refl)

-- from point a control goes to the next one alone
pub next : (p : Site) (x : Body) (from to : Point) → slice_get bodies p.body ≡ Some x
    → successors x.skeleton p.point ≡ suc p.point ∷ [] → point_at x.skeleton p.point ≡ Some from
    → point_at x.skeleton (suc p.point) ≡ Some to → Next bodies p (after_call p)
next p x from to stored e is_from is_to = record {
  body = x;
  stored = stored;
  same = refl;
  leads = record { leads = one_way (successors x.skeleton p.point) (suc p.point) e };
  from = from;
  to = to;
  is_from = is_from;
  is_to = is_to;
}

-- each of h, g and f is nested: main calls it in its transaction
pub nested_h : Nested bodies (codes "h")
nested_h = nested.in_transaction (codes "h") (m 4) (record { is_kind = refl }) (record { passes = refl })

pub nested_g : Nested bodies (codes "g")
nested_g = nested.in_transaction (codes "g") (m 6) (record { is_kind = refl }) (record { passes = refl })

pub nested_f : Nested bodies (codes "f")
nested_f = nested.in_transaction (codes "f") (m 9) (record { is_kind = refl }) (record { passes = refl })

-- f may use g
pub standard_f : Standard bodies (codes "f") (codes "g")
standard_f = standard.used (codes "f") (codes "g") (f 1) (record { is_of = refl }) (record { uses = refl })

-- main may use g also by its call of f
standard_main : Standard bodies (codes "main") (codes "g")
standard_main =
    standard.Standard.called (codes "main") (codes "f") (codes "g") (m 9) (record { is_of = refl }) (record { is_kind = refl })
    standard_f

pub goes_on : (p : Site) → option_map (λ at. not (is_outer_end at)) (point_in bodies p) ≡ Some true → GoesOn bodies p
goes_on p e = nested.no_outer_end p (record { passes = e })
