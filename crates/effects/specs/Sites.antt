-- The points of a store, and what is said of one by its own body alone.
use Rattle.std.specs.Prelude.{◌≡◌, ℕ, nat_lt, ◌==◌, Bool, true, false, ◌&&◌, List, Option, Some, slice_get, option_map}
use Rattle.std.specs.Option.{option_and_then}
use Rattle.run_types.specs.Skeleton.{PointKind, Point, Leads, Call, Return, End, direct_use, point_at, entry, after}
use Rattle.c_tree.specs.BareExpr.{Bytes}
use Rattle.c_semantics.specs.Store.{Body}

-- a point of a store: the place of its body in the list, and its number in the body
pub record Site : Type 0 where
  pub body : ℕ
  pub point : ℕ

-- the check-in after the return of the call at a site
abbrev pub after_call : Site → Site
after_call c = record { body = c.body; point = after c.point }

-- the point at a site, if it is one of the store
abbrev pub point_in : List Body → Site → Option Point
point_in bodies p = option_and_then (λ b. point_at b.skeleton p.point) (slice_get bodies p.body)

-- the function in whose body a site is, if it is one of the store
abbrev pub function_in : List Body → Site → Option Bytes
function_in bodies p =
    option_and_then (λ b. option_map (λ at. b.function) (point_at b.skeleton p.point)) (slice_get bodies p.body)

-- site p is a point of a body of f
pub record IsOf (bodies : List Body) (p : Site) (f : Bytes) : Type 0 where
  pub is_of : function_in bodies p ≡ Some f

-- site p is a point that passes a test
pub record Passes (bodies : List Body) (p : Site) (test : Point → Bool) : Type 0 where
  pub passes : option_map test (point_in bodies p) ≡ Some true

-- site p is a point of that kind
pub record IsKind (bodies : List Body) (p : Site) (kind : PointKind) : Type 0 where
  pub is_kind : option_map (λ at. at.kind) (point_in bodies p) ≡ Some kind

-- site p uses a name directly
pub record Uses (bodies : List Body) (p : Site) (name : Bytes) : Type 0 where
  pub uses : option_and_then (λ at. direct_use at.kind) (point_in bodies p) ≡ Some name

-- site p is a call of f; a spawn is none
abbrev pub IsCall : List Body → Site → Bytes → Type 0
IsCall bodies p f = IsKind bodies p (Call f)

-- site p is a return from a body of f
pub record IsReturn (bodies : List Body) (p : Site) (f : Bytes) : Type 0 where
  pub is_return : IsKind bodies p Return
  pub is_of : IsOf bodies p f

-- site p is the entry of a body of f
pub record IsEntry (bodies : List Body) (p : Site) (f : Bytes) : Type 0 where
  pub is_entry : p.point ≡ entry
  pub is_of : IsOf bodies p f

-- p and q are points of one body, and there control may go from p to q without a point between
pub record Next (bodies : List Body) (p q : Site) : Type 0 where
  pub body : Body
  pub stored : slice_get bodies p.body ≡ Some body
  pub same : q.body ≡ p.body
  pub leads : Leads body.skeleton p.point q.point
  pub from : Point
  pub to : Point
  pub is_from : point_at body.skeleton p.point ≡ Some from
  pub is_to : point_at body.skeleton q.point ≡ Some to

-- whether a point is enclosed by a transaction in the function's text; a begin isn't by its own, its end is
abbrev pub is_enclosed : Point → Bool
is_enclosed at = nat_lt 0 at.depth

-- whether a point is the end of a transaction that no other encloses in the function's text
abbrev pub is_end : PointKind → Bool
is_end End = true
is_end _ = false

abbrev pub is_outer_end : Point → Bool
is_outer_end at = is_end at.kind && at.depth == 1

-- whether control goes on from a point in its own body: from each but a call and a return
abbrev pub stays : PointKind → Bool
stays (Call f) = false
stays Return = false
stays _ = true
