-- Whether a function is nested is decided.
use Rattle.std.proofs.Common.{◌≡◌, ℕ, zero, suc, Bool, true, false, cond, List, [], ◌∷◌, ◌++◌, Some, None, refl, sym, ap, subst, ◌∙◌, ◌⊎◌, inl, inr}
use Rattle.std.specs.Prelude.{Option, is_none, bytes_eq, slice_get, option_map}
use Rattle.std.specs.Option.{option_and_then}
use Rattle.std.specs.Bool.{Decides}
use Rattle.std.proofs.lemmas.Slice.Eq.{bytes_eq-Decides}
use Rattle.run_types.specs.Skeleton.{PointKind, Point, Call, point_at}
use Rattle.c_tree.specs.BareExpr.{Bytes}
use Rattle.c_semantics.specs.Store.{Body}
use Rattle.effects.specs.Sites.{Site, IsOf, IsKind, IsCall, Passes, point_in, function_in, is_enclosed}
use Rattle.effects.specs.Nested.{Nested}
use Rattle.effects.specs.Nested as nested
use Rattle.effects.specs.LeastLaws.{NestedOrNot}
use Rattle.effects.proofs.Reachable.{Among, Way, way, Reached, begins, goes, decide, decided}

item : {A : Type 0} (a b : A) → Some a ≡ Some b → a ≡ b
item a b e = cc

-- what is made of each item of a list, in order
abbrev pub collect : {A B : Type 0} → (A → List B) → List A → List B
collect make [] = []
collect make (x ∷ xs) = make x ++ collect make xs

pub among_left : {A : Type 0} (xs ys : List A) (a : A) → Among xs a → Among (xs ++ ys) a
among_left [] ys a m = absurd m
among_left (x ∷ xs) ys a (inl e) = inl e
among_left (x ∷ xs) ys a (inr m) = inr (among_left xs ys a m)

pub among_right : {A : Type 0} (xs ys : List A) (a : A) → Among ys a → Among (xs ++ ys) a
among_right [] ys a m = m
among_right (x ∷ xs) ys a m = inr (among_right xs ys a m)

pub among_cases : {A : Type 0} (xs ys : List A) (a : A) → Among (xs ++ ys) a → Among xs a ⊎ Among ys a
among_cases [] ys a m = inr m
among_cases (x ∷ xs) ys a (inl e) = inl (inl e)
among_cases (x ∷ xs) ys a (inr m) = elim (among_cases xs ys a m) [ inl l ↦ inl (inr l) | inr r ↦ inr r ]

collected : {A B : Type 0} (make : A → List B) (xs : List A) (i : ℕ) (x : A) (b : B)
    → slice_get xs i ≡ Some x → Among (make x) b → Among (collect make xs) b
collected make [] i x b e m = cc
collected make (y ∷ xs) zero x b e m =
    among_left (make y) (collect make xs) b (subst (λ z. Among (make z) b) (sym (item y x e)) m)
collected make (y ∷ xs) (suc i) x b e m = among_right (make y) (collect make xs) b (collected make xs i x b e m)

-- the item of which it was made
record Source {A B : Type 0} (make : A → List B) (xs : List A) (b : B) : Type 0 where
  place : ℕ
  item : A
  at : slice_get xs place ≡ Some item
  among : Among (make item) b

source : {A B : Type 0} (make : A → List B) (xs : List A) (b : B) → Among (collect make xs) b → Source make xs b
source make [] b m = absurd m
source make (x ∷ xs) b m =
    elim (among_cases (make x) (collect make xs) b m) [
      | inl l ↦ record { place = zero; item = x; at = refl; among = l }
      | inr r ↦
          let s = source make xs b r in
          record { place = suc s.place; item = s.item; at = s.at; among = s.among }
    ]

-- a function, or the text of a transaction
abbrev Node : Type 0
Node = Option Bytes

abbrev same : Node → Node → Bool
same None None = true
same None (Some b) = false
same (Some a) None = false
same (Some a) (Some b) = bytes_eq a b

same_decides : (x y : Node) → Decides (same x y) (x ≡ y)
same_decides None None = (λ e. refl, λ e. refl)
same_decides None (Some b) = (λ e. cc, λ e. cc)
same_decides (Some a) None = (λ e. cc, λ e. cc)
same_decides (Some a) (Some b) =
    (λ e. ap Some ((bytes_eq-Decides a b).0 e), λ e. (bytes_eq-Decides a b).1 (item a b e))

abbrev pub callee : PointKind → Option Bytes
callee (Call f) = Some f
callee _ = None

pub is_call : (k : PointKind) (f : Bytes) → callee k ≡ Some f → k ≡ Call f
is_call (Call g) f e = ap Call (item g f e)
is_call _ f e = cc

-- the ways on which a function comes to be nested: from a function that calls it, and from a transaction about a call
abbrev ways_of : Bytes → Option Bytes → Bool → List (Way Node)
ways_of g None enclosed = []
ways_of g (Some f) enclosed = way (Some g) (Some f) ∷ cond enclosed (way None (Some f) ∷ []) []

abbrev ways_at : Bytes → Point → List (Way Node)
ways_at g at = ways_of g (callee at.kind) (is_enclosed at)

abbrev ways_in : Body → List (Way Node)
ways_in b = collect (ways_at b.function) b.skeleton.points

abbrev ways : List Body → List (Way Node)
ways bodies = collect ways_in bodies

-- a point of a store with its body
record Found (bodies : List Body) (p : Site) : Type 0 where
  body : Body
  at : Point
  stored : slice_get bodies p.body ≡ Some body
  here : point_at body.skeleton p.point ≡ Some at

found : (bodies : List Body) (p : Site) (at : Point) → point_in bodies p ≡ Some at → Found bodies p
found bodies p at = by (slice_get bodies p.body) refl
  where
    by : (o : Option Body) → slice_get bodies p.body ≡ o
        → option_and_then (λ b. point_at b.skeleton p.point) o ≡ Some at → Found bodies p
    by None e h = cc
    by (Some b) e h = record { body = b; at = at; stored = e; here = h }

-- what is said of a point is said of what was found
point_found : (bodies : List Body) (p : Site) (x : Found bodies p) → point_in bodies p ≡ Some x.at
point_found bodies p x = ap (option_and_then (λ b. point_at b.skeleton p.point)) x.stored ∙ x.here

function_found : (bodies : List Body) (p : Site) (x : Found bodies p) → function_in bodies p ≡ Some x.body.function
function_found bodies p x =
    ap (option_and_then (λ b. option_map (λ at. b.function) (point_at b.skeleton p.point))) x.stored
    ∙ ap (option_map (λ at. x.body.function)) x.here

function_of : (bodies : List Body) (p : Site) (f : Bytes) (x : Found bodies p) → IsOf bodies p f → x.body.function ≡ f
function_of bodies p f x of = item x.body.function f (sym (function_found bodies p x) ∙ of.is_of)

kind_of : (bodies : List Body) (p : Site) (k : PointKind) (x : Found bodies p) → IsKind bodies p k → x.at.kind ≡ k
kind_of bodies p k x is = item x.at.kind k (sym (ap (option_map (λ at. at.kind)) (point_found bodies p x)) ∙ is.is_kind)

test_of : (bodies : List Body) (p : Site) (test : Point → Bool) (x : Found bodies p) → Passes bodies p test → test x.at ≡ true
test_of bodies p test x is = item (test x.at) true (sym (ap (option_map test) (point_found bodies p x)) ∙ is.passes)

-- a call is a point
call_found : (bodies : List Body) (c : Site) (f : Bytes) → IsCall bodies c f → Found bodies c
call_found bodies c f call = by (point_in bodies c) refl call.is_kind
  where
    by : (o : Option Point) → point_in bodies c ≡ o → option_map (λ at. at.kind) o ≡ Some (Call f) → Found bodies c
    by None e h = cc
    by (Some at) e h = found bodies c at e

-- a call gives a way from the caller, and where it is enclosed one from a transaction
among_ways : (bodies : List Body) (c : Site) (x : Found bodies c) (w : Way Node)
    → Among (ways_at x.body.function x.at) w → Among (ways bodies) w
among_ways bodies c x w m =
    collected ways_in bodies c.body x.body w x.stored
    (collected (ways_at x.body.function) x.body.skeleton.points c.point x.at w x.here m)

from_caller : (g f : Bytes) (at : Point) → at.kind ≡ Call f → Among (ways_at g at) (way (Some g) (Some f))
from_caller g f at e =
    subst (λ k. Among (ways_of g (callee k) (is_enclosed at)) (way (Some g) (Some f))) (sym e) (inl refl)

from_transaction : (g f : Bytes) (at : Point) → at.kind ≡ Call f → is_enclosed at ≡ true
    → Among (ways_at g at) (way None (Some f))
from_transaction g f at e t =
    subst (λ k. Among (ways_of g (callee k) (is_enclosed at)) (way None (Some f))) (sym e)
    (subst (λ b. Among (ways_of g (Some f) b) (way None (Some f))) (sym t) (inr (inl refl)))

reached : (bodies : List Body) (f : Bytes) → Nested bodies f → Reached (ways bodies) is_none (Some f)
reached bodies _ (nested.in_transaction f c call e) =
    let x = call_found bodies c f call in
    goes None (Some f)
    (among_ways bodies c x (way None (Some f))
    (from_transaction x.body.function f x.at (kind_of bodies c (Call f) x call) (test_of bodies c is_enclosed x e)))
    (begins None refl)
reached bodies _ (nested.Nested.in_nested f g c call of n) =
    let x = call_found bodies c f call in
    goes (Some g) (Some f)
    (among_ways bodies c x (way (Some g) (Some f))
    (subst (λ name. Among (ways_at x.body.function x.at) (way (Some name) (Some f))) (function_of bodies c g x of)
    (from_caller x.body.function f x.at (kind_of bodies c (Call f) x call))))
    (reached bodies g n)

-- a way is that of a call
record OfCall (bodies : List Body) (from to : Node) : Type 0 where
  call : Site
  function : Bytes
  called : Bytes
  is_call : IsCall bodies call called
  is_of : IsOf bodies call function
  to_called : to ≡ Some called
  source : (from ≡ Some function) ⊎ Passes bodies call is_enclosed

record Ends (g : Bytes) (o : Option Bytes) (enclosed : Bool) (from to : Node) : Type 0 where
  called : Bytes
  is : o ≡ Some called
  to_called : to ≡ Some called
  source : (from ≡ Some g) ⊎ (enclosed ≡ true)

ends : (g : Bytes) (o : Option Bytes) (enclosed : Bool) (from to : Node)
    → Among (ways_of g o enclosed) (way from to) → Ends g o enclosed from to
ends g None enclosed from to m = absurd m
ends g (Some f) enclosed from to (inl e) = record {
  called = f;
  is = refl;
  to_called = sym (ap (λ w. w.to) e);
  source = inl (sym (ap (λ w. w.from) e));
}
ends g (Some f) false from to (inr m) = absurd m
ends g (Some f) true from to (inr (inl e)) = record {
  called = f;
  is = refl;
  to_called = sym (ap (λ w. w.to) e);
  source = inr refl;
}
ends g (Some f) true from to (inr (inr m)) = absurd m

of_call : (bodies : List Body) (from to : Node) → Among (ways bodies) (way from to) → OfCall bodies from to
of_call bodies from to m =
    let s = source ways_in bodies (way from to) m in
    let t = source (ways_at s.item.function) s.item.skeleton.points (way from to) s.among in
    let x = ends s.item.function (callee t.item.kind) (is_enclosed t.item) from to t.among in
    let p : Site = record { body = s.place; point = t.place } in
    let at : Found bodies p = record { body = s.item; at = t.item; stored = s.at; here = t.at } in
    record {
      call = p;
      function = s.item.function;
      called = x.called;
      is_call = record {
        is_kind = ap (option_map (λ at. at.kind)) (point_found bodies p at) ∙ ap Some (is_call t.item.kind x.called x.is);
      };
      is_of = record { is_of = function_found bodies p at };
      to_called = x.to_called;
      source = elim x.source [
        | inl e ↦ inl e
        | inr e ↦ inr (record { passes = ap (option_map is_enclosed) (point_found bodies p at) ∙ ap Some e })
      ];
    }

by_call : (bodies : List Body) (from to : Node) (f : Bytes) → OfCall bodies from to → to ≡ Some f
    → ((g : Bytes) → from ≡ Some g → Nested bodies g) → Nested bodies f
by_call bodies from to f w is caller =
    let same_name = item w.called f (sym w.to_called ∙ is) in
    let call = subst (IsCall bodies w.call) same_name w.is_call in
    elim w.source [
      | inl e ↦ nested.Nested.in_nested f w.function w.call call w.is_of (caller w.function e)
      | inr e ↦ nested.in_transaction f w.call call e
    ]

comes : (bodies : List Body) (x : Node) → Reached (ways bodies) is_none x → (f : Bytes) → x ≡ Some f → Nested bodies f
comes bodies _ (begins x e) = λ f is. absurd (never (sym (ap is_none is) ∙ e))
  where
    never : false ≡ true → ⊥
    never e = cc
comes bodies _ (goes x y m r) = λ f is. by_call bodies x y f (of_call bodies x y m) is (comes bodies x r)

-- whether a function is nested
abbrev pub is_nested : List Body → Bytes → Bool
is_nested bodies f = decide same (ways bodies) is_none (Some f)

pub nested_decides : (bodies : List Body) (f : Bytes) → Decides (is_nested bodies f) (Nested bodies f)
nested_decides bodies f =
    let d = decided same same_decides (ways bodies) is_none (Some f) in
    (λ e. comes bodies (Some f) (d.0 e) f refl, λ n. d.1 (reached bodies f n))

pub nested_or_not : NestedOrNot
nested_or_not bodies f = by (is_nested bodies f) refl
  where
    never : false ≡ true → ⊥
    never e = cc

    by : (b : Bool) → is_nested bodies f ≡ b → Nested bodies f ⊎ (Nested bodies f → ⊥)
    by true e = inl ((nested_decides bodies f).0 e)
    by false e = inr (λ n. never (sym e ∙ (nested_decides bodies f).1 n))
