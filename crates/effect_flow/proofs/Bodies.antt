-- The flow of some bodies, with a body more, and in a larger table.
use Rattle.std.proofs.Common.{◌≡◌, ℕ, suc, ◌+◌, ◌<◌, List, [], ◌∷◌, ◌++◌, All, map, length, refl, sym, ap, ◌∙◌, arith}
use Rattle.std.specs.Prelude.{IfSome}
use Rattle.std.proofs.lemmas.List.{append-nil, append_assoc, map-append, length-map, length-append}
use Rattle.std.proofs.lemmas.List.Elements.{All-nil, All-cons, All-head, All-tail, All-append, All-same}
use Rattle.name_sets.specs.Texts.{IsTable, text_of}
use Rattle.run_types.specs.Skeleton.{Point}
use Rattle.skeletons.specs.Meaning.{used_at, point_of}
use Rattle.skeletons.specs.declared.point.Point.{Point as CodePoint}
use Rattle.skeletons.specs.declared.skeleton.Skeleton.{Skeleton as Code}
use Rattle.c_tree.specs.BareExpr.{Bytes}
use Rattle.c_semantics.specs.Store.{Body}
use Rattle.effect_flow.specs.declared.flow.FlowPoint.{FlowPoint}
use Rattle.effect_flow.specs.Parts.{Contents, HasIdsBelow, points_from, ways_from}
use Rattle.effect_flow.specs.Flows.{spots_from, spots, ways_after, spot_of, IsFlowOf, AreNamed, body_of}
use Rattle.effect_flow.proofs.Ids.{all_below_larger, spots_kept}

-- what the points of a body mean
points_are_spots : (names : List Bytes) (function generation n : ℕ) (ps : List CodePoint)
    → map (spot_of names) (points_from function generation n ps)
    ≡ spots_from (text_of names function) generation n (map (point_of names) ps)
points_are_spots names function generation n [] = refl
points_are_spots names function generation n (p ∷ ps) =
    ap (λ rest. record { function = text_of names function; generation = generation; number = n; at = point_of names p } ∷ rest)
    (points_are_spots names function generation (suc n) ps)

pub length-spots_from : (function : Bytes) (generation n : ℕ) (ps : List Point)
    → length (spots_from function generation n ps) ≡ length ps
length-spots_from function generation n [] = refl
length-spots_from function generation n (p ∷ ps) = ap suc (length-spots_from function generation (suc n) ps)

spots_push : (bs : List Body) (b : Body)
    → spots (bs ++ b ∷ []) ≡ spots bs ++ spots_from b.function b.generation 0 b.skeleton.points
spots_push [] b = append-nil (spots_from b.function b.generation 0 b.skeleton.points)
spots_push (a ∷ bs) b =
    ap (λ rest. spots_from a.function a.generation 0 a.skeleton.points ++ rest) (spots_push bs b)
    ∙ sym
    (append_assoc (spots_from a.function a.generation 0 a.skeleton.points) (spots bs)
    (spots_from b.function b.generation 0 b.skeleton.points))

ways_push : (before : ℕ) (bs : List Body) (b : Body)
    → ways_after before (bs ++ b ∷ [])
    ≡ ways_after before bs
    ++ ways_from (before + length (spots bs)) (length b.skeleton.points) 0 b.skeleton.next
ways_push before [] b =
    let e : before ≡ before + 0 = omega arith in
    append-nil (ways_from before (length b.skeleton.points) 0 b.skeleton.next)
    ∙ ap (λ n. ways_from n (length b.skeleton.points) 0 b.skeleton.next) e
ways_push before (a ∷ bs) b =
    let size : ℕ = length a.skeleton.points in
    let e : before + size + length (spots bs) ≡ before + length (spots (a ∷ bs)) =
    omega
    (arith, length-append (spots_from a.function a.generation 0 a.skeleton.points) (spots bs), length-spots_from a.function a.generation 0 a.skeleton.points) in
    ap (λ rest. ways_from before size 0 a.skeleton.next ++ rest) (ways_push (before + size) bs b)
    ∙ sym
    (append_assoc (ways_from before size 0 a.skeleton.next) (ways_after (before + size) bs)
    (ways_from (before + size + length (spots bs)) (length b.skeleton.points) 0 b.skeleton.next))
    ∙ ap (λ n. ways_after before (a ∷ bs) ++ ways_from n (length b.skeleton.points) 0 b.skeleton.next) e

points_known : (names : List Bytes) (function generation n : ℕ) (ps : List CodePoint) → function < length names
    → All (λ p. IfSome (used_at p.kind) (λ id. id < length names)) ps
    → All (HasIdsBelow (length names)) (points_from function generation n ps)
points_known names function generation n [] f u = All-nil (HasIdsBelow (length names))
points_known names function generation n (p ∷ ps) f u =
    let Known : CodePoint → Type 0 = λ p. IfSome (used_at p.kind) (λ id. id < length names) in
    All-cons (HasIdsBelow (length names))
    (record { function = function; generation = generation; number = n; point = p })
    (points_from function generation (suc n) ps)
    (record { function = f; used = All-head Known p ps u })
    (points_known names function generation (suc n) ps f (All-tail Known p ps u))

-- the flow of no bodies is followed by that of one more
pub flow_with_body : (names : List Bytes) (bodies : List Body) (old new : Contents) (function generation : ℕ) (code : Code) (tokens : ℕ)
    → IsFlowOf names bodies old → AreNamed names function code
    → new.points ≡ old.points ++ points_from function generation 0 code.points.items
    → new.ways ≡ old.ways ++ ways_from (length old.points) (length code.points.items) 0 code.next.items
    → IsFlowOf names (bodies ++ body_of names function generation code tokens ∷ []) new
flow_with_body names bodies old new function generation code tokens flow named points ways = record {
  table = flow.table;
  known = All-same (HasIdsBelow (length names)) new.points (old.points ++ added) points
      (All-append (HasIdsBelow (length names)) old.points added flow.known
      (points_known names function generation 0 code.points.items named.named_function named.named_uses));
  points = ap (map (spot_of names)) points
      ∙ map-append (spot_of names) old.points added
      ∙ ap (λ s. s ++ map (spot_of names) added) flow.points
      ∙ ap (λ s. spots bodies ++ s) (points_are_spots names function generation 0 code.points.items)
      ∙ sym (spots_push bodies body);
  ways = ways
      ∙ ap (λ w. w ++ ways_from (length old.points) (length code.points.items) 0 code.next.items) flow.ways
      ∙ ap (λ n. ways_after 0 bodies ++ ways_from n (length code.points.items) 0 code.next.items) before
      ∙ ap (λ n. ways_after 0 bodies ++ ways_from (0 + length (spots bodies)) n 0 code.next.items) size
      ∙ sym (ways_push 0 bodies body);
}
  where
    added : List FlowPoint
    added = points_from function generation 0 code.points.items

    body : Body
    body = body_of names function generation code tokens

    before : length old.points ≡ 0 + length (spots bodies)
    before = omega (arith, length-map old.points (spot_of names), ap length flow.points)

    size : length code.points.items ≡ length (map (point_of names) code.points.items)
    size = sym (length-map code.points.items (point_of names))

-- the flow is the same where its table grows
pub flow_with_names : (names more : List Bytes) (bodies : List Body) (flow : Contents)
    → IsTable (names ++ more) → IsFlowOf names bodies flow → IsFlowOf (names ++ more) bodies flow
flow_with_names names more bodies flow table f = record {
  table = table;
  known = all_below_larger (length names) (length (names ++ more)) flow.points
      (omega (arith, length-append names more)) f.known;
  points = spots_kept names more flow.points f.known ∙ f.points;
  ways = f.ways;
}
