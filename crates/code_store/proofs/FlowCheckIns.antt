-- The flow of some bodies has their check-ins.
use Rattle.std.proofs.Common.{◌≡◌, ℕ, suc, ◌+◌, ◌<◌, List, [], ◌∷◌, ◌++◌, map, length, take, get_or, refl, sym, ap, ◌∙◌}
use Rattle.std.specs.Prelude.{cond, count_by}
use Rattle.std.proofs.lemmas.List.{take_more}
use Rattle.std.proofs.lemmas.List.Sums.{sum_by-append, sum_by-cons}
use Rattle.run_types.specs.Skeleton.{Point as SeenPoint}
use Rattle.skeletons.specs.declared.point.Point.{Point}
use Rattle.skeletons.specs.Meaning.{kind_of, point_of}
use Rattle.c_semantics.specs.Skeletons.{is_check_in_kind}
use Rattle.c_semantics.specs.Store.{all_check_ins}
use Rattle.effect_flow.specs.declared.flow.FlowPoint.{FlowPoint}
use Rattle.effect_flow.specs.Parts.{check_ins_among, points_from}
use Rattle.code_store.specs.declared.body.StoredBody.{StoredBody}
use Rattle.code_store.specs.Stored.{meant_body}
use Rattle.code_store.proofs.StoredBodies.{check_ins_with_body}

-- the points of one body
of_body : (function generation n : ℕ) (ps : List Point)
    → check_ins_among (points_from function generation n ps) ≡ count_by (λ p. is_check_in_kind p.kind) (map (point_of []) ps)
of_body function generation n [] = refl
of_body function generation n (p ∷ ps) =
    let x : FlowPoint = record { function = function; generation = generation; number = n; point = p } in
    let first = sum_by-cons (λ (x : FlowPoint). cond (is_check_in_kind (kind_of [] x.point.kind)) 1 0) x (points_from function generation (suc n) ps) in
    let same = sum_by-cons (λ (x : SeenPoint). cond (is_check_in_kind x.kind) 1 0) (point_of [] p) (map (point_of []) ps) in
    first ∙ ap (λ m. cond (is_check_in_kind (kind_of [] p.kind)) 1 0 + m) (of_body function generation (suc n) ps) ∙ sym same

-- the flow of one body more
pub flow_check_ins_more : (bs : List StoredBody) (i : ℕ) (b : StoredBody) (old new : List FlowPoint) → i < length bs → b ≡ get_or bs i b
    → new ≡ old ++ points_from b.function b.generation 0 b.skeleton.points.items
    → check_ins_among old ≡ all_check_ins (map (meant_body []) (take i bs))
    → check_ins_among new ≡ all_check_ins (map (meant_body []) (take (i + 1) bs))
flow_check_ins_more bs i b old new l is grown so_far =
    let added = points_from b.function b.generation 0 b.skeleton.points.items in
    let more : take (i + 1) bs ≡ take i bs ++ b ∷ [] = take_more bs i b l ∙ ap (λ b. take i bs ++ b ∷ []) (sym is) in
    ap check_ins_among grown
    ∙ sum_by-append (λ (x : FlowPoint). cond (is_check_in_kind (kind_of [] x.point.kind)) 1 0) old added
    ∙ ap (λ n. n + check_ins_among added) so_far
    ∙ ap (λ n. all_check_ins (map (meant_body []) (take i bs)) + n) (of_body b.function b.generation 0 b.skeleton.points.items)
    ∙ sym (check_ins_with_body [] (take i bs) b)
    ∙ ap (λ bs. all_check_ins (map (meant_body []) bs)) (sym more)
