-- Points whose ids are below a number: in larger tables they mean the same.
use Rattle.std.proofs.Common.{◌≡◌, ℕ, ◌<◌, ◌≤◌, List, [], ◌∷◌, ◌++◌, All, map, length, Option, Some, None, refl, ap, arith}
use Rattle.std.specs.Prelude.{IfSome}
use Rattle.std.proofs.lemmas.List.{get_or_append_left}
use Rattle.std.proofs.lemmas.List.Elements.{All-weaker, All-head, All-tail}
use Rattle.name_sets.specs.Texts.{text_of}
use Rattle.skeletons.specs.Meaning.{used_at, use_of, kind_of}
use Rattle.skeletons.specs.declared.point.PointKind.{PointKind}
use Rattle.skeletons.specs.declared.point.PointKind.TheVariants.{CheckIn, Uses, Print, Join, Return, Back, Begin, End, Update}
use Rattle.c_tree.specs.BareExpr.{Bytes}
use Rattle.effect_flow.specs.declared.flow.FlowPoint.{FlowPoint}
use Rattle.effect_flow.specs.Parts.{HasIdsBelow}
use Rattle.effect_flow.specs.Flows.{spot_of}

if_below : (o : Option ℕ) (m n : ℕ) → m ≤ n → IfSome o (λ id. id < m) → IfSome o (λ id. id < n)
if_below None m n le h = tt
if_below (Some id) m n le h = omega arith

pub ids_below_larger : (m n : ℕ) (p : FlowPoint) → m ≤ n → HasIdsBelow m p → HasIdsBelow n p
ids_below_larger m n p le h = record { function = omega arith; used = if_below (used_at p.point.kind) m n le h.used }

pub all_below_larger : (m n : ℕ) (ps : List FlowPoint) → m ≤ n → All (HasIdsBelow m) ps → All (HasIdsBelow n) ps
all_below_larger m n ps le h = All-weaker (HasIdsBelow m) (HasIdsBelow n) (λ p. ids_below_larger m n p le) ps h

text_kept : (names more : List Bytes) (id : ℕ) → id < length names → text_of (names ++ more) id ≡ text_of names id
text_kept names more id l = get_or_append_left names more [] id l

kind_kept : (names more : List Bytes) (k : PointKind) → IfSome (used_at k) (λ id. id < length names)
    → kind_of (names ++ more) k ≡ kind_of names k
kind_kept names more (Uses action id) l = ap (use_of action) (text_kept names more id l)
kind_kept names more (CheckIn kind) l = refl
kind_kept names more Print l = refl
kind_kept names more Join l = refl
kind_kept names more Return l = refl
kind_kept names more Back l = refl
kind_kept names more Begin l = refl
kind_kept names more End l = refl
kind_kept names more Update l = refl

-- a point means the same where its table grows
pub spot_kept : (names more : List Bytes) (p : FlowPoint) → HasIdsBelow (length names) p
    → spot_of (names ++ more) p ≡ spot_of names p
spot_kept names more p h =
    let f : text_of (names ++ more) p.function ≡ text_of names p.function = text_kept names more p.function h.function in
    let k : kind_of (names ++ more) p.point.kind ≡ kind_of names p.point.kind = kind_kept names more p.point.kind h.used in
    cc

pub spots_kept : (names more : List Bytes) (ps : List FlowPoint) → All (HasIdsBelow (length names)) ps
    → map (spot_of (names ++ more)) ps ≡ map (spot_of names) ps
spots_kept names more [] h = refl
spots_kept names more (p ∷ ps) h =
    let first : spot_of (names ++ more) p ≡ spot_of names p =
    spot_kept names more p (All-head (HasIdsBelow (length names)) p ps h) in
    let rest : map (spot_of (names ++ more)) ps ≡ map (spot_of names) ps =
    spots_kept names more ps (All-tail (HasIdsBelow (length names)) p ps h) in
    cc
