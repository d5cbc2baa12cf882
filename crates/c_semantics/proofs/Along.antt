-- A frame comes through its body along the body's skeleton.
use Rattle.std.proofs.Common.{◌≡◌, ◌≢◌, ℕ, suc, ◌+◌, Bool, true, false, List, [], ◌∷◌, ◌++◌, Some, None, refl, sym, ◌∙◌, ap, subst, append-nil, arith}
use Rattle.std.specs.Prelude.{◌==◌, option_map}
use Rattle.std.proofs.lemmas.Bool.Decides.{nat_tests}
use Rattle.run_types.specs.CheckIns.{CheckInKind}
use Rattle.run_types.specs.CheckIns as check_in
use Rattle.run_types.specs.Skeleton.{PointKind, Point, Skeleton, Leads, entry, after, reached, kind_at, point_at, check_in_at, check_in_of, check_in_after, depth_after, successors}
use Rattle.run_types.specs.Skeleton as kind
use Rattle.c_tree.specs.BareExpr.{BareType}
use Rattle.c_semantics.specs.Values.{Value, zero_of}
use Rattle.c_semantics.specs.Resolved.{Statements}
use Rattle.c_semantics.specs.Points.{at_depth, of_body, of_statements, size_stmts}
use Rattle.c_semantics.specs.Stops.{Stop, kind_of}
use Rattle.c_semantics.specs.Stops as stop
use Rattle.c_semantics.specs.Pieces.{Piece, Scopes, Stopped, Push, At}
use Rattle.c_semantics.specs.Evaluation.{local}
use Rattle.c_semantics.specs.Skeletons.{Targets, skeleton}
use Rattle.c_semantics.specs.Skeletons as flow
use Rattle.c_semantics.specs.Leaving.{leaves_at_ends}
use Rattle.c_semantics.specs.Threads.{body_pieces}
use Rattle.c_semantics.specs.SkeletonLaws.{Comes, entered, stopped, GoesAlong, DepthIsLexical, EachHasItsWays}
use Rattle.c_semantics.proofs.Segments.{Segment, Has, has_left, has_right}
use Rattle.c_semantics.proofs.Sizes.{Alike, joined, one, count_all, statements_rows}
use Rattle.c_semantics.proofs.Unions.{contains}
use Rattle.c_semantics.proofs.Landing.{Lands, nothing, stops, Holds, Stands, fits, give_holds}
use Rattle.c_semantics.proofs.FollowingStatements.{returns, statements}
use Rattle.c_semantics.proofs.Paired.{kinds_paired}

-- a list is a part of itself
itself : {A : Type 0} (xs : List A) → Segment xs xs 0
itself xs = record { before = []; behind = []; whole = sym (append-nil xs); at = refl }

-- where a body's control goes after it
abbrev at_the_end : Statements → Targets
at_the_end body = record { on = (1 + size_stmts body) ∷ []; broken = []; continued = [] }

-- from its entry a body is good for any number of stops
from_entry : (tracked : Bool) (body : Statements) (result : BareType) (i : ℕ) → (tracked ≡ true → leaves_at_ends body ≡ true)
    → Holds (skeleton body) tracked i 0 (successors (skeleton body) entry) (local (body_pieces body result))
from_entry tracked body result i stay =
    let s = skeleton body in
    let last = 1 + size_stmts body in
    let x = flow.statements body 1 (at_the_end body) in
    let ps = of_statements 0 body in
    let start : List Point = at_depth 0 (kind.CheckIn check_in.Entry) ∷ [] in
    let close : List Point = at_depth 0 kind.Return ∷ [] in
    let whole : Has s 0 (of_body body) s.next = record { points = itself (of_body body); rows = itself s.next } in
    let within = has_right s 0 1 start (ps ++ close) (x.first ∷ []) (x.next ++ [] ∷ []) refl refl whole in
    let ends = returns s tracked i 0 0 last []
    (has_right s 1 (size_stmts body) ps close x.next ([] ∷ []) (count_all 0 body) (statements_rows body 1 (at_the_end body)) within)
    (λ _. refl) (λ _. refl) in
    statements s tracked body i 0 0 1 false (at_the_end body) (Push (zero_of result) ∷ At stop.Return last ∷ [])
    (has_left s 1 ps close x.next ([] ∷ []) within) stay (λ _. refl)
    (record {
      on = give_holds s tracked i 0 (last ∷ []) (zero_of result) (local (At stop.Return last ∷ [])) ends;
      broken = λ _ values scopes. nothing i 0 [];
      continued = λ _ values scopes. nothing i 0 [];
    })

-- what is after a good stop
stands : {s : Skeleton} {tracked : Bool} {i t n : ℕ} {to : List ℕ} {at : Stop} {rest : List Piece} {values : List Value}
    {scopes : Scopes} → Lands s tracked (suc i) t to (Stopped at n rest values scopes) → Stands s tracked t to at n
stands (stops _ _ _ _ _ _ _ _ there behind) = there

goes_on : {s : Skeleton} {tracked : Bool} {i t n : ℕ} {to : List ℕ} {at : Stop} {rest : List Piece} {values : List Value}
    {scopes : Scopes} → at ≢ stop.Return → Lands s tracked (suc i) t to (Stopped at n rest values scopes)
    → Holds s tracked i (depth_after (kind_of at) t) (successors s (reached s n)) (local rest)
goes_on stays (stops _ _ _ _ _ _ _ _ there behind) = behind stays

-- a frame that comes through its body is good for any number of stops
coming : (tracked : Bool) (body : Statements) (result : BareType) (a depth : ℕ) (ps : List Piece) (i : ℕ)
    → (tracked ≡ true → leaves_at_ends body ≡ true) → Comes body result a depth ps
    → Holds (skeleton body) tracked i depth (successors (skeleton body) a) (local ps)
coming tracked body result _ _ _ i stay entered = from_entry tracked body result i stay
coming tracked body result _ _ _ i stay (stopped a depth ps values scopes at n rest more others c stays e) =
    goes_on stays
    (subst (Lands (skeleton body) tracked (suc i) depth (successors (skeleton body) a)) e
    (coming tracked body result a depth ps (suc i) stay c values scopes))

there : (tracked : Bool) (body : Statements) (result : BareType) (a depth : ℕ) (ps : List Piece) (values : List Value)
    (scopes : Scopes) (at : Stop) (n : ℕ) (rest : List Piece) (more : List Value) (others : Scopes)
    → (tracked ≡ true → leaves_at_ends body ≡ true) → Comes body result a depth ps
    → local ps values scopes ≡ Stopped at n rest more others
    → Stands (skeleton body) tracked depth (successors (skeleton body) a) at n
there tracked body result a depth ps values scopes at n rest more others stay c e =
    stands (subst (Lands (skeleton body) tracked 1 depth (successors (skeleton body) a)) e
    (coming tracked body result a depth ps 1 stay c values scopes))

never : false ≡ true → ⊥
never e = cc

pub goes_along : GoesAlong
goes_along body result a depth ps values scopes at n rest more others c e =
    let w = there false body result a depth ps values scopes at n rest more others (λ t. absurd (never t)) c e in
    record {
      leads = record { leads = contains n (successors (skeleton body) a) w.within };
      kind = ap (option_map (λ p. p.kind)) w.point;
      check_in = kinds_paired body n (record { kind = kind_of at; depth = w.depth }) w.point (no_check_in at);
      passes = w.passes;
    }
  where
    no_check_in : (at : Stop) → check_in_of (kind_of at) ≡ None
    no_check_in (stop.ReadGlobal name) = refl
    no_check_in (stop.WriteGlobal name) = refl
    no_check_in (stop.ReadElement name) = refl
    no_check_in (stop.WriteElement name) = refl
    no_check_in (stop.ReadField tag name) = refl
    no_check_in (stop.WriteField tag name) = refl
    no_check_in (stop.New tag) = refl
    no_check_in (stop.Free tag) = refl
    no_check_in (stop.Print format arguments) = refl
    no_check_in (stop.InitMutex name) = refl
    no_check_in (stop.Lock name) = refl
    no_check_in (stop.Unlock name) = refl
    no_check_in (stop.Spawn name) = refl
    no_check_in stop.Join = refl
    no_check_in (stop.Call name arguments) = refl
    no_check_in stop.Return = refl
    no_check_in stop.Back = refl
    no_check_in stop.Begin = refl
    no_check_in stop.End = refl
    no_check_in stop.Update = refl

at_level : (at : Stop) (t : ℕ) → fits at t ≡ true → at ≡ stop.Return → t ≡ 0
at_level at t fit is = zero_is t (subst (λ x. fits x t ≡ true) is fit)
  where
    zero_is : (t : ℕ) → (t == 0) ≡ true → t ≡ 0
    zero_is t e = grind (arith, nat_tests, e)

pub depth_is_lexical : DepthIsLexical
depth_is_lexical body result a depth ps values scopes at n rest more others stay c e =
    let w = there true body result a depth ps values scopes at n rest more others (λ _. stay) c e in
    (w.point ∙ ap (λ d. Some (at_depth d (kind_of at))) (w.same refl), at_level at depth (w.level refl))

pub each_has_its_ways : EachHasItsWays
each_has_its_ways body = ap suc (joined within one).alike
  where
    within : Alike (flow.statements body 1 (at_the_end body)).next (of_statements 0 body)
    within = record { alike = statements_rows body 1 (at_the_end body) ∙ sym (count_all 0 body) }
