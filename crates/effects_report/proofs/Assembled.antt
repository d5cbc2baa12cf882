-- A report has the blocks of its program.
use Rattle.std.proofs.Common.{◌≡◌, ℕ, zero, suc, ◌+◌, List, [], ◌∷◌, map, length, Option, None, Some, slice_get, refl, sym, ap, ◌∙◌, subst, arith}
use Rattle.std.specs.Prelude.{All, slice_index}
use Rattle.std.specs.List.{AllZip}
use Rattle.std.specs.Option.{option_map, option_and_then}
use Rattle.std.proofs.lemmas.List.Elements.{All-nil, All-cons, All-head, All-tail}
use Rattle.std.proofs.lemmas.List.Sorted.{All-permutation}
use Rattle.std.proofs.lemmas.Option.{none-some, same_Some, slice_get-map, slice_get_within, get_or_from_slice_get}
use Rattle.run_types.specs.CheckIns.{CheckInKind}
use Rattle.run_types.specs.Skeleton.{Point, point_at, check_in_of, check_in_at}
use Rattle.c_tree.specs.BareExpr.{Bytes}
use Rattle.c_tree.specs.Bare.{bare_function}
use Rattle.c_tree.specs.declared.def.Function.{Function}
use Rattle.c_tree.specs.declared.def.Program.{Program}
use Rattle.c_semantics.specs.Texts.{Definitions, definition}
use Rattle.c_semantics.specs.SourceTexts.{Text, text_of}
use Rattle.c_semantics.specs.Skeletons.{skeleton_of}
use Rattle.c_semantics.specs.Places.{places}
use Rattle.c_semantics.specs.Store.{Body, store}
use Rattle.effects.specs.Sites.{Site}
use Rattle.effects.specs.Standard.{Standard}
use Rattle.effects.specs.Contextual.{Prior, Future}
use Rattle.effects.specs.Concrete.{Concrete}
use Rattle.effect_flow.specs.Parts.{Contents}
use Rattle.effect_flow.specs.Flows.{IsFlowOf, points_before, place_of}
use Rattle.contextual_effects.specs.Effects.{Sets, AreEffectsOf}
use Rattle.check_in_places.specs.declared.section.Spot.{Spot}
use Rattle.check_in_places.specs.declared.section.Section.{Section}
use Rattle.check_in_places.specs.CheckIns.{check_ins_in, functions}
use Rattle.check_in_places.specs.Bodies.{shown, IsSpotOf, IsSectionFor, AreSections, AreBodiesOf, body_of}
use Rattle.check_in_places.proofs.CheckIns.{are_check_ins, ascending_shown}
use Rattle.check_in_places.proofs.OneText.{store_of}
use Rattle.effects_report.specs.EffectsText.{IsLineOf, IsBlockOf, AreBlocksFrom}
use Rattle.effects_report.specs.Shown.{line_of, block_of, IsReady}
use Rattle.effects_report.specs.Tables.{IsOrdered}
use Rattle.effects_report.proofs.SetTexts.{set_is}

-- ---- the place of a check-in in the flow

point_of_check_in : (o : Option Point) (kind : CheckInKind) → option_and_then check_in_of (option_map (λ p. p.kind) o) ≡ Some kind
    → (p : Point) × (o ≡ Some p)
point_of_check_in None kind e = absurd (none-some kind e)
point_of_check_in (Some p) kind e = (p, refl)

-- the place of a check-in in the flow
place_at : (bodies : List Body) (k n : ℕ) (b : Body) (p : Point) → slice_get bodies k ≡ Some b → point_at b.skeleton n ≡ Some p
    → place_of bodies (record { body = k; point = n }) ≡ Some (points_before bodies k + n)
place_at bodies k n b p stored is_point =
    ap (λ o. option_map (λ at. points_before bodies k + n) (option_and_then (λ body. point_at body.skeleton n) o)) stored
    ∙ ap (option_map (λ at. points_before bodies k + n)) is_point

points_before_none : (bodies : List Body) → points_before bodies 0 ≡ 0
points_before_none [] = refl
points_before_none (b ∷ bs) = refl

points_before_more : (bodies : List Body) (k : ℕ) (b : Body) → slice_get bodies k ≡ Some b
    → points_before bodies (suc k) ≡ points_before bodies k + length b.skeleton.points
points_before_more [] k b e = absurd (none-some b e)
points_before_more (a ∷ bs) zero b e =
    let none = points_before_none bs in
    let same : length a.skeleton.points ≡ length b.skeleton.points = ap (λ x. length x.skeleton.points) (same_Some a b e) in
    omega arith
points_before_more (a ∷ bs) (suc k) b e =
    let more : points_before bs (suc k) ≡ points_before bs k + length b.skeleton.points = points_before_more bs k b e in
    omega arith

-- ---- lines and blocks

-- what is known of the whole report
pub record IsSolved (names : List Bytes) (bodies : List Body) (flow : Contents) (sets : Sets) : Type 0 where
  pub ordered : IsOrdered names
  pub flowing : IsFlowOf names bodies flow
  pub effects : AreEffectsOf names bodies sets

line_is : (names : List Bytes) (bodies : List Body) (flow : Contents) (sets : Sets) (k first : ℕ) (b : Body) (spot : Spot)
    → IsSolved names bodies flow sets → slice_get bodies k ≡ Some b → first ≡ points_before bodies k
    → IsSpotOf first spot → check_in_at b.skeleton spot.number ≡ Some (shown spot).kind
    → IsLineOf bodies k (shown spot) (line_of names sets spot)
line_is names bodies flow sets k first b spot solved stored begin is check_in =
    let p : Site = record { body = k; point = spot.number } in
    let point = point_of_check_in (point_at b.skeleton spot.number) (shown spot).kind check_in in
    let place : place_of bodies p ≡ Some spot.point =
    place_at bodies k spot.number b point.0 stored point.1
    ∙ ap Some (ap (λ n. n + spot.number) (sym begin) ∙ sym is)
    in
    record {
      place = refl;
      kind = refl;
      prior = set_is names (slice_index sets.prior spot.point) (Prior bodies p) solved.ordered (solved.effects.prior p spot.point place);
      future = set_is names (slice_index sets.future spot.point) (Future bodies p) solved.ordered (solved.effects.future p spot.point place);
      concrete = set_is names (slice_index sets.concrete spot.point) (Concrete bodies p) solved.ordered (solved.effects.concrete p spot.point place);
    }

lines_are : (names : List Bytes) (bodies : List Body) (flow : Contents) (sets : Sets) (k first : ℕ) (b : Body) (spots : List Spot)
    → IsSolved names bodies flow sets → slice_get bodies k ≡ Some b → first ≡ points_before bodies k
    → All (IsSpotOf first) spots → All (λ c. check_in_at b.skeleton c.point ≡ Some c.kind) (map shown spots)
    → AllZip (IsLineOf bodies k) (map shown spots) (map (line_of names sets) spots)
lines_are names bodies flow sets k first b [] solved stored begin are check_ins = tt
lines_are names bodies flow sets k first b (spot ∷ spots) solved stored begin are check_ins = (
  line_is names bodies flow sets k first b spot solved stored begin (All-head (IsSpotOf first) spot spots are)
      (All-head (λ c. check_in_at b.skeleton c.point ≡ Some c.kind) (shown spot) (map shown spots) check_ins),
  lines_are names bodies flow sets k first b spots solved stored begin (All-tail (IsSpotOf first) spot spots are)
      (All-tail (λ c. check_in_at b.skeleton c.point ≡ Some c.kind) (shown spot) (map shown spots) check_ins),
)

block_is : (names : List Bytes) (bodies : List Body) (flow : Contents) (sets : Sets) (q : Text) (k first : ℕ) (f : Function) (section : Section)
    → IsSolved names bodies flow sets → slice_get bodies k ≡ Some (body_of q f) → first ≡ points_before bodies k
    → IsSectionFor names (definition q.definitions) first f section
    → IsBlockOf bodies (definition q.definitions) k f (block_of names sets section)
block_is names bodies flow sets q k first f section solved stored begin is =
    let look = definition q.definitions in
    let skeleton = skeleton_of look (Some (bare_function f)) in
    let spots = section.spots.items in
    let named : slice_get names section.function ≡ Some f.name.text = ap (slice_get names) is.section.function ∙ is.named in
    record {
      function = get_or_from_slice_get names section.function f.name.text [] named;
      standard = set_is names (slice_index sets.standard section.function) (Standard bodies f.name.text) solved.ordered
          (solved.effects.standard f.name.text section.function named);
      lines = record {
        order = map shown spots;
        all = is.section.all;
        ascending = ascending_shown spots is.section.ascending;
        lines = lines_are names bodies flow sets k first (body_of q f) spots solved stored begin is.section.spots
            (All-permutation (λ c. check_in_at skeleton c.point ≡ Some c.kind) (check_ins_in skeleton (places look f)) (map shown spots) is.section.all
            (are_check_ins skeleton (places look f) (length skeleton.points)));
      };
    }

blocks_are : (names : List Bytes) (bodies : List Body) (flow : Contents) (sets : Sets) (q : Text) (k first : ℕ) (fs : List Function) (sections : List Section)
    → IsSolved names bodies flow sets
    → ((i : ℕ) (f : Function) → slice_get fs i ≡ Some f → slice_get bodies (k + i) ≡ Some (body_of q f))
    → first ≡ points_before bodies k
    → AreSections names (definition q.definitions) first fs sections
    → AreBlocksFrom bodies (definition q.definitions) k fs (map (block_of names sets) sections)
blocks_are names bodies flow sets q k first [] [] solved from begin are = tt
blocks_are names bodies flow sets q k first [] (section ∷ sections) solved from begin are = absurd are
blocks_are names bodies flow sets q k first (f ∷ fs) [] solved from begin are = absurd are
blocks_are names bodies flow sets q k first (f ∷ fs) (section ∷ sections) solved from begin are =
    let here : k + 0 ≡ k = omega arith in
    let stored : slice_get bodies k ≡ Some (body_of q f) = subst {A = ℕ} (λ n. slice_get bodies n ≡ Some (body_of q f)) here (from 0 f refl) in
    let points = length (skeleton_of (definition q.definitions) (Some (bare_function f))).points in
    let after : first + points ≡ points_before bodies (suc k) =
    ap (λ n. n + points) begin ∙ sym (points_before_more bodies k (body_of q f) stored)
    in (
      block_is names bodies flow sets q k first f section solved stored begin are.0,
      blocks_are names bodies flow sets q (suc k) (first + points) fs sections solved
          (λ i g e.
          let next : k + suc i ≡ suc k + i = omega arith in
          subst {A = ℕ} (λ n. slice_get bodies n ≡ Some (body_of q g)) next (from (suc i) g e))
          after are.1,
    )

-- the report of a program
pub report_is : (p : Program) (names : List Bytes) (flow : Contents) (sections : List Section) (sets : Sets)
    → IsOrdered names → AreBodiesOf names (text_of p) (functions p) flow sections
    → ((all : List Bytes) (bodies : List Body) → IsFlowOf all bodies flow → AreEffectsOf all bodies sets)
    → AreBlocksFrom (store (text_of p ∷ [])) (definition (text_of p).definitions) 0 (functions p) (map (block_of names sets) sections)
report_is p names flow sections sets ordered are effects =
    let q = text_of p in
    let bodies = map (body_of q) (functions p) in
    subst {A = List Body} (λ bs. AreBlocksFrom bs (definition q.definitions) 0 (functions p) (map (block_of names sets) sections)) (sym (store_of p))
    (blocks_are names bodies flow sets q 0 0 (functions p) sections
    (record { ordered = ordered; flowing = are.flow; effects = effects names bodies are.flow })
    (λ i f e.
    let at : 0 + i ≡ i = omega arith in
    ap (slice_get bodies) at ∙ slice_get-map (body_of q) (functions p) i ∙ ap (option_map (body_of q)) e)
    (sym (points_before_none bodies)) are.sections)

-- and it can be written
pub report_ready : (names : List Bytes) (look : Definitions) (fs : List Function) (sections : List Section) (first : ℕ)
    → AreSections names look first fs sections → All (IsReady names) sections
report_ready names look [] [] first are = All-nil (IsReady names)
report_ready names look [] (section ∷ sections) first are = absurd are
report_ready names look (f ∷ fs) [] first are = absurd are
report_ready names look (f ∷ fs) (section ∷ sections) first are =
    All-cons (IsReady names) section sections
    (record {
      named = slice_get_within names section.function f.name.text (ap (slice_get names) are.0.section.function ∙ are.0.named);
    })
    (report_ready names look fs sections (first + length (skeleton_of look (Some (bare_function f))).points) are.1)
