-- What the functions of a text answer are the blocks of its report.
use Rattle.std.proofs.Common.{◌≡◌, ℕ, ◌+◌, ◌<◌, List, [], ◌∷◌, ◌++◌, length, map, take, get_or, Option, Some, refl, sym, ap, subst, ◌∙◌}
use Rattle.std.specs.Prelude.{All, slice_get}
use Rattle.std.specs.List.{AllZip}
use Rattle.std.proofs.lemmas.List.{map_push, take_more}
use Rattle.std.proofs.lemmas.List.Elements.{All-head, All-tail}
use Rattle.std.proofs.lemmas.Option.{get_or_from_slice_get}
use Rattle.name_sets.specs.Texts.{text_of}
use Rattle.run_types.specs.Skeleton.{Skeleton}
use Rattle.c_tree.specs.BareExpr.{Bytes}
use Rattle.c_tree.specs.Bare.{bare_function}
use Rattle.c_tree.specs.declared.def.Function.{Function}
use Rattle.c_semantics.specs.Texts.{Definitions, definition}
use Rattle.c_semantics.specs.SourceTexts.{Text}
use Rattle.c_semantics.specs.Skeletons.{skeleton_of}
use Rattle.c_semantics.specs.Places.{places}
use Rattle.c_semantics.specs.Store.{Body, CheckInOf, check_in_number}
use Rattle.con_freeness.specs.declared.refusal.Effect.{Effect as EffectOfIds}
use Rattle.con_freeness.specs.Rows.{Names}
use Rattle.check_in_places.specs.declared.section.Spot.{Spot}
use Rattle.check_in_places.specs.declared.section.Section.{Section}
use Rattle.check_in_places.specs.CheckIns.{CheckIn}
use Rattle.check_in_places.specs.Bodies.{shown, IsCounted, IsSectionFor, AreSections, body_of}
use Rattle.check_in_places.proofs.CheckIns.{ascending_shown}
use Rattle.admits_report.specs.declared.admission.Admission.{Admission}
use Rattle.admits_report.specs.declared.answers.CheckInAnswer.{CheckInAnswer}
use Rattle.admits_report.specs.declared.answers.FunctionAnswers.{FunctionAnswers}
use Rattle.admits_report.specs.AdmitsText.{IsAnswer, IsLineOf, IsBlockOf}
use Rattle.admits_report.specs.Answered.{IsAdmissionOver, AnswersFor, AreAnswersOf, spot_of}
use Rattle.admits_report.specs.Shown.{answer_shown, line_of, block_of}

-- ---- lists side by side

pub zip_push : {A B : Type 0} (R : A → B → Type 0) (xs : List A) (ys : List B) (x : A) (y : B) → AllZip R xs ys → R x y
    → AllZip R (xs ++ x ∷ []) (ys ++ y ∷ [])
zip_push R [] [] x y are is = (is, tt)
zip_push R [] (b ∷ ys) x y are is = absurd are
zip_push R (a ∷ xs) [] x y are is = absurd are
zip_push R (a ∷ xs) (b ∷ ys) x y are is = (are.0, zip_push R xs ys x y are.1 is)

-- ---- the check-ins of lines, one more

pub spots_more : (spots : List Spot) (lines new : List CheckInAnswer) (i : ℕ) (d : Spot) (answer : Option EffectOfIds) → i < length spots
    → new ≡ lines ++ record { spot = get_or spots i d; answer = answer } ∷ [] → map spot_of lines ≡ take i spots
    → map spot_of new ≡ take (i + 1) spots
spots_more spots lines new i d answer within has had =
    ap (map spot_of) has ∙ map_push spot_of lines (record { spot = get_or spots i d; answer = answer })
    ∙ ap (λ list. list ++ get_or spots i d ∷ []) had ∙ sym (take_more spots i d within)

-- ---- the lines of a body

line_is : (a : Admission) (bodies : List Body) (changed interface : Names) (body : Body) (line : CheckInAnswer)
    → IsAdmissionOver bodies changed interface a → AnswersFor a (CheckInOf body.function body.generation line.spot.before) line.answer
    → IsCounted body.skeleton line.spot → IsLineOf bodies changed interface body (shown line.spot) (line_of a.names.now line)
line_is a bodies changed interface body line over says counted = record {
  place = refl;
  kind = refl;
  answer = subst {A = ℕ}
      (λ n. IsAnswer bodies changed interface (CheckInOf body.function body.generation n) (answer_shown a.names.now line.answer))
      counted (says bodies changed interface over);
}

lines_are : (a : Admission) (bodies : List Body) (changed interface : Names) (body : Body) (lines : List CheckInAnswer)
    → IsAdmissionOver bodies changed interface a
    → All (λ line. AnswersFor a (CheckInOf body.function body.generation line.spot.before) line.answer) lines
    → All (IsCounted body.skeleton) (map spot_of lines)
    → AllZip (IsLineOf bodies changed interface body) (map shown (map spot_of lines)) (map (line_of a.names.now) lines)
lines_are a bodies changed interface body [] over say counted = tt
lines_are a bodies changed interface body (line ∷ lines) over say counted =
    let Says : CheckInAnswer → Type 0 = λ line. AnswersFor a (CheckInOf body.function body.generation line.spot.before) line.answer in (
      line_is a bodies changed interface body line over (All-head Says line lines say)
          (All-head (IsCounted body.skeleton) line.spot (map spot_of lines) counted),
      lines_are a bodies changed interface body lines over (All-tail Says line lines say)
          (All-tail (IsCounted body.skeleton) line.spot (map spot_of lines) counted),
    )

-- ---- the block of a function, and those of all

block_is : (a : Admission) (bodies : List Body) (changed interface : Names) (q : Text) (first : ℕ) (f : Function) (section : Section)
    (g : FunctionAnswers)
    → IsAdmissionOver bodies changed interface a
    → IsSectionFor a.names.now (definition q.definitions) first f section → AreAnswersOf a section g
    → IsBlockOf bodies changed interface q f (block_of a.names.now g)
block_is a bodies changed interface q first f section g over is are =
    let names = a.names.now in
    let body = body_of q f in
    let spots = section.spots.items in
    let named : slice_get names section.function ≡ Some f.name.text = ap (slice_get names) is.section.function ∙ is.named in
    record {
      function = ap (text_of names) are.function ∙ get_or_from_slice_get names section.function f.name.text [] named;
      start = are.start f.name.text named bodies changed interface over;
      lines = record {
        order = map shown spots;
        all = is.section.all;
        ascending = ascending_shown spots is.section.ascending;
        lines = subst {A = List Spot}
            (λ list. AllZip (IsLineOf bodies changed interface body) (map shown list) (map (line_of names) g.lines.items)) are.spots
            (lines_are a bodies changed interface body g.lines.items over (are.lines f.name.text named)
            (subst {A = List Spot} (All (IsCounted body.skeleton)) (sym are.spots) is.section.counted));
      };
    }

pub blocks_are : (a : Admission) (bodies : List Body) (changed interface : Names) (q : Text) (first : ℕ) (fs : List Function)
    (sections : List Section) (gs : List FunctionAnswers)
    → IsAdmissionOver bodies changed interface a
    → AreSections a.names.now (definition q.definitions) first fs sections → AllZip (AreAnswersOf a) sections gs
    → AllZip (IsBlockOf bodies changed interface q) fs (map (block_of a.names.now) gs)
blocks_are a bodies changed interface q first [] [] [] over of are = tt
blocks_are a bodies changed interface q first [] [] (g ∷ gs) over of are = absurd are
blocks_are a bodies changed interface q first [] (section ∷ sections) gs over of are = absurd of
blocks_are a bodies changed interface q first (f ∷ fs) [] gs over of are = absurd of
blocks_are a bodies changed interface q first (f ∷ fs) (section ∷ sections) [] over of are = absurd are
blocks_are a bodies changed interface q first (f ∷ fs) (section ∷ sections) (g ∷ gs) over of are = (
  block_is a bodies changed interface q first f section g over of.0 are.0,
  blocks_are a bodies changed interface q (first + length (skeleton_of (definition q.definitions) (Some (bare_function f))).points) fs sections gs
      over of.1 are.1,
)
