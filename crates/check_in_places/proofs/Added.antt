-- One function more among the bodies of a text.
use Rattle.std.proofs.Common.{◌≡◌, ℕ, ◌+◌, List, [], ◌∷◌, ◌++◌, map, length, get_or, take, ◌<◌, None, Some, slice_get, refl, sym, ap, ◌∙◌, subst, arith}
use Rattle.std.specs.List.{cons_option}
use Rattle.std.proofs.lemmas.List.{length-append, length-map, map_push, take_more}
use Rattle.std.proofs.lemmas.List.Elements.{filter_map-append}
use Rattle.std.proofs.lemmas.Option.{slice_get_within, get_or_from_slice_get}
use Rattle.name_sets.specs.Texts.{text_of}
use Rattle.c_tree.specs.BareExpr.{Bytes}
use Rattle.c_tree.specs.Bare.{bare_function, bare_kind}
use Rattle.c_tree.specs.declared.def.Function.{Function}
use Rattle.c_tree.specs.declared.def.Def.{Def}
use Rattle.c_tree.specs.declared.def.DefKind.{DefKind}
use Rattle.c_tree.specs.declared.def.DefKind.TheVariants as kind
use Rattle.check_in_places.specs.CheckIns.{function_of, functions_in}
use Rattle.c_semantics.specs.Texts.{Definitions, definition}
use Rattle.c_semantics.specs.SourceTexts.{Text}
use Rattle.c_semantics.specs.Skeletons.{skeleton_of}
use Rattle.c_semantics.specs.Places.{places}
use Rattle.c_semantics.specs.Store.{Body, tokens_of}
use Rattle.skeletons.specs.Meaning.{meant}
use Rattle.effect_flow.specs.Parts.{Contents}
use Rattle.effect_flow.specs.Flows.{IsFlowOf, AddsBody, spots, spots_from, spot_of}
use Rattle.effect_flow.specs.Flows.{body_of as flow_body}
use Rattle.effect_flow.proofs.Bodies.{length-spots_from}
use Rattle.check_in_places.specs.declared.section.Section.{Section}
use Rattle.check_in_places.specs.declared.section.Outline.{Outline}
use Rattle.check_in_places.specs.Bodies.{IsSectionOf, IsSectionFor, AreSections, AreBodiesOf, IsOutline, body_of}

-- how many points some functions have
pub total : Definitions → List Function → ℕ
total look [] = 0
total look (f ∷ fs) = length (skeleton_of look (Some (bare_function f))).points + total look fs

length-spots : (text : Text) (fs : List Function) → length (spots (map (body_of text) fs)) ≡ total (definition text.definitions) fs
unfolding total
length-spots text [] = refl
length-spots text (f ∷ fs) =
    let points = (skeleton_of (definition text.definitions) (Some (bare_function f))).points in
    length-append (spots_from f.name.text 1 0 points) (spots (map (body_of text) fs))
    ∙ ap (λ n. n + length (spots (map (body_of text) fs))) (length-spots_from f.name.text 1 0 points)
    ∙ ap (λ n. length points + n) (length-spots text fs)

length-flow : (names : List Bytes) (bodies : List Body) (flow : Contents) → IsFlowOf names bodies flow → length flow.points ≡ length (spots bodies)
length-flow names bodies flow f = sym (length-map flow.points (spot_of names)) ∙ ap length f.points

-- a section more
sections_push : (names : List Bytes) (look : Definitions) (first : ℕ) (fs : List Function) (sections : List Section) (f : Function) (section : Section)
    → AreSections names look first fs sections → IsSectionFor names look (first + total look fs) f section
    → AreSections names look first (fs ++ f ∷ []) (sections ++ section ∷ [])
unfolding total
sections_push names look first [] [] f section are is =
    let e : first + 0 ≡ first = omega arith in
    (subst {A = ℕ} (λ n. IsSectionFor names look n f section) e is, tt)
sections_push names look first [] (s ∷ sections) f section are is = absurd are
sections_push names look first (g ∷ fs) [] f section are is = absurd are
sections_push names look first (g ∷ fs) (s ∷ sections) f section are is =
    let points = length (skeleton_of look (Some (bare_function g))).points in
    let e : first + (points + total look fs) ≡ first + points + total look fs = omega arith in (
      are.0,
      sections_push names look (first + points) fs sections f section are.1
          (subst {A = ℕ} (λ n. IsSectionFor names look n f section) e is),
    )

pub function_added : (names : List Bytes) (text : Text) (done : List Function) (old new : Contents) (sections : List Section)
    (f : Function) (outline : Outline) (id : ℕ) (section : Section)
    → AreBodiesOf names text done old sections → IsOutline names (definition text.definitions) f outline
    → slice_get names id ≡ Some f.name.text
    → IsSectionOf (meant names outline.skeleton) outline.places.items (length old.points) id section
    → AddsBody old id 1 outline.skeleton new
    → AreBodiesOf names text (done ++ f ∷ []) new (sections ++ section ∷ [])
function_added names text done old new sections f outline id section are is named made adds =
    let look = definition text.definitions in
    let tokens = tokens_of text f.name.text in
    let added : IsFlowOf names (map (body_of text) done ++ flow_body names id 1 outline.skeleton tokens ∷ []) new =
    adds names (map (body_of text) done) tokens are.flow
    (record { named_function = slice_get_within names id f.name.text named; named_uses = is.known })
    in
    let same : flow_body names id 1 outline.skeleton tokens ≡ body_of text f =
    ap (λ s. let b : Body = record { function = text_of names id; generation = 1; skeleton = s; tokens = tokens } in b) is.skeleton
    ∙ ap (λ z. let b : Body = record { function = z; generation = 1; skeleton = skeleton_of look (Some (bare_function f)); tokens = tokens } in b)
    (get_or_from_slice_get names id f.name.text [] named)
    in
    let list : map (body_of text) done ++ flow_body names id 1 outline.skeleton tokens ∷ [] ≡ map (body_of text) (done ++ f ∷ []) =
    ap (λ b. map (body_of text) done ++ b ∷ []) same ∙ sym (map_push (body_of text) done f)
    in
    let place : length old.points ≡ 0 + total look done =
    omega (arith, length-flow names (map (body_of text) done) old are.flow, length-spots text done)
    in
    record {
      flow = subst {A = List Body} (λ bodies. IsFlowOf names bodies new) list added;
      sections = sections_push names look 0 done sections f section are.sections (record {
        id = id;
        named = named;
        section = subst {A = ℕ} (λ n. IsSectionOf (skeleton_of look (Some (bare_function f))) (places look f) n id section) place
            (subst {A = List ℕ} (λ at. IsSectionOf (skeleton_of look (Some (bare_function f))) at (length old.points) id section) is.at
            (subst {A = _} (λ s. IsSectionOf s outline.places.items (length old.points) id section) is.skeleton made));
      });
    }

-- ---- the functions of definitions, one more

pub functions_with : (ds : List Def) (i : ℕ) (d : Def) → i < length ds → d ≡ get_or ds i d
    → functions_in (take (i + 1) ds) ≡ functions_in (take i ds) ++ functions_in (d ∷ [])
functions_with ds i d within is =
    ap functions_in (take_more ds i d within ∙ ap (λ x. take i ds ++ x ∷ []) (sym is))
    ∙ filter_map-append (λ x. function_of x.kind) (take i ds) (d ∷ [])

pub one_function : (d : Def) (f : Function) → function_of d.kind ≡ Some f → functions_in (d ∷ []) ≡ f ∷ []
one_function d f e = ap (λ o. cons_option o []) e

pub no_function : (d : Def) → function_of d.kind ≡ None → functions_in (d ∷ []) ≡ []
no_function d e = ap (λ o. cons_option o []) e

pub bare_of_function : (k : DefKind) (f : Function) → function_of k ≡ Some f → bare_kind k ≡ bare_function f
bare_of_function (kind.Function g) f e = let same : g ≡ f = cc in ap bare_function same
bare_of_function (kind.Struct name members) f e = cc
bare_of_function (kind.Forward name) f e = cc
bare_of_function (kind.Mutex name) f e = cc
bare_of_function (kind.Prototype p) f e = cc
bare_of_function (kind.Global d) f e = cc
bare_of_function (kind.Array a) f e = cc
bare_of_function (kind.TransformStruct t) f e = cc
bare_of_function (kind.TransformGlobal name value) f e = cc
