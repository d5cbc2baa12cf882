-- The bodies of a text: the flow of all of them, and for each its check-ins.
use Rattle.std.specs.Prelude.{◌≡◌, ℕ, ◌+◌, List, [], ◌∷◌, length, map, take, count_by, All, slice_get, Some, ⊤}
use Rattle.std.specs.List.Sorted.{IsPermutation, IsNonDecreasingBy}
use Rattle.run_types.specs.Skeleton.{Skeleton}
use Rattle.c_tree.specs.BareExpr.{Bytes}
use Rattle.c_tree.specs.Bare.{bare_function}
use Rattle.c_tree.specs.declared.def.Function.{Function}
use Rattle.c_semantics.specs.Texts.{Definitions, definition}
use Rattle.c_semantics.specs.SourceTexts.{Text}
use Rattle.c_semantics.specs.Skeletons.{skeleton_of, is_check_in_kind}
use Rattle.c_semantics.specs.Places.{places}
use Rattle.c_semantics.specs.Store.{Body, tokens_of}
use Rattle.skeletons.specs.Meaning.{check_in_of, meant}
use Rattle.skeleton_gen.specs.Naming.{AllKnown}
use Rattle.effect_flow.specs.Parts.{Contents}
use Rattle.effect_flow.specs.Flows.{IsFlowOf}
use Rattle.check_in_places.specs.declared.section.Spot.{Spot}
use Rattle.check_in_places.specs.declared.section.Section.{Section}
use Rattle.check_in_places.specs.declared.section.Outline.{Outline}
use Rattle.check_in_places.specs.CheckIns.{CheckIn, check_ins_in}

-- the check-in that a spot is
abbrev pub shown : Spot → CheckIn
shown spot = record { point = spot.number; place = spot.at; kind = check_in_of spot.kind }

-- how many check-ins of a body come before a point
abbrev pub check_ins_before : Skeleton → ℕ → ℕ
check_ins_before skeleton point = count_by (λ p. is_check_in_kind p.kind) (take point skeleton.points)

-- a check-in knows how many come before it
abbrev pub IsCounted : Skeleton → Spot → Type 0
IsCounted skeleton spot = spot.before ≡ check_ins_before skeleton spot.number

-- a check-in of a body whose first point has a place in the flow
abbrev pub IsSpotOf : ℕ → Spot → Type 0
IsSpotOf first spot = spot.point ≡ first + spot.number

-- a section has the check-ins of a body in the order of their places
pub record IsSectionOf (skeleton : Skeleton) (at : List ℕ) (first id : ℕ) (section : Section) : Type 0 where
  pub function : section.function ≡ id
  pub all : IsPermutation (check_ins_in skeleton at) (map shown section.spots.items)
  pub ascending : IsNonDecreasingBy (λ spot. spot.at) section.spots.items
  pub spots : All (IsSpotOf first) section.spots.items
  pub counted : All (IsCounted skeleton) section.spots.items

-- the section of a function of a text
pub record IsSectionFor (names : List Bytes) (look : Definitions) (first : ℕ) (f : Function) (made : Section) : Type 0 where
  pub id : ℕ
  pub named : slice_get names id ≡ Some f.name.text
  pub section : IsSectionOf (skeleton_of look (Some (bare_function f))) (places look f) first id made

-- sections of functions, whose points come one after another in the flow
abbrev pub AreSections : List Bytes → Definitions → ℕ → List Function → List Section → Type 0
AreSections names look first [] [] = ⊤
AreSections names look first [] (section ∷ sections) = ⊥
AreSections names look first (f ∷ fs) [] = ⊥
AreSections names look first (f ∷ fs) (section ∷ sections) =
    IsSectionFor names look first f section
    × AreSections names look (first + length (skeleton_of look (Some (bare_function f))).points) fs sections

-- the body of a function of a text that is the first version
abbrev pub body_of : Text → Function → Body
body_of text f = record {
  function = f.name.text;
  generation = 1;
  skeleton = skeleton_of (definition text.definitions) (Some (bare_function f));
  tokens = tokens_of text f.name.text;
}

-- a flow and sections are those of some functions of a text
pub record AreBodiesOf (names : List Bytes) (text : Text) (fs : List Function) (contents : Contents) (list : List Section) : Type 0 where
  pub flow : IsFlowOf names (map (body_of text) fs) contents
  pub sections : AreSections names (definition text.definitions) 0 fs list

-- what is known of a function's body: its skeleton, whose names are in the table, and the places of its points
pub record IsOutline (names : List Bytes) (look : Definitions) (f : Function) (outline : Outline) : Type 0 where
  pub skeleton : meant names outline.skeleton ≡ skeleton_of look (Some (bare_function f))
  pub known : AllKnown (length names) outline.skeleton.points.items
  pub at : outline.places.items ≡ places look f
