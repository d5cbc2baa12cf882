-- What is known of the texts of a run whose programs were accepted.
use Rattle.std.specs.Prelude.{◌≡◌, ◌≢◌, ℕ, ◌<◌, Bool, true, false, List, [], ◌∷◌, ◌++◌, map, length, codes, slice_get, Option, Some, option_map}
use Rattle.std.specs.Option.{is_some, option_and_then}
use Rattle.run_types.specs.Skeleton.{Skeleton, Point, PointKind, Call, Spawn, Return, End, Leads, depth_after, direct_use, kind_at, point_at, successors}
use Rattle.c_tree.specs.BareExpr.{Bytes}
use Rattle.c_tree.specs.BareDef.{BareDef, Function}
use Rattle.c_semantics.specs.Changes.{changed}
use Rattle.c_semantics.specs.Texts.{Definitions, definition}
use Rattle.c_semantics.specs.Skeletons.{skeleton_of}
use Rattle.c_semantics.specs.SourceTexts.{Text}
use Rattle.c_semantics.specs.Store.{Body, store, generation_by, body_in}
use Rattle.name_sets.specs.NameLists.{is_among}
use Rattle.source_model.specs.Guards.{Setup, Offer, offer_at}
use Rattle.version_laws.specs.Histories.{text_in, last_text}

-- a name is defined as a function
abbrev pub is_function : Option BareDef → Bool
is_function (Some (Function result name parameters body)) = true
is_function _ = false

-- the definitions of some texts, and those of version n by name, where version 1 is the first
abbrev pub definitions_of : List Text → List (List BareDef)
definitions_of = map (λ t. t.definitions)

abbrev pub version_in : List Text → ℕ → Definitions
version_in texts n = definition (text_in (definitions_of texts) n)

-- the newest version, and its definitions
abbrev pub newest : List Text → ℕ
newest = length

abbrev pub now_in : List Text → Definitions
now_in texts = version_in texts (newest texts)

-- the skeleton of a function of the newest version
abbrev pub skeleton_now : List Text → Bytes → Skeleton
skeleton_now texts function = skeleton_of (now_in texts) (now_in texts function)

-- the body in force of a function in the newest version is stored, with its skeleton there
pub record InForceNow (texts : List Text) (function : Bytes) : Type 0 where
  pub body : Body
  pub found : body_in (store texts) function (generation_by function (newest texts) (store texts)) ≡ Some body
  pub function_is : body.function ≡ function
  pub generation_is : body.generation ≡ generation_by function (newest texts) (store texts)
  pub skeleton_is : body.skeleton ≡ skeleton_now texts function

-- the points of a body: control goes from each to points that as many transactions enclose as a thread is in after it; an
-- end is in one, a return in none; and control goes on from each point that uses a name
pub record IsShaped (s : Skeleton) : Type 0 where
  pub follows : (n m : ℕ) (p : Point) → Leads s n m → point_at s n ≡ Some p
      → option_map (λ q. q.depth) (point_at s m) ≡ Some (depth_after p.kind p.depth)
  pub ends : (n : ℕ) (p : Point) → point_at s n ≡ Some p → p.kind ≡ End → 0 < p.depth
  pub returns : (n : ℕ) (p : Point) → point_at s n ≡ Some p → p.kind ≡ Return → p.depth ≡ 0
  pub goes_on : (n : ℕ) (name : Bytes) → option_and_then direct_use (kind_at s n) ≡ Some name → successors s n ≢ []

abbrev pub AllShaped : List Body → Type 0
AllShaped bodies = (i : ℕ) (b : Body) → slice_get bodies i ≡ Some b → IsShaped b.skeleton

-- the body of a function in force in the newest version
pub record IsInForce (texts : List Text) (f : Bytes) (b : Body) : Type 0 where
  pub found : body_in (store texts) f (generation_by f (newest texts) (store texts)) ≡ Some b

-- a function that a further text leaves as it is, with all names that it uses, keeps its body in force
abbrev pub BodiesStay : List Text → Text → Type 0
BodiesStay texts q =
    let names = changed (last_text (definitions_of texts)) q.definitions in
    (f : Bytes) (b : Body)
    → is_function (now_in texts f) ≡ true → is_among names f ≡ false
    → ((a : Body) (n : ℕ) (k : PointKind) (name : Bytes)
    → IsInForce texts f a → kind_at a.skeleton n ≡ Some k → direct_use k ≡ Some name → is_among names name ≡ false)
    → IsInForce (texts ++ q ∷ []) f b → IsInForce texts f b

-- of some texts: in the newest `main` is a function, each function has its body in the store, each name that it uses is
-- defined, and each that it calls or spawns is a function; the bodies of the store have their shape, and the last text left
-- those in force whose functions it didn't change
pub record IsSound (texts : List Text) : Type 0 where
  pub main : is_function (now_in texts (codes "main")) ≡ true
  pub in_force : (f : Bytes) → is_function (now_in texts f) ≡ true → InForceNow texts f
  pub uses : (f name : Bytes) (n : ℕ) → option_and_then direct_use (kind_at (skeleton_now texts f) n) ≡ Some name
      → is_some (now_in texts name) ≡ true
  pub calls : (f name : Bytes) (n : ℕ) → kind_at (skeleton_now texts f) n ≡ Some (Call name) → is_function (now_in texts name) ≡ true
  pub spawns : (f name : Bytes) (n : ℕ) → kind_at (skeleton_now texts f) n ≡ Some (Spawn name) → is_function (now_in texts name) ≡ true
  pub shapes : AllShaped (store texts)
  pub stay : (before : List Text) (q : Text) → texts ≡ before ++ q ∷ [] → BodiesStay before q

-- the texts of the versions of a run: the first, and after it those of some offers
pub data TextsOf (setup : Setup) : List Text → Type 0 where
  first : TextsOf setup (setup.first ∷ [])
  next : (texts : List Text) (k : ℕ) (o : Offer) → TextsOf setup texts → offer_at setup k ≡ Some o → TextsOf setup (texts ++ o.text ∷ [])

-- all that a run can come to are sound
abbrev pub AllSound : Setup → Type 0
AllSound setup = (texts : List Text) → TextsOf setup texts → IsSound texts
