-- The bodies of the store of accepted texts have their shape, and those in force stay where a text leaves what they use.
use Rattle.std.proofs.Common.{◌≡◌, ◌≢◌, ℕ, zero, suc, ◌+◌, ◌<◌, ◌≤◌, Bool, true, false, not, ◌&&◌, ◌||◌, List, [], ◌∷◌, ◌++◌, length, Option, Some, None, option_map, option_and_then, is_some, Contains, find, filter_map, cond, append_assoc, append-nil, refl, sym, ap, ap₂, subst, ◌∙◌, arith, if◌then◌else◌}
use Rattle.std.specs.Prelude.{slice_get}
use Rattle.std.specs.List.{cons_option, list_any}
use Rattle.std.proofs.lemmas.List.{length-map}
use Rattle.std.proofs.lemmas.List.Elements.{All-head, All-tail}
use Rattle.std.proofs.lemmas.Option.{none-some, same_Some}
use Rattle.run_types.specs.Skeleton.{Point, PointKind, Skeleton, direct_use, kind_at, successors}
use Rattle.run_types.specs.Skeleton as kind
use Rattle.name_sets.specs.NameLists.{is_among, name_set}
use Rattle.c_tree.specs.BareExpr.{Bytes, BareType}
use Rattle.c_tree.specs.BareStmt.{BareStmts}
use Rattle.c_tree.specs.BareDef.{BareBinding, BareDef, Struct, Forward, Mutex, Function, Prototype, Global, Array, TransformStruct, TransformGlobal}
use Rattle.c_semantics.specs.Changes.{agree, changed, interface, same_definition, same_interface}
use Rattle.c_semantics.specs.Resolution.{resolved_body}
use Rattle.c_semantics.specs.Resolved.{Statements}
use Rattle.c_semantics.specs.Skeletons.{direct_uses, skeleton, skeleton_of}
use Rattle.c_semantics.specs.SourceTexts.{Text}
use Rattle.c_semantics.specs.Store.{Body, bodies_from, body_in, body_of, brought_bodies, generation_by, is_new, store, tokens_of}
use Rattle.c_semantics.specs.Texts.{defines, definition, names}
use Rattle.typed_uses.proofs.Lookups.{itself}
use Rattle.typed_uses.proofs.Points.{EachPoint, OfName, each_use_has_it}
use Rattle.version_laws.specs.Histories.{Alike, last_text, text_in}
use Rattle.definition_laws.proofs.Names.{among_filtered, among_names}
use Rattle.version_laws.proofs.DefinedNames.{alike_itself, stays_where_same}
use Rattle.version_laws.proofs.SameDefinitions.{alike_where_agreed, interfaces_alike}
use Rattle.definition_laws.proofs.Tests.{no}
use Rattle.frame_bodies.specs.AcceptedTexts.{AreAccepted, IsAccepted, looked_up}
use Rattle.frame_bodies.specs.AcceptedTexts as accepted_texts
use Rattle.frame_bodies.specs.Shapes.{DepthsFollow}
use Rattle.frame_bodies.proofs.AcceptedFacts.{accepted_leave_at_ends, resolved_by_uses}
use Rattle.frame_bodies.proofs.BodyLists.{Gens, found_first, gens_together, gens_weaker, generation_later, generation_stays, named, none_named}
use Rattle.frame_bodies.proofs.OldBodies.{function_name, same_functions}
use Rattle.frame_bodies.proofs.OnlyOnce.{Lone, NoFunction, NotNamed, alone_in}
use Rattle.frame_bodies.proofs.Shapes.{each_depth_follows, each_goes_on}
use Rattle.frame_bodies.proofs.Stores.{first_brought, of_version}
use Rattle.admission_laws.specs.SoundTexts.{AllShaped, BodiesStay, InForceNow, IsInForce, IsShaped, definitions_of, is_function, newest, now_in}
use Rattle.admission_laws.proofs.LaterTexts.{longer}
use Rattle.admission_laws.proofs.RightUses.{agrees_itself, function_defined, last_by_name}

-- a function is one by either definition
pub same_function : (o : Option BareDef) → accepted_texts.is_function o ≡ is_function o
same_function (Some (Function result name parameters body)) = refl
same_function _ = refl

-- ---- the shape of a body

no_return : (k : PointKind) (name : Bytes) → direct_use k ≡ Some name → k ≢ kind.Return
no_return k name uses e = none-some name (sym (ap direct_use e) ∙ uses)

shaped : (text : Text) → IsAccepted text → (f : Bytes) → IsShaped (skeleton_of (looked_up text) (looked_up text f))
shaped text a f = record {
  follows = d.follows;
  ends = d.ends;
  returns = d.returns;
  goes_on = λ n name uses. by n name (kind_at (skeleton code) n) refl uses;
}
  where
    code : Statements
    code = resolved_body (looked_up text) (looked_up text f)

    d : DepthsFollow (skeleton (resolved_body (looked_up text) (looked_up text f)))
    d = each_depth_follows code (accepted_leave_at_ends text f a)

    by : (n : ℕ) (name : Bytes) (o : Option PointKind) → kind_at (skeleton (resolved_body (looked_up text) (looked_up text f))) n ≡ o
        → option_and_then direct_use o ≡ Some name → successors (skeleton (resolved_body (looked_up text) (looked_up text f))) n ≢ []
    by n name None e uses = absurd (none-some name uses)
    by n name (Some k) e uses = (each_goes_on code n k (accepted_leave_at_ends text f a) e).stays (no_return k name uses)

-- ---- the bodies of the store

abbrev EachBody : (Skeleton → Type 0) → List Body → Type 0
EachBody P [] = Unit {0}
EachBody P (b ∷ bs) = P b.skeleton × EachBody P bs

each_both : (P : Skeleton → Type 0) (xs ys : List Body) → EachBody P xs → EachBody P ys → EachBody P (xs ++ ys)
each_both P [] ys a b = b
each_both P (x ∷ xs) ys a b = (a.0, each_both P xs ys a.1 b)

each_at : (P : Skeleton → Type 0) (bodies : List Body) (i : ℕ) (b : Body) → EachBody P bodies → slice_get bodies i ≡ Some b → P b.skeleton
each_at P [] i b all e = absurd (none-some b e)
each_at P (x ∷ bodies) zero b all e = subst (λ y. P y.skeleton) (same_Some x b e) all.0
each_at P (x ∷ bodies) (suc i) b all e = each_at P bodies i b all.1 e

-- what is defined as a function is found as that function, where each is defined once
not_found : (f : Bytes) (r : Option BareType) (ps : List BareBinding) (body : BareStmts) (ds : List BareDef) → NoFunction f ds
    → find (defines f) ds ≡ Some (Function r f ps body) → ⊥
not_found f r ps body [] none e = none-some _ e
not_found f r ps body (d ∷ ds) none e = by (defines f d) e (not_found f r ps body ds none.1)
  where
    by : (t : Bool) → cond t (Some d) (find (defines f) ds) ≡ Some (Function r f ps body)
        → (find (defines f) ds ≡ Some (Function r f ps body) → ⊥) → ⊥
    by true e rest = no (sym (subst (NotNamed f) (same_Some _ _ e) none.0) ∙ itself f)
    by false e rest = rest e

module _ (P : Skeleton → Type 0) (m : ℕ) (p : List BareDef) (q : Text) where
  abbrev Found : List BareDef → Type 0
  Found ds =
      (r : Option BareType) (name : Bytes) (ps : List BareBinding) (body : BareStmts)
      → find (defines name) ds ≡ Some (Function r name ps body) → P (skeleton_of (looked_up q) (Some (Function r name ps body)))

  abbrev brought : Bytes → Skeleton → Body
  brought name s = record { function = name; generation = m; skeleton = s; tokens = tokens_of q name }

  later : (d : BareDef) (ds : List BareDef) → ((f : Bytes) → defines f d ≡ true → NoFunction f ds) → Found (d ∷ ds) → Found ds
  later d ds alone all r name ps body e = all r name ps body (by (defines name d) refl)
    where
      by : (t : Bool) → defines name d ≡ t → cond t (Some d) (find (defines name) ds) ≡ Some (Function r name ps body)
      by true is = absurd (not_found name r ps body ds (alone name is) e)
      by false is = e

  each_brought : (ds : List BareDef) → Lone ds → Found ds → EachBody P (filter_map (body_of m p q) ds)
  each_brought [] lone all = tt
  each_brought (Struct tag ms ∷ ds) lone all = each_brought ds lone.1 (later (Struct tag ms) ds lone.0 all)
  each_brought (Forward tag ∷ ds) lone all = each_brought ds lone.1 (later (Forward tag) ds lone.0 all)
  each_brought (Mutex name ∷ ds) lone all = each_brought ds lone.1 (later (Mutex name) ds lone.0 all)
  each_brought (Function r name ps body ∷ ds) lone all =
      by (is_new p q.definitions name s) (each_brought ds lone.1 (later (Function r name ps body) ds lone.0 all))
    where
      s : Skeleton
      s = skeleton_of (looked_up q) (Some (Function r name ps body))

      own : P (skeleton_of (looked_up q) (Some (Function r name ps body)))
      own = all r name ps body (ap (λ t. cond t (Some (Function r name ps body)) (find (defines name) ds)) (itself name))

      by : (t : Bool) → EachBody P (filter_map (body_of m p q) ds)
          → EachBody P (cons_option (if t then Some (brought name (skeleton_of (looked_up q) (Some (Function r name ps body)))) else None)
          (filter_map (body_of m p q) ds))
      by true rest = (own, rest)
      by false rest = rest
  each_brought (Prototype r name ps ∷ ds) lone all = each_brought ds lone.1 (later (Prototype r name ps) ds lone.0 all)
  each_brought (Global d ∷ ds) lone all = each_brought ds lone.1 (later (Global d) ds lone.0 all)
  each_brought (Array t name n initial ∷ ds) lone all = each_brought ds lone.1 (later (Array t name n initial) ds lone.0 all)
  each_brought (TransformStruct tag values ∷ ds) lone all = each_brought ds lone.1 (later (TransformStruct tag values) ds lone.0 all)
  each_brought (TransformGlobal name value ∷ ds) lone all = each_brought ds lone.1 (later (TransformGlobal name value) ds lone.0 all)

all_shaped_from : (n : ℕ) (p : List BareDef) (texts : List Text) → AreAccepted texts → EachBody IsShaped (bodies_from n p texts)
all_shaped_from n p [] all = tt
all_shaped_from n p (q ∷ texts) all =
    let a = All-head IsAccepted q texts all in
    each_both IsShaped (brought_bodies n p q) (bodies_from (suc n) q.definitions texts)
    (each_brought IsShaped n p q q.definitions (alone_in q a)
    (λ r name ps body e. subst (λ o. IsShaped (skeleton_of (looked_up q) o)) e (shaped q a name)))
    (all_shaped_from (suc n) q.definitions texts (All-tail IsAccepted q texts all))

pub all_shaped : (texts : List Text) → AreAccepted texts → AllShaped (store texts)
all_shaped texts all i b e = each_at IsShaped (store texts) i b (all_shaped_from 1 [] texts all) e

-- ---- the store with a text more

abbrev last_of : List BareDef → List Text → List BareDef
last_of p [] = p
last_of p (t ∷ texts) = last_of t.definitions texts

last_is : (p : List BareDef) (t : Text) (texts : List Text) → last_of p (t ∷ texts) ≡ last_text (definitions_of (t ∷ texts))
last_is p t [] = refl
last_is p t (u ∷ texts) = last_is t.definitions u texts

store_next : (n m : ℕ) (p : List BareDef) (texts : List Text) (q : Text) → m ≡ n + length texts
    → bodies_from n p (texts ++ q ∷ []) ≡ bodies_from n p texts ++ brought_bodies m (last_of p texts) q
store_next n m p [] q at = append-nil (brought_bodies n p q) ∙ ap (λ k. brought_bodies k p q) (same at)
  where
    same : m ≡ n + 0 → n ≡ m
    same e = omega (arith, e)
store_next n m p (t ∷ texts) q at =
    ap (λ bs. brought_bodies n p t ++ bs) (store_next (suc n) m t.definitions texts q (next at))
    ∙ sym (append_assoc (brought_bodies n p t) (bodies_from (suc n) t.definitions texts) (brought_bodies m (last_of t.definitions texts) q))
  where
    next : m ≡ n + suc (length texts) → m ≡ suc n + length texts
    next e = omega (arith, e)

within : (n m : ℕ) (p : List BareDef) (texts : List Text) → n + length texts ≤ suc m → Gens (λ g. g ≤ m) (bodies_from n p texts)
within n m p [] below = tt
within n m p (t ∷ texts) below =
    gens_together (λ g. g ≤ m) (brought_bodies n p t) (bodies_from (suc n) t.definitions texts)
    (gens_weaker (λ g. g ≡ n) (λ g. g ≤ m) (λ g e. here (length texts) g below e) (brought_bodies n p t) (of_version n p t t.definitions))
    (within (suc n) m t.definitions texts (rest (length texts) below))
  where
    here : (k g : ℕ) → n + suc k ≤ suc m → g ≡ n → g ≤ m
    here k g h e = omega (arith, h, e)

    rest : (k : ℕ) → n + suc k ≤ suc m → suc n + k ≤ suc m
    rest k h = omega (arith, h)

-- ---- a function that a text leaves

function_on : (a b : BareDef) → same_definition a b ≡ true → is_function (Some a) ≡ true → is_function (Some b) ≡ true
function_on (Function r name ps body) (Function q other qs code) h i = refl
function_on (Function r name ps body) _ h i = absurd (no h)
function_on _ _ h i = absurd (no i)

functions_on : (a b : Option BareDef) → agree same_definition a b ≡ true → is_function a ≡ true → is_function b ≡ true
functions_on None b h i = absurd (no i)
functions_on (Some a) None h i = absurd (no h)
functions_on (Some a) (Some b) h i = function_on a b h i

-- what holds of each name that a point uses
each_by : (P : Bytes → Type 0) (ps : List Point)
    → ((n : ℕ) (k : PointKind) (name : Bytes) → option_map (λ p. p.kind) (slice_get ps n) ≡ Some k → direct_use k ≡ Some name → P name)
    → EachPoint P ps
each_by P [] all = tt
each_by P (p ∷ ps) all = (by (direct_use p.kind) refl, each_by P ps (λ n k name e f. all (suc n) k name e f))
  where
    by : (o : Option Bytes) → direct_use p.kind ≡ o → OfName P o
    by None e = tt
    by (Some name) e = all 0 p.kind name refl e

none_any : (test : Bytes → Bool) (ns : List Bytes) → ((u : Bytes) → Contains ns u → test u ≡ false) → list_any test ns ≡ false
none_any test [] none = refl
none_any test (n ∷ ns) none =
    ap₂ (λ a b. a || b) (none n (zero, positive (length ns), refl)) (none_any test ns (λ u h. none u (later_one u h)))
  where
    positive : (k : ℕ) → zero < suc k
    positive k = omega arith

    later_one : (u : Bytes) → Contains ns u → Contains (n ∷ ns) u
    later_one u (k, below, is) = (suc k, less k (length ns) below, is)
      where
        less : (k l : ℕ) → k < l → suc k < suc l
        less k l h = omega (arith, h)

module _ (texts : List Text) (q : Text) (a : IsAccepted q)
    (defines_uses : (f u : Bytes) → Contains (direct_uses (skeleton_of (now_in texts) (now_in texts f))) u → is_some (now_in texts u) ≡ true)
    (m : ℕ) (store_is : store (texts ++ q ∷ []) ≡ store texts ++ brought_bodies m (last_text (definitions_of texts)) q)
    (gens : Gens (λ g. g ≤ newest texts) (store texts)) where
  abbrev before : List BareDef
  before = last_text (definitions_of texts)

  abbrev Left : Bytes → Type 0
  Left u = is_among (changed (last_text (definitions_of texts)) q.definitions) u ≡ false

  -- a name that is left is defined alike
  alike : (u : Bytes) → is_some (now_in texts u) ≡ true → Left u
      → agree same_definition (definition before u) (definition q.definitions u) ≡ true
  alike u there left =
      sym (stays_where_same before q.definitions u)
      ∙ ap₂ (λ a b. a && not b) (among_names before u ∙ ap is_some (last_by_name texts u) ∙ there) left

  module _ (f : Bytes) (is : is_function (now_in texts f) ≡ true) (x : InForceNow texts f) (left : Left f)
      (uses_left : (u : Bytes) → Contains (direct_uses x.body.skeleton) u → Left u) where
    stayed : agree same_definition (definition before f) (definition q.definitions f) ≡ true
    stayed = alike f (function_defined (now_in texts f) is) left

    was : is_function (definition before f) ≡ true
    was = ap is_function (last_by_name texts f) ∙ is

    same : definition before f ≡ definition q.definitions f
    same =
        same_functions before q.definitions f (definition before f) (definition q.definitions f) refl refl
        (same_function (definition q.definitions f) ∙ functions_on (definition before f) (definition q.definitions f) stayed was) stayed

    -- the skeleton of the body in force is that of the function as the text has it
    skeleton_now_is : x.body.skeleton ≡ skeleton_of (definition before) (definition before f)
    skeleton_now_is =
        x.skeleton_is
        ∙ ap (λ k. let look = definition (text_in (definitions_of texts) k) in skeleton_of look (look f)) (sym (length-map texts (λ t. t.definitions)))

    used : (u : Bytes) → Contains (direct_uses (skeleton_of (definition before) (definition before f))) u
        → Alike (definition before u) (definition q.definitions u)
    used u h =
        let h' = subst (λ s. Contains (direct_uses s) u) (sym skeleton_now_is) h in
        alike_where_agreed (definition before u) (definition q.definitions u)
        (alike u (defines_uses f u (subst (λ s. Contains (direct_uses s) u) x.skeleton_is h')) (uses_left u h'))

    resolved : resolved_body (looked_up q) (looked_up q f) ≡ resolved_body (definition before) (looked_up q f)
    resolved =
        resolved_by_uses q (definition before) f a
        (λ u h there.
        let like = used u (subst (λ o. Contains (direct_uses (skeleton_of (definition before) o)) u) (sym same) h) in
        interfaces_alike (definition q.definitions u) (definition q.definitions u) (definition before u) (definition q.definitions u)
        (alike_itself q.definitions u) like
        ∙ agrees_itself q.definitions u there)

    skeleton_stays : skeleton_of (looked_up q) (looked_up q f) ≡ skeleton_of (definition before) (definition before f)
    skeleton_stays = ap skeleton (resolved ∙ ap (resolved_body (definition before)) (sym same))

    no_interface : (u : Bytes) → Contains (direct_uses (skeleton_of (looked_up q) (looked_up q f))) u
        → is_among (interface before q.definitions) u ≡ false
    no_interface u h =
        let h' = subst (λ s. Contains (direct_uses s) u) skeleton_stays h in
        let like = used u h' in
        let there = ap is_some (last_by_name texts u)
        ∙ defines_uses f u (subst (λ s. Contains (direct_uses s) u) (sym skeleton_now_is ∙ x.skeleton_is) h') in
        among_filtered (λ z. not (agree same_interface (definition before z) (definition q.definitions z))) (name_set (names before)) u
        ∙ ap (λ b. not b && is_among (name_set (names before)) u)
        (sym (interfaces_alike (definition before u) (definition before u) (definition before u) (definition q.definitions u)
        (alike_itself before u) like)
        ∙ agrees_itself before u there)

    not_new : is_new before q.definitions f (skeleton_of (looked_up q) (looked_up q f)) ≡ false
    not_new =
        ap₂ (λ b c. b || c)
        (ap₂ (λ b c. not b || c) (among_names before f ∙ function_defined (definition before f) was) left)
        (none_any (is_among (interface before q.definitions)) (direct_uses (skeleton_of (looked_up q) (looked_up q f))) no_interface)

    none_brought : named f (brought_bodies m before q) ≡ None
    none_brought = first_brought m before q f q.definitions (alone_in q a) ∙ by (looked_up q f) refl
      where
        by : (o : Option BareDef) → looked_up q f ≡ o → option_and_then (body_of m before q) o ≡ None
        by None e = refl
        by (Some (Function r name ps body)) e =
            let s = skeleton_of (looked_up q) (Some (Function r name ps body)) in
            ap (λ t. if t then Some (record { function = name; generation = m; skeleton = s; tokens = tokens_of q name }) else None)
            (ap (λ g. is_new before q.definitions g s) (sym (function_name q.definitions f r name ps body e))
            ∙ ap (λ o. is_new before q.definitions f (skeleton_of (looked_up q) o)) (sym e) ∙ not_new)
        by (Some (Struct tag ms)) e = refl
        by (Some (Forward tag)) e = refl
        by (Some (Mutex name)) e = refl
        by (Some (Prototype r name ps)) e = refl
        by (Some (Global d)) e = refl
        by (Some (Array t name n initial)) e = refl
        by (Some (TransformStruct tag values)) e = refl
        by (Some (TransformGlobal name value)) e = refl

    generation_is : generation_by f (newest (texts ++ q ∷ [])) (store (texts ++ q ∷ [])) ≡ generation_by f (newest texts) (store texts)
    generation_is =
        ap₂ (generation_by f) (longer texts q) store_is
        ∙ generation_stays f (suc (newest texts)) (store texts) (brought_bodies m before q)
        (none_named f (suc (newest texts)) (brought_bodies m before q) none_brought)
        ∙ generation_later f (newest texts) (suc (newest texts)) (store texts) (one_more (newest texts)) gens
      where
        one_more : (n : ℕ) → n ≤ suc n
        one_more n = omega arith

    pub stays_in_force : (b : Body) → IsInForce (texts ++ q ∷ []) f b → IsInForce texts f b
    stays_in_force b y = record { found = x.found ∙ ap Some (same_Some x.body b (sym there ∙ y.found)) }
      where
        there : body_in (store (texts ++ q ∷ [])) f (generation_by f (newest (texts ++ q ∷ [])) (store (texts ++ q ∷ []))) ≡ Some x.body
        there =
            ap₂ (λ bs g. body_in bs f g) store_is generation_is
            ∙ found_first f (generation_by f (newest texts) (store texts)) (store texts) (brought_bodies m before q) x.body x.found

-- the bodies in force stay
pub bodies_stay : (texts : List Text) (q : Text) → IsAccepted q
    → ((f u : Bytes) → Contains (direct_uses (skeleton_of (now_in texts) (now_in texts f))) u → is_some (now_in texts u) ≡ true)
    → ((f : Bytes) → is_function (now_in texts f) ≡ true → InForceNow texts f) → BodiesStay texts q
bodies_stay [] q a defines_uses in_force f b is left uses y = absurd (no is)
bodies_stay (t ∷ texts) q a defines_uses in_force f b is left uses y =
    let all = t ∷ texts in
    let x = in_force f is in
    stays_in_force all q a defines_uses (1 + length all)
    (store_next 1 (1 + length all) [] all q refl ∙ ap (λ p. store all ++ brought_bodies (1 + length all) p q) (last_is [] t texts))
    (within 1 (length all) [] all (one_more (length all))) f is x left
    (λ u h.
    each_use_has_it (λ u. is_among (changed (last_text (definitions_of all)) q.definitions) u ≡ false) x.body.skeleton u
    (each_by (λ u. is_among (changed (last_text (definitions_of all)) q.definitions) u ≡ false) x.body.skeleton.points
    (λ n k name e g. uses x.body n k name (record { found = x.found }) e g)) h)
    b y
  where
    one_more : (n : ℕ) → 1 + n ≤ suc n
    one_more n = omega arith
