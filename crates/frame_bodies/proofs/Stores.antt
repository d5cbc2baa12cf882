-- The body of a function that is in force in a version is that of the function in the version's text.
use Rattle.std.proofs.Common.{◌≡◌, ℕ, zero, suc, ◌+◌, ◌<◌, ◌≤◌, ◌⊎◌, inl, inr, Bool, true, false, List, [], ◌∷◌, ◌++◌, length, Option, Some, None, option_and_then, find, filter_map, cond, bytes_eq, get_or, refl, sym, ap, subst, ◌∙◌, append_assoc, arith, if◌then◌else◌}
use Rattle.std.specs.Prelude.{◌==◌}
use Rattle.std.specs.List.{cons_option}
use Rattle.std.proofs.lemmas.List.Elements.{All-head, All-tail}
use Rattle.run_types.specs.Skeleton.{Skeleton}
use Rattle.c_tree.specs.BareExpr.{Bytes, BareType}
use Rattle.c_tree.specs.BareStmt.{BareStmts}
use Rattle.c_tree.specs.BareDef.{BareBinding, BareDef, Struct, Forward, Mutex, Function, Prototype, Global, Array, TransformStruct, TransformGlobal}
use Rattle.c_semantics.specs.Texts.{definition, defines}
use Rattle.c_semantics.specs.Resolution.{resolved_body}
use Rattle.c_semantics.specs.Skeletons.{skeleton, skeleton_of}
use Rattle.c_semantics.specs.SourceTexts.{Text}
use Rattle.c_semantics.specs.Store.{Body, is_new, tokens_of, body_of, brought_bodies, bodies_from, store, generation_by, body_in}
use Rattle.version_laws.specs.Histories.{text_in}
use Rattle.frame_bodies.specs.AcceptedTexts.{AreAccepted, IsAccepted, definitions_of, is_function, looked_up}
use Rattle.frame_bodies.specs.InForce.{EachHasABody, LaterTextsLeave}
use Rattle.frame_bodies.proofs.OldBodies.{function_name, old_bodies_stay}
use Rattle.frame_bodies.proofs.OnlyOnce.{Lone, NoFunction, alone_in}
use Rattle.frame_bodies.proofs.BodyLists.{Gens, gens_together, gens_weaker, named, none_by, none_named, generation_stays, generation_rises, generation_of_all, generation_later, none_of_generation, differs_above, differs_below, body_stays, found_first, found_second, found_in_generation}

no : false ≡ true → ⊥
no e = cc

-- ---- the bodies that a version brings

module _ (n : ℕ) (p : List BareDef) (q : Text) where
  brought : List BareDef → List Body
  brought ds = filter_map (body_of n p q) ds

  abbrev under : Option BareType → Bytes → List BareBinding → BareStmts → Skeleton
  under r name ps body = skeleton_of (definition q.definitions) (Some (Function r name ps body))

  abbrev new_body : Bytes → Skeleton → Body
  new_body name s = record { function = name; generation = n; skeleton = s; tokens = tokens_of q name }

  abbrev is_it_new : Bytes → Skeleton → Bool
  is_it_new name s = is_new p q.definitions name s

  -- all are of this version
  pub of_version : (ds : List BareDef) → Gens (λ g. g ≡ n) (filter_map (body_of n p q) ds)
  of_version [] = tt
  of_version (Struct tag ms ∷ ds) = of_version ds
  of_version (Forward tag ∷ ds) = of_version ds
  of_version (Mutex name ∷ ds) = of_version ds
  of_version (Function r name ps body ∷ ds) = by (is_it_new name (under r name ps body)) (of_version ds)
    where
      by : (b : Bool) → Gens (λ g. g ≡ n) (filter_map (body_of n p q) ds)
          → Gens (λ g. g ≡ n) (cons_option (if b then Some (new_body name (under r name ps body)) else None) (filter_map (body_of n p q) ds))
      by true rest = (refl, rest)
      by false rest = rest
  of_version (Prototype r name ps ∷ ds) = of_version ds
  of_version (Global d ∷ ds) = of_version ds
  of_version (Array t name m initial ∷ ds) = of_version ds
  of_version (TransformStruct tag values ∷ ds) = of_version ds
  of_version (TransformGlobal name value ∷ ds) = of_version ds

  -- there is none of a function that isn't defined
  none_brought : (f : Bytes) (ds : List BareDef) → NoFunction f ds → named f (filter_map (body_of n p q) ds) ≡ None
  none_brought f [] h = refl
  none_brought f (Struct tag ms ∷ ds) h = none_brought f ds h.1
  none_brought f (Forward tag ∷ ds) h = none_brought f ds h.1
  none_brought f (Mutex name ∷ ds) h = none_brought f ds h.1
  none_brought f (Function r name ps body ∷ ds) h = by (is_it_new name (under r name ps body)) (none_brought f ds h.1)
    where
      rest : List Body
      rest = filter_map (body_of n p q) ds

      by : (b : Bool) → named f (filter_map (body_of n p q) ds) ≡ None
          → named f (cons_option (if b then Some (new_body name (under r name ps body)) else None) (filter_map (body_of n p q) ds)) ≡ None
      by true none = ap (λ t. cond t (Some (new_body name (under r name ps body))) (named f (filter_map (body_of n p q) ds))) h.0 ∙ none
      by false none = none
  none_brought f (Prototype r name ps ∷ ds) h = none_brought f ds h.1
  none_brought f (Global d ∷ ds) h = none_brought f ds h.1
  none_brought f (Array t name m initial ∷ ds) h = none_brought f ds h.1
  none_brought f (TransformStruct tag values ∷ ds) h = none_brought f ds h.1
  none_brought f (TransformGlobal name value ∷ ds) h = none_brought f ds h.1

  -- the first is that of the function that is found
  chosen : (t : Bool) (d : BareDef) (found : Option BareDef)
      → option_and_then (body_of n p q) (cond t (Some d) found) ≡ cond t (body_of n p q d) (option_and_then (body_of n p q) found)
  chosen true d found = refl
  chosen false d found = refl

  no_body : (t : Bool) (first later : Option Body) → (t ≡ true → first ≡ None) → first ≡ later → first ≡ cond t None later
  no_body true first later none same = none refl
  no_body false first later none same = same

  a_body : (f name : Bytes) (s : Skeleton) (t b : Bool) (rest : List Body) (later : Option Body) → bytes_eq f name ≡ t
      → (t ≡ true → named f rest ≡ None) → named f rest ≡ later
      → named f (cons_option (if b then Some (new_body name s) else None) rest) ≡ cond t (if b then Some (new_body name s) else None) later
  a_body f name s true true rest later e none same = ap (λ x. cond x (Some (new_body name s)) (named f rest)) e
  a_body f name s true false rest later e none same = none refl
  a_body f name s false true rest later e none same = ap (λ x. cond x (Some (new_body name s)) (named f rest)) e ∙ same
  a_body f name s false false rest later e none same = same

  pub first_brought : (f : Bytes) (ds : List BareDef) → Lone ds
      → named f (filter_map (body_of n p q) ds) ≡ option_and_then (body_of n p q) (find (defines f) ds)
  first_brought f [] lone = refl
  first_brought f (d ∷ ds) lone =
      by d (λ e. none_brought f ds (lone.0 f e)) (first_brought f ds lone.1) ∙ sym (chosen (defines f d) d (find (defines f) ds))
    where
      by : (d : BareDef) → (defines f d ≡ true → named f (filter_map (body_of n p q) ds) ≡ None)
          → named f (filter_map (body_of n p q) ds) ≡ option_and_then (body_of n p q) (find (defines f) ds)
          → named f (cons_option (body_of n p q d) (filter_map (body_of n p q) ds))
          ≡ cond (defines f d) (body_of n p q d) (option_and_then (body_of n p q) (find (defines f) ds))
      by (Struct tag ms) none same = no_body (defines f (Struct tag ms)) _ _ none same
      by (Forward tag) none same = no_body (defines f (Forward tag)) _ _ none same
      by (Mutex name) none same = no_body (defines f (Mutex name)) _ _ none same
      by (Function r name ps body) none same =
          a_body f name (under r name ps body) (bytes_eq f name) (is_it_new name (under r name ps body)) (filter_map (body_of n p q) ds)
          (option_and_then (body_of n p q) (find (defines f) ds)) refl none same
      by (Prototype r name ps) none same = no_body (defines f (Prototype r name ps)) _ _ none same
      by (Global g) none same = no_body (defines f (Global g)) _ _ none same
      by (Array t name m initial) none same = no_body (defines f (Array t name m initial)) _ _ none same
      by (TransformStruct tag values) none same = no_body (defines f (TransformStruct tag values)) _ _ none same
      by (TransformGlobal name value) none same = no_body (defines f (TransformGlobal name value)) _ _ none same

-- later versions bring later bodies
from_version : (n : ℕ) (p : List BareDef) (qs : List Text) → Gens (λ g. n ≤ g) (bodies_from n p qs)
from_version n p [] = tt
from_version n p (q ∷ qs) =
    gens_together (λ g. n ≤ g) (brought_bodies n p q) (bodies_from (suc n) q.definitions qs)
    (gens_weaker (λ g. g ≡ n) (λ g. n ≤ g) at_least (brought_bodies n p q) (of_version n p q q.definitions))
    (gens_weaker (λ g. suc n ≤ g) (λ g. n ≤ g) below (bodies_from (suc n) q.definitions qs) (from_version (suc n) q.definitions qs))
  where
    at_least : (g : ℕ) → g ≡ n → n ≤ g
    at_least g e = omega (arith, e)

    below : (g : ℕ) → suc n ≤ g → n ≤ g
    below g h = omega (arith, h)

-- ---- what is held of some versions

-- the body in force of a function in version n, which has these definitions
record HeldBody (n : ℕ) (ds : List BareDef) (all : List Body) (f : Bytes) : Type 0 where
  body : Body
  found : body_in all f (generation_by f n all) ≡ Some body
  function_is : body.function ≡ f
  generation_is : body.generation ≡ generation_by f n all
  brought_is : 1 ≤ body.generation
  by_then : body.generation ≤ n
  skeleton_is : body.skeleton ≡ skeleton_of (definition ds) (definition ds f)

-- nothing comes before the first version, and an accepted text before each other one
abbrev Before : List BareDef → Type 0
Before p = (p ≡ []) ⊎ ((t : Text) × IsAccepted t × (t.definitions ≡ p))

record Held (n : ℕ) (p : List BareDef) (old : List Body) : Type 0 where
  gens : Gens (λ g. g ≤ n) old
  before : Before p
  each : (f : Bytes) → is_function (definition p f) ≡ true → HeldBody n p old f

record StaysFrom (p : List BareDef) (q : Text) (f : Bytes) : Type 0 where
  definition_stays : definition p f ≡ looked_up q f
  body_stays : resolved_body (definition p) (definition p f) ≡ resolved_body (looked_up q) (looked_up q f)

stays_from : (p : List BareDef) (q : Text) (f : Bytes) → Before p → is_function (looked_up q f) ≡ true
    → is_new p q.definitions f (skeleton_of (looked_up q) (looked_up q f)) ≡ false → StaysFrom p q f
stays_from p q f before fun old = elim before [
  | inl none ↦ absurd (no (sym (subst (λ p. is_new p q.definitions f (skeleton_of (looked_up q) (looked_up q f)) ≡ false) none old)))
  | inr some ↦
      (let s = old_bodies_stay some.0 q f some.1 fun
      (subst (λ p. is_new p q.definitions f (skeleton_of (looked_up q) (looked_up q f)) ≡ false) (sym some.2) old) in
      subst (λ p. StaysFrom p q f) some.2 (record { definition_stays = s.definition_stays; body_stays = s.body_stays }))
]

-- ---- one version more

next_body : (n : ℕ) (p : List BareDef) (old : List Body) (q : Text) → Held n p old → IsAccepted q → (f : Bytes)
    → (o : Option BareDef) → looked_up q f ≡ o → is_function o ≡ true → HeldBody (suc n) q.definitions (old ++ brought_bodies (suc n) p q) f
next_body n p old q held a f (Some (Function r name ps body)) is fun =
    by (is_new p q.definitions name (skeleton_of (looked_up q) (Some (Function r name ps body)))) refl
  where
    s : Skeleton
    s = skeleton_of (looked_up q) (Some (Function r name ps body))

    bs : List Body
    bs = brought_bodies (suc n) p q

    own : f ≡ name
    own = function_name q.definitions f r name ps body is

    all : Gens (λ g. g ≡ suc n) (brought_bodies (suc n) p q)
    all = of_version (suc n) p q q.definitions

    first : named f (brought_bodies (suc n) p q) ≡ body_of (suc n) p q (Function r name ps body)
    first = first_brought (suc n) p q f q.definitions (alone_in q a) ∙ ap (option_and_then (body_of (suc n) p q)) is

    up : (g : ℕ) → g ≤ n → g ≤ suc n
    up g h = omega (arith, h)

    apart : (g : ℕ) → g ≤ n → (g == suc n) ≡ false
    apart g h = differs_below (suc n) g (omega (arith, h))

    positive : 1 ≤ suc n
    positive = omega arith

    itself : suc n ≤ suc n
    itself = omega arith

    after : n ≤ suc n
    after = omega arith

    one_later : (g : ℕ) → g ≤ n → g ≤ suc n
    one_later g h = omega (arith, h)

    brought_now : is_new p q.definitions name (skeleton_of (looked_up q) (Some (Function r name ps body))) ≡ true
        → HeldBody (suc n) q.definitions (old ++ brought_bodies (suc n) p q) f
    brought_now e =
        let b = new_body (suc n) p q name (skeleton_of (looked_up q) (Some (Function r name ps body))) in
        let is_b = first ∙ ap (λ x. if x then Some b else None) e in
        let generation = generation_rises f (suc n) old (brought_bodies (suc n) p q)
        (gens_weaker (λ g. g ≤ n) (λ g. g ≤ suc n) up old held.gens)
        (generation_of_all f (suc n) (brought_bodies (suc n) p q) b all is_b) in
        let there = found_second f (suc n) old (brought_bodies (suc n) p q)
        (none_of_generation f (suc n) old (gens_weaker (λ g. g ≤ n) (λ g. (g == suc n) ≡ false) apart old held.gens))
        ∙ found_in_generation f (suc n) (brought_bodies (suc n) p q) all ∙ is_b in
        record {
          body = b;
          found = subst (λ g. body_in (old ++ brought_bodies (suc n) p q) f g ≡ Some b) (sym generation) there;
          function_is = sym own;
          generation_is = sym generation;
          brought_is = positive;
          by_then = itself;
          skeleton_is = ap (skeleton_of (looked_up q)) (sym is);
        }

    kept : is_new p q.definitions name (skeleton_of (looked_up q) (Some (Function r name ps body))) ≡ false
        → HeldBody (suc n) q.definitions (old ++ brought_bodies (suc n) p q) f
    kept e =
        let b = new_body (suc n) p q name (skeleton_of (looked_up q) (Some (Function r name ps body))) in
        let none = first ∙ ap (λ x. if x then Some b else None) e in
        let generation = generation_stays f (suc n) old (brought_bodies (suc n) p q)
        (none_named f (suc n) (brought_bodies (suc n) p q) none)
        ∙ generation_later f n (suc n) old after held.gens in
        let stayed = stays_from p q f held.before (ap is_function is ∙ fun)
        (ap (λ x. is_new p q.definitions x (skeleton_of (looked_up q) (looked_up q f))) own
        ∙ ap (λ o. is_new p q.definitions name (skeleton_of (looked_up q) o)) is ∙ e) in
        let h = held.each f (ap is_function (stayed.definition_stays ∙ is) ∙ fun) in
        record {
          body = h.body;
          found = subst (λ g. body_in (old ++ brought_bodies (suc n) p q) f g ≡ Some h.body) (sym generation)
              (found_first f (generation_by f n old) old (brought_bodies (suc n) p q) h.body h.found);
          function_is = h.function_is;
          generation_is = h.generation_is ∙ sym generation;
          brought_is = h.brought_is;
          by_then = one_later h.body.generation h.by_then;
          skeleton_is = h.skeleton_is ∙ ap skeleton stayed.body_stays;
        }

    by : (b : Bool) → is_new p q.definitions name (skeleton_of (looked_up q) (Some (Function r name ps body))) ≡ b
        → HeldBody (suc n) q.definitions (old ++ brought_bodies (suc n) p q) f
    by true e = brought_now e
    by false e = kept e
next_body n p old q held a f None is fun = absurd (no fun)
next_body n p old q held a f (Some (Struct tag ms)) is fun = absurd (no fun)
next_body n p old q held a f (Some (Forward tag)) is fun = absurd (no fun)
next_body n p old q held a f (Some (Mutex name)) is fun = absurd (no fun)
next_body n p old q held a f (Some (Prototype r name ps)) is fun = absurd (no fun)
next_body n p old q held a f (Some (Global d)) is fun = absurd (no fun)
next_body n p old q held a f (Some (Array t name m initial)) is fun = absurd (no fun)
next_body n p old q held a f (Some (TransformStruct tag values)) is fun = absurd (no fun)
next_body n p old q held a f (Some (TransformGlobal name value)) is fun = absurd (no fun)

next_held : (n : ℕ) (p : List BareDef) (old : List Body) (q : Text) → Held n p old → IsAccepted q
    → Held (suc n) q.definitions (old ++ brought_bodies (suc n) p q)
next_held n p old q held a = record {
  gens = gens_together (λ g. g ≤ suc n) old (brought_bodies (suc n) p q) (gens_weaker (λ g. g ≤ n) (λ g. g ≤ suc n) up old held.gens)
      (gens_weaker (λ g. g ≡ suc n) (λ g. g ≤ suc n) same (brought_bodies (suc n) p q) (of_version (suc n) p q q.definitions));
  before = inr (q, a, refl);
  each = λ f fun. next_body n p old q held a f (looked_up q f) refl fun;
}
  where
    up : (g : ℕ) → g ≤ n → g ≤ suc n
    up g h = omega (arith, h)

    same : (g : ℕ) → g ≡ suc n → g ≤ suc n
    same g e = omega (arith, e)

-- ---- all versions

-- later bodies leave the one in force
held_still : (n : ℕ) (ds : List BareDef) (xs ys : List Body) (f : Bytes) → HeldBody n ds xs f → Gens (λ g. n < g) ys
    → HeldBody n ds (xs ++ ys) f
held_still n ds xs ys f h late =
    let generation = generation_stays f n xs ys (none_by f n ys late) in
    record {
      body = h.body;
      found = subst (λ g. body_in (xs ++ ys) f g ≡ Some h.body) (sym generation)
          (found_first f (generation_by f n xs) xs ys h.body h.found);
      function_is = h.function_is;
      generation_is = h.generation_is ∙ sym generation;
      brought_is = h.brought_is;
      by_then = h.by_then;
      skeleton_is = h.skeleton_is;
    }

in_version_of : (qs : List Text) (n : ℕ) (p : List BareDef) (old : List Body) → Held n p old → AreAccepted qs → (k m : ℕ) (f : Bytes)
    → m ≡ suc (n + k) → is_function (definition (get_or (definitions_of qs) k []) f) ≡ true
    → HeldBody m (get_or (definitions_of qs) k []) (old ++ bodies_from (suc n) p qs) f
in_version_of [] n p old held all k m f at fun = absurd (no fun)
in_version_of (q ∷ qs) n p old held all zero m f at fun =
    let more = next_held n p old q held (All-head IsAccepted q qs all) in
    let rest = bodies_from (suc (suc n)) q.definitions qs in
    subst (λ k. HeldBody k q.definitions (old ++ bodies_from (suc n) p (q ∷ qs)) f) (first_at at)
    (subst (λ bs. HeldBody (suc n) q.definitions bs f) (append_assoc old (brought_bodies (suc n) p q) rest)
    (held_still (suc n) q.definitions (old ++ brought_bodies (suc n) p q) rest f (more.each f fun) (from_version (suc (suc n)) q.definitions qs)))
  where
    first_at : m ≡ suc (n + 0) → suc n ≡ m
    first_at e = omega (arith, e)
in_version_of (q ∷ qs) n p old held all (suc k) m f at fun =
    let more = next_held n p old q held (All-head IsAccepted q qs all) in
    let rest = bodies_from (suc (suc n)) q.definitions qs in
    subst (λ bs. HeldBody m (get_or (definitions_of qs) k []) bs f) (append_assoc old (brought_bodies (suc n) p q) rest)
    (in_version_of qs (suc n) q.definitions (old ++ brought_bodies (suc n) p q) more (All-tail IsAccepted q qs all) k m f (later_at at) fun)
  where
    later_at : m ≡ suc (n + suc k) → m ≡ suc (suc n + k)
    later_at e = omega (arith, e)

pub each_has_a_body : EachHasABody
each_has_a_body texts zero function all fun = absurd (no fun)
each_has_a_body texts (suc k) function all fun =
    let start : Held 0 [] [] = record { gens = tt; before = inl refl; each = λ f none. absurd (no none) } in
    let h = in_version_of texts 0 [] [] start all k (suc k) function same fun in
    record {
      body = h.body;
      found = h.found;
      function_is = h.function_is;
      generation_is = h.generation_is;
      brought = h.brought_is;
      by_then = h.by_then;
      skeleton_is = h.skeleton_is;
    }
  where
    same : suc k ≡ suc (0 + k)
    same = omega arith

-- ---- later texts

split_store : (xs ys : List Text) (n m : ℕ) (p : List BareDef) → m ≡ n + length xs
    → (last : List BareDef) × (bodies_from n p (xs ++ ys) ≡ bodies_from n p xs ++ bodies_from m last ys)
split_store [] ys n m p at = (p, ap (λ k. bodies_from k p ys) (same at))
  where
    same : m ≡ n + 0 → n ≡ m
    same e = omega (arith, e)
split_store (x ∷ xs) ys n m p at =
    let rest = split_store xs ys (suc n) m x.definitions (later at) in (
      rest.0,
      ap (λ bs. brought_bodies n p x ++ bs) rest.1
          ∙ sym (append_assoc (brought_bodies n p x) (bodies_from (suc n) x.definitions xs) (bodies_from m rest.0 ys)),
    )
  where
    later : m ≡ n + suc (length xs) → m ≡ suc n + length xs
    later e = omega (arith, e)

first_texts : (xs ys : List Text) (k : ℕ) → k < length xs → get_or (definitions_of (xs ++ ys)) k [] ≡ get_or (definitions_of xs) k []
first_texts [] ys k below = absurd (omega (arith, below))
first_texts (x ∷ xs) ys zero below = refl
first_texts (x ∷ xs) ys (suc k) below = first_texts xs ys k (less below)
  where
    less : suc k < suc (length xs) → k < length xs
    less h = omega (arith, h)

version_stays : (xs ys : List Text) (n : ℕ) → n ≤ length xs → text_in (definitions_of (xs ++ ys)) n ≡ text_in (definitions_of xs) n
version_stays xs ys zero below = refl
version_stays xs ys (suc k) below = first_texts xs ys k (less below)
  where
    less : suc k ≤ length xs → k < length xs
    less h = omega (arith, h)

pub later_texts_leave : LaterTextsLeave
later_texts_leave texts more function n below =
    let split = split_store texts more 1 (suc (length texts)) [] next in
    let later = bodies_from (suc (length texts)) split.0 more in
    let late = gens_weaker (λ g. suc (length texts) ≤ g) (λ g. n < g) above later (from_version (suc (length texts)) split.0 more) in
    record {
      version_is = ap definition (version_stays texts more n below);
      generation_is = ap (generation_by function n) split.1 ∙ generation_stays function n (store texts) later (none_by function n later late);
      body_is = ap (λ bs. body_in bs function n) split.1
          ∙ body_stays function n (store texts) later
          (none_of_generation function n later (gens_weaker (λ g. n < g) (λ g. (g == n) ≡ false) (differs_above n) later late));
    }
  where
    next : suc (length texts) ≡ 1 + length texts
    next = omega arith

    above : (g : ℕ) → suc (length texts) ≤ g → n < g
    above g h = omega (arith, h, below)
