-- The text of the last version, and the store of the versions with one more.
use Rattle.std.proofs.Common.{◌≡◌, ℕ, suc, ◌+◌, ◌<◌, ◌≤◌, List, [], ◌∷◌, ◌++◌, All, map, Option, Some, None, IfSome, refl, sym, ap, subst, ◌∙◌, arith, length, append_assoc, Bool, true, false}
use Rattle.std.specs.List.{filter_map}
use Rattle.std.proofs.lemmas.List.{append-nil, map-append}
use Rattle.std.proofs.lemmas.List.Elements.{All-nil, All-cons, All-head, All-tail, All-append, All-weaker}
use Rattle.c_tree.specs.BareExpr.{Bytes}
use Rattle.c_tree.specs.BareDef.{BareDef, Struct, Forward, Mutex, Function, Prototype, Global, Array, TransformStruct, TransformGlobal}
use Rattle.c_semantics.specs.Texts.{definition}
use Rattle.c_semantics.specs.Skeletons.{skeleton_of}
use Rattle.c_semantics.specs.SourceTexts.{Text}
use Rattle.c_semantics.specs.Store.{Body, is_new, body_of, brought_bodies, bodies_from, store}
use Rattle.source_model.specs.Patches.{last_definitions, last_tree}
use Rattle.code_store.specs.declared.body.StoredBody.{StoredBody}
use Rattle.code_store.specs.Stored.{meant_body, IsNamed, IsNewTo, AreDistinct, IsStoreOf}

-- the last text is the one at the end
pub last_definitions_are : (before : List Text) (q : Text) → last_definitions (before ++ q ∷ []) ≡ q.definitions
last_definitions_are [] q = refl
last_definitions_are (text ∷ []) q = refl
last_definitions_are (text ∷ other ∷ before) q = last_definitions_are (other ∷ before) q

pub last_tree_is : (before : List Text) (q : Text) → last_tree (before ++ q ∷ []) ≡ q.tree.definitions
last_tree_is [] q = refl
last_tree_is (text ∷ []) q = refl
last_tree_is (text ∷ other ∷ before) q = last_tree_is (other ∷ before) q

-- ---- the bodies of one version more

-- the definitions of the last of some texts, or those before them
last_after : List BareDef → List Text → List BareDef
last_after p [] = p
last_after p (text ∷ texts) = last_after text.definitions texts

last_after_is : (text : Text) (texts : List Text) → last_definitions (text ∷ texts) ≡ last_after text.definitions texts
unfolding last_after
last_after_is text [] = refl
last_after_is text (other ∷ texts) = last_after_is other texts

bodies_of_more : (n : ℕ) (p : List BareDef) (texts : List Text) (q : Text)
    → bodies_from n p (texts ++ q ∷ []) ≡ bodies_from n p texts ++ brought_bodies (n + length texts) (last_after p texts) q
unfolding last_after
bodies_of_more n p [] q =
    append-nil (brought_bodies n p q) ∙ ap (λ k. brought_bodies k p q) (let e : n ≡ n + 0 = omega arith in e)
bodies_of_more n p (text ∷ texts) q =
    ap (λ bs. brought_bodies n p text ++ bs) (bodies_of_more (suc n) text.definitions texts q)
    ∙ sym (append_assoc (brought_bodies n p text) (bodies_from (suc n) text.definitions texts) (brought_bodies (suc n + length texts) (last_after text.definitions texts) q))
    ∙ ap (λ k. (brought_bodies n p text ++ bodies_from (suc n) text.definitions texts) ++ brought_bodies k (last_after text.definitions texts) q)
    (let e : suc n + length texts ≡ n + suc (length texts) = omega arith in e)

-- the store of the versions with a text added
pub store_of_more : (texts : List Text) (q : Text)
    → store (texts ++ q ∷ []) ≡ store texts ++ brought_bodies (suc (length texts)) (last_definitions texts) q
unfolding last_after
store_of_more [] q = append-nil (brought_bodies 1 [] q)
store_of_more (text ∷ texts) q =
    bodies_of_more 1 [] (text ∷ texts) q
    ∙ ap (λ k. store (text ∷ texts) ++ brought_bodies k (last_after text.definitions texts) q)
    (let e : 1 + suc (length texts) ≡ suc (suc (length texts)) = omega arith in e)
    ∙ ap (λ p. store (text ∷ texts) ++ brought_bodies (suc (suc (length texts))) p q) (sym (last_after_is text texts))

-- ---- their generations

-- a body is of a version before one
abbrev IsBefore : ℕ → Body → Type 0
IsBefore n b = b.generation < n

pub generation_if_new : (n : ℕ) (p : List BareDef) (q : Text) (d : BareDef) → IfSome (body_of n p q d) (λ b. b.generation ≡ n)
generation_if_new n p q (Function result name parameters body) =
    by (is_new p q.definitions name (skeleton_of (definition q.definitions) (Some (Function result name parameters body)))) refl
  where
    by : (b : Bool) → is_new p q.definitions name (skeleton_of (definition q.definitions) (Some (Function result name parameters body))) ≡ b
        → IfSome (body_of n p q (Function result name parameters body)) (λ b. b.generation ≡ n)
    by true e = rw e refl
    by false e = rw e tt
generation_if_new n p q (Struct tag members) = tt
generation_if_new n p q (Forward tag) = tt
generation_if_new n p q (Mutex name) = tt
generation_if_new n p q (Prototype result name parameters) = tt
generation_if_new n p q (Global d) = tt
generation_if_new n p q (Array type name length values) = tt
generation_if_new n p q (TransformStruct tag values) = tt
generation_if_new n p q (TransformGlobal name value) = tt

-- what a list of those that are there keeps
pub all_kept : {A B : Type 0} (f : A → Option B) (P : B → Type 0) (xs : List A) → ((x : A) → IfSome (f x) P) → All P (filter_map f xs)
all_kept f P [] each = All-nil P
all_kept {A} {B} f P (x ∷ xs) each = by (f x) refl (each x) (all_kept f P xs each)
  where
    by : (o : Option B) → f x ≡ o → IfSome (f x) P → All P (filter_map f xs) → All P (filter_map f (x ∷ xs))
    by None e h rest = rw e rest
    by (Some b) e h rest = let here : P b = rw e at h in rw e (All-cons P b (filter_map f xs) here rest)

brought_before : (n m : ℕ) (p : List BareDef) (q : Text) → n < m → All (IsBefore m) (brought_bodies n p q)
brought_before n m p q l =
    All-weaker (λ b. b.generation ≡ n) (IsBefore m) (λ b e. subst (λ k. k < m) (sym e) l) (brought_bodies n p q)
    (all_kept (body_of n p q) (λ b. b.generation ≡ n) q.definitions (generation_if_new n p q))

bodies_before : (n m : ℕ) (p : List BareDef) (texts : List Text) → n + length texts ≤ m → All (IsBefore m) (bodies_from n p texts)
bodies_before n m p [] l = All-nil (IsBefore m)
bodies_before n m p (text ∷ texts) l =
    All-append (IsBefore m) (brought_bodies n p text) (bodies_from (suc n) text.definitions texts)
    (brought_before n m p text (omega arith))
    (bodies_before (suc n) m text.definitions texts (omega arith))

-- the bodies so far are of versions before the new one
store_before : (texts : List Text) → All (IsBefore (suc (length texts))) (store texts)
store_before texts = bodies_before 1 (suc (length texts)) [] texts (omega arith)

-- ---- the bodies as they are stored

-- so is each stored one
stored_before : (names : List Bytes) (m : ℕ) (bs : List StoredBody) → All (IsBefore m) (map (meant_body names) bs) → All (λ b. b.generation < m) bs
stored_before names m [] all = All-nil (λ b. b.generation < m)
stored_before names m (b ∷ bs) all =
    All-cons (λ b. b.generation < m) b bs (All-head (IsBefore m) (meant_body names b) (map (meant_body names) bs) all)
    (stored_before names m bs (All-tail (IsBefore m) (meant_body names b) (map (meant_body names) bs) all))

new_to : (bs : List StoredBody) (function n : ℕ) → All (λ b. b.generation < n) bs → IsNewTo bs function n
new_to bs function n all =
    All-weaker (λ b. b.generation < n) (λ b. ¬ ((b.function ≡ function) × (b.generation ≡ n)))
    (λ b l e. let same = e.1 in absurd (omega arith)) bs all

-- bodies of the new version are new to the store so far
pub bodies_are_new : (names : List Bytes) (texts : List Text) (stored bodies : List StoredBody) → IsStoreOf names (store texts) stored
    → All (λ b. b.generation ≡ suc (length texts)) bodies → All (λ b. IsNewTo stored b.function b.generation) bodies
bodies_are_new names texts stored bodies s at =
    let n = suc (length texts) in
    let before = stored_before names n stored (subst (All (IsBefore n)) (sym s.meaning) (store_before texts)) in
    All-weaker (λ b. b.generation ≡ n) (λ b. IsNewTo stored b.function b.generation)
    (λ b e. subst (λ g. IsNewTo stored b.function g) (sym e) (new_to stored b.function n before)) bodies at

-- two lists with no body in both
distinct_append : (xs bs : List StoredBody) (n : ℕ) → AreDistinct xs → AreDistinct bs
    → All (λ a. a.generation < n) xs → All (λ b. b.generation ≡ n) bs → AreDistinct (xs ++ bs)
distinct_append [] bs n da db before at = db
distinct_append (a ∷ xs) bs n da db before at =
    let Other : StoredBody → Type 0 = λ b. ¬ ((b.function ≡ a.function) × (b.generation ≡ a.generation)) in
    let less : a.generation < n = All-head (λ a. a.generation < n) a xs before in (
      All-append Other xs bs da.0
          (All-weaker (λ b. b.generation ≡ n) Other (λ b e same. let g = same.1 in absurd (omega arith)) bs at),
      distinct_append xs bs n da.1 db (All-tail (λ a. a.generation < n) a xs before) at,
    )

-- the store of the versions with the bodies that a text brings
pub store_with_bodies : (names : List Bytes) (texts : List Text) (q : Text) (stored bodies : List StoredBody)
    → IsStoreOf names (store texts) stored
    → map (meant_body names) bodies ≡ brought_bodies (suc (length texts)) (last_definitions texts) q
    → All (IsNamed names) bodies → All (λ b. b.generation ≡ suc (length texts)) bodies → AreDistinct bodies
    → IsStoreOf names (store (texts ++ q ∷ [])) (stored ++ bodies)
store_with_bodies names texts q stored bodies s meaning named at distinct = record {
  table = s.table;
  named = All-append (IsNamed names) stored bodies s.named named;
  meaning = map-append (meant_body names) stored bodies
      ∙ ap (λ bs. bs ++ map (meant_body names) bodies) s.meaning
      ∙ ap (λ bs. store texts ++ bs) meaning
      ∙ sym (store_of_more texts q);
  distinct = distinct_append stored bodies (suc (length texts)) s.distinct distinct
      (stored_before names (suc (length texts)) stored (subst (All (IsBefore (suc (length texts)))) (sym s.meaning) (store_before texts))) at;
}
