-- What lists with the same bodies have in common.
use Rattle.std.proofs.Common.{◌≡◌, ℕ, ◌<◌, ◌≤◌, false, List, [], ◌∷◌, ◌++◌, All, map, length, refl, sym, ap, subst, ◌∙◌}
use Rattle.std.specs.Prelude.{IfSome}
use Rattle.std.proofs.lemmas.List.{map-append}
use Rattle.std.proofs.lemmas.List.Elements.{All-cons, All-head, All-tail}
use Rattle.name_sets.specs.Texts.{text_of}
use Rattle.skeletons.specs.Meaning.{used_at, point_of}
use Rattle.skeletons.specs.declared.point.Point.{Point}
use Rattle.c_tree.specs.BareExpr.{Bytes}
use Rattle.c_semantics.specs.Store.{Body, all_check_ins, all_tokens}
use Rattle.code_store.specs.declared.body.StoredBody.{StoredBody}
use Rattle.code_store.specs.Limits.{most_check_ins, most_function_tokens, are_too_many}
use Rattle.code_store.specs.Stored.{meant_body, IsNamed, IsNewTo, AreDistinct}
use Rattle.code_store.proofs.Room.{not_too_many}
use Rattle.version_copies.specs.SameBodies.{Content, content_of, HaveSameBodies, SameMeaning, SameStores, SameWithMore}

heads : {A : Type 0} (x y : A) (xs ys : List A) → x ∷ xs ≡ y ∷ ys → (x ≡ y) × (xs ≡ ys)
heads x y xs ys e = (cc, cc)

none_is_some : {A : Type 0} (y : A) (ys : List A) → [] ≡ y ∷ ys → ⊥
none_is_some y ys e = cc

some_is_none : {A : Type 0} (x : A) (xs : List A) → x ∷ xs ≡ [] → ⊥
some_is_none x xs e = cc

-- a fact of contents holds of each body of both
all_same : (P : StoredBody → Type 0) → ((a b : StoredBody) → content_of a ≡ content_of b → P a → P b)
    → (bodies others : List StoredBody) → HaveSameBodies bodies others → All P bodies → All P others
all_same P go [] [] e all = all
all_same P go [] (b ∷ others) e all = absurd (none_is_some (content_of b) (map content_of others) e)
all_same P go (a ∷ rest) [] e all = absurd (some_is_none (content_of a) (map content_of rest) e)
all_same P go (a ∷ rest) (b ∷ others) e all =
    let parts = heads (content_of a) (content_of b) (map content_of rest) (map content_of others) e in
    All-cons P b others (go a b parts.0 (All-head P a rest all)) (all_same P go rest others parts.1 (All-tail P a rest all))

pub same_with_more : SameWithMore
same_with_more bodies others more e =
    map-append content_of bodies more ∙ ap (λ cs. cs ++ map content_of more) e ∙ sym (map-append content_of others more)

-- what a body means depends on its content
meant_content : List Bytes → Content → Body
meant_content names c = record {
  function = text_of names c.function;
  generation = c.generation;
  skeleton = record { points = map (point_of names) c.points; next = c.next };
  tokens = c.tokens;
}

meaning_by_content : (names : List Bytes) (bodies : List StoredBody)
    → map (meant_body names) bodies ≡ map (meant_content names) (map content_of bodies)
unfolding meant_content
meaning_by_content names [] = refl
meaning_by_content names (b ∷ others) = ap (λ ms. meant_body names b ∷ ms) (meaning_by_content names others)

pub same_meaning : SameMeaning
same_meaning names bodies others e =
    meaning_by_content names bodies ∙ ap (map (meant_content names)) e ∙ sym (meaning_by_content names others)

named_same : (names : List Bytes) (a b : StoredBody) → content_of a ≡ content_of b → IsNamed names a → IsNamed names b
named_same names a b e named = record {
  named_function = subst (λ f. f < length names) (ap (λ (c : Content). c.function) e) named.named_function;
  named_uses = subst (λ (ps : List Point). All (λ p. IfSome (used_at p.kind) (λ id. id < length names)) ps)
      (ap (λ (c : Content). c.points) e) named.named_uses;
}

pub new_same : (function generation : ℕ) (bodies others : List StoredBody) → HaveSameBodies bodies others
    → IsNewTo bodies function generation → IsNewTo others function generation
new_same function generation =
    all_same (λ b. ¬ ((b.function ≡ function) × (b.generation ≡ generation)))
    (λ a b e new own. new (ap (λ (c : Content). c.function) e ∙ own.0, ap (λ (c : Content). c.generation) e ∙ own.1))

distinct_same : (bodies others : List StoredBody) → HaveSameBodies bodies others → AreDistinct bodies → AreDistinct others
distinct_same [] [] e d = d
distinct_same [] (b ∷ others) e d = absurd (none_is_some (content_of b) (map content_of others) e)
distinct_same (a ∷ rest) [] e d = tt
distinct_same (a ∷ rest) (b ∷ others) e d =
    let parts = heads (content_of a) (content_of b) (map content_of rest) (map content_of others) e in
    let function : a.function ≡ b.function = ap (λ (c : Content). c.function) parts.0 in
    let generation : a.generation ≡ b.generation = ap (λ (c : Content). c.generation) parts.0 in
    let new = new_same a.function a.generation rest others parts.1 d.0 in (
      subst (λ f. IsNewTo others f b.generation) function (subst (λ g. IsNewTo others a.function g) generation new),
      distinct_same rest others parts.1 d.1,
    )

pub same_stores : SameStores
same_stores names bodies stored others e s = record {
  table = s.table;
  named = all_same (IsNamed names) (named_same names) stored others e s.named;
  meaning = sym (same_meaning names stored others e) ∙ s.meaning;
  distinct = distinct_same stored others e s.distinct;
}

-- contents part by part
pub parts_of_content : (a b : StoredBody) → content_of a ≡ content_of b
    → (a.function ≡ b.function) × (a.generation ≡ b.generation) × (a.tokens ≡ b.tokens)
    × (a.skeleton.points.items ≡ b.skeleton.points.items) × (a.skeleton.next.items ≡ b.skeleton.next.items)
parts_of_content a b e = (
  ap (λ (c : Content). c.function) e,
  ap (λ (c : Content). c.generation) e,
  ap (λ (c : Content). c.tokens) e,
  ap (λ (c : Content). c.points) e,
  ap (λ (c : Content). c.next) e,
)

pub content_of_parts : (a b : StoredBody) → a.function ≡ b.function → a.generation ≡ b.generation → a.tokens ≡ b.tokens
    → a.skeleton.points.items ≡ b.skeleton.points.items → a.skeleton.next.items ≡ b.skeleton.next.items → content_of a ≡ content_of b
content_of_parts a b function generation tokens points next = cc

-- copies of the bodies of a store fit a store
pub copies_fit : (stored copies none : List StoredBody) → HaveSameBodies stored copies → none ≡ []
    → ((names : List Bytes) → all_check_ins (map (meant_body names) stored) ≤ most_check_ins)
    → ((names : List Bytes) → all_tokens (map (meant_body names) stored) ≤ most_function_tokens)
    → (names : List Bytes) → are_too_many (map (meant_body names) none ++ map (meant_body names) copies) ≡ false
copies_fit stored copies none same e few few_tokens names =
    ap (λ bs. are_too_many (map (meant_body names) bs ++ map (meant_body names) copies)) e
    ∙ ap are_too_many (sym (same_meaning names stored copies same))
    ∙ not_too_many (map (meant_body names) stored) (few names) (few_tokens names)
