-- The bodies of a function in a store, by its id and by its name.
use Rattle.std.proofs.Common.{◌≡◌, ℕ, ◌+◌, ◌<◌, ◌≤◌, Bool, true, false, ◌&&◌, List, [], ◌∷◌, ◌++◌, All, map, length, take, drop, get_or, Some, refl, sym, ap, subst, ◌∙◌, arith}
use Rattle.std.specs.Prelude.{◌==◌, bytes_eq, max, nat_le, if◌then◌else◌}
use Rattle.std.proofs.lemmas.Bool.Decides.{Decides-eqb, same_from_decides, nat_tests}
use Rattle.std.proofs.lemmas.List.{map_more, drop_more}
use Rattle.std.proofs.lemmas.List.Elements.{All-get_or}
use Rattle.std.proofs.lemmas.Option.{slice_get-get_or}
use Rattle.std.proofs.lemmas.Slice.Eq.{bytes_eq-Decides}
use Rattle.name_sets.specs.Texts.{IsTable, text_of}
use Rattle.c_tree.specs.BareExpr.{Bytes}
use Rattle.c_semantics.specs.Store.{Body, generation_by, body_in}
use Rattle.code_store.specs.declared.body.StoredBody.{StoredBody}
use Rattle.code_store.specs.Stored.{meant_body, IsNamed}

-- two ids of one name are the same
pub same_id : (names : List Bytes) (a b : ℕ) → IsTable names → a < length names → b < length names
    → text_of names a ≡ text_of names b → a ≡ b
same_id names a b table la lb e =
    table.distinct a b (text_of names b) (slice_get-get_or names a [] la ∙ ap Some e) (slice_get-get_or names b [] lb)

-- the names of two ids are the same where the ids are
pub same_name : (names : List Bytes) (a b : ℕ) → IsTable names → a < length names → b < length names
    → bytes_eq (text_of names a) (text_of names b) ≡ (b == a)
same_name names a b table la lb =
    same_from_decides (bytes_eq (text_of names a) (text_of names b)) (b == a)
    (bytes_eq-Decides (text_of names a) (text_of names b)) (
      λ e. ap (text_of names) (sym ((Decides-eqb b a).0 e)),
      λ same. (Decides-eqb b a).1 (sym (same_id names a b table la lb same)),
    )

-- the generation of a body of a function, if the body is there in a version
abbrev own_generation : Bytes → ℕ → Body → ℕ
own_generation f version b = if bytes_eq f b.function && nat_le b.generation version then b.generation else 0

-- the greatest generation among some bodies and one more
generation_with : (f : Bytes) (version : ℕ) (bs : List Body) (b : Body)
    → generation_by f version (bs ++ b ∷ []) ≡ max (generation_by f version bs) (own_generation f version b)
generation_with f version [] b = one (bytes_eq f b.function && nat_le b.generation version) b.generation
  where
    one : (t : Bool) (n : ℕ) → (if t then max n 0 else 0) ≡ max 0 (if t then n else 0)
    one true n = omega arith
    one false n = refl
generation_with f version (a ∷ bs) b =
    before (bytes_eq f a.function && nat_le a.generation version) a.generation (generation_by f version bs)
    (own_generation f version b) (generation_by f version (bs ++ b ∷ [])) (generation_with f version bs b)
  where
    before : (t : Bool) (n rest own all : ℕ) → all ≡ max rest own
        → (if t then max n all else all) ≡ max (if t then max n rest else rest) own
    before true n rest own all e = omega (arith, e)
    before false n rest own all e = e

-- among the first bodies of a store, and one more
pub generation_more : (names : List Bytes) (stored : List StoredBody) (i : ℕ) (b : StoredBody) (id version old new : ℕ)
    → IsTable names → All (IsNamed names) stored → id < length names → i < length stored → b ≡ get_or stored i b
    → old ≡ generation_by (text_of names id) version (map (meant_body names) (take i stored))
    → new ≡ max old (if b.function == id && nat_le b.generation version then b.generation else 0)
    → new ≡ generation_by (text_of names id) version (map (meant_body names) (take (i + 1) stored))
generation_more names stored i b id version old new table all known within is e is_new =
    let f = text_of names id in
    let bs = map (meant_body names) (take i stored) in
    let named : IsNamed names b = subst (IsNamed names) (sym is) (All-get_or (IsNamed names) stored i b within all) in
    let own : own_generation f version (meant_body names b) ≡ (if b.function == id && nat_le b.generation version then b.generation else 0) =
    ap (λ t. if t && nat_le b.generation version then b.generation else 0) (same_name names id b.function table known named.named_function) in
    let more : map (meant_body names) (take (i + 1) stored) ≡ bs ++ meant_body names b ∷ [] =
    map_more (meant_body names) stored i b within ∙ ap (λ b. bs ++ meant_body names b ∷ []) (sym is) in
    is_new ∙ ap (λ n. max n (if b.function == id && nat_le b.generation version then b.generation else 0)) e
    ∙ ap (max (generation_by f version bs)) (sym own)
    ∙ sym (generation_with f version bs (meant_body names b))
    ∙ sym (ap (generation_by f version) more)

-- the body of a generation, from a place on in a store
pub body_from : (names : List Bytes) (stored : List StoredBody) (i : ℕ) (b : StoredBody) (id generation : ℕ)
    → IsTable names → All (IsNamed names) stored → id < length names → i < length stored → b ≡ get_or stored i b
    → body_in (map (meant_body names) (drop i stored)) (text_of names id) generation
    ≡ (if b.function == id && b.generation == generation
    then Some (meant_body names b)
    else body_in (map (meant_body names) (drop (i + 1) stored)) (text_of names id) generation)
body_from names stored i b id generation table all known within is =
    let f = text_of names id in
    let rest = body_in (map (meant_body names) (drop (i + 1) stored)) f generation in
    let named : IsNamed names b = subst (IsNamed names) (sym is) (All-get_or (IsNamed names) stored i b within all) in
    ap (λ bs. body_in (map (meant_body names) bs) f generation)
    (drop_more stored i b within ∙ ap (λ b. b ∷ drop (i + 1) stored) (sym is))
    ∙ ap (λ t. if t && b.generation == generation then Some (meant_body names b) else rest)
    (same_name names id b.function table known named.named_function)

-- the generation of a body, where it is there or isn't
pub generation_in : (function id generation version : ℕ) → function ≡ id → generation ≤ version
    → (if function == id && nat_le generation version then generation else 0) ≡ generation
generation_in function id generation version same there = grind (arith, nat_tests, same, there)

pub generation_of_another : (function id generation version : ℕ) → (function ≡ id → ⊥)
    → (if function == id && nat_le generation version then generation else 0) ≡ 0
generation_of_another function id generation version other = grind (arith, nat_tests, other)

pub generation_too_late : (function id generation version : ℕ) → version < generation
    → (if function == id && nat_le generation version then generation else 0) ≡ 0
generation_too_late function id generation version late = grind (arith, nat_tests, late)

pub with_nothing : (old own : ℕ) → own ≡ 0 → old ≡ max old own
with_nothing old own none = omega (arith, none)

-- a body is the one that is looked for, or it isn't
pub is_body : (function id generation wanted : ℕ) → function ≡ id → generation ≡ wanted
    → (function == id && generation == wanted) ≡ true
is_body function id generation wanted same its = grind (arith, nat_tests, same, its)

pub is_of_another : (function id generation wanted : ℕ) → (function ≡ id → ⊥) → (function == id && generation == wanted) ≡ false
is_of_another function id generation wanted other = grind (arith, nat_tests, other)

pub is_of_another_version : (function id generation wanted : ℕ) → (generation ≡ wanted → ⊥)
    → (function == id && generation == wanted) ≡ false
is_of_another_version function id generation wanted other = grind (arith, nat_tests, other)
