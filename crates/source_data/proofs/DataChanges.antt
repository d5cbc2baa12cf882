-- The names whose data changes, and the changes that are found by them.
use Rattle.std.proofs.Common.{◌≡◌, Bool, true, false, cond, not, ◌&&◌, ◌||◌, List, [], ◌∷◌, map, find, Option, Some, None, All, is_some, bytes_eq, refl, sym, ap, subst, ◌∙◌}
use Rattle.std.proofs.lemmas.List.Elements.{All-head, All-tail}
use Rattle.std.proofs.lemmas.Slice.Eq.{bytes_eq-Decides}
use Rattle.name_sets.specs.NameLists.{is_among, name_set}
use Rattle.c_tree.specs.BareExpr.{Bytes}
use Rattle.c_tree.specs.BareDef.{BareDef}
use Rattle.c_semantics.specs.Texts.{definition, names}
use Rattle.c_semantics.specs.Changes.{agree, interface, same_interface}
use Rattle.type_transformers.specs.declared.change.Change.{Change}
use Rattle.type_transformers.specs.Changes.{changing, has_data, name_of}
use Rattle.definition_laws.proofs.Names.{among_filtered, among_names, among_set}

same_bytes : (a b : Bytes) → bytes_eq a b ≡ true → a ≡ b
same_bytes a b e = (bytes_eq-Decides a b).0 e

itself : (a b : Bytes) → a ≡ b → bytes_eq a b ≡ true
itself a b e = (bytes_eq-Decides a b).1 e

-- ---- what is found

pub found_passes : {X : Type 0} (test : X → Bool) (xs : List X) (x : X) → find test xs ≡ Some x → test x ≡ true
found_passes test [] x e = cc
found_passes {X} test (y ∷ xs) x e = by (test y) refl e (found_passes test xs x)
  where
    by : (b : Bool) → test y ≡ b → cond b (Some y) (find test xs) ≡ Some x → (find test xs ≡ Some x → test x ≡ true) → test x ≡ true
    by true is e rest = let same : y ≡ x = cc in subst {A = X} (λ z. test z ≡ true) same is
    by false is e rest = rest e

pub found_is : {X : Type 0} (P : X → Type 0) (test : X → Bool) (xs : List X) (x : X) → All P xs → find test xs ≡ Some x → P x
found_is P test [] x all e = cc
found_is {X} P test (y ∷ xs) x all e = by (test y) e (found_is P test xs x (All-tail P y xs all))
  where
    by : (b : Bool) → cond b (Some y) (find test xs) ≡ Some x → (find test xs ≡ Some x → P x) → P x
    by true e rest = let same : y ≡ x = cc in subst {A = X} P same (All-head P y xs all)
    by false e rest = rest e

-- the name of a change that is found is one of theirs
pub name_found : (test : Change → Bool) (cs : List Change) (c : Change) → find test cs ≡ Some c → is_among (map name_of cs) (name_of c) ≡ true
name_found test [] c e = cc
name_found test (x ∷ cs) c e = by (test x) e (name_found test cs c)
  where
    or_true : (b : Bool) → (b || true) ≡ true
    or_true true = refl
    or_true false = refl

    by : (b : Bool) → cond b (Some x) (find test cs) ≡ Some c → (find test cs ≡ Some c → is_among (map name_of cs) (name_of c) ≡ true)
        → (bytes_eq (name_of c) (name_of x) || is_among (map name_of cs) (name_of c)) ≡ true
    by true e rest =
        let same : x ≡ c = cc in
        ap (λ b. b || is_among (map name_of cs) (name_of c)) (itself (name_of c) (name_of x) (ap name_of (sym same)))
    by false e rest = ap (λ b. bytes_eq (name_of c) (name_of x) || b) (rest e) ∙ or_true (bytes_eq (name_of c) (name_of x))

-- where none is found, and those that aren't found have other names, the name is none of theirs
pub none_found : (P : Change → Type 0) (test : Change → Bool) (cs : List Change) (name : Bytes) → All P cs
    → ((c : Change) → P c → test c ≡ false → bytes_eq name (name_of c) ≡ false)
    → find test cs ≡ None → is_among (map name_of cs) name ≡ false
none_found P test [] name all other e = refl
none_found P test (x ∷ cs) name all other e =
    by (test x) refl e (none_found P test cs name (All-tail P x cs all) other)
  where
    by : (b : Bool) → test x ≡ b → cond b (Some x) (find test cs) ≡ None → (find test cs ≡ None → is_among (map name_of cs) name ≡ false)
        → (bytes_eq name (name_of x) || is_among (map name_of cs) name) ≡ false
    by true is e rest = cc
    by false is e rest = ap (λ b. b || is_among (map name_of cs) name) (other x (All-head P x cs all) is) ∙ rest e

-- ---- the names whose data changes

-- whether data changes, by what two texts say of a name
abbrev changes_by : Option BareDef → Option BareDef → Bool
changes_by a b = (is_some a && has_data b) && (not (agree same_interface a b) && is_some a)

among_changing : (p q : List BareDef) (name : Bytes) → is_among (changing p q) name ≡ changes_by (definition p name) (definition q name)
among_changing p q name =
    let differs : Bytes → Bool = λ z. not (agree same_interface (definition p z) (definition q z)) in
    let kept : Bytes → Bool = λ z. is_some (definition p z) && has_data (definition q z) in
    among_filtered kept (interface p q) name
    ∙ ap (λ b. kept name && b) (among_filtered differs (name_set (names p)) name
    ∙ ap (λ b. differs name && b) (among_set (names p) name ∙ among_names p name))

-- a name whose data changes is defined in both texts, with other interfaces
pub record Differs (p q : List BareDef) (name : Bytes) : Type 0 where
  pub before : BareDef
  pub after : BareDef
  pub was : definition p name ≡ Some before
  pub is : definition q name ≡ Some after
  pub other : same_interface before after ≡ false

pub differs : (p q : List BareDef) (name : Bytes) → is_among (changing p q) name ≡ true → Differs p q name
differs p q name there = by (definition p name) refl (definition q name) refl (sym (among_changing p q name) ∙ there)
  where
    by : (a : Option BareDef) → definition p name ≡ a → (b : Option BareDef) → definition q name ≡ b → changes_by a b ≡ true → Differs p q name
    by None was b is e = cc
    by (Some a) was None is e = cc
    by (Some a) was (Some b) is e = with (same_interface a b) refl (has_data (Some b)) e
      where
        with : (s : Bool) → same_interface a b ≡ s → (h : Bool) → ((true && h) && (not s && true)) ≡ true → Differs p q name
        with true alike true e = cc
        with true alike false e = cc
        with false alike h e = record { before = a; after = b; was = was; is = is; other = alike }

-- data of another name stay
pub stays : (p q : List BareDef) (name : Bytes) (a b : BareDef) → is_among (changing p q) name ≡ false
    → definition p name ≡ Some a → definition q name ≡ Some b → has_data (Some b) ≡ true → same_interface a b ≡ true
stays p q name a b there was is has =
    by (same_interface a b)
    (ap (λ h. (true && h) && (not (same_interface a b) && true)) (sym has)
    ∙ ap (λ o. changes_by (Some a) o) (sym is) ∙ ap (λ o. changes_by o (definition q name)) (sym was) ∙ sym (among_changing p q name) ∙ there)
  where
    by : (s : Bool) → ((true && true) && (not s && true)) ≡ false → s ≡ true
    by true e = refl
    by false e = cc
