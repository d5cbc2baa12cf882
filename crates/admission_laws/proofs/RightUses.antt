-- Uses that are right: of the names of the current version, and after a patch that leaves their interfaces.
use Rattle.std.proofs.Common.{◌≡◌, ℕ, ◌≤◌, inl, inr, Bool, true, false, not, List, [], ◌∷◌, ◌++◌, length, is_some, Option, Some, None, refl, sym, ap, subst, ◌∙◌}
use Rattle.std.proofs.lemmas.Bool.{false≢true, and_from, not_from_false, cases_lt}
use Rattle.std.proofs.lemmas.List.{length-map}
use Rattle.c_tree.specs.BareExpr.{Bytes}
use Rattle.c_tree.specs.BareDef.{BareDef, Function}
use Rattle.name_sets.specs.NameLists.{name_set, is_among}
use Rattle.c_semantics.specs.Texts.{definition, names}
use Rattle.c_semantics.specs.Changes.{same_interface, agree, interface}
use Rattle.c_semantics.specs.SourceTexts.{Text}
use Rattle.source_model.specs.Versions.{Table, current, in_version}
use Rattle.source_model.specs.Uses.{is_right}
use Rattle.version_laws.specs.Histories.{Alike, IsHistory, text_in, last_text}
use Rattle.definition_laws.proofs.Names.{among_names, among_set, among_filtered}
use Rattle.version_laws.proofs.DefinedNames.{found_defines}
use Rattle.version_laws.proofs.SameDefinitions.{interface_is_itself}
use Rattle.version_laws.proofs.TableHistories.{right_by_texts, text_as_before, last_as_current, last_is_next, no_text_later}
use Rattle.admission_laws.specs.SoundTexts.{is_function, definitions_of, version_in, newest, now_in}
use Rattle.admission_laws.proofs.Interfaces.{agree_through}
use Rattle.admission_laws.proofs.LaterTexts.{definitions_more}

-- the last text is that of the newest version
pub last_by_name : (texts : List Text) (name : Bytes) → definition (last_text (definitions_of texts)) name ≡ now_in texts name
last_by_name texts name = ap (λ n. definition (text_in (definitions_of texts) n) name) (length-map texts (λ t. t.definitions))

-- a function is defined
pub function_defined : (o : Option BareDef) → is_function o ≡ true → is_some o ≡ true
function_defined None h = h
function_defined (Some d) h = refl

alike_defined : (a b : Option BareDef) → Alike a b → is_some a ≡ is_some b
alike_defined None None h = refl
alike_defined (Some a) (Some b) h = refl
alike_defined (Some a) None h = absurd h
alike_defined None (Some b) h = absurd h

-- what the current version defines the newest text does
pub defined_alike : (texts : List Text) (table : Table) → IsHistory (definitions_of texts) table → (name : Bytes)
    → is_some (in_version table (current table) name) ≡ is_some (now_in texts name)
defined_alike texts table h name =
    alike_defined (in_version table (current table) name) (now_in texts name)
    (subst (Alike (in_version table (current table) name)) (last_by_name texts name) (last_as_current (definitions_of texts) table h name))

pub right_now : (texts : List Text) (table : Table) → IsHistory (definitions_of texts) table → (n : ℕ) (name : Bytes)
    → is_right table n name ≡ agree same_interface (version_in texts n name) (now_in texts name)
right_now texts table h n name =
    right_by_texts (definitions_of texts) table h n name ∙ ap (agree same_interface (version_in texts n name)) (last_by_name texts name)

pub agrees_itself : (text : List BareDef) (name : Bytes) → is_some (definition text name) ≡ true
    → agree same_interface (definition text name) (definition text name) ≡ true
agrees_itself text name h = by (definition text name) refl h
  where
    by : (o : Option BareDef) → definition text name ≡ o → is_some o ≡ true → agree same_interface o o ≡ true
    by None e i = absurd (false≢true i)
    by (Some d) e i = interface_is_itself d (found_defines text name d e)

-- a name that is defined now is rightly used on behalf of the current version
pub current_right : (texts : List Text) (table : Table) → IsHistory (definitions_of texts) table → (name : Bytes)
    → is_some (now_in texts name) ≡ true → is_right table (newest texts) name ≡ true
current_right texts table h name defined =
    right_now texts table h (newest texts) name ∙ agrees_itself (text_in (definitions_of texts) (newest texts)) name defined

both_functions : (a b : BareDef) → same_interface a b ≡ true → is_function (Some a) ≡ true → is_function (Some b) ≡ true
both_functions (Function r name ps body) (Function q other qs code) h i = refl
both_functions (Function r name ps body) _ h i = absurd (false≢true h)
both_functions _ _ h i = absurd (false≢true i)

functions_agree : (a b : Option BareDef) → agree same_interface a b ≡ true → is_function a ≡ true → is_function b ≡ true
functions_agree None b h i = absurd (false≢true i)
functions_agree (Some a) None h i = absurd (false≢true h)
functions_agree (Some a) (Some b) h i = both_functions a b h i

-- what is rightly used as a function is a function now
pub function_now : (texts : List Text) (table : Table) → IsHistory (definitions_of texts) table → (n : ℕ) (name : Bytes)
    → is_right table n name ≡ true → is_function (version_in texts n name) ≡ true → is_function (now_in texts name) ≡ true
function_now texts table h n name right is =
    functions_agree (version_in texts n name) (now_in texts name) (sym (right_now texts table h n name) ∙ right) is

agree_first : (a b : Option BareDef) → agree same_interface a b ≡ true → is_some a ≡ true
agree_first None b h = h
agree_first (Some a) b h = refl

agree_second : (a b : Option BareDef) → agree same_interface a b ≡ true → is_some b ≡ true
agree_second None b h = absurd (false≢true h)
agree_second (Some a) None h = h
agree_second (Some a) (Some b) h = refl

-- a name whose interface a text leaves
left : (p q : List BareDef) (name : Bytes) → is_some (definition p name) ≡ true → is_among (interface p q) name ≡ false
    → agree same_interface (definition p name) (definition q name) ≡ true
left p q name defined none = by (agree same_interface (definition p name) (definition q name)) refl
  where
    among : is_among (name_set (names p)) name ≡ true
    among = among_set (names p) name ∙ among_names p name ∙ defined

    by : (b : Bool) → agree same_interface (definition p name) (definition q name) ≡ b
        → agree same_interface (definition p name) (definition q name) ≡ true
    by true e = e
    by false e =
        absurd (false≢true
        (sym none ∙ among_filtered (λ z. not (agree same_interface (definition p z) (definition q z))) (name_set (names p)) name
        ∙ and_from (not (agree same_interface (definition p name) (definition q name))) _ (not_from_false _ e) among))

-- a use that is right on behalf of a version is of a version that was there
within : (texts : List (List BareDef)) (n : ℕ) (name : Bytes) → is_some (definition (text_in texts n) name) ≡ true → n ≤ length texts
within texts n name h = elim (cases_lt (length texts) n) [
  | inl less ↦ absurd (false≢true (sym (ap (λ text. is_some (definition text name)) (no_text_later texts n less)) ∙ h))
  | inr le ↦ le
]

-- what is rightly used is defined now
pub defined_now : (texts : List Text) (table : Table) → IsHistory (definitions_of texts) table → (n : ℕ) (name : Bytes)
    → is_right table n name ≡ true → is_some (now_in texts name) ≡ true
defined_now texts table h n name right =
    agree_second (version_in texts n name) (now_in texts name) (sym (right_now texts table h n name) ∙ right)

-- after a text that leaves the interface of a name, a right use of it stays right
pub right_later : (texts : List Text) (q : Text) (table next : Table) → IsHistory (definitions_of texts) table
    → IsHistory (definitions_of (texts ++ q ∷ [])) next → (n : ℕ) (name : Bytes) → is_right table n name ≡ true
    → is_among (interface (last_text (definitions_of texts)) q.definitions) name ≡ false → is_right next n name ≡ true
right_later texts q table next h later n name right none =
    right_by_texts (definitions_of (texts ++ q ∷ [])) next later n name
    ∙ ap (λ ts. agree same_interface (definition (text_in ts n) name) (definition (last_text ts) name)) (definitions_more texts q)
    ∙ ap (λ text. agree same_interface (definition text name) (definition (last_text (definitions_of texts ++ q.definitions ∷ [])) name))
    (text_as_before (definitions_of texts) q.definitions n inside)
    ∙ ap (λ text. agree same_interface (definition (text_in (definitions_of texts) n) name) (definition text name))
    (last_is_next (definitions_of texts) q.definitions)
    ∙ agree_through (definition (text_in (definitions_of texts) n) name) (definition (last_text (definitions_of texts)) name) _ agreed
    (left (last_text (definitions_of texts)) q.definitions name (agree_second _ _ agreed) none)
  where
    agreed : agree same_interface (definition (text_in (definitions_of texts) n) name) (definition (last_text (definitions_of texts)) name) ≡ true
    agreed = sym (right_by_texts (definitions_of texts) table h n name) ∙ right

    inside : n ≤ length (definitions_of texts)
    inside = within (definitions_of texts) n name (agree_first _ _ agreed)
