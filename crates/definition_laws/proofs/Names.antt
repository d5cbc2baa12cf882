-- The names that a text defines, and lists of those that pass a test.
use Rattle.std.proofs.Common.{◌≡◌, Bool, true, false, ◌&&◌, ◌||◌, List, [], ◌∷◌, filter, is_some, Option, Some, None, refl, sym, ap, ◌∙◌, bytes_eq, if◌then◌else◌}
use Rattle.std.specs.Prelude.{◌↔◌, Contains}
use Rattle.std.specs.List.{cons_option}
use Rattle.std.specs.Option.{option_map_or}
use Rattle.std.proofs.lemmas.Cmp.{nat_list_eq_equiv}
use Rattle.std.proofs.lemmas.Map.Views.{any-filter_same, list_any-from_Contains, Contains-from_any}
use Rattle.std.proofs.lemmas.Slice.Eq.{bytes_eq-Decides}
use Rattle.c_tree.specs.BareExpr.{Bytes}
use Rattle.c_tree.specs.BareDef.{BareDef}
use Rattle.name_sets.specs.NameLists.{precedes, is_among, with_name, name_set}
use Rattle.c_semantics.specs.Texts.{defined, definition, names}
use Rattle.definition_laws.proofs.Tests.{left_of, right_of, both_hold}

text_is : (x y : Bytes) → bytes_eq x y ≡ true → x ≡ y
text_is x y h = (bytes_eq-Decides x y).0 h

-- a name is among those of a text where the text defines it
pub among_names : (text : List BareDef) (name : Bytes) → is_among (names text) name ≡ is_some (definition text name)
among_names [] name = refl
among_names (d ∷ text) name = by (defined d) (among_names text name)
  where
    under : (b : Bool) → is_among (names text) name ≡ is_some (definition text name)
        → (b || is_among (names text) name) ≡ is_some (if b then Some d else definition text name)
    under true before = refl
    under false before = before

    by : (o : Option Bytes) → is_among (names text) name ≡ is_some (definition text name)
        → is_among (cons_option o (names text)) name ≡ is_some (if option_map_or (bytes_eq name) o false then Some d else definition text name)
    by None before = before
    by (Some n) before = under (bytes_eq name n) before

or_again : (a b : Bool) → (a || b) ≡ (a || (a || b))
or_again true b = refl
or_again false b = refl

or_turned : (a b c : Bool) → (a || (b || c)) ≡ (b || (a || c))
or_turned true true c = refl
or_turned true false c = refl
or_turned false b c = refl

-- a set of names with one more
among_with : (n : Bytes) (ns : List Bytes) (name : Bytes) → is_among (with_name n ns) name ≡ (bytes_eq name n || is_among ns name)
among_with n [] name = refl
among_with n (first ∷ ns) name = by (bytes_eq n first) refl (among_with n ns name)
  where
    before : (b : Bool) → is_among (with_name n ns) name ≡ (bytes_eq name n || is_among ns name)
        → is_among (if b then n ∷ first ∷ ns else first ∷ with_name n ns) name ≡ (bytes_eq name n || (bytes_eq name first || is_among ns name))
    before true rest = refl
    before false rest = ap (λ x. bytes_eq name first || x) rest ∙ or_turned (bytes_eq name first) (bytes_eq name n) (is_among ns name)

    by : (b : Bool) → bytes_eq n first ≡ b → is_among (with_name n ns) name ≡ (bytes_eq name n || is_among ns name)
        → is_among (if b then first ∷ ns else (if precedes n first then n ∷ first ∷ ns else first ∷ with_name n ns)) name
        ≡ (bytes_eq name n || (bytes_eq name first || is_among ns name))
    by true e rest =
        or_again (bytes_eq name first) (is_among ns name)
        ∙ ap (λ x. bytes_eq name x || (bytes_eq name first || is_among ns name)) (sym (text_is n first e))
    by false e rest = before (precedes n first) rest

-- the set of some names has these
pub among_set : (ns : List Bytes) (name : Bytes) → is_among (name_set ns) name ≡ is_among ns name
among_set [] name = refl
among_set (n ∷ ns) name = among_with n (name_set ns) name ∙ ap (λ x. bytes_eq name n || x) (among_set ns name)

-- those of some names that pass a test
pub among_filtered : (f : Bytes → Bool) (ns : List Bytes) (name : Bytes) → is_among (filter f ns) name ≡ (f name && is_among ns name)
among_filtered f ns name = any-filter_same (bytes_eq name) f (f name) (λ k e. ap f (sym (text_is name k e))) ns

-- the names of a text that pass a test, as a set, has those that the text defines and that pass
pub passing_names : (f : Bytes → Bool) (text : List BareDef) (name : Bytes)
    → Contains (filter f (name_set (names text))) name ↔ ((f name ≡ true) × (is_some (definition text name) ≡ true))
passing_names f text name = (
  λ h.
      let e = sym same ∙ list_any-from_Contains nat_list_eq_equiv name set h in
      (left_of _ _ e, right_of _ _ e),
  λ h. Contains-from_any text_is name set (same ∙ both_hold _ _ h.0 h.1),
)
  where
    set : List Bytes
    set = filter f (name_set (names text))

    same : is_among set name ≡ (f name && is_some (definition text name))
    same =
        among_filtered f (name_set (names text)) name
        ∙ ap (λ b. f name && b) (among_set (names text) name ∙ among_names text name)
