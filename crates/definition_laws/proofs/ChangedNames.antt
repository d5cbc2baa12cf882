-- Which names two texts agree on, and which are changed.
use Rattle.std.proofs.Common.{◌≡◌, Bool, true, false, not, List, is_some, Option, Some, None, refl, sym, ap, ◌∙◌}
use Rattle.std.specs.Prelude.{◌↔◌, IsTrue}
use Rattle.c_tree.specs.BareExpr.{Bytes}
use Rattle.c_tree.specs.BareDef.{BareDef}
use Rattle.name_sets.specs.NameLists.{is_among}
use Rattle.c_semantics.specs.Texts.{definition, names}
use Rattle.c_semantics.specs.Changes.{same_definition, same_interface, agree}
use Rattle.definition_laws.specs.EqualParts.{HaveEqualParts, HaveEqualInterfaces}
use Rattle.definition_laws.specs.DefinitionLaws.{DefineEqually, IsOther, TextsAgree, TextsAgreeOnInterfaces, ChangedExactly, InterfaceExactly, AddedExactly}
use Rattle.definition_laws.proofs.Tests.{no}
use Rattle.definition_laws.proofs.SameDefinitions.{definitions_are_equal, interfaces_are_equal}
use Rattle.definition_laws.proofs.Names.{among_names, passing_names}

is_there : {A : Type 0} (o : Option A) → is_some o ≡ true → (x : A) × (o ≡ Some x)
is_there None h = absurd (no h)
is_there (Some x) h = (x, refl)

is_gone : {A : Type 0} (o : Option A) → not (is_some o) ≡ true → o ≡ None
is_gone None h = refl
is_gone (Some x) h = absurd (no h)

-- ---- by any test that says equality of some kind

module _ (AreEqual : BareDef → BareDef → Type 0) (same : BareDef → BareDef → Bool)
    (says : (a b : BareDef) → IsTrue (same a b) ↔ AreEqual a b) where
  agreed : (o u : Option BareDef) → agree same o u ≡ true
      → (a : BareDef) × (b : BareDef) × (o ≡ Some a) × (u ≡ Some b) × AreEqual a b
  agreed (Some a) (Some b) h = (a, b, refl, refl, (says a b).0 h)
  agreed (Some a) None h = absurd (no h)
  agreed None u h = absurd (no h)

  agree_at : (o u : Option BareDef) (a b : BareDef) → o ≡ Some a → u ≡ Some b → AreEqual a b → agree same o u ≡ true
  agree_at o u a b e f equal =
      ap (λ x. agree same x u) e ∙ ap (λ x. agree same (Some a) x) f ∙ (says a b).1 equal

  pub agree_where_equal : (p q : List BareDef) (name : Bytes)
      → IsTrue (agree same (definition p name) (definition q name)) ↔ DefineEqually AreEqual p q name
  agree_where_equal p q name = (
    λ h.
        let x = agreed (definition p name) (definition q name) h in
        record { old = x.0; new = x.1; in_old = x.2; in_new = x.3; equal = x.4 },
    λ h. agree_at _ _ h.old h.new h.in_old h.in_new h.equal,
  )

  differs : (a : BareDef) (o u : Option BareDef) → o ≡ Some a → not (agree same o u) ≡ true
      → (b : BareDef) → u ≡ Some b → ¬ AreEqual a b
  differs a o u e h b f equal = no (sym (ap not (agree_at o u a b e f equal)) ∙ h)

  differ_at : (a : BareDef) (o u : Option BareDef) → o ≡ Some a → ((b : BareDef) → u ≡ Some b → ¬ AreEqual a b)
      → not (agree same o u) ≡ true
  differ_at a o u e other = ap (λ x. not (agree same x u)) e ∙ by u other
    where
      under : (t : Bool) (b : BareDef) → same a b ≡ t → ¬ AreEqual a b → not t ≡ true
      under true b f no_other = absurd (no_other ((says a b).0 f))
      under false b f no_other = refl

      by : (u : Option BareDef) → ((b : BareDef) → u ≡ Some b → ¬ AreEqual a b) → not (agree same (Some a) u) ≡ true
      by None other = refl
      by (Some b) other = under (same a b) b refl (other b refl)

  pub others_exactly : (p q : List BareDef) (name : Bytes)
      → ((not (agree same (definition p name) (definition q name)) ≡ true) × (is_some (definition p name) ≡ true))
      ↔ IsOther AreEqual p q name
  others_exactly p q name = (
    λ h.
        let x = is_there (definition p name) h.1 in
        record { old = x.0; in_old = x.1; other = differs x.0 (definition p name) (definition q name) x.1 h.0 },
    λ h. (differ_at h.old (definition p name) (definition q name) h.in_old h.other, ap is_some h.in_old),
  )

through : {A B C : Type 0} → A ↔ B → B ↔ C → A ↔ C
through f g = (λ a. g.0 (f.0 a), λ c. f.1 (g.1 c))

-- ---- the laws

pub texts_agree : TextsAgree
texts_agree = agree_where_equal HaveEqualParts same_definition definitions_are_equal

pub texts_agree_on_interfaces : TextsAgreeOnInterfaces
texts_agree_on_interfaces = agree_where_equal HaveEqualInterfaces same_interface interfaces_are_equal

pub changed_exactly : ChangedExactly
changed_exactly p q name =
    through (passing_names (λ z. not (agree same_definition (definition p z) (definition q z))) p name)
    (others_exactly HaveEqualParts same_definition definitions_are_equal p q name)

pub interface_exactly : InterfaceExactly
interface_exactly p q name =
    through (passing_names (λ z. not (agree same_interface (definition p z) (definition q z))) p name)
    (others_exactly HaveEqualInterfaces same_interface interfaces_are_equal p q name)

pub added_exactly : AddedExactly
added_exactly p q name = through (passing_names (λ z. not (is_among (names p) z)) q name) (
  λ h. (is_there _ h.1, is_gone (definition p name) (sym (ap not (among_names p name)) ∙ h.0)),
  λ h. (ap not (among_names p name) ∙ ap (λ o. not (is_some o)) h.1, ap is_some h.0.1),
)
