-- What the effect of a refusal names, and which slot the refusal does.
use Rattle.std.proofs.Common.{◌≡◌, Bool, true, false, Option, Some, None, ◌⊎◌, inl, inr, refl, sym, ap, subst, ◌∙◌, arith, bytes_eq, option_map}
use Rattle.std.specs.Option.{is_none, option_or}
use Rattle.std.specs.Ordering.{nat_cmp, is_lt, ordering_reverse}
use Rattle.std.specs.declared.cmp.Ordering.TheVariants.{Less}
use Rattle.std.proofs.lemmas.Bool.{false_from_ne_true}
use Rattle.std.proofs.lemmas.Bool.Decides.{nat_tests}
use Rattle.std.proofs.lemmas.Cmp.{nat_list_cmp_total, same_from_slice_cmp, tied_itself}
use Rattle.c_tree.specs.BareExpr.{Bytes}
use Rattle.name_sets.specs.NameLists.{precedes, is_among, name_set}
use Rattle.con_freeness.specs.Laws.{AdmitsWithoutObstacle, IsVerdict, LeastSlotRefuses}
use Rattle.con_freeness.specs.Rows.{Names, InForce, least_common, both, across, obstacle}
use Rattle.con_freeness.specs.Verdicts.{Effect, Concrete, Both, Pinned}
use Rattle.con_freeness.proofs.NameOrder.{order, Finds, finds_in_set, name_set_any}
use Rattle.admission_laws.specs.RefusalLaws.{IsLeastCommon, HaveNoneCommon, Explains, IsRefusal, RefusalsNameTheLeast}
use Rattle.admission_laws.specs.RefusalLaws as refusal

-- ---- the least common name of two sets

precedes_is : (a b : Bytes) → precedes a b ≡ is_lt (order a b)
precedes_is a b =
    sym (same_from_slice_cmp nat_cmp is_lt precedes refl (λ _ _. refl) (λ _ _. refl) (λ x y xs ys o h. grind (arith, nat_tests)) a b (order a b) refl)

not_before : (z other : Bytes) → (other ≡ z) ⊎ (order z other ≡ Less) → precedes other z ≡ false
not_before z other (inl same) =
    precedes_is other z ∙ ap (λ x. is_lt (order x z)) same ∙ ap is_lt (tied_itself nat_list_cmp_total z)
not_before z other (inr less) =
    precedes_is other z ∙ ap is_lt (nat_list_cmp_total.antisymm other z ∙ ap ordering_reverse less)

found : (a b : Names) (o : Option Bytes) → least_common a b ≡ o → Finds (is_among b) (name_set a) o
found a b o e = subst (Finds (is_among b) (name_set a)) e (finds_in_set (is_among b) a)

in_set : (a : Names) (z : Bytes) → is_among (name_set a) z ≡ is_among a z
in_set a z = name_set_any (bytes_eq z) a

least_of : (a b : Names) (z : Bytes) → least_common a b ≡ Some z → IsLeastCommon a b z
least_of a b z e =
    let x = found a b (Some z) e in
    record {
      in_first = sym (in_set a z) ∙ x.among;
      in_second = x.passes;
      least = λ other first second. not_before z other (x.least other (in_set a other ∙ first) second);
    }

none_of : (a b : Names) → least_common a b ≡ None → HaveNoneCommon a b
none_of a b e name first = false_from_ne_true (is_among b name) (λ second. found a b None e name (in_set a name ∙ first) second)

-- ---- the effect

same : (a b : Effect) → Some a ≡ Some b → a ≡ b
same a b e = cc

module _ (s : InForce) (changed interface : Names) where
  with_both : (y z : Option Bytes) → least_common changed s.row.prior ≡ y → least_common changed s.row.future ≡ z
      → HaveNoneCommon interface s.row.concrete → s.pinned ≡ false → (effect : Effect) → both y z ≡ Some effect
      → Explains s changed interface effect
  with_both None z prior future none pin effect e = cc
  with_both (Some y) None prior future none pin effect e = cc
  with_both (Some y) (Some z) prior future none pin effect e =
      subst (Explains s changed interface) (same (Both y z) effect e)
      (refusal.both y z none pin (least_of changed s.row.prior y prior) (least_of changed s.row.future z future))

  when_pinned : (z : Option Bytes) → least_common changed s.row.future ≡ z → HaveNoneCommon interface s.row.concrete → s.pinned ≡ true
      → (effect : Effect) → option_map Pinned z ≡ Some effect → Explains s changed interface effect
  when_pinned None future none pin effect e = cc
  when_pinned (Some z) future none pin effect e =
      subst (Explains s changed interface) (same (Pinned z) effect e)
      (refusal.pinned z none pin (least_of changed s.row.future z future))

  by_pin : (pin : Bool) → s.pinned ≡ pin → HaveNoneCommon interface s.row.concrete → (effect : Effect)
      → across s.row pin changed ≡ Some effect → Explains s changed interface effect
  by_pin true is none effect e = when_pinned (least_common changed s.row.future) refl none is effect e
  by_pin false is none effect e =
      with_both (least_common changed s.row.prior) (least_common changed s.row.future) refl refl none is effect e

  by_concrete : (z : Option Bytes) → least_common interface s.row.concrete ≡ z → (effect : Effect)
      → option_or (option_map Concrete z) (across s.row s.pinned changed) ≡ Some effect → Explains s changed interface effect
  by_concrete None is effect e = by_pin s.pinned refl (none_of interface s.row.concrete is) effect e
  by_concrete (Some z) is effect e =
      subst (Explains s changed interface) (same (Concrete z) effect e)
      (refusal.concrete z (least_of interface s.row.concrete z is))

  explained : (effect : Effect) → obstacle s.row s.pinned changed interface ≡ Some effect → Explains s changed interface effect
  explained effect e = by_concrete (least_common interface s.row.concrete) refl effect e

-- ---- the refusal
pub refusals_name_the_least : AdmitsWithoutObstacle → LeastSlotRefuses → RefusalsNameTheLeast
refusals_name_the_least admits least slots changed interface r e =
    let x = subst (IsVerdict slots changed interface) e (least slots changed interface) in
    record {
      refusing = x.refusing;
      there = x.there;
      refuses = admits x.refusing.row x.refusing.pinned changed interface ∙ ap is_none x.why;
      why = explained x.refusing changed interface r.effect x.why;
      least = x.least;
    }
