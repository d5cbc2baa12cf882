-- The verdict on threads that are alike is that on one.
use Rattle.std.proofs.Common.{◌≡◌, ℕ, zero, suc, Bool, false, List, [], ◌∷◌, Option, None, Some, replicate, slice_get, refl, sym, ap, subst, ◌∙◌}
use Rattle.std.specs.Option.{option_map}
use Rattle.name_sets.specs.Texts.{IsTable}
use Rattle.con_freeness.specs.declared.row.Row.{Row as RowOfIds}
use Rattle.con_freeness.specs.declared.refusal.Effect.{Effect as EffectOfIds}
use Rattle.con_freeness.specs.declared.refusal.Verdict.{Verdict as VerdictOfIds}
use Rattle.con_freeness.specs.declared.refusal.Verdict.TheVariants as answer
use Rattle.con_freeness.specs.Decisions.{IsListOf, IsRowOf, AreSlotsOf, IsDecision}
use Rattle.con_freeness.specs.Rows.{Names, Row, InForce, obstacle, first_of, verdict_from}
use Rattle.con_freeness.specs.Verdicts.{Effect, Refusal, Verdict, Admitted, Refused, effect_seen, refusal_seen, verdict_seen}

twice : (n : ℕ) (o : Option Effect) → first_of n o (first_of (suc n) o Admitted) ≡ first_of n o Admitted
twice n None = refl
twice n (Some effect) = refl

verdict_alike : (more n : ℕ) (s : InForce) (changed interface : Names)
    → verdict_from n (replicate (suc more) s) changed interface ≡ first_of n (obstacle s.row s.pinned changed interface) Admitted
verdict_alike zero n s changed interface = refl
verdict_alike (suc more) n s changed interface =
    ap (first_of n (obstacle s.row s.pinned changed interface)) (verdict_alike more (suc n) s changed interface)
    ∙ twice n (obstacle s.row s.pinned changed interface)

-- why a verdict refuses, if it does
abbrev pub effect_of : VerdictOfIds → Option EffectOfIds
effect_of answer.Admitted = None
effect_of (answer.Refused r) = Some r.effect

same_refusal : (x y : Refusal) → Refused x ≡ Refused y → x ≡ y
same_refusal x y e = cc

effect_is : (names : Names) (v : VerdictOfIds) (o : Option Effect) → verdict_seen names v ≡ first_of 0 o Admitted
    → option_map (effect_seen names) (effect_of v) ≡ o
effect_is names answer.Admitted None e = refl
effect_is names answer.Admitted (Some effect) e = cc
effect_is names (answer.Refused r) None e = cc
effect_is names (answer.Refused r) (Some effect) e =
    ap Some (ap (λ x. x.effect) (same_refusal (refusal_seen names r) (record { slot = 0; effect = effect }) e))

alike_at : {A : Type 0} (many n : ℕ) (x y : A) → slice_get (replicate many x) n ≡ Some y → x ≡ y
alike_at zero n x y e = cc
alike_at (suc many) zero x y e = cc
alike_at (suc many) (suc n) x y e = alike_at many n x y e

-- sixteen threads with one row, none of which is pinned
slots_are : (names : Names) (row : RowOfIds) (texts : Row) → IsRowOf names row texts
    → AreSlotsOf names (replicate 16 row) (replicate 16 false) (replicate 16 (record { row = texts; pinned = false }))
slots_are names row texts is = record {
  many = refl;
  rows = λ n r slot at_row at_slot.
      subst {A = RowOfIds} (λ x. IsRowOf names x slot.row) (alike_at 16 n row r at_row)
      (subst {A = InForce} (λ s. IsRowOf names row s.row) (alike_at 16 n (record { row = texts; pinned = false }) slot at_slot) is);
  pins = λ n pin slot at_pin at_slot.
      ap (λ s. s.pinned) (sym (alike_at 16 n (record { row = texts; pinned = false }) slot at_slot)) ∙ alike_at 16 n false pin at_pin;
}

pub obstacle_is : (names : Names) (row : RowOfIds) (texts : Row) (changed interface : ℕ) (changed_names interface_names : Names)
    (v : VerdictOfIds)
    → IsDecision names (replicate 16 row) (replicate 16 false) changed interface v → IsTable names → IsRowOf names row texts
    → IsListOf names changed changed_names → IsListOf names interface interface_names
    → option_map (effect_seen names) (effect_of v) ≡ obstacle texts false changed_names interface_names
obstacle_is names row texts changed interface changed_names interface_names v decides table is in_c in_i =
    let slot : InForce = record { row = texts; pinned = false } in
    effect_is names v (obstacle texts false changed_names interface_names)
    (decides (replicate 16 slot) changed_names interface_names table (slots_are names row texts is) in_c in_i
    ∙ verdict_alike 15 0 slot changed_names interface_names)
