-- The meaning of a refusal stays where names are added to its table.
use Rattle.std.proofs.Common.{◌≡◌, ℕ, ◌<◌, List, [], ◌++◌, length, ap, ◌∙◌}
use Rattle.std.proofs.lemmas.List.{get_or_append_left}
use Rattle.name_sets.specs.Texts.{text_of}
use Rattle.c_tree.specs.BareExpr.{Bytes}
use Rattle.con_freeness.specs.declared.refusal.Effect.{Effect as EffectOfIds}
use Rattle.con_freeness.specs.declared.refusal.Effect.TheVariants as ids
use Rattle.con_freeness.specs.Verdicts.{Concrete, Both, Pinned, effect_seen}
use Rattle.offer_decision.specs.Laws.{RefusalsStay}
use Rattle.con_freeness.specs.Decisions.{AreKnown}

text_stays : (names more : List Bytes) (id : ℕ) → id < length names → text_of (names ++ more) id ≡ text_of names id
text_stays names more id l = get_or_append_left names more [] id l

effect_stays : (names more : List Bytes) (effect : EffectOfIds) → AreKnown names effect
    → effect_seen (names ++ more) effect ≡ effect_seen names effect
effect_stays names more (ids.Concrete z) l = ap Concrete (text_stays names more z l)
effect_stays names more (ids.Both y z) l =
    ap (λ t. Both t (text_of (names ++ more) z)) (text_stays names more y l.0) ∙ ap (Both (text_of names y)) (text_stays names more z l.1)
effect_stays names more (ids.Pinned z) l = ap Pinned (text_stays names more z l)

pub refusals_stay : RefusalsStay
refusals_stay names more r known = ap (λ e. record { slot = r.slot; effect = e }) (effect_stays names more r.effect known)
