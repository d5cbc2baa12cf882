-- The verdict on a patch, with the texts of names, and what the ids of a refusal stand for.
use Rattle.std.specs.Prelude.{ℕ, List}
use Rattle.name_sets.specs.Texts.{text_of}
use Rattle.con_freeness.specs.declared.refusal.Effect.{Effect as EffectOfIds}
use Rattle.con_freeness.specs.declared.refusal.Effect.TheVariants as ids
use Rattle.con_freeness.specs.declared.refusal.Refusal.{Refusal as RefusalOfIds}
use Rattle.con_freeness.specs.declared.refusal.Verdict.{Verdict as VerdictOfIds}
use Rattle.con_freeness.specs.declared.refusal.Verdict.TheVariants as answer

-- why a row doesn't admit a patch: a name that active code uses has another interface; a transaction may have used a
-- changed name and may use a changed name yet; a pinned one may use a changed name yet
pub data Effect : Type 0 where
  Concrete : List ℕ → Effect
  Both : (prior : List ℕ) (future : List ℕ) → Effect
  Pinned : List ℕ → Effect

-- a refusal: the least slot whose row doesn't admit, and why
pub record Refusal : Type 0 where
  pub slot : ℕ
  pub effect : Effect

-- whether the rows in force admit a patch
pub data Verdict : Type 0 where
  Admitted : Verdict
  Refused : Refusal → Verdict

-- an effect with the texts that its ids have in a table of names
abbrev pub effect_seen : List (List ℕ) → EffectOfIds → Effect
effect_seen names (ids.Concrete z) = Concrete (text_of names z)
effect_seen names (ids.Both y z) = Both (text_of names y) (text_of names z)
effect_seen names (ids.Pinned z) = Pinned (text_of names z)

-- a refusal with these texts
abbrev pub refusal_seen : List (List ℕ) → RefusalOfIds → Refusal
refusal_seen names r = record { slot = r.slot; effect = effect_seen names r.effect }

-- a verdict with these texts
abbrev pub verdict_seen : List (List ℕ) → VerdictOfIds → Verdict
verdict_seen names answer.Admitted = Admitted
verdict_seen names (answer.Refused r) = Refused (refusal_seen names r)
