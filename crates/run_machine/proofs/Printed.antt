-- What the source machine printed after so many bytes.
use Rattle.std.proofs.Common.{◌≡◌, ℕ, ◌-◌, ◌<◌, ◌≤◌, List, Some, length, take, sym, ◌∙◌, ap, subst, arith}
use Rattle.std.specs.Prelude.{◌^◌, drop, option_map}
use Rattle.std.proofs.lemmas.List.{take_rest}
use Rattle.std.proofs.lemmas.Option.{same_Some}
use Rattle.c_tree.specs.BareDef.{BareDef}
use Rattle.source_model.specs.Worlds.{World, Limits}
use Rattle.source_model.specs.Runs.{SourceMove, result, source_run}
use Rattle.source_runner.specs.SourceRuns.{world_after}

module _ (texts : List (List BareDef)) (limits : Limits) (moves : List SourceMove) (w : World) (seen : List ℕ)
    (reached : world_after texts limits moves ≡ Some w) (is : option_map (λ x. x.output) (source_run texts limits moves) ≡ Some seen) where
  output_is : w.output ≡ seen
  output_is = same_Some w.output seen (sym (ap (λ o. option_map (λ x. x.output) (option_map result o)) reached) ∙ is)

  pub rest_is : (from : ℕ) → take (length seen - from) (drop from seen) ≡ drop from w.output
  rest_is from = take_rest seen from ∙ ap (drop from) (sym output_is)

  pub none_missing : (from : ℕ) → from ≤ length w.output → length seen < from → ⊥
  none_missing from within fewer = let same = ap length output_is in omega (arith, same, within, fewer)

  pub few : length seen < 2 ^ 64 → length w.output < 2 ^ 64
  few small = subst (λ o. length o < 2 ^ 64) (sym output_is) small
