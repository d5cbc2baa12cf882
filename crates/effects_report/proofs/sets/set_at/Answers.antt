use Rattle.std.proofs.Common.{◌≡◌, sym, ◌∙◌, arith}
use Rattle.std.proofs.lemmas.List.{get_or_past}
use Rattle.name_sets.proofs.SetLemmas.{same_set, Holds-none}
use Rattle.effects_report.proofs.sets.set_at.Goals as goal

pub returns-in-None : goal.returns-in-None
returns-in-None c =
    let none : c.empty.result ≡ 0 = same_set c.empty.result 0 (λ id. (λ h. absurd (c.empty.ensures id h), λ h. absurd (Holds-none id h))) in
    none ∙ sym (get_or_past c.args.sets.now c.args.at 0 (omega (arith, c.in-None.ensures.lookup)))
