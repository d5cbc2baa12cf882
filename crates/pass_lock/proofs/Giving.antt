-- What a call of `give` asks and knows.
use Rattle.std.proofs.Common.{◌≡◌, ℕ, ◌+◌, ◌%◌, ◌^◌, List, [], ◌∷◌, ◌++◌, map, sym, ap, ◌∙◌, subst, Option, Some}
use mathlib.Core.Option.{none}
use Rattle.atomic_table.specs.Table.{Me, step, rest, Allows}
use Rattle.atomic_table.specs.declared.shared.Seat.{Seat}
use Rattle.pass_lock.specs.declared.notes.Entry.{Entry}
use Rattle.pass_lock.specs.declared.view.Open.{Open}
use Rattle.pass_lock.specs.declared.view.Stage.TheVariants.{Idle}
use Rattle.pass_lock.specs.declared.view.View.{View}
use Rattle.pass_lock.specs.Histories.{entry}
use Rattle.pass_lock.specs.Passes.{Known}
use Rattle.pass_lock.specs.Ruled.{Ruled}
use Rattle.pass_lock.specs.Steps.{open_turn, turn_log, first_claim, grown, served, known, taken, IsPass}
use Rattle.pass_lock.proofs.Calls.{turning, turn_added, rests_idle}
use Rattle.pass_lock.proofs.Kept.{serves_one}

module _ {W E : Type 0} (history : W → List (Entry E)) (k : Known E) (s : Seat (Option W) (View E)) (m : Me (Option W) (View E)) (value : W) (is : known s ≡ k) (pass : IsPass s)
    (put : m ≡ (s.me.0, (0, Some value) ∷ rest s.me.1)) where
  abbrev M : Type 0
  M = Me (Option W) (View E)

  opens : (o : Open E) → k.turn ≡ Some o → open_turn m.0.stage ≡ Some o
  opens o turn = ap (λ (x : M). open_turn x.0.stage) put ∙ (ap (λ (x : Known E). x.turn) is ∙ turn)

  pub carried : (o : Open E) → k.turn ≡ Some o → m.1 ≡ (0, Some value) ∷ []
  carried o turn = ap (λ (x : M). x.1) put ∙ ap (λ (l : List (ℕ × Option W)). (0, Some value) ∷ rest l) (pass.carries ∙ ap taken (ap (λ (x : Known E). x.turn) is ∙ turn))

  pub give_serves : (passes slots id : ℕ) (o : Open E) (added : List E) → k.turn ≡ Some o → history value ≡ o.log ++ map (entry k.number) added
      → Allows (Ruled history passes) slots id m 1 (λ n. (n + 1) % 2 ^ 64) (served history (step slots 1 1 0 none) m)
  give_serves passes slots id o added turn adds = let t = turning m.0.stage o (opens o turn) in
      let number : k.number ≡ (first_claim m.0.claims).number = ap (λ (x : Known E). x.number) (sym is) ∙ ap (λ (x : M). (first_claim x.0.claims).number) (sym put) in
      serves_one history passes slots id t.0 m o value added t.1 (subst (λ (x : M). x.0.claims ≡ first_claim x.0.claims ∷ []) (sym put) pass.single) (carried o turn)
      (adds ∙ ap (λ (n : ℕ). o.log ++ map (entry n) added) number)

  module _ (s' : Seat (Option W) (View E)) (gave : s'.me ≡ (record m.0 { stage = Idle; claims = grown (turn_log m.0.stage) (history value) (first_claim m.0.claims) ∷ [] }, [])) where
    pub give_is : IsPass s'
    give_is = rests_idle s' (grown (turn_log m.0.stage) (history value) (first_claim m.0.claims)) m.0.makes gave

    pub give_own : (o : Open E) (added : List E) → k.turn ≡ Some o → history value ≡ o.log ++ map (entry k.number) added → (first_claim s'.me.0.claims).own ≡ k.own ++ added
    give_own o added turn adds = ap (λ (x : M). (first_claim x.0.claims).own) gave
        ∙ (λ i. (ap (λ (x : M). (first_claim x.0.claims).own) put ∙ ap (λ (x : Known E). x.own) is) i ++ turn_added m.0.stage o k.number added (history value) (opens o turn) adds i)
