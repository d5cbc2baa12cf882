-- The texts of a run that were read are accepted.
use Rattle.std.proofs.Common.{◌≡◌, ℕ, zero, suc, List, [], ◌∷◌, Some, ap, subst}
use Rattle.std.specs.Prelude.{All, slice_get}
use Rattle.std.proofs.lemmas.List.Elements.{All-head, All-tail}
use Rattle.std.proofs.lemmas.Option.{none-some, same_Some}
use Rattle.c_tree.specs.declared.def.Program.{Program}
use Rattle.source_model.specs.Guards.{Offer, offer_at}
use Rattle.frame_bodies.specs.AcceptedTexts.{IsAccepted, TextsOfProgramsAreAccepted}
use Rattle.accepted_runs.specs.AcceptedRuns.{TextsAreAccepted}
use Rattle.dsu_runs.specs.Setups.{offers_of, setup_of}
use Rattle.run_tests.specs.ReadTexts.{IsRead}

module _ (law : TextsOfProgramsAreAccepted) where
  in_list : (programs : List Program) (lines : List ℕ) → All IsRead programs
      → (k : ℕ) (o : Offer) → slice_get (offers_of programs lines) k ≡ Some o → IsAccepted o.text
  in_list [] lines all k o is = absurd (none-some o is)
  in_list (p ∷ ps) [] all k o is = absurd (none-some o is)
  in_list (p ∷ ps) (n ∷ ns) all zero o is =
      let read = All-head IsRead p ps all in
      subst IsAccepted (ap (λ (x : Offer). x.text) (same_Some _ o is)) (law read.0 p read.1)
  in_list (p ∷ ps) (n ∷ ns) all (suc k) o is = in_list ps ns (All-tail IsRead p ps all) k o is

  pub read_texts_are_accepted : (program : Program) (programs : List Program) (lines : List ℕ) (objects : ℕ)
      → IsRead program → All IsRead programs → TextsAreAccepted (setup_of program programs lines objects)
  read_texts_are_accepted program programs lines objects first all =
      record { first = law first.0 program first.1; offered = λ k o there. by k o there }
    where
      by : (k : ℕ) (o : Offer) → offer_at (setup_of program programs lines objects) k ≡ Some o → IsAccepted o.text
      by zero o there = absurd (none-some o there)
      by (suc k) o there = in_list programs lines all k o there
