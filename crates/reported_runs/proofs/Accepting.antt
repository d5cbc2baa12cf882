-- The texts that were read of a job's files are accepted.
use Rattle.std.proofs.Common.{◌≡◌, ℕ, zero, suc, List, [], ◌∷◌, Some, ap, subst}
use Rattle.std.specs.Prelude.{slice_get}
use Rattle.std.proofs.lemmas.Option.{none-some, same_Some}
use Rattle.c_tree.specs.declared.def.Program.{Program}
use Rattle.c_front.specs.Accepted.{Accepted}
use Rattle.source_model.specs.Guards.{offer_at}
use Rattle.source_model.specs.Guards.{Offer as Offered}
use Rattle.frame_bodies.specs.AcceptedTexts.{IsAccepted, TextsOfProgramsAreAccepted}
use Rattle.accepted_runs.specs.AcceptedRuns.{TextsAreAccepted}
use Rattle.dsu_cli.specs.declared.job.Offer.{Offer}
use Rattle.dsu_runs.specs.Setups.{offers_of, setup_of}
use Rattle.job_answers.specs.Jobs.{AreSources, Contents}

module _ (law : TextsOfProgramsAreAccepted) (content : Contents) where
  in_list : (offers : List Offer) (texts : List (List ℕ)) (programs : List Program) (lines : List ℕ)
      → AreSources content offers texts programs
      → (k : ℕ) (o : Offered) → slice_get (offers_of programs lines) k ≡ Some o → IsAccepted o.text
  in_list offers texts [] lines all k o is = absurd (none-some o is)
  in_list offers texts (p ∷ ps) [] all k o is = absurd (none-some o is)
  in_list [] [] (p ∷ ps) (n ∷ ns) all k o is = absurd all
  in_list [] (t ∷ ts) (p ∷ ps) (n ∷ ns) all k o is = absurd all
  in_list (offer ∷ offers) [] (p ∷ ps) (n ∷ ns) all k o is = absurd all
  in_list (offer ∷ offers) (t ∷ ts) (p ∷ ps) (n ∷ ns) (one, all) zero o is =
      subst IsAccepted (ap (λ (x : Offered). x.text) (same_Some _ o is)) (law t p one.accepted)
  in_list (offer ∷ offers) (t ∷ ts) (p ∷ ps) (n ∷ ns) (one, all) (suc k) o is = in_list offers ts ps ns all k o is

  pub texts_are_accepted : (program : Program) → ((text : List ℕ) × Accepted text program)
      → (offers : List Offer) (texts : List (List ℕ)) (programs : List Program) (lines : List ℕ) (objects : ℕ)
      → AreSources content offers texts programs → TextsAreAccepted (setup_of program programs lines objects)
  texts_are_accepted program (text, accepted) offers texts programs lines objects all =
      record { first = law text program accepted; offered = λ k o there. by k o there }
    where
      by : (k : ℕ) (o : Offered) → offer_at (setup_of program programs lines objects) k ≡ Some o → IsAccepted o.text
      by zero o there = absurd (none-some o there)
      by (suc k) o there = in_list offers texts programs lines all k o there
