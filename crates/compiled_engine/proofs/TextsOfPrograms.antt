-- The texts of programs.
use Rattle.std.proofs.Common.{◌≡◌, ℕ, suc, List, [], ◌∷◌, Some, map, length, slice_get, refl, ap, arith}
use Rattle.std.proofs.lemmas.List.Elements.{All-cons, All-nil}
use Rattle.c_tree.specs.declared.def.Program.{Program}
use Rattle.c_semantics.specs.SourceTexts.{text_of}
use Rattle.source_model.specs.Guards.{Offer}
use Rattle.source_programs.specs.Programs.{text_in}
use Rattle.frame_bodies.specs.AcceptedTexts.{AreAccepted, IsAccepted, definitions_of}
use Rattle.accepted_runs.specs.AcceptedRuns.{TextsAreAccepted}
use Rattle.dsu_runs.specs.Setups.{offers_of, setup_of}

-- their definitions
pub definitions_are : (programs : List Program) → definitions_of (map text_of programs) ≡ map text_in programs
definitions_are [] = refl
definitions_are (p ∷ ps) = ap (λ ts. text_in p ∷ ts) (definitions_are ps)

-- those of offers that are accepted
offers_are_accepted : (programs : List Program) (lines : List ℕ) → length programs ≡ length lines
    → ((k : ℕ) (o : Offer) → slice_get (offers_of programs lines) k ≡ Some o → IsAccepted o.text) → AreAccepted (map text_of programs)
offers_are_accepted [] lines same each = All-nil IsAccepted
offers_are_accepted (p ∷ ps) [] same each = absurd (omega (arith, same))
offers_are_accepted (p ∷ ps) (n ∷ ns) same each =
    All-cons IsAccepted (text_of p) (map text_of ps) (each 0 _ refl)
    (offers_are_accepted ps ns (omega (arith, same)) (λ k o is. each (suc k) o is))

-- those of a run whose texts are accepted
pub programs_are_accepted : (program : Program) (programs : List Program) (lines : List ℕ) (objects : ℕ) → length programs ≡ length lines
    → TextsAreAccepted (setup_of program programs lines objects) → AreAccepted (map text_of (program ∷ programs))
programs_are_accepted program programs lines objects same accepted =
    All-cons IsAccepted (text_of program) (map text_of programs) accepted.first
    (offers_are_accepted programs lines same (λ k o is. accepted.offered (suc k) o is))
