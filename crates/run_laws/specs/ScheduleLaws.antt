-- Two journals by the solo schedule differ only where one withdraws an offer that the other decides.
use Rattle.std.specs.Prelude.{◌≡◌, ◌⊎◌, ℕ, List, ◌∷◌, ◌++◌, reverse, Option}
use Rattle.run_types.specs.declared.run.Event.{Event}
use Rattle.run_types.specs.declared.run.Event.TheVariants.{Decide, Withdraw}
use Rattle.source_model.specs.Guards.{Guard, Rules, Setup}
use Rattle.source_model.specs.Schedules.{Solo}

-- the first difference of two lists of events is that one withdraws an offer which the other decides
pub data Forks : List Event → List Event → Type 0 where
  withdrawn : (k : ℕ) (es fs : List Event) → Forks (Withdraw k ∷ es) (Decide k ∷ fs)
  decided : (k : ℕ) (es fs : List Event) → Forks (Decide k ∷ es) (Withdraw k ∷ fs)
  later : (e : Event) (es fs : List Event) → Forks es fs → Forks (e ∷ es) (e ∷ fs)

-- the second list begins with the first
abbrev pub Begins : List Event → List Event → Type 0
Begins es fs = (rest : List Event) × (fs ≡ es ++ rest)

-- one of two lists begins with the other, or they fork
abbrev pub Agree : List Event → List Event → Type 0
Agree es fs = Begins es fs ⊎ (Begins fs es ⊎ Forks es fs)

-- so it is with any two journals of a setup by the solo schedule
abbrev pub SoloIsDeterministic : Type 0
SoloIsDeterministic =
    (rules : Rules) (setup : Setup) (es fs : List Event) (g h : Guard) (last final : Option ℕ)
    → Solo rules setup (reverse es) g last → Solo rules setup (reverse fs) h final → Agree es fs
