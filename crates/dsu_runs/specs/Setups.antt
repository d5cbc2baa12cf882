-- What a run of some programs is given.
use Rattle.std.specs.Prelude.{ℕ, List, [], ◌∷◌}
use Rattle.c_tree.specs.declared.def.Program.{Program}
use Rattle.c_semantics.specs.SourceTexts.{text_of}
use Rattle.source_model.specs.Worlds.{Limits}
use Rattle.source_model.specs.Guards.{Offer, Setup}

-- so many objects may live at once, and there are 16 slots
abbrev pub limits_of : ℕ → Limits
limits_of objects = record { objects = objects; slots = 16 }

-- the offers of some programs, each with how many lines the first program must have written before
abbrev pub offers_of : List Program → List ℕ → List Offer
offers_of [] lines = []
offers_of (p ∷ ps) [] = []
offers_of (p ∷ ps) (n ∷ ns) = record { text = text_of p; lines = n } ∷ offers_of ps ns

-- the setup of a run of a program, with offers
abbrev pub setup_of : Program → List Program → List ℕ → ℕ → Setup
setup_of program programs lines objects =
    record { first = text_of program; offers = offers_of programs lines; limits = limits_of objects }
