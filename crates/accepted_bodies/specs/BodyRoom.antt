-- The bodies of an accepted text have room in a store.
use Rattle.std.specs.Prelude.{◌≡◌, false, [], ◌∷◌}
use Rattle.c_semantics.specs.SourceTexts.{Text}
use Rattle.c_semantics.specs.Store.{store}
use Rattle.code_store.specs.Limits.{are_too_many}
use Rattle.frame_bodies.specs.AcceptedTexts.{IsAccepted}

-- as the first version they have no more check-ins and no more tokens than there may be
abbrev pub AcceptedTextsHaveRoom : Type 0
AcceptedTextsHaveRoom = (text : Text) → IsAccepted text → are_too_many (store (text ∷ [])) ≡ false
