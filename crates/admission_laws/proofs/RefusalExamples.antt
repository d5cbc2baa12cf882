-- What refusals name where two slots refuse, and where the least names aren't the first that are listed.
use Rattle.std.proofs.Common.{◌≡◌, ℕ, Bool, true, false, List, [], ◌∷◌, refl}
use Rattle.std.specs.Prelude.{codes}
use Rattle.con_freeness.specs.Rows.{Names, InForce, empty_row, verdict}
use Rattle.con_freeness.specs.Verdicts.{Effect, Concrete, Both, Pinned, Verdict, Refused}

abbrev slot : Names → Names → Names → Bool → InForce
slot prior future concrete pinned =
    record { row = record { prior = prior; future = future; concrete = concrete }; pinned = pinned }

-- four names, not in the order of bytes
abbrev four : Names
four = codes "h" ∷ codes "g" ∷ codes "fee" ∷ codes "f" ∷ []

-- a slot without a thread, one whose thread used h and g and will use h and fee, and one whose active code uses h and g
abbrev slots : Bool → List InForce
slots pinned =
    record { row = empty_row; pinned = false }
    ∷ slot (codes "h" ∷ codes "g" ∷ []) (codes "h" ∷ codes "fee" ∷ []) [] pinned
    ∷ slot [] [] (codes "h" ∷ codes "g" ∷ []) false ∷ []

abbrev refused : ℕ → Effect → Verdict
refused n effect = Refused (record { slot = n; effect = effect })

-- slot 2 would refuse too, for g
crossing : verdict (slots false) four (codes "h" ∷ codes "g" ∷ []) ≡ refused 1 (Both (codes "g") (codes "fee"))
crossing = refl

while_pinned : verdict (slots true) four (codes "h" ∷ codes "g" ∷ []) ≡ refused 1 (Pinned (codes "fee"))
while_pinned = refl

-- where h and fee don't change, slot 1 will use nothing that changes, and slot 2 is left
in_active_code : verdict (slots false) (codes "g" ∷ codes "f" ∷ []) (codes "g" ∷ []) ≡ refused 2 (Concrete (codes "g"))
in_active_code = refl

-- active code before the transaction, and `f` before `fee`
active_code_first : verdict (slot four four four false ∷ slots true) four four ≡ refused 0 (Concrete (codes "f"))
active_code_first = refl
