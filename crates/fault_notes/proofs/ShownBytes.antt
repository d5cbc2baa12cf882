-- Bytes as a line shows them.
use Rattle.std.proofs.Common.{◌≡◌, ◌∙◌, ℕ, List, [], ◌∷◌, false, sym, ap, refl, true≢false, inl, inr, cond}
use Rattle.std.specs.Prelude.{◌==◌, map}
use Rattle.std.specs.List.{list_any}
use Rattle.std.proofs.lemmas.Bool.{cases_Bool}
use Rattle.std.proofs.lemmas.Bool.Decides.{eqb_tells}
use Rattle.fault_notes.specs.Notes.{is_control, shown}

-- none is a newline
shown_stays : (b : ℕ) → (shown b == 10) ≡ false
shown_stays b = elim (cases_Bool (is_control b)) [
  | inl is ↦ ap (λ t. (cond t 63 b) == 10) is
  | inr isnt ↦ ap (λ t. (cond t 63 b) == 10) isnt ∙ other isnt
]
  where
    other : is_control b ≡ false → (b == 10) ≡ false
    other isnt = elim (eqb_tells b 10) [
      | inl h ↦ absurd (true≢false (ap is_control (sym h.1) ∙ isnt))
      | inr h ↦ h.0
    ]

pub all_stay : (bytes : List ℕ) → list_any (λ b. b == 10) (map shown bytes) ≡ false
all_stay [] = refl
all_stay (b ∷ bytes) = rw (shown_stays b) (all_stay bytes)
