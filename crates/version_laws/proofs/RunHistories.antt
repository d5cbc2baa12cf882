-- Along a run the table is that of the texts that were installed so far, and the text is the last of them.
use Rattle.std.proofs.Common.{◌≡◌, ℕ, Bool, true, false, List, [], ◌∷◌, ◌++◌, append_assoc, append-nil, All, slice_get, slice_index_or, option_and_then, Option, Some, None, refl, sym, subst, ◌∙◌, if◌then◌else◌}
use Rattle.std.proofs.lemmas.List.Elements.{All-get_or}
use Rattle.std.proofs.lemmas.Option.{none-some, same_Some, get_or_from_slice_get, slice_get_within}
use Rattle.c_tree.specs.BareDef.{BareDef}
use Rattle.source_model.specs.Versions.{current, next_table}
use Rattle.source_model.specs.Worlds.{World, Limits, is_over, first_world}
use Rattle.source_model.specs.Moves.{move}
use Rattle.source_model.specs.Installs.{installed}
use Rattle.source_model.specs.Runs.{SourceMove, Move, Install, install, run, start}
use Rattle.source_model.specs.JournalLaws.{HasMain}
use Rattle.version_laws.specs.Histories.{IsHistory, last_text, texts_installed, versions_by}
use Rattle.version_laws.specs.HistoryLaws.{TextIsLast}
use Rattle.version_laws.proofs.TableHistories.{first_history, last_is_next, next_history}
use Rattle.version_laws.proofs.MovesSustain.{moves_sustain}

-- what holds after the rest of a run, where P holds before it
abbrev Onward : List (List BareDef) → (List (List BareDef) → World → Type 0) → List SourceMove → World → Type 0
Onward texts P ms after =
    (before : List (List BareDef)) (mid : World) → P before mid → run texts ms mid ≡ Some after → P (before ++ texts_installed texts ms) after

after_move : (texts : List (List BareDef)) (P : List (List BareDef) → World → Type 0) (ms : List SourceMove)
    (before : List (List BareDef)) (o : Option World) (after : World) → ((mid : World) → o ≡ Some mid → P before mid)
    → Onward texts P ms after → option_and_then (run texts ms) o ≡ Some after → P (before ++ texts_installed texts ms) after
after_move texts P ms before None after kept rest e = absurd (none-some after e)
after_move texts P ms before (Some mid) after kept rest e = rest before mid (kept mid refl) e

after_install : (texts : List (List BareDef)) (P : List (List BareDef) → World → Type 0) (ms : List SourceMove)
    (before : List (List BareDef)) (w after : World) (k : ℕ) (o : Option (List BareDef)) → slice_get texts k ≡ o
    → ((q : List BareDef) → slice_get texts k ≡ Some q → P (before ++ q ∷ []) (installed q w))
    → Onward texts P ms after → option_and_then (run texts ms) (install w o) ≡ Some after
    → P (before ++ slice_index_or texts k [] ∷ texts_installed texts ms) after
after_install texts P ms before w after k None is carried rest e = absurd (none-some after e)
after_install texts P ms before w after k (Some q) is carried rest e = by (is_over w) e
  where
    by : (over : Bool) → option_and_then (run texts ms) (if over then None else Some (installed q w)) ≡ Some after
        → P (before ++ slice_index_or texts k [] ∷ texts_installed texts ms) after
    by true f = absurd (none-some after f)
    by false f =
        subst (λ x. P (before ++ x ∷ texts_installed texts ms) after) (sym (get_or_from_slice_get texts k q [] is))
        (subst (λ xs. P xs after) (append_assoc before (q ∷ []) (texts_installed texts ms))
        (rest (before ++ q ∷ []) (installed q w) (carried q is) f))

-- what each move keeps and each install carries over holds after a run
pub holds_along : (texts : List (List BareDef)) (P : List (List BareDef) → World → Type 0)
    → ((before : List (List BareDef)) (w after : World) (t : ℕ) → move w t ≡ Some after → P before w → P before after)
    → ((before : List (List BareDef)) (w : World) (k : ℕ) (q : List BareDef)
    → slice_get texts k ≡ Some q → P before w → P (before ++ q ∷ []) (installed q w))
    → (ms : List SourceMove) (before : List (List BareDef)) (w after : World) → P before w → run texts ms w ≡ Some after
    → P (before ++ texts_installed texts ms) after
holds_along texts P moves installs [] before w after h e =
    subst (λ x. P (before ++ []) x) (same_Some w after e) (subst (λ xs. P xs w) (sym (append-nil before)) h)
holds_along texts P moves installs (Move t ∷ ms) before w after h e =
    after_move texts P ms before (move w t) after (λ mid is. moves before w mid t is h)
    (λ b mid g f. holds_along texts P moves installs ms b mid after g f) e
holds_along texts P moves installs (Install k ∷ ms) before w after h e =
    after_install texts P ms before w after k (slice_get texts k) refl (λ q is. installs before w k q is h)
    (λ b mid g f. holds_along texts P moves installs ms b mid after g f) e

-- a world has the versions of some texts, and the last of them as its text
pub record IsOf (texts : List (List BareDef)) (w : World) : Type 0 where
  pub history : IsHistory texts w.table
  pub last : w.text ≡ last_text texts

pub has_main_at : (texts : List (List BareDef)) (k : ℕ) (q : List BareDef) → All HasMain texts → slice_get texts k ≡ Some q → HasMain q
has_main_at texts k q main is =
    subst HasMain (get_or_from_slice_get texts k q [] is) (All-get_or HasMain texts k [] (slice_get_within texts k q is) main)

pub move_is_of : (before : List (List BareDef)) (w after : World) (t : ℕ) → move w t ≡ Some after → IsOf before w → IsOf before after
move_is_of before w after t e h =
    let kept = moves_sustain w after t e in
    record { history = subst (IsHistory before) (sym kept.same_table) h.history; last = kept.same_text ∙ h.last }

pub install_is_of : (before : List (List BareDef)) (w : World) (q : List BareDef) → HasMain q → IsOf before w
    → IsOf (before ++ q ∷ []) (installed q w)
install_is_of before w q main h = record {
  history =
      subst (λ p. IsHistory (before ++ q ∷ []) (next_table (current w.table) p q w.table)) (sym h.last)
      (next_history before w.table q h.history main);
  last = sym (last_is_next before q);
}

pub first_is_of : (text : List BareDef) (limits : Limits) → HasMain text → IsOf (text ∷ []) (first_world text limits)
first_is_of text limits main = record { history = first_history text main; last = refl }

-- what holds of the first world and along each run holds in each world that a run comes to
pub holds_in_runs : (texts : List (List BareDef)) (limits : Limits) (P : List (List BareDef) → World → Type 0)
    → ((text : List BareDef) → slice_get texts 0 ≡ Some text → P (text ∷ []) (first_world text limits))
    → ((before : List (List BareDef)) (w after : World) (t : ℕ) → move w t ≡ Some after → P before w → P before after)
    → ((before : List (List BareDef)) (w : World) (k : ℕ) (q : List BareDef)
    → slice_get texts k ≡ Some q → P before w → P (before ++ q ∷ []) (installed q w))
    → (ms : List SourceMove) (w : World) → option_and_then (run texts ms) (start texts limits) ≡ Some w → P (versions_by texts ms) w
holds_in_runs [] limits P first moves installs ms w e = absurd (none-some w e)
holds_in_runs (text ∷ texts) limits P first moves installs ms w e =
    holds_along (text ∷ texts) P moves installs ms (text ∷ []) (first_world text limits) w (first text refl) e

pub runs_are_of : (texts : List (List BareDef)) (limits : Limits) (ms : List SourceMove) (w : World) → All HasMain texts
    → option_and_then (run texts ms) (start texts limits) ≡ Some w → IsOf (versions_by texts ms) w
runs_are_of texts limits ms w main e =
    holds_in_runs texts limits IsOf (λ text is. first_is_of text limits (has_main_at texts 0 text main is)) move_is_of
    (λ before w k q is h. install_is_of before w q (has_main_at texts k q main is) h) ms w e

pub text_is_last : TextIsLast
text_is_last texts limits ms w main e = let is_of = runs_are_of texts limits ms w main e in (is_of.history, is_of.last)
