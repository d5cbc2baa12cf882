-- Where words are cut.
use Rattle.std.proofs.Common.{◌≡◌, ◌<◌, ◌≤◌, ◌+◌, ◌-◌, ◌∙◌, ℕ, Option, Some, None, length, take, drop, get_or, refl, sym, ap, ap₂, arith, eq-eqb, Bor}
use Rattle.std.specs.Prelude.{not, MatchOption}
use Rattle.std.specs.Option.{option_map}
use Rattle.std.specs.List.{suffix_len}
use Rattle.std.specs.Str.Pattern.{RFindsChar}
use Rattle.std.proofs.lemmas.Bool.{ne_eqb, not_from_true, not_from_false}
use Rattle.std.proofs.lemmas.List.{length-drop, get_or-drop, get_or_default}
use Rattle.std.proofs.lemmas.List.Folds.{list_any_at, list_any_none}
use Rattle.std.proofs.lemmas.List.Sums.{suffix_len_is}
use Rattle.std.proofs.lemmas.Str.Pattern.{NoCharPasses-char}
use Rattle.dsu_cli.specs.Words.{Text, is_at, file_and_lines}

-- `rsplit_once` cuts at the last `@`
pub file_and_lines_is : (text : Text) (r : Option (Bor Text × Bor Text))
    → MatchOption r (RFindsChar 64 text None) (λ x. (i : ℕ) × (j : ℕ) × RFindsChar 64 text (Some (i, j)) × (x.0.now ≡ take i text) × (x.1.now ≡ drop j text) × (i ≤ j) × (length x.0.now ≡ i) × (length x.1.now + j ≡ length text))
    → option_map (λ x. (x.0.now, x.1.now)) r ≡ file_and_lines text
file_and_lines_is text None h = rw (list_any_none is_at text (λ i d l. ne_eqb _ 64 (λ e. NoCharPasses-char 64 text i h (omega arith) l (sym (get_or_default text i d 0 l) ∙ e)))) refl
file_and_lines_is text (Some x) h =
    let i = h.0 in
    let j = h.1 in
    let at = h.2.1.byte (omega arith) in
    let next : j ≡ i + 1 = h.2.1.ends in
    let within : i < length text = omega (arith, h.7) in
    let back : suffix_len (λ c. not (is_at c)) text ≡ length text - (i + 1) = suffix_len_is (λ c. not (is_at c)) text (i + 1) 0 (omega arith)
    (λ k le l. not_from_false _ (ne_eqb _ 64 (λ e.
    let split : j + (k - j) ≡ k = omega arith in
    NoCharPasses-char 64 (drop j text) (k - j) h.2.0 (omega arith) (omega (arith, length-drop j text)) (get_or-drop j text (k - j) 0 ∙ ap (λ n. get_or text n 0) split ∙ e))))
    (λ _. not_from_true _ (eq-eqb _ 64 (ap (λ n. get_or text n 0) {x = i + 1 - 1} {y = i} (omega arith) ∙ at))) in
    let front : length text - suffix_len (λ c. not (is_at c)) text - 1 ≡ i = omega arith in
    let rest : length text - suffix_len (λ c. not (is_at c)) text ≡ j = omega arith in
    rw (list_any_at is_at text i 0 within (eq-eqb _ 64 at)) (ap₂ (λ (a b : Text). Some (a, b)) (h.3 ∙ ap (λ n. take n text) (sym front)) (h.4 ∙ ap (λ n. drop n text) (sym rest)))
