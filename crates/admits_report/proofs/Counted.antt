-- How many answers admit.
use Rattle.std.proofs.Common.{◌≡◌, ℕ, ◌+◌, ◌<◌, Bool, List, [], ◌∷◌, ◌++◌, length, take, get_or, map, Option, None, Some, cond, refl, sym, ◌∙◌, ap, append-nil, arith, length-append}
use Rattle.std.specs.Prelude.{count_by}
use Rattle.std.specs.List.{flat_map}
use Rattle.std.specs.Option.{is_none, option_map}
use Rattle.std.proofs.lemmas.List.{take_more, length-map, map-append}
use Rattle.std.proofs.lemmas.List.Concat.{flat_map-append}
use Rattle.std.proofs.lemmas.List.Sums.{sum_by-append}
use Rattle.c_tree.specs.BareExpr.{Bytes}
use Rattle.con_freeness.specs.declared.refusal.Effect.{Effect as EffectOfIds}
use Rattle.con_freeness.specs.Verdicts.{effect_seen}
use Rattle.admits_report.specs.declared.answers.CheckInAnswer.{CheckInAnswer}
use Rattle.admits_report.specs.declared.answers.FunctionAnswers.{FunctionAnswers}
use Rattle.admits_report.specs.AdmitsText.{answers_of, count_text, end_text}
use Rattle.admits_report.specs.Shown.{answer_shown, line_of, block_of, ids_of, ids_of_line}

-- ---- counts of lists, one after the other

pub count_append : {X : Type 0} (p : X → Bool) (xs ys : List X) → count_by p (xs ++ ys) ≡ count_by p xs + count_by p ys
count_append p xs ys = sum_by-append (λ x. cond (p x) 1 0) xs ys

-- one item more
pub count_more : {X Y : Type 0} (p : Y → Bool) (v : X → Y) (xs : List X) (i : ℕ) (x : X) (old new : ℕ) → i < length xs
    → x ≡ get_or xs i x → old ≡ count_by p (map v (take i xs)) → new ≡ old + count_by p (v x ∷ [])
    → new ≡ count_by p (map v (take (i + 1) xs))
count_more p v xs i x old new within is had has =
    has ∙ ap (λ n. n + count_by p (v x ∷ [])) had
    ∙ sym (count_append p (map v (take i xs)) (v x ∷ []))
    ∙ ap (count_by p) (sym (map-append v (take i xs) (x ∷ []))
    ∙ ap (map v) (ap (λ y. take i xs ++ y ∷ []) is ∙ sym (take_more xs i x within)))

-- the items of one list more
pub parts_more : {X Y : Type 0} (p : Y → Bool) (f : X → List Y) (xs : List X) (i : ℕ) (x : X) (old new : ℕ) → i < length xs
    → x ≡ get_or xs i x → old ≡ count_by p (flat_map f (take i xs)) → new ≡ old + count_by p (f x)
    → new ≡ count_by p (flat_map f (take (i + 1) xs))
parts_more p f xs i x old new within is had has =
    has ∙ ap (λ n. n + count_by p (f x)) had ∙ sym (count_append p (flat_map f (take i xs)) (f x))
    ∙ ap (count_by p) (sym (parts f xs i x within is))
  where
    parts : {X Y : Type 0} (f : X → List Y) (xs : List X) (i : ℕ) (x : X) → i < length xs → x ≡ get_or xs i x
        → flat_map f (take (i + 1) xs) ≡ flat_map f (take i xs) ++ f x
    parts f xs i x within is =
        ap (flat_map f) (take_more xs i x within) ∙ flat_map-append f (take i xs) (get_or xs i x ∷ [])
        ∙ ap (λ ys. flat_map f (take i xs) ++ ys) (append-nil (f (get_or xs i x)) ∙ ap f (sym is))

pub lengths_more : {X Y : Type 0} (f : X → List Y) (xs : List X) (i : ℕ) (x : X) (old new : ℕ) → i < length xs
    → x ≡ get_or xs i x → old ≡ length (flat_map f (take i xs)) → new ≡ old + length (f x)
    → new ≡ length (flat_map f (take (i + 1) xs))
lengths_more f xs i x old new within is had has =
    has ∙ ap (λ n. n + length (f x)) had ∙ sym (length-append (flat_map f (take i xs)) (f x))
    ∙ ap length (sym (ap (flat_map f) (take_more xs i x within) ∙ flat_map-append f (take i xs) (get_or xs i x ∷ [])
    ∙ ap (λ ys. flat_map f (take i xs) ++ ys) (append-nil (f (get_or xs i x)) ∙ ap f (sym is))))

-- ---- the answers that are shown

shown_lines : (names : List Bytes) (lines : List CheckInAnswer)
    → map (λ line. line.answer) (map (line_of names) lines) ≡ map (answer_shown names) (map ids_of_line lines)
shown_lines names [] = refl
shown_lines names (line ∷ lines) = ap (λ rest. answer_shown names line.answer ∷ rest) (shown_lines names lines)

shown_answers : (names : List Bytes) (fs : List FunctionAnswers)
    → flat_map answers_of (map (block_of names) fs) ≡ map (answer_shown names) (flat_map ids_of fs)
shown_answers names [] = refl
shown_answers names (f ∷ fs) =
    ap (λ own. (answer_shown names f.start ∷ own) ++ flat_map answers_of (map (block_of names) fs)) (shown_lines names f.lines.items)
    ∙ ap (λ rest. map (answer_shown names) (ids_of f) ++ rest) (shown_answers names fs)
    ∙ sym (map-append (answer_shown names) (ids_of f) (flat_map ids_of fs))

none_shown : (names : List Bytes) (answer : Option EffectOfIds) → is_none (answer_shown names answer) ≡ is_none answer
none_shown names None = refl
none_shown names (Some effect) = refl

count_shown : (names : List Bytes) (answers : List (Option EffectOfIds))
    → count_by is_none (map (answer_shown names) answers) ≡ count_by is_none answers
count_shown names [] = refl
count_shown names (answer ∷ answers) =
    count_append is_none (answer_shown names answer ∷ []) (map (answer_shown names) answers)
    ∙ ap (λ b. 0 + cond b 1 0 + count_by is_none (map (answer_shown names) answers)) (none_shown names answer)
    ∙ ap (λ n. count_by is_none (answer ∷ []) + n) (count_shown names answers)
    ∙ sym (count_append is_none (answer ∷ []) answers)

-- the last line
end_is : (names : List Bytes) (fs : List FunctionAnswers) (admitted all : ℕ)
    → admitted ≡ count_by is_none (flat_map ids_of fs) → all ≡ length (flat_map ids_of fs)
    → count_text admitted all ≡ end_text (map (block_of names) fs)
end_is names fs admitted all first second =
    let are = shown_answers names fs in
    ap (λ n. count_text n all) (first ∙ sym (count_shown names (flat_map ids_of fs)) ∙ ap (count_by is_none) (sym are))
    ∙ ap (λ n. count_text (count_by is_none (flat_map answers_of (map (block_of names) fs))) n)
    (second ∙ sym (length-map (flat_map ids_of fs) (answer_shown names)) ∙ ap length (sym are))

-- where they are counted over the same functions
pub counted_of : (names : List Bytes) (gs fs : List FunctionAnswers) (admitted all : ℕ) → gs ≡ fs
    → admitted ≡ count_by is_none (flat_map ids_of gs) → all ≡ length (flat_map ids_of gs)
    → count_text admitted all ≡ end_text (map (block_of names) fs)
counted_of names gs fs admitted all same first second =
    end_is names gs admitted all first second ∙ ap (λ hs. end_text (map (block_of names) hs)) same
