-- A report whose marks are left out, byte by byte.
use Rattle.std.proofs.Common.{◌≡◌, ℕ, ◌+◌, ◌<◌, ◌≤◌, ◌==◌, List, [], ◌∷◌, ◌++◌, drop, get_or, sym, ◌∙◌, ap, append_assoc, append-nil}
use Rattle.std.specs.Prelude.{length, nat_lt, if◌then◌else◌}
use Rattle.std.proofs.lemmas.List.{drop_all, drop_more}
use Rattle.job_answers.specs.Generated.{unmarked, unmarked_from}

-- one byte more
pub unmarked_more : (old mid new report : List ℕ) (i column b : ℕ) → i < length report → b ≡ get_or report i b
    → mid ++ unmarked_from column (drop i report) ≡ old ++ unmarked report
    → new ≡ mid ++ (if nat_lt column 2 then [] else b ∷ [])
    → new ++ unmarked_from (if b == 10 then 0 else column + 1) (drop (i + 1) report) ≡ old ++ unmarked report
unmarked_more old mid new report i column b within is before more =
    let rest = unmarked_from (if b == 10 then 0 else column + 1) (drop (i + 1) report) in
    ap (λ bytes. bytes ++ rest) more
    ∙ append_assoc mid (if nat_lt column 2 then [] else b ∷ []) rest
    ∙ ap (λ bytes. mid ++ unmarked_from column bytes) (ap (λ c. c ∷ drop (i + 1) report) is ∙ sym (drop_more report i b within))
    ∙ before

-- all bytes
pub unmarked_all : (old new report : List ℕ) (i column : ℕ) → length report ≤ i
    → new ++ unmarked_from column (drop i report) ≡ old ++ unmarked report → new ≡ old ++ unmarked report
unmarked_all old new report i column past before =
    sym (append-nil new) ∙ ap (λ bytes. new ++ unmarked_from column bytes) (sym (drop_all i report past)) ∙ before
