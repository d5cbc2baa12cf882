-- What a sink shows after the rest of an output was handed to it.
use Rattle.std.proofs.Common.{◌≡◌, ℕ, suc, ◌+◌, ◌<◌, ◌≤◌, Bool, true, List, [], ◌∷◌, ◌++◌, take, Option, Some, None, refl, sym, ◌∙◌, ap, subst, arith, append_assoc, length-append, length-drop}
use Rattle.std.specs.Prelude.{◌==◌, ◌^◌, cond, length, drop}
use Rattle.std.proofs.lemmas.List.Sums.{count_by-le-length, sum_by-append}
use Rattle.std.proofs.lemmas.Bool.Decides.{nat_tests}
use Rattle.std.specs.Io.KnownBytes.{Appends}
use Rattle.std.proofs.Transfers.{drop-appended}
use Rattle.std.proofs.Math.Seq.{take-append-add}
use Rattle.std.proofs.lemmas.Option.{none-some, same_Some}
use Rattle.dsu_io.specs.Sinks.{AppendsFront}
use Rattle.dsu_runs.specs.declared.engine.Made.TheVariants.{Done, SinkFailed}
use Rattle.plain_engine.specs.Plain.{Wrote, lines_among}

-- bytes that are appended to what was shown before
appended : (told now : Option (List ℕ)) (before out bytes all : List ℕ) → told ≡ Some (before ++ out) → Appends told now bytes
    → out ++ bytes ≡ all → now ≡ Some (before ++ all)
appended None now before out bytes all is grew whole = absurd (none-some (before ++ out) is)
appended (Some xs) None before out bytes all is grew whole = absurd grew
appended (Some xs) (Some ys) before out bytes all is grew whole =
    ap Some
    (grew
    ∙ ap (λ b. b ++ bytes) (same_Some xs (before ++ out) is)
    ∙ append_assoc before out bytes
    ∙ ap (λ b. before ++ b) whole)

-- what is left is what was printed since
left_is : (out more all : List ℕ) (printed : ℕ) → all ≡ out ++ more → printed ≡ length out → drop printed all ≡ more
left_is out more all printed whole from = ap (λ k. drop k all) from ∙ drop-appended out all more whole

-- all of the rest
pub grew_all : (told now : Option (List ℕ)) (out more all : List ℕ) (printed : ℕ) → all ≡ out ++ more → printed ≡ length out
    → Appends told now (drop printed all) → (before : List ℕ) → told ≡ Some (before ++ out) → now ≡ Some (before ++ all)
grew_all told now out more all printed whole from grew before is =
    appended told now before out (drop printed all) all is grew
    (ap (λ b. out ++ b) (left_is out more all printed whole from) ∙ sym whole)

-- a shorter prefix of what is left ends before all of it
ends_before : (out more all : List ℕ) (printed n : ℕ) → all ≡ out ++ more → printed ≡ length out → n < length (drop printed all)
    → length out + n < length all
ends_before out more all printed n whole from fewer =
    let left = ap length (left_is out more all printed whole from) in
    let long = ap length whole ∙ length-append out more in
    omega (arith, fewer, left, long)

-- where not all of what is left was written, something was printed
pub some_printed : (out more all : List ℕ) (printed n : ℕ) → all ≡ out ++ more → printed ≡ length out → n < length (drop printed all)
    → length out < length all
some_printed out more all printed n whole from fewer = let before = ends_before out more all printed n whole from fewer in omega (arith, before)

-- a shorter prefix of it
pub grew_partly : (told now : Option (List ℕ)) (out more all : List ℕ) (printed n : ℕ) → all ≡ out ++ more → printed ≡ length out
    → n < length (drop printed all) → Appends told now (take n (drop printed all)) → (before : List ℕ) → told ≡ Some (before ++ out)
    → (k : ℕ) × (length out ≤ k) × (k < length all) × (now ≡ Some (before ++ take k all))
grew_partly told now out more all printed n whole from fewer grew before is = (
  length out + n,
  omega arith,
  ends_before out more all printed n whole from fewer,
  appended told now before out (take n (drop printed all)) (take (length out + n) all) is grew
      (ap (λ b. out ++ take n b) (left_is out more all printed whole from)
      ∙ sym (take-append-add out more n)
      ∙ ap (take (length out + n)) (sym whole)),
)

-- what came of handing the rest of an output to a sink, with how many bytes it had before
pub all_printed : (piece output : List ℕ) (printed new : ℕ) → piece ≡ drop printed output → printed ≤ length output
    → (printed + length piece < 2 ^ 64 → new ≡ printed + length piece) → length output < 2 ^ 64 → new ≡ length output
all_printed piece output printed new is within sums small = sums (subst (λ n. n < 2 ^ 64) (sym whole) small) ∙ whole
  where
    whole : printed + length piece ≡ length output
    whole = let left = ap length is ∙ length-drop printed output in omega (arith, left, within)

pub wrote_all : (told now : Option (List ℕ)) (piece output : List ℕ) (printed new : ℕ) → piece ≡ drop printed output → new ≡ length output
    → Appends told now piece → Wrote output printed told now new Done
wrote_all told now piece output printed new is all grew = (all, subst (Appends told now) is grew)

not_zero : (n : ℕ) → (suc n == 0) ≡ true → ⊥
not_zero n h = grind (arith, nat_tests)

-- where nothing is left
pub none_there : (piece : List ℕ) (none : Bool) → none ≡ (length piece == 0) → none ≡ true → piece ≡ []
none_there [] none is e = refl
none_there (b ∷ bs) none is e = absurd (not_zero (length bs) (sym is ∙ e))

pub none_left : (piece output : List ℕ) (printed : ℕ) → piece ≡ drop printed output → piece ≡ [] → printed ≤ length output
    → printed ≡ length output
none_left piece output printed is none within =
    let left = ap length (sym is ∙ none) in
    let few = length-drop printed output in
    omega (arith, left, few, within)

nothing_more : (xs : List ℕ) → xs ≡ xs ++ []
nothing_more [] = refl
nothing_more (x ∷ xs) = ap (λ ys. x ∷ ys) (nothing_more xs)

appends_none : (told : Option (List ℕ)) → Appends told told []
appends_none None = tt
appends_none (Some xs) = nothing_more xs

pub wrote_none : (told : Option (List ℕ)) (piece output : List ℕ) (printed : ℕ) → piece ≡ drop printed output → piece ≡ []
    → printed ≤ length output → Wrote output printed told told printed Done
wrote_none told piece output printed is none within = (
  none_left piece output printed is none within,
  subst (Appends told told) (sym none ∙ is) (appends_none told),
)

pub wrote_partly : (told now : Option (List ℕ)) (piece output : List ℕ) (printed new : ℕ) → piece ≡ drop printed output
    → AppendsFront told now piece → Wrote output printed told now new SinkFailed
wrote_partly told now piece output printed new is part = (
  part.0,
  subst (λ bytes. part.0 < length bytes) is part.1,
  subst (λ bytes. Appends told now (take part.0 bytes)) is part.2,
)

-- the lines of a whole output
lines_appended : (before more : List ℕ) → lines_among (before ++ more) ≡ lines_among before + lines_among more
lines_appended before more = sum_by-append (λ c. cond (c == 10) 1 0) before more

pub lines_after : (before more piece output : List ℕ) (printed written lines new : ℕ) → piece ≡ drop printed output
    → output ≡ before ++ more → printed ≡ length before → written ≡ lines_among before → lines ≡ lines_among piece
    → (written + lines < 2 ^ 64 → new ≡ written + lines) → length output < 2 ^ 64 → new ≡ lines_among output
lines_after before more piece output printed written lines new rest whole from had is sums small = sums fits ∙ all
  where
    all : written + lines ≡ lines_among output
    all =
        ap (λ n. n + lines) had
        ∙ ap (λ n. lines_among before + n) (is ∙ ap lines_among (rest ∙ left_is before more output printed whole from))
        ∙ sym (lines_appended before more)
        ∙ ap lines_among (sym whole)

    fits : written + lines < 2 ^ 64
    fits =
        let few = count_by-le-length (λ c. c == 10) output in
        let total = all in
        omega (arith, few, total, small)

pub long_enough : (before more output : List ℕ) (printed : ℕ) → output ≡ before ++ more → printed ≡ length before → printed ≤ length output
long_enough before more output printed whole from =
    let long = ap length whole ∙ length-append before more in omega (arith, from, long)
