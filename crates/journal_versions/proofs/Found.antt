-- Events that were found, before what is read after them.
use Rattle.std.proofs.Common.{◌≡◌, ℕ, ◌+◌, ◌≤◌, List, ◌∷◌, ◌++◌, length, length-append, take, replicate, cond, ◌-◌, Option, Some, Result, Ok, Err, refl, ap, sym, ◌∙◌, append_assoc, true, false, arith}
use Rattle.std.specs.Prelude.{is_err, is_ok}
use Rattle.std.proofs.lemmas.Bool.{le-leb, true≢false}
use Rattle.std.proofs.lemmas.List.{length-replicate, take_all}
use Rattle.run_types.specs.declared.run.Event.{Event}
use Rattle.journal_versions.specs.declared.form.Form.{Form}
use Rattle.journal_versions.specs.Journals.{events_from, events_then, group_of, group_then, is_comment, most_events}

-- a comment adds nothing
pub past_comment : (form : Form) (events : List (ℕ × Event)) (n before : ℕ) (line : List ℕ) (rest : List (List ℕ)) → is_comment line ≡ true
    → events_then events (events_from form n before (line ∷ rest)) ≡ events_then events (events_from form (n + 1) before rest)
past_comment form events n before line rest comment =
    ap (λ b. events_then events (cond b (events_from form (n + 1) before rest)
    (group_then n before (group_of form line) (λ k. events_from form (n + 1) k rest)))) comment

found_more : (events more : List (ℕ × Event)) (rest : Result (List (ℕ × Event)) ℕ)
    → events_then events (events_then more rest) ≡ events_then (events ++ more) rest
found_more events more (Ok others) = ap Ok (sym (append_assoc events more others))
found_more events more (Err bad) = refl

-- another line, by what it says
plain_line : (form : Form) (events : List (ℕ × Event)) (n before : ℕ) (line : List ℕ) (rest : List (List ℕ)) (g : Option (Event × ℕ))
    → is_comment line ≡ false → group_of form line ≡ g
    → events_then events (events_from form n before (line ∷ rest)) ≡ events_then events (group_then n before g (λ k. events_from form (n + 1) k rest))
plain_line form events n before line rest g plain is =
    ap (λ b. events_then events (cond b (events_from form (n + 1) before rest)
    (group_then n before (group_of form line) (λ k. events_from form (n + 1) k rest)))) plain
    ∙ ap (λ o. events_then events (group_then n before o (λ k. events_from form (n + 1) k rest))) is

-- a line that has events
pub past_group : (form : Form) (events : List (ℕ × Event)) (n before : ℕ) (line : List ℕ) (rest : List (List ℕ)) (e : Event) (times : ℕ)
    → is_comment line ≡ false → group_of form line ≡ Some (e, times) → before + times ≤ most_events
    → events_then events (events_from form n before (line ∷ rest))
    ≡ events_then (events ++ replicate times (n, e)) (events_from form (n + 1) (before + times) rest)
past_group form events n before line rest e times plain is fits =
    plain_line form events n before line rest (Some (e, times)) plain is
    ∙ ap (λ b. events_then events (cond b (events_then (replicate times (n, e)) (events_from form (n + 1) (before + times) rest)) (Err n)))
    (le-leb (before + times) most_events fits)
    ∙ found_more events (replicate times (n, e)) (events_from form (n + 1) (before + times) rest)

-- what a `Vec` holds that was resized
pub resized : {X E : Type 0} (r : Result (Unit {0}) E) (old new : List X) (len old_len times : ℕ) (x : X) → is_err r ≡ false
    → len ≡ length old → old_len ≡ length old
    → new ≡ cond (is_ok r) (take (len + times) old ++ replicate (len + times - old_len) x) old → new ≡ old ++ replicate times x
resized (Ok done) old new len old_len times x ok same same_old is =
    let enough : length old ≤ len + times = omega (arith, same) in
    let more : len + times - old_len ≡ times = omega (arith, same, same_old) in
    is ∙ ap (λ front. front ++ replicate (len + times - old_len) x) (take_all (len + times) old enough)
    ∙ ap (λ k. old ++ replicate k x) more
resized (Err e) old new len old_len times x ok same same_old is = absurd (true≢false ok)

-- the next line has events
pub next_group : (form : Form) (events new : List (ℕ × Event)) (n : ℕ) (line : List ℕ) (ls rest : List (List ℕ)) (e : Event) (times : ℕ)
    (all : Result (List (ℕ × Event)) ℕ) → all ≡ events_then events (events_from form n (length events) ls) → ls ≡ line ∷ rest
    → is_comment line ≡ false → group_of form line ≡ Some (e, times) → length events + times ≤ most_events
    → new ≡ events ++ replicate times (n, e) → all ≡ events_then new (events_from form (n + 1) (length new) rest)
next_group form events new n line ls rest e times all so_far is plain group fits added =
    let count : length events + times ≡ length (events ++ replicate times (n, e)) =
    omega (arith, length-append events (replicate times (n, e)), length-replicate {A = ℕ × Event} times (n, e)) in
    so_far ∙ ap (λ x. events_then events (events_from form n (length events) x)) is
    ∙ past_group form events n (length events) line rest e times plain group fits
    ∙ ap (λ k. events_then (events ++ replicate times (n, e)) (events_from form (n + 1) k rest)) count
    ∙ ap (λ v. events_then v (events_from form (n + 1) (length v) rest)) (sym added)

-- the next line is a comment
pub next_comment : (form : Form) (events new : List (ℕ × Event)) (n : ℕ) (line : List ℕ) (ls rest : List (List ℕ))
    (all : Result (List (ℕ × Event)) ℕ) → all ≡ events_then events (events_from form n (length events) ls) → ls ≡ line ∷ rest
    → is_comment line ≡ true → new ≡ events → all ≡ events_then new (events_from form (n + 1) (length new) rest)
next_comment form events new n line ls rest all so_far is comment same =
    so_far ∙ ap (λ x. events_then events (events_from form n (length events) x)) is
    ∙ past_comment form events n (length events) line rest comment
    ∙ ap (λ v. events_then v (events_from form (n + 1) (length v) rest)) (sym same)
