-- The counts of some bodies of a list, of one more, of two lists together, and of the first of a list.
use Rattle.std.proofs.Common.{◌≡◌, ℕ, ◌+◌, ◌<◌, ◌≤◌, false, List, [], ◌∷◌, ◌++◌, map, length, take, get_or, sym, ap, subst, ◌∙◌, arith}
use Rattle.std.proofs.lemmas.List.{take_more, take-map, map-append}
use Rattle.std.proofs.lemmas.List.Sums.{sum_by-append, sum_by-take-le}
use Rattle.c_tree.specs.BareExpr.{Bytes}
use Rattle.skeletons.specs.Meaning.{meant}
use Rattle.c_semantics.specs.Skeletons.{check_ins}
use Rattle.c_semantics.specs.Store.{Body, all_check_ins, all_tokens}
use Rattle.code_store.specs.declared.body.StoredBody.{StoredBody}
use Rattle.code_store.specs.Limits.{most_check_ins, most_function_tokens, are_too_many}
use Rattle.code_store.specs.Stored.{meant_body, HasCounts}
use Rattle.code_store.proofs.Room.{sum_at, within, not_too_many}
use Rattle.code_store.proofs.StoredBodies.{counts_with_body}

-- bodies fit a store, whatever the table
abbrev pub Fit : List StoredBody → Type 0
Fit bs = (names : List Bytes) → are_too_many (map (meant_body names) bs) ≡ false

pub counts_more : (bs : List StoredBody) (i : ℕ) (b : StoredBody) (checked counted more : ℕ) → i < length bs → b ≡ get_or bs i b → Fit bs
    → ((names : List Bytes) → more ≡ check_ins (meant names b.skeleton))
    → HasCounts (take i bs) checked counted → HasCounts (take (i + 1) bs) (checked + more) (counted + b.tokens)
counts_more bs i b checked counted more l is fit e h =
    let most = within (map (meant_body []) bs) (fit []) in
    let part = sum_at (λ (b : Body). check_ins b.skeleton) (meant_body []) bs i b l is in
    let part_tokens = sum_at (λ (b : Body). b.tokens) (meant_body []) bs i b l is in
    let so_far = h.check_ins_are [] in
    let so_far_tokens = h.tokens_are [] in
    let own = e [] in
    let one = most.0 in
    let other = most.1 in
    subst (λ bs. HasCounts bs (checked + more) (counted + b.tokens)) (sym (take_more bs i b l ∙ ap (λ b. take i bs ++ b ∷ []) (sym is)))
    (counts_with_body (take i bs) b checked counted more h e (omega arith) (omega arith))

-- bodies fit a store beside others
abbrev pub FitBeside : List StoredBody → List StoredBody → Type 0
FitBeside old more = (names : List Bytes) → are_too_many (map (meant_body names) old ++ map (meant_body names) more) ≡ false

pub fit_alone : (old more : List StoredBody) → FitBeside old more → Fit more
fit_alone old more fit names =
    let all = map (meant_body names) old in
    let added = map (meant_body names) more in
    let most = within (all ++ added) (fit names) in
    let sum = sum_by-append (λ (b : Body). check_ins b.skeleton) all added in
    let sum_tokens = sum_by-append (λ (b : Body). b.tokens) all added in
    let few = most.0 in
    let few_tokens = most.1 in
    not_too_many added (omega arith) (omega arith)

pub fit_front : (bs : List StoredBody) (count checked counted : ℕ) → HasCounts bs checked counted → Fit (take count bs)
fit_front bs count checked counted h names =
    let all = map (meant_body names) bs in
    let front : map (meant_body names) (take count bs) ≡ take count all = sym (take-map (meant_body names) count bs) in
    let part = sum_by-take-le (λ (b : Body). check_ins b.skeleton) all count in
    let part_tokens = sum_by-take-le (λ (b : Body). b.tokens) all count in
    let same = h.check_ins_are names in
    let same_tokens = h.tokens_are names in
    let few = h.few_check_ins in
    let few_tokens = h.few_tokens in
    ap are_too_many front ∙ not_too_many (take count all) (omega arith) (omega arith)

pub counts_both : (old more : List StoredBody) (checked counted more_checked more_counted : ℕ) → FitBeside old more
    → HasCounts old checked counted → HasCounts more more_checked more_counted
    → HasCounts (old ++ more) (checked + more_checked) (counted + more_counted)
counts_both old more checked counted more_checked more_counted fit h k = record {
  check_ins_are = are;
  tokens_are = tokens_are;
  few_check_ins = subst (λ n. n ≤ most_check_ins) (sym (are [] ∙ both [])) (within (Both []) (fit [])).0;
  few_tokens = subst (λ n. n ≤ most_function_tokens) (sym (tokens_are [] ∙ both_tokens [])) (within (Both []) (fit [])).1;
}
  where
    Both : List Bytes → List Body
    Both names = map (meant_body names) old ++ map (meant_body names) more

    both : (names : List Bytes) → all_check_ins (map (meant_body names) (old ++ more)) ≡ all_check_ins (Both names)
    both names = ap all_check_ins (map-append (meant_body names) old more)

    both_tokens : (names : List Bytes) → all_tokens (map (meant_body names) (old ++ more)) ≡ all_tokens (Both names)
    both_tokens names = ap all_tokens (map-append (meant_body names) old more)

    are : (names : List Bytes) → checked + more_checked ≡ all_check_ins (map (meant_body names) (old ++ more))
    are names =
        let sum = sum_by-append (λ (b : Body). check_ins b.skeleton) (map (meant_body names) old) (map (meant_body names) more) in
        let one = h.check_ins_are names in
        let other = k.check_ins_are names in
        let whole = both names in
        omega arith

    tokens_are : (names : List Bytes) → counted + more_counted ≡ all_tokens (map (meant_body names) (old ++ more))
    tokens_are names =
        let sum = sum_by-append (λ (b : Body). b.tokens) (map (meant_body names) old) (map (meant_body names) more) in
        let one = h.tokens_are names in
        let other = k.tokens_are names in
        let whole = both_tokens names in
        omega arith
