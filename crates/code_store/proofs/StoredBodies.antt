-- The bodies of a store, with one more, and in a larger table.
use Rattle.std.proofs.Common.{◌≡◌, ℕ, ◌+◌, ◌<◌, ◌≤◌, List, [], ◌∷◌, ◌++◌, All, map, length, Option, Some, None, refl, sym, ap, ◌∙◌, arith}
use Rattle.std.specs.Prelude.{IfSome}
use Rattle.std.proofs.lemmas.List.{map_push, map-append, length-append, get_or_append_left}
use Rattle.std.proofs.lemmas.List.Elements.{All-nil, All-head, All-tail, All-push, All-append, All-weaker}
use Rattle.std.proofs.lemmas.List.Sums.{sum_by_push}
use Rattle.name_sets.specs.Texts.{IsTable, text_of}
use Rattle.skeletons.specs.Meaning.{used_at, point_of, meant}
use Rattle.skeletons.specs.declared.point.Point.{Point}
use Rattle.c_tree.specs.BareExpr.{Bytes}
use Rattle.c_semantics.specs.Skeletons.{check_ins}
use Rattle.c_semantics.specs.Store.{Body, all_check_ins, all_tokens}
use Rattle.effect_flow.proofs.Ids.{spot_kept}
use Rattle.code_store.specs.declared.body.StoredBody.{StoredBody}
use Rattle.code_store.specs.Limits.{most_check_ins, most_function_tokens}
use Rattle.code_store.specs.Stored.{meant_body, IsNamed, IsNewTo, AreDistinct, IsStoreOf, AddsStored, AddsAllStored, HasCounts}

-- a body whose function has no other of its generation
pub distinct_push : (bs : List StoredBody) (b : StoredBody) → AreDistinct bs → IsNewTo bs b.function b.generation → AreDistinct (bs ++ b ∷ [])
distinct_push [] b d new = (All-nil (λ a. ¬ ((a.function ≡ b.function) × (a.generation ≡ b.generation))), tt)
distinct_push (a ∷ bs) b d new =
    let Other : StoredBody → StoredBody → Type 0 = λ b a. ¬ ((a.function ≡ b.function) × (a.generation ≡ b.generation)) in
    let first : Other b a = All-head (Other b) a bs new in
    (All-push (Other a) bs b d.0 (λ e. first (sym e.0, sym e.1)), distinct_push bs b d.1 (All-tail (Other b) a bs new))

pub store_of_none : (names : List Bytes) → IsTable names → IsStoreOf names [] []
store_of_none names table = record { table = table; named = All-nil (IsNamed names); meaning = refl; distinct = tt }

pub store_with_body : (stored : List StoredBody) (b : StoredBody) → IsNewTo stored b.function b.generation → AddsStored stored b (stored ++ b ∷ [])
store_with_body stored b new names bodies s named = record {
  table = s.table;
  named = All-push (IsNamed names) stored b s.named named;
  meaning = map_push (meant_body names) stored b ∙ ap (λ bs. bs ++ meant_body names b ∷ []) s.meaning;
  distinct = distinct_push stored b s.distinct new;
}

pub store_with_bodies : (stored more : List StoredBody) → AddsAllStored stored more (stored ++ more)
store_with_bodies stored more names bodies s named distinct = record {
  table = s.table;
  named = All-append (IsNamed names) stored more s.named named;
  meaning = map-append (meant_body names) stored more ∙ ap (λ bs. bs ++ map (meant_body names) more) s.meaning;
  distinct = distinct;
}

-- the counts of no bodies, and of one more
pub counts_of_none : HasCounts [] 0 0
counts_of_none = record {
  check_ins_are = λ names. refl;
  tokens_are = λ names. refl;
  few_check_ins = omega arith;
  few_tokens = omega arith;
}

pub check_ins_with_body : (names : List Bytes) (stored : List StoredBody) (b : StoredBody)
    → all_check_ins (map (meant_body names) (stored ++ b ∷ []))
    ≡ all_check_ins (map (meant_body names) stored) + check_ins (meant names b.skeleton)
check_ins_with_body names stored b =
    ap all_check_ins (map_push (meant_body names) stored b)
    ∙ sum_by_push (λ b. check_ins b.skeleton) (map (meant_body names) stored) (meant_body names b)

pub tokens_with_body : (names : List Bytes) (stored : List StoredBody) (b : StoredBody)
    → all_tokens (map (meant_body names) (stored ++ b ∷ [])) ≡ all_tokens (map (meant_body names) stored) + b.tokens
tokens_with_body names stored b =
    ap all_tokens (map_push (meant_body names) stored b)
    ∙ sum_by_push (λ b. b.tokens) (map (meant_body names) stored) (meant_body names b)

pub counts_with_body : (stored : List StoredBody) (b : StoredBody) (check_ins_before tokens_before more : ℕ)
    → HasCounts stored check_ins_before tokens_before
    → ((names : List Bytes) → more ≡ check_ins (meant names b.skeleton))
    → check_ins_before + more ≤ most_check_ins → tokens_before + b.tokens ≤ most_function_tokens
    → HasCounts (stored ++ b ∷ []) (check_ins_before + more) (tokens_before + b.tokens)
counts_with_body stored b check_ins_before tokens_before more h e few few_tokens = record {
  check_ins_are = λ names.
      ap (λ n. n + more) (h.check_ins_are names)
      ∙ ap (λ n. all_check_ins (map (meant_body names) stored) + n) (e names)
      ∙ sym (check_ins_with_body names stored b);
  tokens_are = λ names. ap (λ n. n + b.tokens) (h.tokens_are names) ∙ sym (tokens_with_body names stored b);
  few_check_ins = few;
  few_tokens = few_tokens;
}

-- what points and bodies mean where the table grows
points_kept : (names more : List Bytes) (function : ℕ) (ps : List Point) → function < length names
    → All (λ p. IfSome (used_at p.kind) (λ id. id < length names)) ps
    → map (point_of (names ++ more)) ps ≡ map (point_of names) ps
points_kept names more function [] f u = refl
points_kept names more function (p ∷ ps) f u =
    let Known : Point → Type 0 = λ p. IfSome (used_at p.kind) (λ id. id < length names) in
    let first : point_of (names ++ more) p ≡ point_of names p =
    ap (λ s. s.at)
    (spot_kept names more (record { function = function; generation = 0; number = 0; point = p })
    (record { function = f; used = All-head Known p ps u })) in
    let rest : map (point_of (names ++ more)) ps ≡ map (point_of names) ps =
    points_kept names more function ps f (All-tail Known p ps u) in
    cc

body_kept : (names more : List Bytes) (b : StoredBody) → IsNamed names b → meant_body (names ++ more) b ≡ meant_body names b
body_kept names more b named =
    let points : map (point_of (names ++ more)) b.skeleton.points.items ≡ map (point_of names) b.skeleton.points.items =
    points_kept names more b.function b.skeleton.points.items named.named_function named.named_uses in
    let text : text_of (names ++ more) b.function ≡ text_of names b.function =
    get_or_append_left names more [] b.function named.named_function in
    cc

bodies_kept : (names more : List Bytes) (bs : List StoredBody) → All (IsNamed names) bs
    → map (meant_body (names ++ more)) bs ≡ map (meant_body names) bs
bodies_kept names more [] all = refl
bodies_kept names more (b ∷ bs) all =
    let first : meant_body (names ++ more) b ≡ meant_body names b = body_kept names more b (All-head (IsNamed names) b bs all) in
    let rest : map (meant_body (names ++ more)) bs ≡ map (meant_body names) bs =
    bodies_kept names more bs (All-tail (IsNamed names) b bs all) in
    cc

id_below_more : (names more : List Bytes) (id : ℕ) → id < length names → id < length (names ++ more)
id_below_more names more id l = omega (arith, length-append names more)

if_below_more : (names more : List Bytes) (o : Option ℕ) → IfSome o (λ id. id < length names)
    → IfSome o (λ id. id < length (names ++ more))
if_below_more names more None h = tt
if_below_more names more (Some id) h = id_below_more names more id h

named_in_more : (names more : List Bytes) (b : StoredBody) → IsNamed names b → IsNamed (names ++ more) b
named_in_more names more b named = record {
  named_function = id_below_more names more b.function named.named_function;
  named_uses = All-weaker (λ p. IfSome (used_at p.kind) (λ id. id < length names))
      (λ p. IfSome (used_at p.kind) (λ id. id < length (names ++ more)))
      (λ p. if_below_more names more (used_at p.kind)) b.skeleton.points.items named.named_uses;
}

pub store_with_names : (names more : List Bytes) (bodies : List Body) (stored : List StoredBody)
    → IsStoreOf names bodies stored → IsTable (names ++ more) → IsStoreOf (names ++ more) bodies stored
store_with_names names more bodies stored s table = record {
  table = table;
  named = All-weaker (IsNamed names) (IsNamed (names ++ more)) (named_in_more names more) stored s.named;
  meaning = bodies_kept names more stored s.named ∙ s.meaning;
  distinct = s.distinct;
}
