-- A class of phrases and a plan for it: the plan reads each phrase, and what it takes of any tokens begins a phrase. Then
-- the plan's traces say just which tokens are a phrase, and where they stop being the beginning of one.
use Rattle.std.specs.Prelude.{◌≡◌, ◌<◌, ◌≤◌, ◌+◌, ◌⊎◌, ℕ, true, false, nat_le, List, [], ◌∷◌, ◌++◌, length, take, drop}
use Rattle.std.proofs.Common.{inl, inr, refl, sym, ap, ◌∙◌, subst, arith, append_assoc, append-nil}
use Rattle.std.proofs.lemmas.Bool.{leb-true, leb-false}
use Rattle.std.proofs.lemmas.List.{length-append, length-map, length-take, map-append, take-map, take-take, take_at, take_all, take-append-drop}
use Rattle.c_lexer.specs.declared.token.Token.{Token}
use Rattle.c_expr_parser.specs.Placed.{Placed, tokens}
use Rattle.c_expr_parser.specs.Readings.{most_depth, IsShallow, Reads, Begins, IsFront, IsWhole, ReadsTo, FaultAt, FaultBefore, TooDeepAt, ReadsOnce, DepthByFront}
use Rattle.c_expr_parser.specs.Plans.{Value, Plan, run, remaining, Parsed, parsed}
use Rattle.c_expr_parser.specs.Plans.Trace.{Took, Dead}
use Rattle.c_expr_parser.specs.Plans.Parsed.{read, stuck, deep}
use Rattle.c_expr_parser.proofs.JoinedTraces.{remaining_run}
use Rattle.c_expr_parser.proofs.CompletePlans.{puts}
use Rattle.c_expr_parser.proofs.TraceMeaning.{Explained}
use Rattle.c_expr_parser.proofs.TraceParts.{placed_of, end_of, placed_puts, end_puts, took_and_left, run_same, run_lives, explained_begins, explained_is, SinksAt, sinks_once, shallow_not_sinks, sinks_within, Sunk, sunk, sinks_behind, IsCut, was_cut}

length_tokens : (ts : List Placed) → length (tokens ts) ≡ length ts
length_tokens ts = length-map ts (λ (t : Placed). t.token)

tokens_append : (ts us : List Placed) → tokens (ts ++ us) ≡ tokens ts ++ tokens us
tokens_append ts us = map-append (λ (t : Placed). t.token) ts us

tokens_take : (n : ℕ) (ts : List Placed) → tokens (take n ts) ≡ take n (tokens ts)
tokens_take n ts = sym (take-map (λ (t : Placed). t.token) n ts)

-- as many tokens as their prefix has
front_length : (k : ℕ) (front : List Placed) (ts : List Token) → k ≤ length ts → tokens front ≡ take k ts → length front ≡ k
front_length k front ts h e = omega (arith, length_tokens front, ap length e, length-take k ts)

take_front : (k : ℕ) (front more : List Placed) → length front ≡ k → take k (tokens (front ++ more)) ≡ tokens front
take_front k front more e = ap (take k) (tokens_append front more) ∙ take_at (tokens front) (tokens more) k (length_tokens front ∙ e)

-- at the end, or before it
order : (n len : ℕ) → n ≤ len → (n ≡ len) ⊎ (n < len)
order n len h = elim (nat_le len n) as (λ b. nat_le len n ≡ b → (n ≡ len) ⊎ (n < len)) [
  | true ↦ λ e. let most : len ≤ n = leb-true len n e in inl (omega arith)
  | false ↦ λ e. inr (leb-false len n e)
] refl

either_end : {n len : ℕ} (Q : Type 0) → (n ≡ len) ⊎ (n < len) → (n < len → Q) → (n ≡ len) ⊎ Q
either_end Q (inl e) f = inl e
either_end Q (inr l) f = inr (f l)

-- tokens that can be read to a place don't begin a phrase there after
not_further : (P : ℕ → Type 0) (n len : ℕ) → (n ≡ len) ⊎ ¬ P (n + 1) → n < len → ¬ P (n + 1)
not_further P n len (inl e) l p = omega arith
not_further P n len (inr none) l p = none p

-- placed tokens around one that is too deep, where these are all
sinks_all : (k : ℕ) (front above : List Placed) (last : Placed) → front ≡ above ++ last ∷ [] → length front ≡ k + 1 → length above ≡ k
sinks_all k front above last e h = omega (arith, ap length e, length-append above (last ∷ []))

-- the token after some is too deep
sinks_first : (k : ℕ) (ts above : List Placed) (last : Placed) → take (k + 1) ts ≡ above ++ last ∷ [] → length above ≡ k → IsShallow above
    → most_depth < last.depth → SinksAt ts k
sinks_first k ts above last e n shallow low =
    let split : above ++ last ∷ drop (k + 1) ts ≡ ts =
    sym (append_assoc above (last ∷ []) (drop (k + 1) ts)) ∙ (ap (λ us. us ++ drop (k + 1) ts) (sym e) ∙ take-append-drop (k + 1) ts) in
    subst (λ us. SinksAt us k) split
    (subst (SinksAt (above ++ last ∷ drop (k + 1) ts)) n (sinks_behind above last (drop (k + 1) ts) shallow low))

sinks_last : (k : ℕ) (ts : List Placed) (s : Sunk ts k) → take (k + 1) ts ≡ s.above ++ s.last ∷ []
sinks_last k ts s =
    ap (take (k + 1)) (s.are ∙ sym (append_assoc s.above (s.last ∷ []) s.more))
    ∙ take_at (s.above ++ s.last ∷ []) s.more (k + 1) (omega (arith, length-append s.above (s.last ∷ []), s.count))

no_more : {A : Type 0} (ts : List A) → length ts ≡ 0 → ts ≡ []
no_more [] e = refl
no_more (t ∷ ts) e = absurd (omega (arith, e))

none_left : (m : Parsed) (v : Value) (rest : List Token) → m ≡ read v rest → length rest ≡ 0 → m ≡ read v []
none_left m v rest e n = e ∙ ap (read v) (no_more rest n)

not_at_end : (k len : ℕ) (Q : Type 0) → k ≡ len → (k < len) ⊎ Q → Q
not_at_end k len Q e (inl l) = absurd (omega (arith, e, l))
not_at_end k len Q e (inr q) = q

took_same : (v w : Value) → Took v [] ≡ Took w [] → v ≡ w
took_same v w e = cc

module _ {Tree : Type 0} (Phrase : List Placed → Tree → Type 0) (plan : Plan) (tree : Value → Tree)
    (complete : (ts : List Placed) (a : Tree) → Phrase ts a
    → (v : Value) × (tree v ≡ a) × (run (tokens ts) plan ≡ puts ts (Took v [])))
    (sound : (ts : List Token) → Explained (λ ts v. Phrase ts (tree v)) (run ts plan)) where
  -- what the plan takes of the tokens
  abbrev pub placed : List Token → List Placed
  placed ts = placed_of (run ts plan)

  placed_whole : (p : List Placed) (a : Tree) → Phrase p a → placed (tokens p) ≡ p
  placed_whole p a x = let c = complete p a x in ap placed_of c.2 ∙ placed_puts p c.0 []

  end_whole : (p : List Placed) (a : Tree) (x : Phrase p a) → end_of (run (tokens p) plan) ≡ Took (complete p a x).0 []
  end_whole p a x = let c = complete p a x in ap end_of c.2 ∙ end_puts p c.0 []

  pub once : ReadsOnce Phrase
  once p q a b e x y =
      let same : Took (complete p a x).0 [] ≡ Took (complete q b y).0 [] =
      sym (end_whole p a x) ∙ (ap (λ ts. end_of (run ts plan)) e ∙ end_whole q b y) in (
        sym (placed_whole p a x) ∙ (ap placed e ∙ placed_whole q b y),
        sym (complete p a x).1 ∙ (ap tree (took_same (complete p a x).0 (complete q b y).0 same) ∙ (complete q b y).1),
      )

  pub by_front : DepthByFront Phrase
  by_front p q a b n x y e =
      sym (ap (take n) (placed_whole p a x)) ∙ (run_same n (tokens p) (tokens q) plan e ∙ ap (take n) (placed_whole q b y))

  -- what begins a phrase is taken
  front_taken : (k : ℕ) (front more : List Placed) (a : Tree) (ts : List Token) → k ≤ length ts → tokens front ≡ take k ts
      → Phrase (front ++ more) a → take k (placed ts) ≡ front
  front_taken k front more a ts h e x =
      let n : length front ≡ k = front_length k front ts h e in
      run_same k ts (tokens (front ++ more)) plan (sym e ∙ sym (take_front k front more n))
      ∙ (ap (take k) (placed_whole (front ++ more) a x) ∙ take_at front more k n)

  front_within : (k : ℕ) (ts : List Token) → k ≤ length ts → IsFront Phrase (take k ts) → k ≤ length (placed ts)
  front_within k ts h f =
      let e : take k (placed ts) ≡ f.0 = front_taken k f.0 f.2.0 f.2.1 ts h f.1 f.2.2 in
      let n : length f.0 ≡ k = front_length k f.0 ts h f.1 in
      omega (arith, ap length e, length-take k (placed ts))

  took_all : (ts : List Token) → tokens (placed ts) ++ remaining (end_of (run ts plan)) ≡ ts
  took_all ts = took_and_left (run ts plan) ∙ remaining_run ts plan

  took_length : (ts : List Token) → length (placed ts) + length (remaining (end_of (run ts plan))) ≡ length ts
  took_length ts =
      omega (arith, ap length (took_all ts), length-append (tokens (placed ts)) (remaining (end_of (run ts plan))), length_tokens (placed ts))

  took_front : (ts : List Token) → tokens (placed ts) ≡ take (length (placed ts)) ts
  took_front ts =
      sym (take_at (tokens (placed ts)) (remaining (end_of (run ts plan))) (length (placed ts)) (length_tokens (placed ts)))
      ∙ ap (take (length (placed ts))) (took_all ts)

  took_begins : (ts : List Token) → Begins Phrase (placed ts)
  took_begins ts = let b = explained_begins (λ us v. Phrase us (tree v)) (run ts plan) (sound ts) in (b.0, tree b.1, b.2)

  pub reads_to : (ts : List Token) → ReadsTo Phrase ts (length (placed ts))
  reads_to ts =
      let within : length (placed ts) ≤ length ts = omega (arith, took_length ts) in
      record {
        within = within;
        front = (placed ts, took_front ts, took_begins ts);
        ends = either_end (¬ IsFront Phrase (take (length (placed ts) + 1) ts)) (order (length (placed ts)) (length ts) within)
            (λ h f. let more : length (placed ts) + 1 ≤ length (placed ts) = front_within (length (placed ts) + 1) ts (omega arith) f in
            omega arith);
      }

  -- a prefix of what begins a phrase begins it
  begins_first : (k : ℕ) (front : List Placed) → Begins Phrase front → Begins Phrase (take k front)
  begins_first k front b = (
    drop k front ++ b.0,
    b.1,
    subst (λ ts. Phrase ts b.1) (ap (λ ts. ts ++ b.0) (sym (take-append-drop k front)) ∙ append_assoc (take k front) (drop k front) b.0) b.2,
  )

  tokens_first : (k : ℕ) (ts : List Token) → k ≤ length (placed ts) → tokens (take k (placed ts)) ≡ take k ts
  tokens_first k ts h =
      tokens_take k (placed ts) ∙ (ap (take k) (took_front ts) ∙ take-take k (length (placed ts)) ts h)

  front_first : (k : ℕ) (ts : List Token) → k ≤ length (placed ts) → IsFront Phrase (take k ts)
  front_first k ts h = (take k (placed ts), tokens_first k ts h, begins_first k (placed ts) (took_begins ts))

  -- tokens can be read as far as the plan takes them
  furthest : (n : ℕ) (ts : List Token) → ReadsTo Phrase ts n → n ≡ length (placed ts)
  furthest n ts r =
      let low : n ≤ length (placed ts) = front_within n ts r.within r.front in
      let most : length (placed ts) ≤ length ts = (reads_to ts).within in
      let high : ¬ (n < length (placed ts)) =
      λ l. not_further (λ k. IsFront Phrase (take k ts)) n (length ts) r.ends (omega arith) (front_first (n + 1) ts (omega arith)) in
      omega arith

  -- what the plan gives says where its trace was cut
  answer : (ts : List Token) (m : Parsed) → parsed plan ts ≡ m → IsCut (run ts plan) m
  unfolding parsed
  answer ts m e = subst (IsCut (run ts plan)) e (was_cut (run ts plan))

  deep_placed : (k : ℕ) (ts : List Token) → TooDeepAt Phrase ts k → SinksAt (placed ts) k
  deep_placed k ts d =
      let s = d.4 in
      let within : k + 1 ≤ length ts = omega (arith, d.0) in
      let same : take (k + 1) (placed ts) ≡ d.1 = front_taken (k + 1) d.1 d.3.0 d.3.1 ts within d.2 d.3.2 in
      let n : length d.1 ≡ k + 1 = front_length (k + 1) d.1 ts within d.2 in
      sinks_first k (placed ts) s.above s.last (same ∙ s.are) (sinks_all k d.1 s.above s.last s.are n) s.shallow s.deep

  placed_deep : (k : ℕ) (ts : List Token) → SinksAt (placed ts) k → TooDeepAt Phrase ts k
  placed_deep k ts a =
      let s = sunk (placed ts) k a in
      let within : k + 1 ≤ length (placed ts) = omega (arith, sinks_within (placed ts) k a) in (
        omega (arith, within, took_length ts),
        take (k + 1) (placed ts),
        tokens_first (k + 1) ts within,
        begins_first (k + 1) (placed ts) (took_begins ts),
        record { above = s.above; last = s.last; are = sinks_last k (placed ts) s; shallow = s.shallow; deep = s.low },
      )

  took_phrase : (ts : List Token) (v : Value) (rest : List Token) → end_of (run ts plan) ≡ Took v rest → Phrase (placed ts) (tree v)
  took_phrase ts v rest e = explained_is (λ us x. Phrase us (tree x)) (run ts plan) v rest (sound ts) e

  -- where nothing fits, the tokens before aren't a phrase: the plan would have gone on after it
  tokens_before : (ts rest : List Token) (p : List Placed) → end_of (run ts plan) ≡ Dead rest → tokens p ≡ take (length (placed ts)) ts
      → tokens p ++ rest ≡ ts
  tokens_before ts rest p d e =
      ap (λ us. us ++ rest) (e ∙ sym (took_front ts))
      ∙ (ap (λ tr. tokens (placed ts) ++ remaining tr) (sym d) ∙ took_all ts)

  dead_not_whole : (ts rest : List Token) → end_of (run ts plan) ≡ Dead rest → ¬ IsWhole Phrase (take (length (placed ts)) ts)
  dead_not_whole ts [] d w =
      let same : ts ≡ tokens w.0 = sym (tokens_before ts [] w.0 d w.2) ∙ append-nil (tokens w.0) in
      let read_ : end_of (run (tokens w.0) plan) ≡ Took (complete w.0 w.1 w.3).0 [] = end_whole w.0 w.1 w.3 in
      let dead : end_of (run (tokens w.0) plan) ≡ Dead [] = subst (λ us. end_of (run us plan) ≡ Dead []) same d in
      absurd (cc)
  dead_not_whole ts (u ∷ us) d w =
      run_lives (tokens w.0) u us plan (complete w.0 w.1 w.3).0 (end_whole w.0 w.1 w.3)
      (subst (λ l. end_of (run l plan) ≡ Dead (u ∷ us)) (sym (tokens_before ts (u ∷ us) w.0 d w.2)) d)

  -- what was read
  pub read_is : (ts : List Token) {v : Value} {rest : List Token} → parsed plan ts ≡ read v rest
      → (n : ℕ) × ReadsTo Phrase ts n × Reads Phrase (take n ts) (tree v) × (n + length rest ≡ length ts)
  read_is ts {v} {rest} e =
      let c = answer ts (read v rest) e in (
        length (placed ts),
        reads_to ts,
        record { placed = placed ts; are = took_front ts; phrase = took_phrase ts v rest c.1; shallow = c.0 },
        omega (arith, took_length ts, ap (λ tr. length (remaining tr)) c.1),
      )

  -- where nothing fits
  pub stuck_is : (ts : List Token) {left : ℕ} → parsed plan ts ≡ stuck left
      → (k : ℕ) × FaultBefore Phrase ts k × (k + left ≡ length ts) × ((j : ℕ) → TooDeepAt Phrase ts j → k ≤ j)
  stuck_is ts {left} e =
      let c = answer ts (stuck left) e in (
        length (placed ts),
        (reads_to ts, dead_not_whole ts c.0 c.2),
        omega (arith, took_length ts, ap (λ tr. length (remaining tr)) c.2, c.3),
        λ j d. absurd (shallow_not_sinks (placed ts) j c.1 (deep_placed j ts d)),
      )

  -- where the first token is that is too deep
  pub deep_is : (ts : List Token) {left : ℕ} → parsed plan ts ≡ deep left
      → (k : ℕ) × TooDeepAt Phrase ts k × (k + left ≡ length ts) × ((j : ℕ) → FaultBefore Phrase ts j → k ≤ j)
  deep_is ts {left} e =
      let c = answer ts (deep left) e in (
        c.0,
        placed_deep c.0 ts c.1,
        omega (arith, c.2, ap length (remaining_run ts plan)),
        λ j f. omega (arith, sinks_within (placed ts) c.0 c.1, furthest j ts f.0),
      )

  -- and the other way: what can be read is read
  whole_placed : (ts : List Token) (n : ℕ) (a : Tree) → ReadsTo Phrase ts n → (r : Reads Phrase (take n ts) a) → placed ts ≡ r.placed
  whole_placed ts n a to r =
      sym (take_all n (placed ts) (omega (arith, furthest n ts to)))
      ∙ front_taken n r.placed [] a ts to.within r.are (subst (λ us. Phrase us a) (sym (append-nil r.placed)) r.phrase)

  abbrev pub IsRead : List Token → ℕ → Tree → Parsed → Type 0
  IsRead ts n a m = (v : Value) × (rest : List Token) × (m ≡ read v rest) × (tree v ≡ a) × (n + length rest ≡ length ts)

  read_by : (ts : List Token) (n : ℕ) (a : Tree) → ReadsTo Phrase ts n → Reads Phrase (take n ts) a → (m : Parsed) → parsed plan ts ≡ m
      → IsRead ts n a m
  read_by ts n a to r (read v rest) e =
      let c = answer ts (read v rest) e in
      let is : Phrase (placed ts) a = subst (λ us. Phrase us a) (sym (whole_placed ts n a to r)) r.phrase in (
        v,
        rest,
        refl,
        (once (placed ts) (placed ts) (tree v) a refl (took_phrase ts v rest c.1) is).1,
        omega (arith, furthest n ts to, took_length ts, ap (λ tr. length (remaining tr)) c.1),
      )
  read_by ts n a to r (stuck left) e =
      let c = answer ts (stuck left) e in
      absurd (dead_not_whole ts c.0 c.2
      (r.placed, a, r.are ∙ ap (λ k. take k ts) (furthest n ts to), r.phrase))
  read_by ts n a to r (deep left) e =
      let c = answer ts (deep left) e in
      absurd (shallow_not_sinks (placed ts) c.0 (subst IsShallow (sym (whole_placed ts n a to r)) r.shallow) c.1)

  pub read_of : (ts : List Token) (n : ℕ) (a : Tree) → ReadsTo Phrase ts n → Reads Phrase (take n ts) a → IsRead ts n a (parsed plan ts)
  read_of ts n a to r = read_by ts n a to r (parsed plan ts) refl

  -- where nothing fits, it says so
  stuck_by : (ts : List Token) (k : ℕ) → FaultBefore Phrase ts k → ((j : ℕ) → TooDeepAt Phrase ts j → k ≤ j) → (m : Parsed)
      → parsed plan ts ≡ m → (left : ℕ) × (m ≡ stuck left) × (k + left ≡ length ts)
  stuck_by ts k f least (read v rest) e =
      let r = read_is ts e in
      let same : r.0 ≡ k = furthest r.0 ts r.1 ∙ sym (furthest k ts f.0) in
      absurd (f.1 (subst (λ n. IsWhole Phrase (take n ts)) same (r.2.placed, tree v, r.2.are, r.2.phrase)))
  stuck_by ts k f least (stuck left) e =
      let s = stuck_is ts e in
      (left, refl, omega (arith, furthest s.0 ts s.1.0, furthest k ts f.0, s.2))
  stuck_by ts k f least (deep left) e =
      let d = deep_is ts e in
      absurd (omega (arith, least d.0 d.1, sinks_within (placed ts) d.0 (deep_placed d.0 ts d.1), furthest k ts f.0))

  pub stuck_of : (ts : List Token) (k : ℕ) → FaultBefore Phrase ts k → ((j : ℕ) → TooDeepAt Phrase ts j → k ≤ j)
      → (left : ℕ) × (parsed plan ts ≡ stuck left) × (k + left ≡ length ts)
  stuck_of ts k f least = stuck_by ts k f least (parsed plan ts) refl

  -- and where a token is too deep
  deep_by : (ts : List Token) (k : ℕ) → TooDeepAt Phrase ts k → (m : Parsed) → parsed plan ts ≡ m
      → (left : ℕ) × (m ≡ deep left) × (k + left ≡ length ts)
  deep_by ts k d (read v rest) e =
      absurd (shallow_not_sinks (placed ts) k (answer ts (read v rest) e).0 (deep_placed k ts d))
  deep_by ts k d (stuck left) e =
      absurd (shallow_not_sinks (placed ts) k (answer ts (stuck left) e).1 (deep_placed k ts d))
  deep_by ts k d (deep left) e =
      let c = answer ts (deep left) e in
      (left, refl, omega (arith, sinks_once (placed ts) c.0 k c.1 (deep_placed k ts d), c.2, ap length (remaining_run ts plan)))

  pub deep_of : (ts : List Token) (k : ℕ) → TooDeepAt Phrase ts k → (left : ℕ) × (parsed plan ts ≡ deep left) × (k + left ≡ length ts)
  deep_of ts k d = deep_by ts k d (parsed plan ts) refl

  -- where all tokens are to be a phrase
  pub whole_is : (ts : List Token) {v : Value} → parsed plan ts ≡ read v [] → Reads Phrase ts (tree v)
  whole_is ts {v} e =
      let r = read_is ts e in
      subst (λ us. Reads Phrase us (tree v)) (take_all r.0 ts (omega (arith, r.3))) r.2

  pub rest_is : (ts : List Token) {v : Value} {t : Token} {rest : List Token} → parsed plan ts ≡ read v (t ∷ rest)
      → (k : ℕ) × FaultAt Phrase ts k × (k + length (t ∷ rest) ≡ length ts) × ((j : ℕ) → TooDeepAt Phrase ts j → k ≤ j)
  rest_is ts {v} {t} {rest} e =
      let r = read_is ts e in
      let c = answer ts (read v (t ∷ rest)) e in
      let before : r.0 < length ts = omega (arith, r.3) in
      (r.0, (r.1, inl before), r.3, λ j d. absurd (shallow_not_sinks (placed ts) j c.0 (deep_placed j ts d)))

  -- a fault before the end, or after all tokens
  fault_before : (ts : List Token) (k : ℕ) → FaultBefore Phrase ts k → (k ≡ length ts) ⊎ (k < length ts) → FaultAt Phrase ts k
  fault_before ts k f (inl e) = (f.0, inr (λ w. f.1 (subst (IsWhole Phrase) (sym (take_all k ts (omega (arith, e)))) w)))
  fault_before ts k f (inr l) = (f.0, inl l)

  pub stuck_in_is : (ts : List Token) {left : ℕ} → parsed plan ts ≡ stuck left
      → (k : ℕ) × FaultAt Phrase ts k × (k + left ≡ length ts) × ((j : ℕ) → TooDeepAt Phrase ts j → k ≤ j)
  stuck_in_is ts e =
      let s = stuck_is ts e in
      (s.0, fault_before ts s.0 s.1 (order s.0 (length ts) s.1.0.within), s.2, s.3)

  pub deep_in_is : (ts : List Token) {left : ℕ} → parsed plan ts ≡ deep left
      → (k : ℕ) × TooDeepAt Phrase ts k × (k + left ≡ length ts) × ((j : ℕ) → FaultAt Phrase ts j → k ≤ j)
  deep_in_is ts {left} e =
      let d = deep_is ts e in (
        d.0,
        d.1,
        d.2,
        λ j f. omega (arith, sinks_within (placed ts) d.0 (deep_placed d.0 ts d.1), furthest j ts f.0),
      )

  -- and the other way
  pub whole_of : (ts : List Token) (a : Tree) → Reads Phrase ts a → (v : Value) × (parsed plan ts ≡ read v []) × (tree v ≡ a)
  whole_of ts a r =
      let all : take (length ts) ts ≡ ts = take_all (length ts) ts (omega arith) in
      let phrase : Phrase (r.placed ++ []) a = subst (λ us. Phrase us a) (sym (append-nil r.placed)) r.phrase in
      let to : ReadsTo Phrase ts (length ts) = record {
        within = omega arith;
        front = (r.placed, r.are ∙ sym all, ([], a, phrase));
        ends = inl refl;
      } in
      let x = read_of ts (length ts) a to (subst (λ us. Reads Phrase us a) (sym all) r) in
      (x.0, none_left (parsed plan ts) x.0 x.1 x.2 (omega (arith, x.4)), x.3)

  -- nothing fits, or tokens are left
  abbrev pub IsFault : ℕ → Parsed → Type 0
  IsFault left m =
      (m ≡ stuck left) ⊎ ((v : Value) × (t : Token) × (rest : List Token) × (m ≡ read v (t ∷ rest)) × (length (t ∷ rest) ≡ left))

  fault_by : (ts : List Token) (k : ℕ) → FaultAt Phrase ts k → ((j : ℕ) → TooDeepAt Phrase ts j → k ≤ j) → (m : Parsed)
      → parsed plan ts ≡ m → (left : ℕ) × IsFault left m × (k + left ≡ length ts)
  fault_by ts k f least (read v []) e =
      let r = read_is ts e in
      let w = whole_is ts e in
      let at_end : k ≡ length ts = omega (arith, furthest r.0 ts r.1, furthest k ts f.0, r.3) in
      absurd (not_at_end k (length ts) (¬ IsWhole Phrase ts) at_end f.1 (w.placed, tree v, w.are, w.phrase))
  fault_by ts k f least (read v (t ∷ rest)) e =
      let r = read_is ts e in
      (length (t ∷ rest), inr (v, t, rest, refl, refl), omega (arith, furthest r.0 ts r.1, furthest k ts f.0, r.3))
  fault_by ts k f least (stuck left) e =
      let s = stuck_is ts e in
      (left, inl refl, omega (arith, furthest s.0 ts s.1.0, furthest k ts f.0, s.2))
  fault_by ts k f least (deep left) e =
      let d = deep_is ts e in
      absurd (omega (arith, least d.0 d.1, sinks_within (placed ts) d.0 (deep_placed d.0 ts d.1), furthest k ts f.0))

  pub fault_of : (ts : List Token) (k : ℕ) → FaultAt Phrase ts k → ((j : ℕ) → TooDeepAt Phrase ts j → k ≤ j)
      → (left : ℕ) × IsFault left (parsed plan ts) × (k + left ≡ length ts)
  fault_of ts k f least = fault_by ts k f least (parsed plan ts) refl
