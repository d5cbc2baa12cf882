-- Where all tokens are to be a phrase that is read in one way: what is answered for them is the only answer.
use Rattle.std.specs.Prelude.{◌≡◌, ◌<◌, ◌≤◌, ◌+◌, ◌⊎◌, ℕ, List, [], ◌∷◌, ◌++◌, length, take, drop}
use Rattle.std.proofs.Common.{inl, inr, sym, ap, ◌∙◌, subst, arith, append_assoc, append-nil}
use Rattle.std.proofs.lemmas.List.{length-append, length-map, length-take-le, map-append, take-map, take-take, take_at, take_all, take-append-drop, take-append-le}
use Rattle.std.proofs.lemmas.List.Elements.{All-head, All-tail, All-take}
use Rattle.c_lexer.specs.declared.token.Token.{Token}
use Rattle.c_expr_parser.specs.Placed.{Placed, tokens}
use Rattle.c_expr_parser.specs.Readings.{most_depth, IsShallow, Sinks, Reads, Begins, IsFront, IsWhole, ReadsTo, FaultAt, TooDeepAt, DepthByFront}

pub length_tokens : (ts : List Placed) → length (tokens ts) ≡ length ts
length_tokens ts = length-map ts (λ (t : Placed). t.token)

pub tokens_append : (ts us : List Placed) → tokens (ts ++ us) ≡ tokens ts ++ tokens us
tokens_append ts us = map-append (λ (t : Placed). t.token) ts us

tokens_take : (n : ℕ) (ts : List Placed) → tokens (take n ts) ≡ take n (tokens ts)
tokens_take n ts = sym (take-map (λ (t : Placed). t.token) n ts)

-- as many tokens as their prefix has
pub front_length : (k : ℕ) (front : List Placed) (ts : List Token) → k ≤ length ts → tokens front ≡ take k ts → length front ≡ k
front_length k front ts h e = omega (arith, length_tokens front, ap length e, length-take-le k ts h)

pub take_front : (k : ℕ) (front more : List Placed) → length front ≡ k → take k (tokens (front ++ more)) ≡ tokens front
take_front k front more e = ap (take k) (tokens_append front more) ∙ take_at (tokens front) (tokens more) k (length_tokens front ∙ e)

-- tokens that can be read to a place don't begin a phrase there after
not_further : (P : ℕ → Type 0) (n len : ℕ) → (n ≡ len) ⊎ ¬ P (n + 1) → n < len → ¬ P (n + 1)
not_further P n len (inl e) l p = omega arith
not_further P n len (inr none) l p = none p

not_at_end : (k len : ℕ) (Q : Type 0) → len ≤ k → (k < len) ⊎ Q → Q
not_at_end k len Q e (inl l) = absurd (omega (arith, e, l))
not_at_end k len Q e (inr q) = q

-- what sinks isn't shallow
last_shallow : (above : List Placed) (last : Placed) → IsShallow (above ++ last ∷ []) → last.depth ≤ most_depth
last_shallow [] last s = All-head (λ t. t.depth ≤ most_depth) last [] s
last_shallow (t ∷ above) last s = last_shallow above last (All-tail (λ t. t.depth ≤ most_depth) t (above ++ last ∷ []) s)

sinks_not_shallow : (ts : List Placed) → Sinks ts → ¬ IsShallow ts
sinks_not_shallow ts s all =
    let low : s.last.depth ≤ most_depth = last_shallow s.above s.last (subst IsShallow s.are all) in
    let deep : most_depth < s.last.depth = s.deep in
    omega arith

above_length : (k : ℕ) (front : List Placed) (s : Sinks front) → length front ≡ k + 1 → length s.above ≡ k
above_length k front s e = omega (arith, ap length s.are, length-append s.above (s.last ∷ []))

module _ {Tree : Type 0} (Phrase : List Placed → Tree → Type 0) where
  -- a prefix of what begins a phrase begins it
  begins_first : (k : ℕ) (front : List Placed) → Begins Phrase front → Begins Phrase (take k front)
  begins_first k front b = (
    drop k front ++ b.0,
    b.1,
    subst (λ ts. Phrase ts b.1) (ap (λ ts. ts ++ b.0) (sym (take-append-drop k front)) ∙ append_assoc (take k front) (drop k front) b.0) b.2,
  )

  front_first : (j k : ℕ) (ts : List Token) → j ≤ k → IsFront Phrase (take k ts) → IsFront Phrase (take j ts)
  front_first j k ts h f =
      (take j f.0, tokens_take j f.0 ∙ (ap (take j) f.1 ∙ take-take j k ts h), begins_first j f.0 f.2)

  -- tokens that begin a phrase go no further than they can be read
  no_further : (ts : List Token) (j k : ℕ) → ReadsTo Phrase ts j → k ≤ length ts → IsFront Phrase (take k ts) → k ≤ j
  no_further ts j k r h f =
      let not_less : ¬ (j < k) =
      λ l. not_further (λ n. IsFront Phrase (take n ts)) j (length ts) r.ends (omega arith) (front_first (j + 1) k ts (omega arith) f) in
      omega arith

  whole_front : (ts : List Token) (a : Tree) → Reads Phrase ts a → IsFront Phrase (take (length ts) ts)
  whole_front ts a r = (
    r.placed,
    r.are ∙ sym (take_all (length ts) ts (omega arith)),
    ([], a, subst (λ us. Phrase us a) (sym (append-nil r.placed)) r.phrase),
  )

  -- what is read has no fault of syntax
  pub read_no_fault : (ts : List Token) (a : Tree) (k : ℕ) → Reads Phrase ts a → ¬ FaultAt Phrase ts k
  read_no_fault ts a k r f =
      let all : length ts ≤ k = no_further ts k (length ts) f.0 (omega arith) (whole_front ts a r) in
      not_at_end k (length ts) (¬ IsWhole Phrase ts) all f.1 (r.placed, a, r.are, r.phrase)

  -- there is one fault of syntax at most
  pub one_fault : (ts : List Token) (j k : ℕ) → FaultAt Phrase ts j → FaultAt Phrase ts k → j ≡ k
  one_fault ts j k f g =
      let low : j ≤ k = no_further ts k j g.0 f.0.within f.0.front in
      let high : k ≤ j = no_further ts j k f.0 g.0.within g.0.front in
      omega arith

  -- a token that is too deep comes before a fault of syntax: up to it the tokens begin a phrase
  pub deep_before_fault : (ts : List Token) (j k : ℕ) → TooDeepAt Phrase ts j → FaultAt Phrase ts k → j < k
  deep_before_fault ts j k d f =
      let far : j + 1 ≤ k = no_further ts k (j + 1) f.0 (omega (arith, d.0)) (d.1, d.2, d.3) in
      omega arith

  pub not_both : (ts : List Token) (k : ℕ) → FaultAt Phrase ts k → ¬ TooDeepAt Phrase ts k
  not_both ts k f d = let before : k < k = deep_before_fault ts k k d f in omega arith

  module _ (by_front : DepthByFront Phrase) where
    -- the tokens up to one that is too deep stand so in each phrase that begins with them
    deep_in : (ts : List Token) (k : ℕ) (d : TooDeepAt Phrase ts k) (p : List Placed) (a : Tree) → Phrase p a
        → take (k + 1) (tokens p) ≡ take (k + 1) ts → take (k + 1) p ≡ d.1
    deep_in ts k d p a x e =
        let n : length d.1 ≡ k + 1 = front_length (k + 1) d.1 ts (omega (arith, d.0)) d.2 in
        by_front p (d.1 ++ d.3.0) a d.3.1 (k + 1) x d.3.2 (e ∙ sym (take_front (k + 1) d.1 d.3.0 n ∙ d.2))
        ∙ take_at d.1 d.3.0 (k + 1) n

    -- what is read has no token that is too deep
    pub read_not_deep : (ts : List Token) (a : Tree) (k : ℕ) → Reads Phrase ts a → ¬ TooDeepAt Phrase ts k
    read_not_deep ts a k r d =
        sinks_not_shallow d.1 d.4
        (subst IsShallow (deep_in ts k d r.placed a r.phrase (ap (take (k + 1)) r.are))
        (All-take (λ t. t.depth ≤ most_depth) (k + 1) r.placed r.shallow))

    -- nor have the first tokens, if they begin a phrase and none is too deep there
    pub deep_behind : (ts : List Token) (k : ℕ) (front : List Placed) → k ≤ length ts → tokens front ≡ take k ts → Begins Phrase front
        → IsShallow front → (j : ℕ) → TooDeepAt Phrase ts j → k ≤ j
    deep_behind ts k front h e b shallow j d =
        let n : length front ≡ k = front_length k front ts h e in
        let not_less : ¬ (j < k) = λ l.
        let tokens_same : take (j + 1) (tokens (front ++ b.0)) ≡ take (j + 1) ts =
        sym (take-take (j + 1) k (tokens (front ++ b.0)) (omega arith))
        ∙ (ap (take (j + 1)) (take_front k front b.0 n ∙ e) ∙ take-take (j + 1) k ts (omega arith)) in
        let same : take (j + 1) front ≡ d.1 =
        sym (take-append-le (j + 1) front b.0 (omega arith)) ∙ deep_in ts j d (front ++ b.0) b.1 b.2 tokens_same in
        sinks_not_shallow d.1 d.4 (subst IsShallow same (All-take (λ t. t.depth ≤ most_depth) (j + 1) front shallow)) in
        omega arith

    above_first : (ts : List Token) (k : ℕ) → TooDeepAt Phrase ts k → (j : ℕ) → TooDeepAt Phrase ts j → k ≤ j
    above_first ts k d =
        let s = d.4 in
        let n : length s.above ≡ k = above_length k d.1 s (front_length (k + 1) d.1 ts (omega (arith, d.0)) d.2) in
        let all : tokens s.above ++ (s.last.token ∷ []) ≡ take (k + 1) ts =
        sym (tokens_append s.above (s.last ∷ [])) ∙ (ap tokens (sym s.are) ∙ d.2) in
        let are : tokens s.above ≡ take k ts =
        sym (take_at (tokens s.above) (s.last.token ∷ []) k (length_tokens s.above ∙ n)) ∙ (ap (take k) all ∙ take-take k (k + 1) ts (omega arith)) in
        let begins : Begins Phrase s.above = (
          s.last ∷ d.3.0,
          d.3.1,
          subst (λ us. Phrase us d.3.1) (ap (λ us. us ++ d.3.0) s.are ∙ append_assoc s.above (s.last ∷ []) d.3.0) d.3.2,
        ) in
        deep_behind ts k s.above (omega (arith, d.0)) are begins s.shallow

    -- there is one first token that is too deep at most
    pub one_deep : (ts : List Token) (j k : ℕ) → TooDeepAt Phrase ts j → TooDeepAt Phrase ts k → j ≡ k
    one_deep ts j k a b = omega (arith, above_first ts j a k b, above_first ts k b j a)
