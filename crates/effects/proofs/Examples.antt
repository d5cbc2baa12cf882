-- The effects of the text at its check-ins: what is in them, and that there is no more.
use Rattle.std.proofs.Common.{◌≡◌, ◌↔◌, ℕ, zero, suc, ◌+◌, ◌-◌, ◌<◌, ◌≤◌, true, List, [], ◌∷◌, refl, sym, subst, inl, inr, arith}
use Rattle.std.specs.Prelude.{IsTrue, bytes_eq, slice_index_or, if◌then◌else◌, codes}
use Rattle.name_sets.specs.NameLists.{is_among}
use Rattle.con_freeness.specs.Rows.{Names}
use Rattle.c_tree.specs.BareExpr.{Bytes}
use Rattle.effects.specs.Sites.{Site, IsEntry, Next}
use Rattle.effects.specs.Standard.{Standard}
use Rattle.effects.specs.Standard as standard
use Rattle.effects.specs.Nested.{Nested, Inside, IsEndingEnd, GoesOn}
use Rattle.effects.specs.Nested as nested
use Rattle.effects.specs.Contextual.{Prior, Future}
use Rattle.effects.specs.Contextual as contextual
use Rattle.effects.specs.Concrete.{Concrete}
use Rattle.effects.specs.Concrete as concrete
use Rattle.effects.proofs.OneRow.{cases_of}
use Rattle.effects.proofs.Tables.{Table, Passed, prior_in, future_in, concrete_in}
use Rattle.effects.proofs.ExampleText.{bodies, m, h, f, g, next, nested_h, nested_g, nested_f, standard_f, goes_on}

-- the names that these points may have, by body and point
abbrev rows_of : List (List Names) → Site → Names
rows_of rows p = slice_index_or (slice_index_or rows p.body []) p.point []

abbrev as_h : Names
as_h = codes "h" ∷ []

abbrev as_g : Names
as_g = codes "g" ∷ []

abbrev as_f : Names
as_f = codes "f" ∷ []

abbrev as_f_g : Names
as_f_g = codes "f" ∷ codes "g" ∷ []

abbrev as_g_h : Names
as_g_h = codes "g" ∷ codes "h" ∷ []

abbrev as_f_g_h : Names
as_f_g_h = codes "f" ∷ codes "g" ∷ codes "h" ∷ []

abbrev table : Table
table = record {
  nested = is_among as_f_g_h;
  standard = λ f. if bytes_eq f (codes "f") then as_g else (if bytes_eq f (codes "main") then as_f_g_h else []);
  prior = rows_of
      ((as_h ∷ as_h ∷ [] ∷ []) ∷ (as_f_g_h ∷ as_f_g_h ∷ [] ∷ [])
      ∷ (as_f_g_h ∷ as_f_g_h ∷ as_f_g_h ∷ as_f_g_h ∷ [] ∷ [])
      ∷ ([] ∷ [] ∷ [] ∷ [] ∷ [] ∷ as_h ∷ as_h ∷ as_g_h ∷ as_g_h ∷ as_g_h ∷ as_f_g_h ∷ as_f_g_h ∷ as_f_g_h ∷ []) ∷ []);
  future = rows_of
      ((as_f_g ∷ as_f_g ∷ as_f_g ∷ []) ∷ (as_f_g ∷ as_f_g ∷ as_f_g ∷ []) ∷ (as_g ∷ as_g ∷ [])
      ∷ (as_f_g_h ∷ as_f_g_h ∷ as_f_g_h ∷ as_f_g_h ∷ as_f_g_h ∷ as_f_g ∷ as_f_g ∷ as_f_g ∷ as_f_g ∷ as_f_g ∷ []) ∷ []);
  concrete = rows_of
      ((as_f_g ∷ as_f_g ∷ as_f_g ∷ []) ∷ (as_f ∷ as_f ∷ as_f ∷ []) ∷ (as_g ∷ as_g ∷ [])
      ∷ (as_f_g_h ∷ as_f_g_h ∷ as_f_g_h ∷ as_f_g_h ∷ as_f_g_h ∷ as_f_g ∷ as_f_g ∷ as_f ∷ as_f ∷ as_f ∷ []) ∷ []);
}

passed : Passed bodies table
passed = record {
  nested = refl;
  standard = refl;
  before = refl;
  entries = refl;
  future = refl;
  future_returns = refl;
  concrete = refl;
  concrete_returns = refl;
}

-- the names of a family are exactly those of a list
abbrev pub Exactly : (Bytes → Type 0) → Names → Type 0
Exactly In names = (z : Bytes) → IsTrue (is_among names z) ↔ In z

-- each name of a list is one of a family
abbrev Each : (Bytes → Type 0) → Names → Type 0
Each In [] = Unit {0}
Each In (n ∷ names) = In n × Each In names

each_is_in : (In : Bytes → Type 0) (names : Names) (z : Bytes) → Each In names → is_among names z ≡ true → In z
each_is_in In [] z x e = cc
each_is_in In (n ∷ names) z x e =
    elim (cases_of z n names e) [ inl same ↦ subst In (sym same) x.0 | inr f ↦ each_is_in In names z x.1 f ]

-- the effects of a point, exactly
pub record Effects (p : Site) (before later direct : Names) : Type 0 where
  pub prior : Exactly (Prior bodies p) before
  pub future : Exactly (Future bodies p) later
  pub concrete : Exactly (Concrete bodies p) direct

-- the table has all names, so those of a point are exactly its own if each of them is in the effect
effects : (p : Site) → Each (Prior bodies p) (table.prior p) → Each (Future bodies p) (table.future p)
    → Each (Concrete bodies p) (table.concrete p) → Effects p (table.prior p) (table.future p) (table.concrete p)
effects p a b c = record {
  prior = λ z. (each_is_in (Prior bodies p) (table.prior p) z a, prior_in bodies table passed p z);
  future = λ z. (each_is_in (Future bodies p) (table.future p) z b, future_in bodies table passed p z);
  concrete = λ z. (each_is_in (Concrete bodies p) (table.concrete p) z c, concrete_in bodies table passed p z);
}

-- main goes on from point to point until its transaction ends, and it is inside from the check-in of the begin on
pub record Step (n : ℕ) : Type 0 where
  pub on : GoesOn bodies (m n)
  pub next : Next bodies (m n) (m (suc n))

-- what holds of some numbers from one on, shown for one after the other
abbrev FromOn : (ℕ → Type 0) → ℕ → ℕ → Type 0
FromOn P n zero = Unit {0}
FromOn P n (suc k) = P n × FromOn P (suc n) k

at_number : (P : ℕ → Type 0) (n k i : ℕ) → FromOn P n k → i < k → P (n + i)
at_number P n zero i x l = absurd (none l)
  where
    none : i < zero → ⊥
    none l = omega arith
at_number P n (suc k) zero x l = subst P (omega arith) x.0
at_number P n (suc k) (suc i) x l = subst P (omega arith) (at_number P (suc n) k i x.1 (omega arith))

steps : FromOn Step 0 12
steps = (
  record { on = goes_on (m 0) refl; next = next (m 0) _ _ _ refl refl refl refl },
  (
    record { on = goes_on (m 1) refl; next = next (m 1) _ _ _ refl refl refl refl },
    (
      record { on = goes_on (m 2) refl; next = next (m 2) _ _ _ refl refl refl refl },
      (
        record { on = goes_on (m 3) refl; next = next (m 3) _ _ _ refl refl refl refl },
        (
          record { on = goes_on (m 4) refl; next = next (m 4) _ _ _ refl refl refl refl },
          (
            record { on = goes_on (m 5) refl; next = next (m 5) _ _ _ refl refl refl refl },
            (
              record { on = goes_on (m 6) refl; next = next (m 6) _ _ _ refl refl refl refl },
              (
                record { on = goes_on (m 7) refl; next = next (m 7) _ _ _ refl refl refl refl },
                (
                  record { on = goes_on (m 8) refl; next = next (m 8) _ _ _ refl refl refl refl },
                  (
                    record { on = goes_on (m 9) refl; next = next (m 9) _ _ _ refl refl refl refl },
                    (
                      record { on = goes_on (m 10) refl; next = next (m 10) _ _ _ refl refl refl refl },
                      (
                        record { on = goes_on (m 11) refl; next = next (m 11) _ _ _ refl refl refl refl },
                        tt,
                      ),
                    ),
                  ),
                ),
              ),
            ),
          ),
        ),
      ),
    ),
  ),
)

pub step : (n : ℕ) → n < 12 → Step n
step n l = subst Step (omega arith) (at_number Step 0 12 n steps l)

insides : FromOn (λ n. Inside bodies (m n)) 2 11
insides = (
  nested.enclosed (m 2) (record { passes = refl }),
  (
    nested.enclosed (m 3) (record { passes = refl }),
    (
      nested.enclosed (m 4) (record { passes = refl }),
      (
        nested.enclosed (m 5) (record { passes = refl }),
        (
          nested.enclosed (m 6) (record { passes = refl }),
          (
            nested.enclosed (m 7) (record { passes = refl }),
            (
              nested.enclosed (m 8) (record { passes = refl }),
              (
                nested.enclosed (m 9) (record { passes = refl }),
                (
                  nested.enclosed (m 10) (record { passes = refl }),
                  (
                    nested.enclosed (m 11) (record { passes = refl }),
                    (
                      nested.enclosed (m 12) (record { passes = refl }),
                      tt,
                    ),
                  ),
                ),
              ),
            ),
          ),
        ),
      ),
    ),
  ),
)

inside : (n : ℕ) → 1 < n → n ≤ 12 → Inside bodies (m n)
inside n f l =
    subst (λ i. Inside bodies (m i)) (omega arith)
    (at_number (λ i. Inside bodies (m i)) 2 11 (n - 2) insides (omega arith))

-- what comes later in main may be used from there on, and what came before may have been used
future_back : (z : Bytes) (k n : ℕ) → n + k ≤ 12 → Future bodies (m (n + k)) z → Future bodies (m n) z
future_back z zero n l x = subst (λ i. Future bodies (m i) z) (omega arith) x
future_back z (suc k) n l x =
    let s = step n (omega arith) in
    contextual.Future.later (m n) (m (suc n)) z s.on s.next
    (future_back z k (suc n) (omega arith) (subst (λ i. Future bodies (m i) z) (omega arith) x))

concrete_back : (z : Bytes) (k n : ℕ) → n + k ≤ 12 → Concrete bodies (m (n + k)) z → Concrete bodies (m n) z
concrete_back z zero n l x = subst (λ i. Concrete bodies (m i) z) (omega arith) x
concrete_back z (suc k) n l x =
    concrete.later (m n) (m (suc n)) z (step n (omega arith)).next
    (concrete_back z k (suc n) (omega arith) (subst (λ i. Concrete bodies (m i) z) (omega arith) x))

pub prior_on : (z : Bytes) (k n : ℕ) → 1 ≤ n → n + k ≤ 12 → Prior bodies (m n) z → Prior bodies (m (n + k)) z
prior_on z zero n f l x = subst (λ i. Prior bodies (m i) z) (omega arith) x
prior_on z (suc k) n f l x =
    subst (λ i. Prior bodies (m i) z) (omega arith)
    (prior_on z k (suc n) (omega arith) (omega arith)
    (contextual.before (m n) (m (suc n)) z (inside (suc n) (omega arith) (omega arith)) (step n (omega arith)).next x))

-- each call of main uses its function, and after the call of f, which calls g, g may have been used too
future_h : Future bodies (m 4) (codes "h")
future_h = contextual.Future.added (m 4) (codes "h") (step 4 (omega arith)).on (standard.direct (m 4) (codes "h") (record { uses = refl }))

future_g : Future bodies (m 6) (codes "g")
future_g = contextual.Future.added (m 6) (codes "g") (step 6 (omega arith)).on (standard.direct (m 6) (codes "g") (record { uses = refl }))

future_f : Future bodies (m 9) (codes "f")
future_f = contextual.Future.added (m 9) (codes "f") (step 9 (omega arith)).on (standard.direct (m 9) (codes "f") (record { uses = refl }))

future_g_of_f : Future bodies (m 9) (codes "g")
future_g_of_f =
    contextual.Future.added (m 9) (codes "g") (step 9 (omega arith)).on
    (standard.Adds.called (m 9) (codes "f") (codes "g") (record { is_kind = refl }) standard_f)

concrete_h : Concrete bodies (m 4) (codes "h")
concrete_h = concrete.used (m 4) (codes "h") (record { uses = refl })

concrete_g : Concrete bodies (m 6) (codes "g")
concrete_g = concrete.used (m 6) (codes "g") (record { uses = refl })

concrete_f : Concrete bodies (m 9) (codes "f")
concrete_f = concrete.used (m 9) (codes "f") (record { uses = refl })

pub prior_h : Prior bodies (m 5) (codes "h")
prior_h =
    contextual.Prior.added (m 4) (m 5) (codes "h") (inside 5 (omega arith) (omega arith)) (step 4 (omega arith)).next
    (standard.direct (m 4) (codes "h") (record { uses = refl }))

prior_g : Prior bodies (m 7) (codes "g")
prior_g =
    contextual.Prior.added (m 6) (m 7) (codes "g") (inside 7 (omega arith) (omega arith)) (step 6 (omega arith)).next
    (standard.direct (m 6) (codes "g") (record { uses = refl }))

prior_f : Prior bodies (m 10) (codes "f")
prior_f =
    contextual.Prior.added (m 9) (m 10) (codes "f") (inside 10 (omega arith) (omega arith)) (step 9 (omega arith)).next
    (standard.direct (m 9) (codes "f") (record { uses = refl }))

-- h and g return into main
from_h : (z : Bytes) → Future bodies (m 5) z → Future bodies (h 0) z
from_h z x =
    contextual.Future.later (h 0) (h 1) z (goes_on (h 0) refl) (next (h 0) _ _ _ refl refl refl refl)
    (contextual.Future.returned (h 1) (m 4) (codes "h") z
    (record { is_return = record { is_kind = refl }; is_of = record { is_of = refl } }) (record { is_kind = refl }) x)

from_g : (z : Bytes) → Future bodies (m 7) z → Future bodies (g 0) z
from_g z x =
    contextual.Future.later (g 0) (g 1) z (goes_on (g 0) refl) (next (g 0) _ _ _ refl refl refl refl)
    (contextual.Future.returned (g 1) (m 6) (codes "g") z
    (record { is_return = record { is_kind = refl }; is_of = record { is_of = refl } }) (record { is_kind = refl }) x)

concrete_from_h : (z : Bytes) → Concrete bodies (m 5) z → Concrete bodies (h 0) z
concrete_from_h z x =
    concrete.later (h 0) (h 1) z (next (h 0) _ _ _ refl refl refl refl)
    (concrete.returned (h 1) (m 4) (codes "h") z
    (record { is_return = record { is_kind = refl }; is_of = record { is_of = refl } }) (record { is_kind = refl }) x)

concrete_from_g : (z : Bytes) → Concrete bodies (m 7) z → Concrete bodies (g 0) z
concrete_from_g z x =
    concrete.later (g 0) (g 1) z (next (g 0) _ _ _ refl refl refl refl)
    (concrete.returned (g 1) (m 6) (codes "g") z
    (record { is_return = record { is_kind = refl }; is_of = record { is_of = refl } }) (record { is_kind = refl }) x)

-- f calls g and may have been used itself before that; main calls f after g and h
entry_of_g : IsEntry bodies (g 0) (codes "g")
entry_of_g = record { is_entry = refl; is_of = record { is_of = refl } }

entry_of_f : IsEntry bodies (f 0) (codes "f")
entry_of_f = record { is_entry = refl; is_of = record { is_of = refl } }

in_f : (n : ℕ) → n ≤ 2 → Inside bodies (f n)
in_f zero l = nested.Inside.in_nested (f 0) (codes "f") (record { is_of = refl }) nested_f
in_f (suc zero) l = nested.Inside.in_nested (f 1) (codes "f") (record { is_of = refl }) nested_f
in_f (suc (suc zero)) l = nested.Inside.in_nested (f 2) (codes "f") (record { is_of = refl }) nested_f
in_f (suc (suc (suc n))) l = absurd (past n l)
  where
    past : (n : ℕ) → suc (suc (suc n)) ≤ 2 → ⊥
    past n l = omega arith

into_f : (z : Bytes) → Prior bodies (m 9) z → Prior bodies (f 0) z
into_f z x =
    contextual.before_call (f 0) (m 9) (codes "f") z entry_of_f nested_f (record { is_kind = refl })
    (inside 9 (omega arith) (omega arith)) x

to_call_in_f : (z : Bytes) → Prior bodies (f 0) z → Prior bodies (f 1) z
to_call_in_f z x = contextual.before (f 0) (f 1) z (in_f 1 (omega arith)) (next (f 0) _ _ _ refl refl refl refl) x

after_call_in_f : (z : Bytes) → Prior bodies (f 0) z → Prior bodies (f 2) z
after_call_in_f z x =
    contextual.before (f 1) (f 2) z (in_f 2 (omega arith)) (next (f 1) _ _ _ refl refl refl refl) (to_call_in_f z x)

pub prior_f_in_f : Prior bodies (f 0) (codes "f")
prior_f_in_f = contextual.entered (f 0) (codes "f") entry_of_f nested_f

prior_g_in_f : Prior bodies (f 0) (codes "g")
prior_g_in_f = into_f (codes "g") (prior_on (codes "g") 2 7 (omega arith) (omega arith) prior_g)

prior_h_in_f : Prior bodies (f 0) (codes "h")
prior_h_in_f = into_f (codes "h") (prior_on (codes "h") 4 5 (omega arith) (omega arith) prior_h)

into_g : (z : Bytes) → Prior bodies (f 0) z → Prior bodies (g 0) z
into_g z x =
    contextual.before_call (g 0) (f 1) (codes "g") z entry_of_g nested_g (record { is_kind = refl }) (in_f 1 (omega arith))
    (to_call_in_f z x)

-- the entries of h, of g and of f
at_entry_of_h : Effects (h 0) as_h as_f_g as_f_g
at_entry_of_h =
    effects (h 0)
    (contextual.entered (h 0) (codes "h") (record { is_entry = refl; is_of = record { is_of = refl } }) nested_h, tt) (
      from_h (codes "f") (future_back (codes "f") 4 5 (omega arith) future_f),
      (from_h (codes "g") (future_back (codes "g") 1 5 (omega arith) future_g), tt),
    ) (
      concrete_from_h (codes "f") (concrete_back (codes "f") 4 5 (omega arith) concrete_f),
      (concrete_from_h (codes "g") (concrete_back (codes "g") 1 5 (omega arith) concrete_g), tt),
    )

at_entry_of_g : Effects (g 0) as_f_g_h as_f_g as_f
at_entry_of_g =
    effects (g 0)
    (into_g (codes "f") prior_f_in_f, (into_g (codes "g") prior_g_in_f, (into_g (codes "h") prior_h_in_f, tt))) (
      from_g (codes "f") (future_back (codes "f") 2 7 (omega arith) future_f),
      (from_g (codes "g") (future_back (codes "g") 2 7 (omega arith) future_g_of_f), tt),
    )
    (concrete_from_g (codes "f") (concrete_back (codes "f") 2 7 (omega arith) concrete_f), tt)

pub at_entry_of_f : Effects (f 0) as_f_g_h as_g as_g
at_entry_of_f =
    effects (f 0) (prior_f_in_f, (prior_g_in_f, (prior_h_in_f, tt))) (
      contextual.Future.later (f 0) (f 1) (codes "g") (goes_on (f 0) refl) (next (f 0) _ _ _ refl refl refl refl)
          (contextual.Future.added (f 1) (codes "g") (goes_on (f 1) refl) (standard.direct (f 1) (codes "g") (record { uses = refl }))),
      tt,
    ) (
      concrete.later (f 0) (f 1) (codes "g") (next (f 0) _ _ _ refl refl refl refl)
          (concrete.used (f 1) (codes "g") (record { uses = refl })),
      tt,
    )

-- after the call of g in f nothing is to come, in f or in main
after_call_of_g_in_f : Effects (f 2) as_f_g_h [] []
after_call_of_g_in_f =
    effects (f 2) (
      after_call_in_f (codes "f") prior_f_in_f,
      (after_call_in_f (codes "g") prior_g_in_f, (after_call_in_f (codes "h") prior_h_in_f, tt)),
    )
    tt tt

-- the check-ins of main
at_entry_of_main : Effects (m 0) [] as_f_g_h as_f_g_h
at_entry_of_main =
    effects (m 0) tt (
      future_back (codes "f") 9 0 (omega arith) future_f,
      (future_back (codes "g") 6 0 (omega arith) future_g, (future_back (codes "h") 4 0 (omega arith) future_h, tt)),
    ) (
      concrete_back (codes "f") 9 0 (omega arith) concrete_f,
      (concrete_back (codes "g") 6 0 (omega arith) concrete_g, (concrete_back (codes "h") 4 0 (omega arith) concrete_h, tt)),
    )

after_begin : Effects (m 2) [] as_f_g_h as_f_g_h
after_begin =
    effects (m 2) tt (
      future_back (codes "f") 7 2 (omega arith) future_f,
      (future_back (codes "g") 4 2 (omega arith) future_g, (future_back (codes "h") 2 2 (omega arith) future_h, tt)),
    ) (
      concrete_back (codes "f") 7 2 (omega arith) concrete_f,
      (concrete_back (codes "g") 4 2 (omega arith) concrete_g, (concrete_back (codes "h") 2 2 (omega arith) concrete_h, tt)),
    )

after_call_of_h : Effects (m 5) as_h as_f_g as_f_g
after_call_of_h =
    effects (m 5) (prior_h, tt)
    (future_back (codes "f") 4 5 (omega arith) future_f, (future_back (codes "g") 1 5 (omega arith) future_g, tt))
    (concrete_back (codes "f") 4 5 (omega arith) concrete_f, (concrete_back (codes "g") 1 5 (omega arith) concrete_g, tt))

after_call_of_g : Effects (m 7) as_g_h as_f_g as_f
after_call_of_g =
    effects (m 7) (prior_g, (prior_on (codes "h") 2 5 (omega arith) (omega arith) prior_h, tt))
    (future_back (codes "f") 2 7 (omega arith) future_f, (future_back (codes "g") 2 7 (omega arith) future_g_of_f, tt))
    (concrete_back (codes "f") 2 7 (omega arith) concrete_f, tt)

after_call_of_f : Effects (m 10) as_f_g_h [] []
after_call_of_f =
    effects (m 10) (
      prior_f,
      (
        prior_on (codes "g") 3 7 (omega arith) (omega arith) prior_g,
        (prior_on (codes "h") 5 5 (omega arith) (omega arith) prior_h, tt),
      ),
    )
    tt tt

after_end : Effects (m 13) [] [] []
after_end = effects (m 13) tt tt tt
