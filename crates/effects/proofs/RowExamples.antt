-- What check-ins of the text cover, and what is in their rows.
use Rattle.std.proofs.Common.{◌≡◌, ◌↔◌, true, false, not, List, [], ◌∷◌, Some, refl, sym, subst, ap, ◌∙◌, inl, inr, arith}
use Rattle.std.specs.Prelude.{codes}
use Rattle.run_types.specs.CheckIns.{Entry}
use Rattle.run_types.specs.Skeleton.{PointKind, CheckIn, Call, Return, Begin}
use Rattle.c_semantics.specs.Skeletons.{is_check_in_kind}
use Rattle.c_semantics.specs.Store.{Mark, Start, CheckInOf}
use Rattle.effects.specs.Sites.{Site, IsKind, Passes, stays}
use Rattle.effects.specs.Nested.{Nested, IsEndingEnd}
use Rattle.effects.specs.Rows.{Covers, Edge, IsCheckIn, InPrior, InFuture, InConcrete}
use Rattle.effects.specs.Rows as rows
use Rattle.effects.proofs.Reachable.{Among}
use Rattle.effects.proofs.Deciding.{is_nested, nested_decides}
use Rattle.effects.proofs.PointLists.{followers, next_at}
use Rattle.effects.proofs.ExampleText.{body, main, bodies, m, f, next}
use Rattle.effects.proofs.Examples.{prior_f_in_f, prior_h, prior_on, at_entry_of_f, step}

-- the check-in after the call of g, the fourth of main, covers the entry of f
covers_f : Covers bodies (m 7) (f 0)
covers_f =
    rows.then (m 9) (f 0)
    (rows.then (m 8) (m 9)
    (rows.first (m 8) (rows.on (m 7) (m 8) (record { passes = refl }) (next (m 7) _ _ _ refl refl refl refl))) (record { passes = refl })
    (rows.on (m 8) (m 9) (record { passes = refl }) (next (m 8) _ _ _ refl refl refl refl)))
    (record { passes = refl })
    (rows.call (m 9) (f 0) (codes "f") (record { is_kind = refl })
    (record { is_entry = refl; is_of = record { is_of = refl } }))

abbrev after_g : Mark
after_g = CheckInOf (codes "main") 1 3

is_after_g : IsCheckIn bodies (m 7) (codes "main") 1 3
is_after_g = record {
  body = body (codes "main") main;
  stored = refl;
  function = refl;
  of_generation = refl;
  is_check_in = record { passes = refl };
  counted = refl;
}

-- so its prior set has f beside g and h, and its future set has g, which f may use
f_in_prior : InPrior bodies after_g (codes "f")
f_in_prior = record {
  site = f 0;
  covered = rows.passed (codes "main") 1 3 (m 7) (f 0) is_after_g covers_f;
  prior = prior_f_in_f;
}

h_in_prior : InPrior bodies after_g (codes "h")
h_in_prior = record {
  site = m 7;
  covered = rows.passed (codes "main") 1 3 (m 7) (m 7) is_after_g rows.itself;
  prior = prior_on (codes "h") 2 5 (omega arith) (omega arith) prior_h;
}

g_in_future : InFuture bodies after_g (codes "g")
g_in_future = record {
  site = f 0;
  covered = rows.passed (codes "main") 1 3 (m 7) (f 0) is_after_g covers_f;
  future = (at_entry_of_f.future (codes "g")).0 refl;
}

item : {A : Type 0} (a b : A) → Some a ≡ Some b → a ≡ b
item a b e = cc

no : false ≡ true → ⊥
no e = cc

-- a path ends at a check-in: the entry of main covers itself, the begin and its check-in, and no more
leads_on : (p q : Site) (k : PointKind) → IsKind bodies p k → stays k ≡ true → Edge bodies p q → Among (followers bodies p) q
leads_on _ _ k is e (rows.on p q s w) = next_at bodies p q w
leads_on _ _ k is e (rows.call c q f call at) = absurd (no (sym (ap stays (item k (Call f) (sym is.is_kind ∙ call.is_kind))) ∙ e))
leads_on _ _ k is e (rows.return r c f ret call) =
    absurd (no (sym (ap stays (item k Return (sym is.is_kind ∙ ret.is_return.is_kind))) ∙ e))

abbrev by_entry : List Site
by_entry = m 0 ∷ m 1 ∷ m 2 ∷ []

no_true : Some false ≡ Some true → ⊥
no_true e = cc

covers_of_entry : (p : Site) → Covers bodies (m 0) p → Among by_entry p
covers_of_entry _ rows.itself = inl refl
covers_of_entry _ (rows.first p e) =
    elim (leads_on (m 0) p (CheckIn Entry) (record { is_kind = refl }) refl e) [ inl s ↦ inr (inl s) | inr x ↦ absurd x ]
covers_of_entry _ (rows.then p q k pass e) = by (covers_of_entry p k)
  where
    by : Among by_entry p → Among by_entry q
    by (inl s) =
        absurd (no_true (subst (λ x. Passes bodies x (λ at. not (is_check_in_kind at.kind))) (sym s) pass).passes)
    by (inr (inl s)) =
        elim (leads_on (m 1) q Begin (record { is_kind = refl }) refl (subst (λ x. Edge bodies x q) (sym s) e)) [
          | inl t ↦ inr (inr (inl t))
          | inr x ↦ absurd x
        ]
    by (inr (inr (inl s))) =
        absurd (no_true (subst (λ x. Passes bodies x (λ at. not (is_check_in_kind at.kind))) (sym s) pass).passes)
    by (inr (inr (inr x))) = absurd x

entry_covers : (p : Site) → Among by_entry p → Covers bodies (m 0) p
entry_covers p (inl s) = subst (Covers bodies (m 0)) s rows.itself
entry_covers p (inr (inl s)) = subst (Covers bodies (m 0)) s to_begin
  where
    to_begin : Covers bodies (m 0) (m 1)
    to_begin = rows.first (m 1) (rows.on (m 0) (m 1) (record { passes = refl }) (step 0 (omega arith)).next)
entry_covers p (inr (inr (inl s))) = subst (Covers bodies (m 0)) s to_check_in
  where
    to_check_in : Covers bodies (m 0) (m 2)
    to_check_in =
        rows.then (m 1) (m 2) (rows.first (m 1) (rows.on (m 0) (m 1) (record { passes = refl }) (step 0 (omega arith)).next))
        (record { passes = refl }) (rows.on (m 1) (m 2) (record { passes = refl }) (step 1 (omega arith)).next)
entry_covers p (inr (inr (inr x))) = absurd x

covered_by_entry : (p : Site) → Covers bodies (m 0) p ↔ Among by_entry p
covered_by_entry p = (covers_of_entry p, entry_covers p)

-- a thread that starts with h has h in its concrete set, though no code of h uses it
start_of_h : InConcrete bodies (Start (codes "h")) (codes "h")
start_of_h = rows.entering (codes "h")

-- main isn't nested, so its transaction's end ends it
main_not_nested : Nested bodies (codes "main") → ⊥
main_not_nested n = never ((nested_decides bodies (codes "main")).1 n)
  where
    never : is_nested bodies (codes "main") ≡ true → ⊥
    never e = cc

end_of_main : IsEndingEnd bodies (m 12) (codes "main")
end_of_main = record { is_end = record { passes = refl }; is_of = record { is_of = refl }; not_nested = main_not_nested }
