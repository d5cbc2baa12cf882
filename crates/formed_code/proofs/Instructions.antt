-- Segments of one instruction, by where it leads.
use Rattle.std.proofs.Common.{◌≡◌, ◌≤◌, ℕ, suc, ◌+◌, Bool, true, false, [], ◌∷◌, Contains, length, Some, refl, sym, ap, subst, ◌∙◌, inl, inr}
use Rattle.std.specs.Prelude.{◌⊎◌, IsTrue}
use Rattle.c_semantics.specs.Texts.{Definitions}
use Rattle.c_semantics.specs.Stops as stop
use Rattle.bytecode.specs.Instructions.{Instruction, Jump, Halt}
use Rattle.code_kinds.specs.declared.kind.WordKind.{WordKind}
use Rattle.code_kinds.specs.Shapes.{Shape, after, leads_to}
use Rattle.code_kinds.specs.WellFormed.{Shapes, deepest}
use Rattle.formed_code.proofs.Lists.{contains_cases, contains_first, contains_later, contains_none, contains_one, never}
use Rattle.formed_code.proofs.Segments.{Edge, Extends, LeadsTo, Segment, Targets, mark, mark_only, mark_same, single}

module _ (look : Definitions) (result : WordKind) (room : ℕ) where
  -- an instruction that leads to the next one
  pub one : {r : Bool} {k : Targets} {s t : Shape} (i : Instruction) → ((p : ℕ) → leads_to p i ≡ suc p ∷ [])
      → ((shapes : Shapes) (p : ℕ) → Edge look result room shapes p i) → after look result room i s ≡ Some t → length t.stack ≤ deepest
      → Segment look result room r k (i ∷ []) s t
  one {r} {k} {s} {t} i leads edge leaves shallow =
      single look result room r k i s t t true (λ w. false) (record {
        leaves = leaves;
        shallow = shallow;
        edge = edge;
        goes = λ p q c. inl (refl, contains_one (suc p) q (subst (λ l. Contains l q) (leads p) c));
        next = λ p h. subst (λ l. Contains l (suc p)) (sym (leads p)) (contains_first (suc p) []);
        leaps = λ p w h. absurd (never h);
        real = λ w h. absurd (never h);
      }) (λ h. refl)

  -- a jump that isn't always taken
  pub fork : {r : Bool} {k : Targets} {s left : Shape} (i : Instruction) (b d : ℕ) → ((p : ℕ) → leads_to p i ≡ suc p ∷ (suc p + d) ∷ [])
      → ((shapes : Shapes) (p : ℕ) → Edge look result room shapes p i) → (k b).far ≡ d → IsTrue (k b).real → Extends left (k b).shape
      → after look result room i s ≡ Some left → length left.stack ≤ deepest → Segment look result room r k (i ∷ []) s left
  fork {r} {k} {s} {left} i b d leads edge far real extends leaves shallow =
      single look result room r k i s left left true (mark b) (record {
        leaves = leaves;
        shallow = shallow;
        edge = edge;
        goes = λ p q c. goes p q (contains_cases (suc p) q ((suc p + d) ∷ []) (subst (λ l. Contains l q) (leads p) c));
        next = λ p h. subst (λ l. Contains l (suc p)) (sym (leads p)) (contains_first (suc p) ((suc p + d) ∷ []));
        leaps = λ p w h.
            subst (λ l. Contains l (suc p + (k w).far)) (sym (leads p))
            (contains_later (suc p) (suc p + (k w).far) ((suc p + d) ∷ [])
            (subst (λ x. Contains ((suc p + d) ∷ []) x) (ap (λ x. suc p + x) (sym far ∙ ap (λ x. (k x).far) (mark_only b w h)))
            (contains_first (suc p + d) [])));
        real = λ w h. subst (λ x. IsTrue (k x).real) (mark_only b w h) real;
      }) (λ h. refl)
    where
      goes : (p q : ℕ) → (q ≡ suc p) ⊎ Contains ((suc p + d) ∷ []) q → LeadsTo look result room k true (mark b) left p q
      goes p q (inl e) = inl (refl, e)
      goes p q (inr c) = inr (b, mark_same b, extends, contains_one (suc p + d) q c ∙ ap (λ x. suc p + x) (sym far))

  -- a jump, behind which control doesn't come
  pub jump : {r : Bool} {k : Targets} {s t : Shape} (b d : ℕ) → (k b).far ≡ d → IsTrue (k b).real → Extends s (k b).shape
      → after look result room (Jump d) s ≡ Some s → length s.stack ≤ deepest → Segment look result room r k (Jump d ∷ []) s t
  jump {r} {k} {s} {t} b d far real extends leaves shallow =
      single look result room r k (Jump d) s s t false (mark b) (record {
        leaves = leaves;
        shallow = shallow;
        edge = λ shapes p. tt;
        goes = λ p q c. inr (b, mark_same b, extends, contains_one (suc p + d) q c ∙ ap (λ x. suc p + x) (sym far));
        next = λ p h. absurd (never h);
        leaps = λ p w h.
            subst (λ x. Contains ((suc p + d) ∷ []) x) (ap (λ x. suc p + x) (sym far ∙ ap (λ x. (k x).far) (mark_only b w h)))
            (contains_first (suc p + d) []);
        real = λ w h. subst (λ x. IsTrue (k x).real) (mark_only b w h) real;
      }) (λ h. absurd (never h))

  -- a return
  pub return : {r : Bool} {k : Targets} {s t : Shape} (n : ℕ) (left : Shape) → after look result room (Halt stop.Return n) s ≡ Some left
      → length left.stack ≤ deepest → Segment look result room r k (Halt stop.Return n ∷ []) s t
  return {r} {k} {s} {t} n left leaves shallow =
      single look result room r k (Halt stop.Return n) s left t false (λ w. false) (record {
        leaves = leaves;
        shallow = shallow;
        edge = λ shapes p. tt;
        goes = λ p q c. absurd (contains_none q c);
        next = λ p h. absurd (never h);
        leaps = λ p w h. absurd (never h);
        real = λ w h. absurd (never h);
      }) (λ h. absurd (never h))
