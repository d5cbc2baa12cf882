-- How many variables places keep, from the last instruction on.
use Rattle.std.proofs.Common.{◌≡◌, ◌≢◌, ◌⊎◌, inl, inr, ℕ, zero, suc, ◌+◌, ◌-◌, ◌≤◌, ◌<◌, nat_eq, Bool, true, false, List, [], ◌∷◌, map, drop, length, slice_get, slice_set, Option, Some, None, if◌then◌else◌, refl, sym, ap, ◌∙◌, subst, arith, eqb-true, eq-eqb, true≢false}
use Rattle.std.specs.Option.{option_flatten}
use Rattle.std.proofs.lemmas.List.{length-map}
use Rattle.resolved_tree.specs.Nodes.{Table}
use Rattle.bytecode.specs.declared.instr.Instr.{Instr}
use Rattle.bytecode.specs.Instructions.{Instruction, Back}
use Rattle.bytecode.specs.Seen.{instruction_of, code_of}
use Rattle.code_kinds.specs.WellFormed.{kept_from}
use Rattle.code_verify.specs.Ways.{Edge, edge_in}
use Rattle.code_verify.specs.Seen.{keeps_of}
use Rattle.code_verify.proofs.Below.{some_is, none_is_some, truth}
use Rattle.code_verify.proofs.Tables.{get_set_same, get_set_other}

-- an instruction that is no back edge
pub no_edge : (i : Instruction) (is : List Instruction) (p q : ℕ) → edge_in i ≡ None → kept_from (i ∷ is) p q ≡ kept_from is (suc p) q
no_edge (Back d n v) is p q e = absurd (none_is_some (sym e))
no_edge _ is p q e = refl

-- one that is
pub an_edge : (i : Instruction) (is : List Instruction) (p q : ℕ) (x : Edge) → edge_in i ≡ Some x
    → kept_from (i ∷ is) p q ≡ (if nat_eq (q + x.distance) p then Some x.variables else kept_from is (suc p) q)
an_edge (Back d n v) is p q x e = ap (λ (y : Edge). if nat_eq (q + y.distance) p then Some y.variables else kept_from is (suc p) q) (some_is e)
an_edge _ is p q x e = absurd (none_is_some e)

pub test_false : (a b : ℕ) → a ≢ b → nat_eq a b ≡ false
test_false a b h = elim (truth (nat_eq a b)) [ inl e ↦ absurd (h (eqb-true a b e)) | inr e ↦ e ]

-- a back edge that leads before the beginning
pub too_far : (d p q v : ℕ) (o : Option ℕ) → p < d → (if nat_eq (q + d) p then Some v else o) ≡ o
too_far d p q v o h = ap (λ t. if t then Some v else o) (test_false (q + d) p (differs q d p h))
  where
    differs : (q d p : ℕ) → p < d → q + d ≢ p
    differs q d p h = λ e. omega (arith, h, e)

-- noted at the place to which it leads
pub noted : (keeps : List (Option ℕ)) (d p v q : ℕ) (o : Option ℕ) → d ≤ p → p < length keeps → keeps_of keeps q ≡ o
    → keeps_of (slice_set keeps (p - d) (Some v)) q ≡ (if nat_eq (q + d) p then Some v else o)
noted keeps d p v q o short inside e =
    elim (truth (nat_eq (q + d) p)) [
      | inl t ↦
          let to : p - d ≡ q = back_to q d p (eqb-true (q + d) p t) in
          let within : p - d < length keeps = less p d (length keeps) inside in
          ap (λ r. keeps_of (slice_set keeps (p - d) (Some v)) r) (sym to)
          ∙ ap option_flatten (get_set_same keeps (p - d) (Some v) within)
          ∙ sym (ap (λ b. if b then Some v else o) t)
      | inr t ↦
          let away : q ≢ p - d = not_back q d p short t in
          ap option_flatten (get_set_other keeps (p - d) q (Some v) away) ∙ e ∙ sym (ap (λ b. if b then Some v else o) t)
    ]
  where
    back_to : (q d p : ℕ) → q + d ≡ p → p - d ≡ q
    back_to q d p e = omega (arith, e)

    less : (p d n : ℕ) → p < n → p - d < n
    less p d n h = omega (arith, h)

    not_back : (q d p : ℕ) → d ≤ p → nat_eq (q + d) p ≡ false → q ≢ p - d
    not_back q d p h t = λ e. true≢false (sym (eq-eqb (q + d) p (again q d p h e)) ∙ t)
      where
        again : (q d p : ℕ) → d ≤ p → q ≡ p - d → q + d ≡ p
        again q d p h e = omega (arith, h, e)

drop_get : {X : Type 0} (xs : List X) (m : ℕ) (x : X) → slice_get xs m ≡ Some x → drop m xs ≡ x ∷ drop (suc m) xs
drop_get [] m x e = absurd (none_is_some e)
drop_get (y ∷ xs) zero x e = ap (λ z. z ∷ xs) (some_is e)
drop_get (y ∷ xs) (suc m) x e = drop_get xs m x e

-- what is known of the places' variables, with one instruction more
pub noted_down : (t : Table) (code : List Instr) (old new : List (Option ℕ)) (p m n : ℕ) (i : Instr) (q : ℕ) → suc m ≡ p → n ≡ length code
    → slice_get (code_of t code) m ≡ Some (instruction_of t i)
    → ((t : Table) (q : ℕ) → q < length code → keeps_of old q ≡ kept_from (drop p (code_of t code)) p q)
    → ((t : Table) (after : List Instruction) (q : ℕ) → q < n → keeps_of old q ≡ kept_from after (suc m) q
    → keeps_of new q ≡ kept_from (instruction_of t i ∷ after) m q)
    → q < length code → keeps_of new q ≡ kept_from (drop m (code_of t code)) m q
noted_down t code old new p m n i q one many is known note h =
    note t (drop (suc m) (code_of t code)) q (subst (λ x. q < x) (sym many) h)
    (known t q h ∙ ap (λ x. kept_from (drop x (code_of t code)) x q) (sym one))
    ∙ ap (λ is. kept_from is m q) (sym (drop_get (code_of t code) m (instruction_of t i) is))

pub all_dropped : (t : Table) (code seen : List Instr) (keeps : List (Option ℕ)) (n q : ℕ) → seen ≡ code → n ≡ length code → keeps_of keeps q ≡ None
    → keeps_of keeps q ≡ kept_from (drop n (code_of t code)) n q
all_dropped t code seen keeps n q same many none =
    none ∙ sym (ap (λ is. kept_from is n q) (nothing_after (code_of t code) n (many ∙ sym (length-map code (instruction_of t)))))
  where
    nothing_after : (xs : List Instruction) (n : ℕ) → n ≡ length xs → drop n xs ≡ []
    nothing_after [] zero e = refl
    nothing_after [] (suc n) e = refl
    nothing_after (x ∷ xs) zero e = absurd (omega (arith, e))
    nothing_after (x ∷ xs) (suc n) e = nothing_after xs n (omega (arith, e))
