-- A pass over a body, as the code makes it.
use Rattle.std.proofs.Common.{◌≡◌, ◌≢◌, ◌⊎◌, inl, inr, ℕ, zero, suc, ◌+◌, ◌≤◌, ◌<◌, Bool, true, false, List, [], ◌∷◌, map, get_or, length, slice_get, slice_set, is_some, Option, Some, None, option_map, MatchBool, refl, sym, ap, ◌∙◌, subst, arith}
use Rattle.std.specs.Option.{option_flatten}
use Rattle.std.proofs.Math.Path.{fun_ext}
use Rattle.std.proofs.lemmas.Option.{slice_get-map, slice_get_read}
use Rattle.std.proofs.lemmas.List.{length-map}
use Rattle.c_semantics.specs.Texts.{Definitions}
use Rattle.resolved_tree.specs.Nodes.{Table}
use Rattle.bytecode.specs.declared.instr.Instr.{Instr}
use Rattle.bytecode.specs.Instructions.{Instruction}
use Rattle.bytecode.specs.Seen.{instruction_of, code_of}
use Rattle.code_kinds.specs.Shapes.{Shape, after, leads_to}
use Rattle.code_kinds.specs.WellFormed.{FunctionCode, Shapes, deepest, most_variables, kept, entry, BreaksAt}
use Rattle.code_verify.specs.declared.shape.Shape.{Shape as ShapeNode}
use Rattle.code_verify.specs.declared.source.Body.{Body}
use Rattle.code_verify.specs.Meeting.{met, met_again}
use Rattle.code_verify.specs.Passing.{Brought, Carried, Refused, AllCarried, SomeRefused, Followed, Broken}
use Rattle.code_verify.specs.Passing as passing
use Rattle.code_verify.specs.Seen.{shape_of, shapes_of, keeps_of}
use Rattle.code_verify.specs.Verified.{Begun, AreShapes, IsVerified}
use Rattle.code_verify.proofs.Tables.{known_here, known_elsewhere, heights_are}
use Rattle.code_verify.proofs.Passes.{Known, started, no_entry, well_formed_known}

pub none_left : {A : Type 0} (o : Option A) → ((x : A) → o ≡ Some x → ⊥) → o ≡ None
none_left None h = refl
none_left (Some x) h = absurd (h x refl)

pub brought_at : (keeps : ℕ → Option ℕ) (n : ℕ) (known : List (Option ShapeNode)) (s : Shape) (place : ℕ) (new : ShapeNode) → place < n → n ≡ length known
    → Some (shape_of new) ≡ met (keeps place) (shapes_of known place) s
    → Brought keeps n (shapes_of known) (shapes_of (slice_set known place (Some new))) s place
brought_at keeps n known s place new h many e = record {
  inside = h;
  there = shape_of new;
  meets = sym e;
  has = known_here known place new (subst (λ m. place < m) many h);
  others = λ r d. known_elsewhere known place r (Some new) d;
}

pub later_carries : (keeps : ℕ → Option ℕ) (n p q : ℕ) (old new : Shapes) (s t : Shape) (r : Bool) → s ≡ t → p < q
    → MatchBool r (Brought keeps n old new s q) (q < n → met (keeps q) (old q) s ≡ None)
    → MatchBool r (Carried keeps n p old new t q) (Refused keeps n p old t q)
later_carries keeps n p q old new s t true e lt h = passing.Carried.later lt (subst (λ x. Brought keeps n old new x q) e h)
later_carries keeps n p q old new s t false e lt h =
    passing.Refused.later lt (subst (λ x. q < n → met (keeps q) (old q) x ≡ None) e h)

returned : {A : Type 0} (o : Option A) → true ≡ is_some o → (x : A) × (o ≡ Some x)
returned None e = cc
returned (Some x) e = (x, refl)

not_returned : {A : Type 0} (o : Option A) → false ≡ is_some o → o ≡ None
not_returned None e = refl
not_returned (Some x) e = cc

pub earlier_carries : (keeps : ℕ → Option ℕ) (n p q : ℕ) (old : Shapes) (s t : Shape) (r : Bool) → s ≡ t → q ≤ p
    → r ≡ is_some (met_again (keeps q) (old q) s) → MatchBool r (Carried keeps n p old old t q) (Refused keeps n p old t q)
earlier_carries keeps n p q old s t true e le h =
    let x = returned (met_again (keeps q) (old q) s) h in
    passing.Carried.earlier le x.0 (ap (met_again (keeps q) (old q)) (sym e) ∙ x.1) (λ r. refl)
earlier_carries keeps n p q old s t false e le h =
    passing.Refused.earlier le (ap (met_again (keeps q) (old q)) (sym e) ∙ not_returned (met_again (keeps q) (old q) s) h)

pub one_carried : (keeps : ℕ → Option ℕ) (n p : ℕ) (s : Shape) (q to : ℕ) (old new : Shapes) (r : Bool) → to ≡ q
    → MatchBool r (Carried keeps n p old new s to) (Refused keeps n p old s to)
    → MatchBool r (AllCarried keeps n p s (q ∷ []) old new) (SomeRefused keeps n p s (q ∷ []) old)
one_carried keeps n p s q to old new true e h = (new, subst (Carried keeps n p old new s) e h, λ r. refl)
one_carried keeps n p s q to old new false e h = inl (subst (Refused keeps n p old s) e h)

pub first_refused : (keeps : ℕ → Option ℕ) (n p : ℕ) (s : Shape) (q to : ℕ) (qs : List ℕ) (old : Shapes) → to ≡ q
    → Refused keeps n p old s to → SomeRefused keeps n p s (q ∷ qs) old
first_refused keeps n p s q to qs old e h = inl (subst (Refused keeps n p old s) e h)

pub two_carried : (keeps : ℕ → Option ℕ) (n m p : ℕ) (s : Shape) (a b to over : ℕ) (old mid new : Shapes) (r : Bool) → to ≡ a → over ≡ b → m ≡ n
    → Carried keeps n p old mid s to → MatchBool r (Carried keeps m p mid new s over) (Refused keeps m p mid s over)
    → MatchBool r (AllCarried keeps n p s (a ∷ b ∷ []) old new) (SomeRefused keeps n p s (a ∷ b ∷ []) old)
two_carried keeps n m p s a b to over old mid new true e f g h k =
    (mid, subst (Carried keeps n p old mid s) e h, (new, subst (Carried keeps n p mid new s) f (subst (λ x. Carried keeps x p mid new s over) g k), λ r. refl))
two_carried keeps n m p s a b to over old mid new false e f g h k =
    inr (mid, subst (Carried keeps n p old mid s) e h, inl (subst (Refused keeps n p mid s) f (subst (λ x. Refused keeps x p mid s over) g k)))

pub instruction_at : (t : Table) (code : List Instr) (place : ℕ) (i : Instr) → place < length code → i ≡ get_or code place i
    → slice_get (code_of t code) place ≡ Some (instruction_of t i)
instruction_at t code place i h e =
    slice_get-map (instruction_of t) code place ∙ ap (option_map (instruction_of t)) (slice_get_read code (length code) place i refl h e)

-- ---- one instruction

pub step_on : (u : FunctionCode) (keeps : ℕ → Option ℕ) (p n : ℕ) (i : Instruction) (s copy left : Shape) (qs : List ℕ) (old new : Shapes) (r : Bool)
    → slice_get u.code p ≡ Some i → old p ≡ Some s → copy ≡ s → Some left ≡ after u.look u.result u.room i copy → length left.stack ≤ deepest
    → leads_to p i ≡ qs → n ≡ length u.code
    → MatchBool r (AllCarried keeps n p left qs old new) (SomeRefused keeps n p left qs old)
    → MatchBool r (Followed u keeps p old new) (Broken u keeps p old)
step_on u keeps p n i s copy left qs old new true is has same leaves shallow to many h =
    passing.Followed.reached i s left is has (ap (after u.look u.result u.room i) (sym same) ∙ sym leaves) shallow
    (subst (λ m. AllCarried keeps m p left (leads_to p i) old new) many (subst (λ x. AllCarried keeps n p left x old new) (sym to) h))
step_on u keeps p n i s copy left qs old new false is has same leaves shallow to many h =
    passing.Broken.refused i s left is has (ap (after u.look u.result u.room i) (sym same) ∙ sym leaves)
    (subst (λ m. SomeRefused keeps m p left (leads_to p i) old) many (subst (λ x. SomeRefused keeps n p left x old) (sym to) h))

pub step_lacks : (u : FunctionCode) (keeps : ℕ → Option ℕ) (p : ℕ) (i : Instruction) (s copy : Shape) (old : Shapes)
    → slice_get u.code p ≡ Some i → old p ≡ Some s → copy ≡ s → None ≡ after u.look u.result u.room i copy → Broken u keeps p old
step_lacks u keeps p i s copy old is has same leaves =
    passing.Broken.lacks i s is has (ap (after u.look u.result u.room i) (sym same) ∙ sym leaves)

pub step_deep : (u : FunctionCode) (keeps : ℕ → Option ℕ) (p : ℕ) (i : Instruction) (s copy left : Shape) (old : Shapes)
    → slice_get u.code p ≡ Some i → old p ≡ Some s → copy ≡ s → Some left ≡ after u.look u.result u.room i copy → deepest < length left.stack
    → Broken u keeps p old
step_deep u keeps p i s copy left old is has same leaves deep =
    passing.Broken.deep i s left is has (ap (after u.look u.result u.room i) (sym same) ∙ sym leaves) deep

pub step_unreached : (u : FunctionCode) (keeps : ℕ → Option ℕ) (p : ℕ) (old : Shapes) → old p ≡ None → Followed u keeps p old old
step_unreached u keeps p old none = passing.Followed.unreached none (λ r. refl)

-- ---- the whole body

pub keep_from : (t : Table) (code seen : List Instr) (keeps : List (Option ℕ)) → seen ≡ code
    → ((t : Table) (q : ℕ) → q < length seen → keeps_of keeps q ≡ kept (code_of t seen) q)
    → (q : ℕ) → q < length (code_of t code) → keeps_of keeps q ≡ kept (code_of t code) q
keep_from t code seen keeps same keep q h =
    keep t q (within q (length seen) (length (code_of t code)) h (length-map code (instruction_of t)) (ap length same)) ∙ ap (λ c. kept (code_of t c) q) same
  where
    within : (q n m : ℕ) → q < m → m ≡ length code → n ≡ length code → q < n
    within q n m a b c = omega (arith, a, b, c)

pub begun_from : (keeps : ℕ → Option ℕ) (body : Body) (old new : List (Option ShapeNode)) (s : Shape) → length new ≡ length body.code.items
    → length body.parameters.items ≤ body.room → body.room ≤ most_variables → length old ≡ length body.code.items
    → ((q : ℕ) → shapes_of old q ≡ None) → s ≡ entry body.parameters.items
    → Brought keeps (length old) (shapes_of old) (shapes_of new) s 0 → Begun keeps body new
begun_from keeps body old new s places few small many none is b =
    let empty : shapes_of old ≡ (λ q. None) = fun_ext none in
    record {
      places = places;
      few = few;
      small = small;
      brought =
          subst (λ x. Brought keeps (length body.code.items) (λ q. None) (shapes_of new) x 0) is
          (subst (λ x. Brought keeps (length body.code.items) x (shapes_of new) s 0) empty
          (subst (λ n. Brought keeps n (shapes_of old) (shapes_of new) s 0) many b));
    }

pub known_begun : (t : Table) (look : Definitions) (keeps : ℕ → Option ℕ) (body : Body) (known : List (Option ShapeNode))
    → (let u : FunctionCode = record { look = look; parameters = body.parameters.items; result = body.result; room = body.room; code = code_of t body.code.items }
    in ((q : ℕ) → q < length u.code → keeps q ≡ kept u.code q) → Begun keeps body known → Known u (shapes_of known) 0 0)
known_begun t look keeps body known keep b =
    let u : FunctionCode = record { look = look; parameters = body.parameters.items; result = body.result; room = body.room; code = code_of t body.code.items } in
    started u keeps (λ q. None) (shapes_of known) keep (λ q. refl) b.few b.small
    (subst (λ n. Brought keeps n (λ q. None) (shapes_of known) (entry body.parameters.items) 0) (sym (length-map body.code.items (instruction_of t))) b.brought)

pub not_entered : (u : FunctionCode) (keeps : ℕ → Option ℕ) (n : ℕ) → n ≡ length u.code → ((q : ℕ) → q < length u.code → keeps q ≡ kept u.code q)
    → (length u.parameters ≤ u.room → u.room ≤ most_variables → 0 < n → met (keeps 0) None (entry u.parameters) ≡ None) → BreaksAt u 0
not_entered u keeps n many keep missing =
    no_entry u keeps (λ q. None) keep (λ q. refl) (λ few small h. missing few small (subst (λ m. 0 < m) (sym many) h))

pub are_shapes : (u : FunctionCode) (shapes : Shapes) (n : ℕ) → n ≡ length u.code → Known u shapes n n → AreShapes u shapes
are_shapes u shapes n e known = let w = well_formed_known u shapes n e known in record { begins = known.begins; fits = w }

pub verified_from : (u : FunctionCode) (known : List (Option ShapeNode)) (heights : List (Option ℕ)) → AreShapes u (shapes_of known)
    → heights ≡ map (λ o. option_map (λ (s : ShapeNode). length s.stack.items) o) known → length known ≡ length u.code → IsVerified u heights
verified_from u known heights a e many = record {
  well_formed = record { shapes = shapes_of known; begins = a.begins; fits = a.fits };
  many = ap length e ∙ length-map known (λ o. option_map (λ (s : ShapeNode). length s.stack.items) o) ∙ many;
  lengths = λ q. ap (λ (h : List (Option ℕ)). option_flatten (slice_get h q)) e ∙ heights_are known q;
}
