-- One pass finds the greatest shapes that fit, or the first instruction that breaks a body.
use Rattle.std.proofs.Common.{◌≡◌, ◌≢◌, ◌⊎◌, inl, inr, ℕ, zero, suc, ◌+◌, ◌-◌, ◌≤◌, ◌<◌, nat_eq, Bool, true, false, List, [], ◌∷◌, ◌++◌, Contains, length, slice_get, slice_index_or, Option, Some, None, if◌then◌else◌, refl, sym, ap, ◌∙◌, subst, arith, length-append, true≢false, eqb-true, eq-eqb, nat_le, leb-true, leb-false, add-zero, zero-lt-suc, lt-suc_self, le_refl, le_of_lt, not-suc-le-zero}
use Rattle.std.proofs.Math.Path.{fun_ext}
use Rattle.std.proofs.lemmas.Option.{slice_get_within}
use Rattle.c_semantics.specs.Texts.{Definitions}
use Rattle.c_semantics.specs.Stops.{Return}
use Rattle.bytecode.specs.Instructions.{Instruction, Jump, JumpIfZero, JumpUnlessZero, Halt, Back}
use Rattle.code_kinds.specs.declared.kind.WordKind.{WordKind}
use Rattle.code_kinds.specs.StopKinds.{Words}
use Rattle.code_kinds.specs.Shapes.{Due, Shape, after, leads_to}
use Rattle.code_kinds.specs.WellFormed.{FunctionCode, Shapes, deepest, most_variables, kept_from, kept, Brings, IsFine, Comes, first, led, entry, Begins, Fits, WellFormed, BreaksAt}
use Rattle.code_verify.specs.Meeting.{with_variables, met, met_again}
use Rattle.code_verify.specs.Passing.{Brought, Carried, Refused, AllCarried, SomeRefused, Followed, Broken}
use Rattle.code_verify.specs.Passing as passing
use Rattle.code_verify.proofs.Lists.{begins_all}
use Rattle.code_verify.proofs.Below.{Below, same_shape, some_is, none_is_some, and_then_some, truth, same_below, below_itself, below_below, shape, after_below}
use Rattle.code_verify.proofs.Meets.{met_is, met_greatest}

-- ---- numbers and lists

pub decided : (a b : ℕ) → (a ≡ b) ⊎ (a ≢ b)
decided a b =
    elim (truth (nat_eq a b)) [ inl e ↦ inl (eqb-true a b e) | inr e ↦ inr (λ h. true≢false (sym (eq-eqb a b h) ∙ e)) ]

contains_at : (q r : ℕ) (qs : List ℕ) (k : ℕ) → k < length (q ∷ qs) → slice_index_or (q ∷ qs) k r ≡ r → (r ≡ q) ⊎ Contains qs r
contains_at q r qs zero h e = inl (sym e)
contains_at q r qs (suc k) h e = inr (k, omega (arith, h), e)

pub contains_cases : (q r : ℕ) (qs : List ℕ) → Contains (q ∷ qs) r → (r ≡ q) ⊎ Contains qs r
contains_cases q r qs c = contains_at q r qs c.0 c.1 c.2

pub contains_none : (r : ℕ) → Contains [] r → ⊥
contains_none r c = omega (arith, c.1)

contains_one : (q r : ℕ) → Contains (q ∷ []) r → r ≡ q
contains_one q r c = elim (contains_cases q r [] c) [ inl e ↦ e | inr d ↦ absurd (contains_none r d) ]

pub contains_first : (q : ℕ) (qs : List ℕ) → Contains (q ∷ qs) q
contains_first q qs = (0, zero-lt-suc (length qs), refl)

pub contains_later : (q r : ℕ) (qs : List ℕ) → Contains qs r → Contains (q ∷ qs) r
contains_later q r qs c = (suc c.0, omega (arith, c.1), c.2)

-- ---- back edges

further : (p q d : ℕ) → q ≡ suc p + d → q ≤ p → ⊥
further p q d e h = omega (arith, e, h)

next_is_further : (p q : ℕ) → q ≡ suc p → q ≤ p → ⊥
next_is_further p q e h = omega (arith, e, h)

-- an instruction that leads back
pub record LeadsBack (p : ℕ) (i : Instruction) (q : ℕ) : Type 0 where
  pub distance : ℕ
  pub point : ℕ
  pub variables : ℕ
  pub is : i ≡ Back distance point variables
  pub to : q ≡ p - distance

either_further : (p q d : ℕ) → Contains (suc p ∷ (suc p + d) ∷ []) q → q ≤ p → ⊥
either_further p q d c h =
    elim (contains_cases (suc p) q ((suc p + d) ∷ []) c) [ inl e ↦ next_is_further p q e h | inr d' ↦ further p q d (contains_one (suc p + d) q d') h ]

pub leads_back : (p : ℕ) (i : Instruction) (q : ℕ) → Contains (leads_to p i) q → q ≤ p → LeadsBack p i q
leads_back p (Back d n v) q c h = record { distance = d; point = n; variables = v; is = refl; to = contains_one (p - d) q c }
leads_back p (Jump d) q c h = absurd (further p q d (contains_one (suc p + d) q c) h)
leads_back p (JumpIfZero d) q c h = absurd (either_further p q d c h)
leads_back p (JumpUnlessZero d) q c h = absurd (either_further p q d c h)
leads_back p (Halt Return n) q c h = absurd (contains_none q c)
leads_back p _ q c h = absurd (next_is_further p q (contains_one (suc p) q c) h)

kept_if : (t : Bool) (v w : ℕ) (o : Option ℕ) → o ≡ Some w → (x : ℕ) × ((if t then Some v else o) ≡ Some x)
kept_if true v w o e = (v, refl)
kept_if false v w o e = (w, e)

kept_cons : (i : Instruction) (is : List Instruction) (m q w : ℕ) → kept_from is (suc m) q ≡ Some w → (x : ℕ) × (kept_from (i ∷ is) m q ≡ Some x)
kept_cons (Back d n v) is m q w e = kept_if (nat_eq (q + d) m) v w (kept_from is (suc m) q) e
kept_cons _ is m q w e = (w, e)

kept_here : (d n v : ℕ) (is : List Instruction) (m q : ℕ) → q + d ≡ m → kept_from (Back d n v ∷ is) m q ≡ Some v
kept_here d n v is m q e = ap (λ t. if t then Some v else kept_from is (suc m) q) (eq-eqb (q + d) m e)

kept_there : (is : List Instruction) (k m q d n v : ℕ) → slice_get is k ≡ Some (Back d n v) → q + d ≡ m + k → (w : ℕ) × (kept_from is m q ≡ Some w)
kept_there [] k m q d n v e h = absurd (none_is_some e)
kept_there (i ∷ is) zero m q d n v e h =
    (v, ap (λ x. kept_from (x ∷ is) m q) (some_is e) ∙ kept_here d n v is m q (h ∙ add-zero m))
kept_there (i ∷ is) (suc k) m q d n v e h =
    let x = kept_there is k (suc m) q d n v e (omega (arith, h)) in kept_cons i is m q x.0 x.1

-- the place to which a back edge leads keeps some number of variables
pub kept_at : (code : List Instruction) (p d n v : ℕ) → slice_get code p ≡ Some (Back d n v) → d ≤ p → (w : ℕ) × (kept code (p - d) ≡ Some w)
kept_at code p d n v e h = kept_there code p 0 (p - d) d n v e (omega (arith, h))

back_due_by : (look : Definitions) (result : WordKind) (room d n v : ℕ) (stack variables : Words) (m : ℕ) (due : Option Due) (left : Shape)
    → after look result room (Back d n v) (shape stack variables m due) ≡ Some left → left.due ≡ None
back_due_by look result room d n v stack variables m None left e = sym (ap (λ (x : Shape). x.due) (some_is e))
back_due_by look result room d n v stack variables m (Some due) left e = absurd (none_is_some e)

-- after a back edge no check-in is due
back_due : (look : Definitions) (result : WordKind) (room d n v : ℕ) (s left : Shape) → after look result room (Back d n v) s ≡ Some left → left.due ≡ None
back_due look result room d n v s left e = back_due_by look result room d n v s.stack s.variables s.transactions s.due left e

-- ---- what a way brings

brought_below : {code : List Instruction} {shapes : Shapes} {s : Shape} {q : ℕ} (b : Brings code shapes s q) → Below b.there s
brought_below {s} b = record {
  forgotten = b.forgotten;
  is = same_shape s (with_variables (b.there.variables ++ b.forgotten) b.there) (sym b.stack) b.variables (sym b.transactions) (sym b.due);
}

brings : {code : List Instruction} {shapes : Shapes} {s : Shape} {q : ℕ} (there : Shape) → Below there s → shapes q ≡ Some there → q < length code
    → ((v : ℕ) → kept code q ≡ Some v → length there.variables ≡ v) → Brings code shapes s q
brings there h has inside loop = record {
  there = there;
  has = has;
  inside = inside;
  stack = sym (ap (λ (x : Shape). x.stack) h.is);
  transactions = sym (ap (λ (x : Shape). x.transactions) h.is);
  due = sym (ap (λ (x : Shape). x.due) h.is);
  forgotten = h.forgotten;
  variables = ap (λ (x : Shape). x.variables) h.is;
  loop = loop;
}

-- a shape there is below the one that is known
pub record Under (o : Option Shape) (s : Shape) : Type 0 where
  pub there : Shape
  pub has : o ≡ Some there
  pub below : Below there s

abbrev Finer : Shapes → Shapes → Type 0
Finer old new = (q : ℕ) (s : Shape) → old q ≡ Some s → Under (new q) s

abbrev Keeps : FunctionCode → Shapes → Type 0
Keeps u shapes = (q : ℕ) (s : Shape) (v : ℕ) → shapes q ≡ Some s → kept u.code q ≡ Some v → length s.variables ≡ v

brings_still : (u : FunctionCode) (old new : Shapes) → Finer old new → Keeps u new → (s : Shape) (q : ℕ) → Brings u.code old s q → Brings u.code new s q
brings_still u old new finer many s q b =
    let x = finer q b.there b.has in
    brings x.there (below_below x.there b.there s x.below (brought_below b)) x.has b.inside (λ v e. many q x.there v x.has e)

comes_still : (code : List Instruction) (old new : Shapes) (q : ℕ) → Finer old new → Comes code old q → Comes code new q
comes_still code old new q finer (first e) = first e
comes_still code old new q finer (led p i s lt is has c) = let x = finer p s has in led p i x.there lt is x.has c

-- ---- what a pass keeps

-- the first n instructions are fine; shapes with which the first k are fine too are below
pub record Known (u : FunctionCode) (shapes : Shapes) (n k : ℕ) : Type 0 where
  pub begins : Begins u shapes
  pub fine : (p : ℕ) (i : Instruction) (s : Shape) → p < n → slice_get u.code p ≡ Some i → shapes p ≡ Some s → IsFine u shapes p i s
  pub comes : (q : ℕ) (s : Shape) → shapes q ≡ Some s → Comes u.code shapes q
  pub many : (q : ℕ) (s : Shape) (v : ℕ) → shapes q ≡ Some s → kept u.code q ≡ Some v → length s.variables ≡ v
  pub greatest : (others : Shapes) → Fits u others k → Begins u others → (q : ℕ) (s : Shape) → shapes q ≡ Some s → Under (others q) s

fits_known : (u : FunctionCode) (shapes : Shapes) (n k : ℕ) → Known u shapes n k → Fits u shapes n
fits_known u shapes n k h = record { begins = λ _. h.begins; fine = h.fine; comes = λ p s _ e. h.comes p s e }

fits_fewer : (u : FunctionCode) (shapes : Shapes) (p : ℕ) → Fits u shapes (suc p) → Begins u shapes → Fits u shapes p
fits_fewer u shapes p f b = record {
  begins = λ _. b;
  fine = λ q i s h. f.fine q i s (omega (arith, h));
  comes = λ q s h. f.comes q s (omega (arith, h));
}

-- an instruction that is followed, with what it leaves
pub record Turn (u : FunctionCode) (keeps : ℕ → Option ℕ) (p : ℕ) (i : Instruction) (s left : Shape) : Type 0 where
  pub is : slice_get u.code p ≡ Some i
  pub leaves : after u.look u.result u.room i s ≡ Some left
  pub keep : (q : ℕ) → q < length u.code → keeps q ≡ kept u.code q

-- other shapes that fit have one at each place to which the instruction leads
record Arrival (u : FunctionCode) (shapes others : Shapes) (left : Shape) (q : ℕ) : Type 0 where
  there : Shape
  has : others q ≡ Some there
  inside : q < length u.code
  below : Below there left
  known : (old : Shape) → shapes q ≡ Some old → Below there old
  many : (n : ℕ) → kept u.code q ≡ Some n → length there.variables ≡ n

arrival : (u : FunctionCode) (keeps : ℕ → Option ℕ) (p : ℕ) (i : Instruction) (s left : Shape) (shapes others : Shapes) (q : ℕ)
    → Turn u keeps p i s left → Known u shapes p (suc p) → shapes p ≡ Some s → Fits u others (suc p) → Begins u others
    → Contains (leads_to p i) q → Arrival u shapes others left q
arrival u keeps p i s left shapes others q t known has f b c =
    let x = known.greatest others f b p s has in
    let g = f.fine p i x.there (lt-suc_self p) t.is x.has in
    let a = after_below u.look u.result u.room i x.there s g.left x.below g.leaves in
    let same : a.0 ≡ left = some_is (sym a.1 ∙ t.leaves) in
    let w = g.goes q c in
    record {
      there = w.there;
      has = w.has;
      inside = w.inside;
      below = below_below w.there g.left left (brought_below w) (subst (Below g.left) same a.2);
      known = λ old e. let y = known.greatest others f b q old e in
          subst (λ z. Below z old) (some_is (sym y.has ∙ w.has)) y.below;
      many = w.loop;
    }

-- after one way
record Advanced (u : FunctionCode) (old new : Shapes) (p : ℕ) (s left : Shape) (q : ℕ) : Type 0 where
  known : Known u new p (suc p)
  has : new p ≡ Some s
  brings : Brings u.code new left q
  still : (x : Shape) (r : ℕ) → Brings u.code old x r → Brings u.code new x r

later_advances : (u : FunctionCode) (keeps : ℕ → Option ℕ) (p : ℕ) (i : Instruction) (s left : Shape) (old new : Shapes) (q : ℕ)
    → Turn u keeps p i s left → Known u old p (suc p) → old p ≡ Some s → Contains (leads_to p i) q → p < q
    → Brought keeps (length u.code) old new left q → Advanced u old new p s left q
later_advances u keeps p i s left old new q t known has c lt b =
    let m = met_is (keeps q) (old q) left b.there b.meets in
    let finer : Finer old new = λ r x e.
    elim (decided r q) [
      | inl h ↦ record {
        there = b.there;
        has = subst (λ y. new y ≡ Some b.there) (sym h) b.has;
        below = m.known x (subst (λ y. old y ≡ Some x) h e);
      }
      | inr h ↦ record { there = x; has = b.others r h ∙ e; below = below_itself x }
    ] in
    let front : (r : ℕ) → r ≤ p → new r ≡ old r = λ r le. b.others r (further_than r p q le lt) in
    let many : Keeps u new = λ r x v e k.
    elim (decided r q) [
      | inl h ↦
          let here : b.there ≡ x = some_is (sym b.has ∙ subst (λ y. new y ≡ Some x) h e) in
          ap (λ (z : Shape). length z.variables) (sym here) ∙ m.many v (t.keep q b.inside ∙ subst (λ y. kept u.code y ≡ Some v) h k)
      | inr h ↦ known.many r x v (sym (b.others r h) ∙ e) k
    ] in
    let still = brings_still u old new finer many in
    let here : new p ≡ Some s = front p (le_refl p) ∙ has in
    record {
      known = record {
        begins = record { parameters = known.begins.parameters; room = known.begins.room; entered = still (entry u.parameters) 0 known.begins.entered };
        fine = λ r j x h is e. let o = known.fine r j x h is (sym (front r (le_of_lt h)) ∙ e) in
            record { left = o.left; leaves = o.leaves; shallow = o.shallow; goes = λ y d. still o.left y (o.goes y d) };
        comes = λ r x e. elim (decided r q) [
          | inl h ↦ led p i s (subst (λ y. p < y) (sym h) lt) t.is here (subst (Contains (leads_to p i)) (sym h) c)
          | inr h ↦ comes_still u.code old new r finer (known.comes r x (sym (b.others r h) ∙ e))
        ];
        many = many;
        greatest = λ others f g r x e. elim (decided r q) [
          | inl h ↦
              let a = arrival u keeps p i s left old others q t known has f g c in
              let z = met_greatest (keeps q) (old q) a.there left a.below a.known (λ n k. a.many n (sym (t.keep q b.inside) ∙ k)) in
              let same : z.0 ≡ x = some_is (sym z.1 ∙ b.meets ∙ sym b.has ∙ subst (λ y. new y ≡ Some x) h e) in
              record { there = a.there; has = ap others h ∙ a.has; below = subst (Below a.there) same z.2 }
          | inr h ↦ known.greatest others f g r x (sym (b.others r h) ∙ e)
        ];
      };
      has = here;
      brings = brings b.there m.below b.has b.inside (λ v k. many q b.there v b.has k);
      still = still;
    }
  where
    further_than : (r p q : ℕ) → r ≤ p → p < q → r ≢ q
    further_than r p q le lt = λ e. omega (arith, le, lt, e)

-- where a place is known already to which a back edge leads, what is known there is below what the edge brings
back_keeps : (u : FunctionCode) (keeps : ℕ → Option ℕ) (p : ℕ) (i : Instruction) (s left there known_there : Shape) (shapes : Shapes) (q : ℕ)
    → Turn u keeps p i s left → Known u shapes p (suc p) → Contains (leads_to p i) q → q ≤ p
    → shapes q ≡ Some known_there → met (keeps q) (Some known_there) left ≡ Some there → Below known_there left
back_keeps u keeps p i s left there o shapes q t known c le has e =
    let m = met_is (keeps q) (Some o) left there e in
    let under = m.known o refl in
    let inside : p < length u.code = slice_get_within u.code p i t.is in
    let within : q < length u.code = below_less q p (length u.code) le inside in
    let back = leads_back p i q c le in
    let is_back : slice_get u.code p ≡ Some (Back back.distance back.point back.variables) = t.is ∙ ap Some back.is in
    elim (order back.distance p) [
      | inl h ↦
          let k = kept_at u.code p back.distance back.point back.variables is_back h in
          let loop : kept u.code q ≡ Some k.0 = ap (kept u.code) back.to ∙ k.1 in
          let same_length : length o.variables ≡ length there.variables =
          known.many q o k.0 has loop ∙ sym (m.many k.0 (t.keep q within ∙ loop)) in
          let words : o.variables ≡ there.variables ++ under.forgotten = ap (λ (x : Shape). x.variables) under.is in
          let none : there.variables ++ under.forgotten ≡ there.variables =
          begins_all there.variables under.forgotten (ap length (sym words) ∙ same_length) in
          let same : o ≡ there = under.is ∙ ap (λ w. with_variables w there) none in
          subst (λ x. Below x left) (sym same) m.below
      | inr h ↦
          let first_place : q ≡ 0 = back.to ∙ nothing_left back.distance p h in
          let b = known.begins.entered in
          let here : b.there ≡ o = some_is (sym b.has ∙ ap shapes (sym first_place) ∙ has) in
          let due : left.due ≡ None =
          back_due u.look u.result u.room back.distance back.point back.variables s left (ap (λ j. after u.look u.result u.room j s) (sym back.is) ∙ t.leaves) in
          let wrong : None ≡ (entry u.parameters).due =
          sym due ∙ ap (λ (x : Shape). x.due) m.below.is ∙ sym (ap (λ (x : Shape). x.due) under.is) ∙ sym (ap (λ (x : Shape). x.due) here) ∙ b.due in
          absurd (none_is_some wrong)
    ]
  where
    below_less : (q p n : ℕ) → q ≤ p → p < n → q < n
    below_less q p n a b = omega (arith, a, b)

    order : (d p : ℕ) → (d ≤ p) ⊎ (p < d)
    order d p = elim (truth (nat_le d p)) [ inl e ↦ inl (leb-true d p e) | inr e ↦ inr (leb-false d p e) ]

    nothing_left : (d p : ℕ) → p < d → p - d ≡ 0
    nothing_left d p h = omega (arith, h)

earlier_advances : (u : FunctionCode) (keeps : ℕ → Option ℕ) (p : ℕ) (i : Instruction) (s left there : Shape) (old : Shapes) (q : ℕ)
    → Turn u keeps p i s left → Known u old p (suc p) → old p ≡ Some s → Contains (leads_to p i) q → q ≤ p
    → met_again (keeps q) (old q) left ≡ Some there → Advanced u old old p s left q
earlier_advances u keeps p i s left there old q t known has c le e =
    let x = and_then_some (λ o. met (keeps q) (Some o) left) (old q) there e in
    let inside : p < length u.code = slice_get_within u.code p i t.is in
    record {
      known = known;
      has = has;
      brings = brings x.0 (back_keeps u keeps p i s left there x.0 old q t known c le x.1 x.2) x.1 (within q p (length u.code) le inside) (λ v k. known.many q x.0 v x.1 k);
      still = λ y r b. b;
    }
  where
    within : (q p n : ℕ) → q ≤ p → p < n → q < n
    within q p n a b = omega (arith, a, b)

advances : (u : FunctionCode) (keeps : ℕ → Option ℕ) (p : ℕ) (i : Instruction) (s left : Shape) (old new : Shapes) (q : ℕ)
    → Turn u keeps p i s left → Known u old p (suc p) → old p ≡ Some s → Contains (leads_to p i) q
    → Carried keeps (length u.code) p old new left q → Advanced u old new p s left q
advances u keeps p i s left old new q t known has c (passing.Carried.later lt b) = later_advances u keeps p i s left old new q t known has c lt b
advances u keeps p i s left old new q t known has c (passing.Carried.earlier le there e same) =
    let one : old ≡ new = fun_ext (λ r. sym (same r)) in
    subst (λ x. Advanced u old x p s left q) one (earlier_advances u keeps p i s left there old q t known has c le e)

-- after all ways
record AllAdvanced (u : FunctionCode) (old new : Shapes) (p : ℕ) (s left : Shape) (qs : List ℕ) : Type 0 where
  known : Known u new p (suc p)
  has : new p ≡ Some s
  brings : (q : ℕ) → Contains qs q → Brings u.code new left q
  still : (x : Shape) (r : ℕ) → Brings u.code old x r → Brings u.code new x r

all_advance : (u : FunctionCode) (keeps : ℕ → Option ℕ) (p : ℕ) (i : Instruction) (s left : Shape) (qs : List ℕ) (old new : Shapes)
    → Turn u keeps p i s left → Known u old p (suc p) → old p ≡ Some s → ((q : ℕ) → Contains qs q → Contains (leads_to p i) q)
    → AllCarried keeps (length u.code) p left qs old new → AllAdvanced u old new p s left qs
all_advance u keeps p i s left [] old new t known has c same =
    let one : old ≡ new = fun_ext (λ r. sym (same r)) in
    subst (λ x. AllAdvanced u old x p s left []) one
    (record { known = known; has = has; brings = λ q d. absurd (contains_none q d); still = λ x r b. b })
all_advance u keeps p i s left (q ∷ qs) old new t known has c h =
    let a = advances u keeps p i s left old h.0 q t known has (c q (contains_first q qs)) h.1 in
    let k = all_advance u keeps p i s left qs h.0 new t a.known a.has (λ r d. c r (contains_later q r qs d)) h.2 in
    record {
      known = k.known;
      has = k.has;
      brings = λ r d. elim (contains_cases q r qs d) [
        | inl e ↦ subst (λ y. Brings u.code new left y) (sym e) (k.still left q a.brings)
        | inr d' ↦ k.brings r d'
      ];
      still = λ x r b. k.still x r (a.still x r b);
    }

-- ---- no other shapes fit

covered : (u : FunctionCode) (shapes others : Shapes) (p k : ℕ) → Known u shapes p k → Fits u others (suc p)
    → (b r : ℕ) (x : Shape) → r < b → r ≤ p → others r ≡ Some x → (s : Shape) × (shapes r ≡ Some s)
covered u shapes others p k known f zero r x h le e = absurd (not-suc-le-zero h)
covered u shapes others p k known f (suc b) r x h le e =
    elim (f.comes r x (less r p le) e) [
      | first z ↦ let w = known.begins.entered in (w.there, ap shapes z ∙ w.has)
      | led p0 i0 s0 lt is has c ↦
          let y = covered u shapes others p k known f b p0 s0 (nearer p0 r b lt h) (before p0 r p lt le) has in
          let g = known.fine p0 i0 y.0 (earlier_than p0 r p lt le) is y.1 in
          let w = g.goes r c in
          (w.there, w.has)
    ]
  where
    less : (r p : ℕ) → r ≤ p → r < suc p
    less r p a = omega (arith, a)

    nearer : (a r b : ℕ) → a < r → r < suc b → a < b
    nearer a r b x y = omega (arith, x, y)

    before : (a r p : ℕ) → a < r → r ≤ p → a ≤ p
    before a r p x y = omega (arith, x, y)

    earlier_than : (a r p : ℕ) → a < r → r ≤ p → a < p
    earlier_than a r p x y = omega (arith, x, y)

none_and_some : {A : Type 0} {o : Option A} {a : A} → o ≡ None → o ≡ Some a → ⊥
none_and_some e f = none_is_some (sym e ∙ f)

refuses : (u : FunctionCode) (keeps : ℕ → Option ℕ) (p : ℕ) (i : Instruction) (s left : Shape) (shapes others : Shapes) (q : ℕ)
    → Turn u keeps p i s left → Known u shapes p (suc p) → shapes p ≡ Some s → Contains (leads_to p i) q
    → Refused keeps (length u.code) p shapes left q → Fits u others (suc p) → ⊥
refuses u keeps p i s left shapes others q t known has c (passing.Refused.later lt missing) f =
    let a = arrival u keeps p i s left shapes others q t known has f (f.begins (zero-lt-suc p)) c in
    let z = met_greatest (keeps q) (shapes q) a.there left a.below a.known (λ n k. a.many n (sym (t.keep q a.inside) ∙ k)) in
    none_and_some (missing a.inside) z.1
refuses u keeps p i s left shapes others q t known has c (passing.Refused.earlier le missing) f =
    let a = arrival u keeps p i s left shapes others q t known has f (f.begins (zero-lt-suc p)) c in
    let o = covered u shapes others p (suc p) known f (suc q) q a.there (lt-suc_self q) le a.has in
    let z = met_greatest (keeps q) (Some o.0) a.there left a.below (λ x e. a.known x (o.1 ∙ e)) (λ n k. a.many n (sym (t.keep q a.inside) ∙ k)) in
    none_and_some (sym (ap (λ x. met_again (keeps q) x left) o.1) ∙ missing) z.1

some_refuse : (u : FunctionCode) (keeps : ℕ → Option ℕ) (p : ℕ) (i : Instruction) (s left : Shape) (qs : List ℕ) (shapes others : Shapes)
    → Turn u keeps p i s left → Known u shapes p (suc p) → shapes p ≡ Some s → ((q : ℕ) → Contains qs q → Contains (leads_to p i) q)
    → SomeRefused keeps (length u.code) p left qs shapes → Fits u others (suc p) → ⊥
some_refuse u keeps p i s left [] shapes others t known has c h f = h
some_refuse u keeps p i s left (q ∷ qs) shapes others t known has c (inl h) f =
    refuses u keeps p i s left shapes others q t known has (c q (contains_first q qs)) h f
some_refuse u keeps p i s left (q ∷ qs) shapes others t known has c (inr h) f =
    let a = advances u keeps p i s left shapes h.0 q t known has (c q (contains_first q qs)) h.1 in
    some_refuse u keeps p i s left qs h.0 others t a.known a.has (λ r d. c r (contains_later q r qs d)) h.2 f

-- ---- the pass

known_more : (u : FunctionCode) (shapes : Shapes) (p : ℕ) → Known u shapes p p → Known u shapes p (suc p)
known_more u shapes p h = record {
  begins = h.begins;
  fine = h.fine;
  comes = h.comes;
  many = h.many;
  greatest = λ others f b. h.greatest others (fits_fewer u others p f b) b;
}

-- an instruction that is fine joins those before it
one_more : (u : FunctionCode) (shapes : Shapes) (p : ℕ) → Known u shapes p (suc p)
    → ((i : Instruction) (s : Shape) → slice_get u.code p ≡ Some i → shapes p ≡ Some s → IsFine u shapes p i s) → Known u shapes (suc p) (suc p)
one_more u shapes p h fine = record {
  begins = h.begins;
  fine = λ q i s lt is has. elim (decided q p) [
    | inl e ↦ subst (λ r. IsFine u shapes r i s) (sym e) (fine i s (ap (slice_get u.code) (sym e) ∙ is) (ap shapes (sym e) ∙ has))
    | inr e ↦ h.fine q i s (smaller q p lt e) is has
  ];
  comes = h.comes;
  many = h.many;
  greatest = h.greatest;
}
  where
    smaller : (q p : ℕ) → q < suc p → q ≢ p → q < p
    smaller q p a b = omega (arith, a, b)

pub followed : (u : FunctionCode) (keeps : ℕ → Option ℕ) (p : ℕ) (old new : Shapes) → ((q : ℕ) → q < length u.code → keeps q ≡ kept u.code q)
    → Known u old p p → Followed u keeps p old new → Known u new (suc p) (suc p)
followed u keeps p old new keep known (passing.Followed.unreached none same) =
    let one : old ≡ new = fun_ext (λ r. sym (same r)) in
    subst (λ x. Known u x (suc p) (suc p)) one
    (one_more u old p (known_more u old p known) (λ i s is has. absurd (none_and_some none has)))
followed u keeps p old new keep known (passing.Followed.reached i s left is has leaves shallow carried) =
    let t : Turn u keeps p i s left = record { is = is; leaves = leaves; keep = keep } in
    let a = all_advance u keeps p i s left (leads_to p i) old new t (known_more u old p known) has (λ q c. c) carried in
    one_more u new p a.known (λ j x is' has'.
    let same_i : i ≡ j = some_is (sym is ∙ is') in
    let same_s : s ≡ x = some_is (sym a.has ∙ has') in
    subst (λ y. IsFine u new p j y) same_s (subst (λ k. IsFine u new p k s) same_i
    (record { left = left; leaves = leaves; shallow = shallow; goes = a.brings })))

breaks : (u : FunctionCode) (keeps : ℕ → Option ℕ) (p : ℕ) (shapes others : Shapes) → ((q : ℕ) → q < length u.code → keeps q ≡ kept u.code q)
    → Known u shapes p (suc p) → Broken u keeps p shapes → Fits u others (suc p) → ⊥
breaks u keeps p shapes others keep known (passing.Broken.lacks i s is has none) f =
    let x = known.greatest others f (f.begins (zero-lt-suc p)) p s has in
    let g = f.fine p i x.there (lt-suc_self p) is x.has in
    let a = after_below u.look u.result u.room i x.there s g.left x.below g.leaves in
    none_and_some none a.1
breaks u keeps p shapes others keep known (passing.Broken.deep i s left is has leaves deep) f =
    let x = known.greatest others f (f.begins (zero-lt-suc p)) p s has in
    let g = f.fine p i x.there (lt-suc_self p) is x.has in
    let a = after_below u.look u.result u.room i x.there s g.left x.below g.leaves in
    let same : a.0 ≡ left = some_is (sym a.1 ∙ leaves) in
    let stacks : length left.stack ≡ length g.left.stack =
    ap (λ (y : Shape). length y.stack) (sym same) ∙ ap (λ (y : Shape). length y.stack) a.2.is in
    too_deep (length left.stack) (length g.left.stack) deep g.shallow stacks
  where
    too_deep : (a b : ℕ) → deepest < a → b ≤ deepest → a ≡ b → ⊥
    too_deep a b h k e = omega (arith, h, k, e)
breaks u keeps p shapes others keep known (passing.Broken.refused i s left is has leaves refused) f =
    let t : Turn u keeps p i s left = record { is = is; leaves = leaves; keep = keep } in
    some_refuse u keeps p i s left (leads_to p i) shapes others t known has (λ q c. c) refused f

pub broken : (u : FunctionCode) (keeps : ℕ → Option ℕ) (p : ℕ) (shapes : Shapes) → ((q : ℕ) → q < length u.code → keeps q ≡ kept u.code q)
    → Known u shapes p p → Broken u keeps p shapes → BreaksAt u p
broken u keeps p shapes keep known b = record {
  shapes = shapes;
  before = fits_known u shapes p p known;
  broken = λ others f. breaks u keeps p shapes others keep (known_more u shapes p known) b f;
}

-- at the end
pub well_formed : (u : FunctionCode) (shapes : Shapes) (n : ℕ) → n ≡ length u.code → Known u shapes n n → WellFormed u
well_formed u shapes n e known = record {
  shapes = shapes;
  begins = known.begins;
  fits = subst (Fits u shapes) e (fits_known u shapes n n known);
}

pub well_formed_known : (u : FunctionCode) (shapes : Shapes) (n : ℕ) → n ≡ length u.code → Known u shapes n n → Fits u shapes (length u.code)
well_formed_known u shapes n e known = subst (Fits u shapes) e (fits_known u shapes n n known)

-- at the beginning nothing is known but what the entry brings
pub started : (u : FunctionCode) (keeps : ℕ → Option ℕ) (none shapes : Shapes) → ((q : ℕ) → q < length u.code → keeps q ≡ kept u.code q)
    → ((q : ℕ) → none q ≡ None) → length u.parameters ≤ u.room → u.room ≤ most_variables
    → Brought keeps (length u.code) none shapes (entry u.parameters) 0 → Known u shapes 0 0
started u keeps none shapes keep empty few small b =
    let at_first = met_is (keeps 0) (none 0) (entry u.parameters) b.there b.meets in
    let only : (q : ℕ) (s : Shape) → shapes q ≡ Some s → (q ≡ 0) × (b.there ≡ s) = λ q s e.
    elim (decided q 0) [
      | inl h ↦ (h, some_is (sym b.has ∙ ap shapes (sym h) ∙ e))
      | inr h ↦ absurd (none_and_some (b.others q h ∙ empty q) e)
    ] in
    let many : Keeps u shapes = λ q s v e k.
    let h = only q s e in
    ap (λ (x : Shape). length x.variables) (sym h.1) ∙ at_first.many v (keep 0 b.inside ∙ ap (kept u.code) (sym h.0) ∙ k) in
    record {
      begins = record {
        parameters = few;
        room = small;
        entered = brings b.there at_first.below b.has b.inside (λ v k. many 0 b.there v b.has k);
      };
      fine = λ p i s h. absurd (not-suc-le-zero h);
      comes = λ q s e. first (only q s e).0;
      many = many;
      greatest = λ others f g q s e.
          let h = only q s e in
          let w = g.entered in
          let z = met_greatest (keeps 0) (none 0) w.there (entry u.parameters) (brought_below w) (λ x k. absurd (none_and_some (empty 0) k)) (λ n k. w.loop n (sym (keep 0 b.inside) ∙ k)) in
          let same : z.0 ≡ s = some_is (sym z.1 ∙ b.meets) ∙ h.1 in
          record { there = w.there; has = ap others h.0 ∙ w.has; below = subst (Below w.there) same z.2 };
    }

-- a body that can't begin breaks at its first place
pub not_begun : (u : FunctionCode) → ((shapes : Shapes) → Begins u shapes → ⊥) → BreaksAt u 0
not_begun u missing = record {
  shapes = λ q. None;
  before = record {
    begins = λ h. absurd (not-suc-le-zero h);
    fine = λ p i s h. absurd (not-suc-le-zero h);
    comes = λ p s h. absurd (not-suc-le-zero h);
  };
  broken = λ others f. missing others (f.begins (zero-lt-suc 0));
}

pub no_entry : (u : FunctionCode) (keeps : ℕ → Option ℕ) (none : Shapes) → ((q : ℕ) → q < length u.code → keeps q ≡ kept u.code q)
    → ((q : ℕ) → none q ≡ None)
    → (length u.parameters ≤ u.room → u.room ≤ most_variables → 0 < length u.code → met (keeps 0) (none 0) (entry u.parameters) ≡ None) → BreaksAt u 0
no_entry u keeps none keep empty missing =
    not_begun u (λ others g.
    let w = g.entered in
    let z = met_greatest (keeps 0) (none 0) w.there (entry u.parameters) (brought_below w) (λ x k. absurd (none_and_some (empty 0) k)) (λ n k. w.loop n (sym (keep 0 w.inside) ∙ k)) in
    none_and_some (missing g.parameters g.room w.inside) z.1)
