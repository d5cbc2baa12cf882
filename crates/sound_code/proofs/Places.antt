-- The shapes of places in well-formed code, and their heights.
use Rattle.std.proofs.Common.{◌≡◌, ◌⊎◌, inl, inr, ℕ, zero, suc, ◌+◌, ◌≤◌, ◌<◌, List, [], ◌∷◌, ◌++◌, length, slice_get, Contains, Option, Some, None, option_map, refl, sym, ap, ◌∙◌, subst, arith, length-append}
use Rattle.std.specs.Option.{option_flatten}
use Rattle.std.proofs.lemmas.Option.{slice_get_within}
use Rattle.bytecode.specs.Instructions.{Instruction}
use Rattle.code_kinds.specs.Shapes.{Shape, after, leads_to}
use Rattle.code_kinds.specs.WellFormed.{FunctionCode, WellFormed, Brings, IsFine, Comes, first, led, deepest, entry}
use Rattle.code_verify.specs.Verified.{IsVerified}
use Rattle.code_verify.proofs.Below.{none_is_some, some_is}
use Rattle.thread_state.specs.Heights.{HasHeight}
use Rattle.sound_code.proofs.Counts.{counts}

pub flattened : (o : Option (Option ℕ)) (n : ℕ) → option_flatten o ≡ Some n → o ≡ Some (Some n)
flattened None n e = absurd (none_is_some e)
flattened (Some None) n e = absurd (none_is_some e)
flattened (Some (Some m)) n e = ap (λ (x : ℕ). Some (Some x)) (some_is e)

same_there : {s t : Shape} {o : Option Shape} → o ≡ Some s → o ≡ Some t → s ≡ t
same_there e f = some_is (sym e ∙ f)

-- a place with a shape has its height, and is a place of the code
pub has_height : (u : FunctionCode) (heights : List (Option ℕ)) (v : IsVerified u heights) (p : ℕ) (s : Shape) → v.well_formed.shapes p ≡ Some s
    → HasHeight heights p (length s.stack)
has_height u heights v p s e = flattened (slice_get heights p) (length s.stack) (v.lengths p ∙ ap (option_map (λ (x : Shape). length x.stack)) e)

pub inside : (u : FunctionCode) (heights : List (Option ℕ)) → IsVerified u heights → (p h : ℕ) → HasHeight heights p h → p < length u.code
inside u heights v p h e = subst (λ n. p < n) v.many (slice_get_within heights p (Some h) e)

-- a place with a height has a shape with as many words
pub record Stands (u : FunctionCode) (heights : List (Option ℕ)) (v : IsVerified u heights) (p h : ℕ) : Type 0 where
  pub shape : Shape
  pub has : v.well_formed.shapes p ≡ Some shape
  pub many : length shape.stack ≡ h
  pub inside : p < length u.code

shaped : (o : Option Shape) (h : ℕ) → option_map (λ (x : Shape). length x.stack) o ≡ Some h → (s : Shape) × (o ≡ Some s) × (length s.stack ≡ h)
shaped None h e = absurd (none_is_some e)
shaped (Some s) h e = (s, refl, some_is e)

pub stands : (u : FunctionCode) (heights : List (Option ℕ)) (v : IsVerified u heights) (p h : ℕ) → HasHeight heights p h → Stands u heights v p h
stands u heights v p h e =
    let x = shaped (v.well_formed.shapes p) h (sym (v.lengths p) ∙ ap option_flatten e) in
    record { shape = x.0; has = x.1; many = x.2; inside = inside u heights v p h e }

-- an instruction at such a place is fine
pub fine : (u : FunctionCode) (heights : List (Option ℕ)) (v : IsVerified u heights) (p h : ℕ) (x : Stands u heights v p h) (i : Instruction) → slice_get u.code p ≡ Some i
    → IsFine u v.well_formed.shapes p i x.shape
fine u heights v p h x i e = v.well_formed.fits.fine p i x.shape x.inside e x.has

-- to the places where it leads it brings the height of what it leaves
pub brought : (u : FunctionCode) (heights : List (Option ℕ)) (v : IsVerified u heights) (s : Shape) (q : ℕ) → Brings u.code v.well_formed.shapes s q
    → HasHeight heights q (length s.stack)
brought u heights v s q b =
    subst (λ n. HasHeight heights q n) (ap length b.stack) (has_height u heights v q b.there b.has)

-- a stack is never higher than the deepest one
shallow_there : {s : Shape} (u : FunctionCode) (w : WellFormed u) (p : ℕ) → Comes u.code w.shapes p → w.shapes p ≡ Some s → ((q : ℕ) → q < p → q < length u.code)
    → length s.stack ≤ deepest
shallow_there {s} u w p (first e) has before =
    let b = w.begins.entered in
    let same : s ≡ b.there = same_there has (ap w.shapes e ∙ b.has) in
    let none : length b.there.stack ≡ 0 = ap length b.stack in
    let many : length s.stack ≡ length b.there.stack = ap (λ (x : Shape). length x.stack) same in
    omega (arith, none, many)
shallow_there {s} u w p (led q i t lt is has_t to) has before =
    let f = w.fits.fine q i t (before q lt) is has_t in
    let b = f.goes p to in
    let same : s ≡ b.there = same_there has b.has in
    let many : length s.stack ≡ length f.left.stack = ap (λ (x : Shape). length x.stack) same ∙ ap length b.stack in
    let low = f.shallow in
    omega (arith, many, low)

pub shallow : (u : FunctionCode) (w : WellFormed u) (p : ℕ) (s : Shape) → p < length u.code → w.shapes p ≡ Some s → length s.stack ≤ deepest
shallow u w p s h e = shallow_there u w p (w.fits.comes p s h e) e (λ q lt. omega (arith, lt, h))

-- there is room for the variables of each place
prefix_fits : (u : FunctionCode) (shapes : ℕ → Option Shape) (s : Shape) (q : ℕ) (b : Brings u.code shapes s q) → length s.variables ≤ u.room → length b.there.variables ≤ u.room
prefix_fits u shapes s q b h =
    let all : length s.variables ≡ length (b.there.variables ++ b.forgotten) = ap length b.variables in
    let parts = length-append b.there.variables b.forgotten in
    omega (arith, h, all, parts)

few_there : (u : FunctionCode) (w : WellFormed u) (p : ℕ) (s : Shape) → p < length u.code → w.shapes p ≡ Some s
    → ((q : ℕ) (t : Shape) → q < p → q < length u.code → w.shapes q ≡ Some t → length t.variables ≤ u.room)
    → Comes u.code w.shapes p → length s.variables ≤ u.room
few_there u w p s h e earlier (first z) =
    let b = w.begins.entered in
    let same : s ≡ b.there = same_there e (ap w.shapes z ∙ b.has) in
    subst (λ (x : Shape). length x.variables ≤ u.room) (sym same) (prefix_fits u w.shapes (entry u.parameters) 0 b w.begins.parameters)
few_there u w p s h e earlier (led q i t before is has to) =
    let inside : q < length u.code = omega (arith, before, h) in
    let f = w.fits.fine q i t inside is has in
    let c = counts u.look u.result u.room i t f.left (earlier q t before inside has) f.leaves in
    let b = f.goes p to in
    let same : s ≡ b.there = same_there e b.has in
    subst (λ (x : Shape). length x.variables ≤ u.room) (sym same) (prefix_fits u w.shapes f.left p b c.few)

few_before : (u : FunctionCode) (w : WellFormed u) (m p : ℕ) (s : Shape) → p < m → p < length u.code → w.shapes p ≡ Some s → length s.variables ≤ u.room
few_before u w zero p s lt h e = absurd (omega (arith, lt))
few_before u w (suc m) p s lt h e =
    few_there u w p s h e (λ q t before inside has. few_before u w m q t (omega (arith, before, lt)) inside has) (w.fits.comes p s h e)

pub few : (u : FunctionCode) (w : WellFormed u) (p : ℕ) (s : Shape) → p < length u.code → w.shapes p ≡ Some s → length s.variables ≤ u.room
few u w p s h e = few_before u w (suc p) p s (omega arith) h e
