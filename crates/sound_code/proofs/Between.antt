-- Where a frame goes on between two bursts.
use Rattle.std.proofs.Common.{◌≡◌, ◌≢◌, ◌⊎◌, inl, inr, ℕ, zero, suc, ◌+◌, ◌-◌, ◌≤◌, ◌<◌, nat_eq, Bool, true, false, ◌&&◌, List, [], ◌∷◌, length, slice_get, Contains, Option, Some, None, option_map, option_and_then, if◌then◌else◌, refl, sym, ap, ◌∙◌, subst, arith, eqb-true}
use Rattle.std.proofs.lemmas.Option.{slice_get_within}
use Rattle.run_types.specs.CheckIns.{CheckInKind}
use Rattle.run_types.specs.CheckIns as check_in
use Rattle.run_types.specs.Skeleton.{check_in_after}
use Rattle.c_semantics.specs.Texts.{Definitions}
use Rattle.c_semantics.specs.Stops.{Stop, Return, kind_of}
use Rattle.bytecode.specs.Instructions.{Instruction, Halt, Back, CheckIn}
use Rattle.code_kinds.specs.declared.kind.WordKind.{WordKind}
use Rattle.code_kinds.specs.StopKinds.{Words, after_stop}
use Rattle.code_kinds.specs.Shapes.{Due, Shape, after, leads_to, same_check_in, transactions_after}
use Rattle.code_kinds.specs.WellFormed.{FunctionCode, WellFormed, Brings, IsFine, entry}
use Rattle.code_verify.specs.Verified.{IsVerified}
use Rattle.code_verify.specs.Ways.{check_in_in, due_numbered}
use Rattle.code_verify.proofs.Below.{and_then_some, none_is_some, shape, some_is}
use Rattle.code_verify.proofs.Lists.{both, same_check_in_is}
use Rattle.thread_state.specs.Heights.{HasHeight}
use Rattle.sound_code.specs.StopWords.{height_after_stop, stop_takes}
use Rattle.sound_code.specs.SoundLaws.{Enters, GoesOn, LeadsOn}
use Rattle.sound_code.proofs.Counts.{CountsStop, counts_stop, if_some, map_some}
use Rattle.sound_code.proofs.Places.{Stands, brought, fine, has_height, inside, stands}

contains_only : (q : ℕ) → Contains (q ∷ []) q
contains_only q = (0, omega arith, refl)

there_is : {A : Type 0} (xs : List A) (p : ℕ) → p < length xs → (x : A) × (slice_get xs p ≡ Some x)
there_is [] p h = absurd (omega (arith, h))
there_is (x ∷ xs) zero h = (x, refl)
there_is (x ∷ xs) (suc p) h = there_is xs p (omega (arith, h))

-- ---- check-ins

-- the instruction at a place is the check-in that is due there, or none
is_due : (look : Definitions) (result : WordKind) (room : ℕ) (i : Instruction) (stack v : Words) (n : ℕ) (due : Option Due) (left : Shape)
    → after look result room i (shape stack v n due) ≡ Some left → check_in_in i ≡ due
is_due look result room (CheckIn kind m) stack v n (Some due) left e =
    let x = if_some (same_check_in kind due.kind && nat_eq m due.number) (shape stack v n None) left e in
    let parts = both (same_check_in kind due.kind) (nat_eq m due.number) x.0 in
    let kinds : kind ≡ due.kind = same_check_in_is kind due.kind parts.0 in
    let numbers : m ≡ due.number = eqb-true m due.number parts.1 in
    ap (λ k. Some (due_numbered k m)) kinds ∙ ap (λ k. Some (due_numbered due.kind k)) numbers
is_due look result room (CheckIn kind m) stack v n None left e = absurd (none_is_some e)
is_due look result room _ stack v n (Some due) left e = absurd (none_is_some e)
is_due look result room _ stack v n None left e = refl

-- after a check-in the stack is the same
same_stack : (look : Definitions) (result : WordKind) (room : ℕ) (kind : CheckInKind) (m : ℕ) (stack v : Words) (n : ℕ) (due : Option Due) (left : Shape)
    → after look result room (CheckIn kind m) (shape stack v n due) ≡ Some left → stack ≡ left.stack
same_stack look result room kind m stack v n None left e = absurd (none_is_some e)
same_stack look result room kind m stack v n (Some due) left e =
    let x = if_some (same_check_in kind due.kind && nat_eq m due.number) (shape stack v n None) left e in ap (λ (s : Shape). s.stack) x.1

pub check_ins_lead_on : (u : FunctionCode) (heights : List (Option ℕ)) → IsVerified u heights → (place height : ℕ) (kind : CheckInKind) (n : ℕ)
    → HasHeight heights place height → slice_get u.code place ≡ Some (CheckIn kind n) → HasHeight heights (suc place) height
check_ins_lead_on u heights v p h kind n has is =
    let x = stands u heights v p h has in
    let f = fine u heights v p h x (CheckIn kind n) is in
    let s = x.shape in
    let same = same_stack u.look u.result u.room kind n s.stack s.variables s.transactions s.due f.left f.leaves in
    subst (λ m. HasHeight heights (suc p) m) (ap length (sym same) ∙ x.many) (brought u heights v f.left (suc p) (f.goes (suc p) (contains_only (suc p))))

-- the check-in at a place with a shape in which it is due
due_there : (u : FunctionCode) (heights : List (Option ℕ)) (v : IsVerified u heights) (p h : ℕ) (x : Stands u heights v p h) (due : Option Due) → x.shape.due ≡ due
    → option_and_then check_in_in (slice_get u.code p) ≡ due
due_there u heights v p h x due e =
    let s = x.shape in
    let i = there_is u.code p x.inside in
    let f = fine u heights v p h x i.0 i.1 in
    ap (option_and_then check_in_in) i.1 ∙ is_due u.look u.result u.room i.0 s.stack s.variables s.transactions s.due f.left f.leaves ∙ e

check_in_is : (i : Instruction) (kind : CheckInKind) (n : ℕ) → check_in_in i ≡ Some (due_numbered kind n) → i ≡ CheckIn kind n
check_in_is (CheckIn k m) kind n e =
    let same : due_numbered k m ≡ due_numbered kind n = some_is e in
    ap (λ (d : Due). CheckIn d.kind d.number) same
check_in_is _ kind n e = absurd (none_is_some e)

found : (o : Option Instruction) (kind : CheckInKind) (n : ℕ) → option_and_then check_in_in o ≡ Some (due_numbered kind n) → o ≡ Some (CheckIn kind n)
found None kind n e = absurd (none_is_some e)
found (Some i) kind n e = ap Some (check_in_is i kind n e)

-- ---- the entry

pub entry_leads_on : (u : FunctionCode) (heights : List (Option ℕ)) → IsVerified u heights → Enters u heights
entry_leads_on u heights v =
    let b = v.well_formed.begins.entered in
    let here : HasHeight heights 0 0 = brought u heights v (entry u.parameters) 0 b in
    let x : Stands u heights v 0 (length b.there.stack) =
    record { shape = b.there; has = b.has; many = refl; inside = b.inside }
    in
    let is = found (slice_get u.code 0) check_in.Entry 0 (due_there u heights v 0 (length b.there.stack) x (Some (due_numbered check_in.Entry 0)) b.due) in
    record { instruction = is; here = here; onward = check_ins_lead_on u heights v 0 0 check_in.Entry 0 here is }

-- ---- stops

to_next : (p : ℕ) (stop : Stop) (n : ℕ) → stop ≢ Return → Contains (leads_to p (Halt stop n)) (suc p)
to_next p Return n h = absurd (h refl)
to_next p _ n h = contains_only (suc p)

-- what a stop leaves, and the check-in for which it asks
record Halts (look : Definitions) (result : WordKind) (stop : Stop) (m : ℕ) (stack : Words) (left : Shape) : Type 0 where
  counts : CountsStop stop stack left.stack
  due : left.due ≡ option_map (λ kind. due_numbered kind (suc m)) (check_in_after (kind_of stop))

halts : (look : Definitions) (result : WordKind) (room : ℕ) (stop : Stop) (m : ℕ) (stack v : Words) (n : ℕ) (due : Option Due) (left : Shape)
    → after look result room (Halt stop m) (shape stack v n due) ≡ Some left → Halts look result stop m stack left
halts look result room stop m stack v n (Some due) left e = absurd (none_is_some e)
halts look result room stop m stack v n None left e =
    let asked = option_map (λ kind. due_numbered kind (suc m)) (check_in_after (kind_of stop)) in
    let x = and_then_some (λ rest. option_map (λ k. shape rest v k asked) (transactions_after stop n)) (after_stop look result stop stack) left e in
    let y = map_some (λ k. shape x.0 v k asked) (transactions_after stop n) left x.2 in
    let same : shape x.0 v y.0 asked ≡ left = y.2 in
    record {
      counts = subst (λ (s : Shape). CountsStop stop stack s.stack) same (counts_stop look result stop stack x.0 x.1);
      due = ap (λ (s : Shape). s.due) (sym same);
    }

goes_after : (u : FunctionCode) (heights : List (Option ℕ)) (v : IsVerified u heights) (stop : Stop) (n q h : ℕ) (left : Shape)
    → length left.stack ≡ h → left.due ≡ option_map (λ kind. due_numbered kind (suc n)) (check_in_after (kind_of stop))
    → Brings u.code v.well_formed.shapes left q → GoesOn u heights stop n q h
goes_after u heights v stop n q h left many due b = record {
  here = here;
  asked = asked;
  onward = λ kind e. check_ins_lead_on u heights v q h kind (suc n) here
      (found (slice_get u.code q) kind (suc n) (asked ∙ ap (option_map (λ k. due_numbered k (suc n))) e));
}
  where
    here : HasHeight heights q h
    here = subst (λ m. HasHeight heights q m) many (brought u heights v left q b)

    asked : option_and_then check_in_in (slice_get u.code q) ≡ option_map (λ kind. due_numbered kind (suc n)) (check_in_after (kind_of stop))
    asked =
        due_there u heights v q (length b.there.stack) record { shape = b.there; has = b.has; many = refl; inside = b.inside }
        (option_map (λ kind. due_numbered kind (suc n)) (check_in_after (kind_of stop))) (b.due ∙ due)

leads_on : (u : FunctionCode) (heights : List (Option ℕ)) (v : IsVerified u heights) (p : ℕ) (stop : Stop) (n : ℕ) (s : Shape)
    → slice_get u.code p ≡ Some (Halt stop n) → v.well_formed.shapes p ≡ Some s → p < length u.code → LeadsOn u heights s stop n p (length s.stack)
leads_on u heights v p stop n s is has h =
    let f = v.well_formed.fits.fine p (Halt stop n) s h is has in
    let c = halts u.look u.result u.room stop n s.stack s.variables s.transactions s.due f.left f.leaves in
    record {
      is = refl;
      takes = c.counts.takes;
      left = f.left;
      leaves = f.leaves;
      many = c.counts.leaves;
      goes = λ other. goes_after u heights v stop n (suc p) (height_after_stop stop (length s.stack)) f.left c.counts.leaves c.due (f.goes (suc p) (to_next p stop n other));
    }

pub stops_lead_on : (u : FunctionCode) (heights : List (Option ℕ)) (v : IsVerified u heights) (place height : ℕ) (stop : Stop) (n : ℕ)
    → HasHeight heights place height → slice_get u.code place ≡ Some (Halt stop n)
    → (s : Shape) × (v.well_formed.shapes place ≡ Some s) × LeadsOn u heights s stop n place height
stops_lead_on u heights v p h stop n has is =
    let x = stands u heights v p h has in
    (x.shape, x.has, subst (λ m. LeadsOn u heights x.shape stop n p m) x.many (leads_on u heights v p stop n x.shape is x.has x.inside))

-- ---- back edges

no_check_in : (look : Definitions) (result : WordKind) (room : ℕ) (d m w : ℕ) (stack v : Words) (n : ℕ) (due : Option Due) (left : Shape)
    → after look result room (Back d m w) (shape stack v n due) ≡ Some left → (left.due ≡ None) × (stack ≡ left.stack)
no_check_in look result room d m w stack v n (Some due) left e = absurd (none_is_some e)
no_check_in look result room d m w stack v n None left e =
    let same : shape stack v n None ≡ left = some_is e in
    (ap (λ (s : Shape). s.due) (sym same), ap (λ (s : Shape). s.stack) same)

-- the first place asks for the entry check-in
not_first : (u : FunctionCode) (w : WellFormed u) (s : Shape) (q : ℕ) → s.due ≡ None → Brings u.code w.shapes s q → q ≡ 0 → ⊥
not_first u w s q none b e =
    let first = w.begins.entered in
    let same : first.there ≡ b.there = some_is (sym first.has ∙ ap w.shapes (sym e) ∙ b.has) in
    none_is_some (sym (b.due ∙ none) ∙ ap (λ (x : Shape). x.due) (sym same) ∙ first.due)

pub back_edges_lead_back : (u : FunctionCode) (heights : List (Option ℕ)) → IsVerified u heights → (place height d n v : ℕ)
    → HasHeight heights place height → slice_get u.code place ≡ Some (Back d n v) → (d < place) × HasHeight heights (place - d) height
back_edges_lead_back u heights v p h d n kept has is =
    let x = stands u heights v p h has in
    let f = fine u heights v p h x (Back d n kept) is in
    let s = x.shape in
    let c = no_check_in u.look u.result u.room d n kept s.stack s.variables s.transactions s.due f.left f.leaves in
    let b = f.goes (p - d) (contains_only (p - d)) in (
      later p d (not_first u v.well_formed f.left (p - d) c.0 b),
      subst (λ m. HasHeight heights (p - d) m) (ap length (sym c.1) ∙ x.many) (brought u heights v f.left (p - d) b),
    )
  where
    later : (p d : ℕ) → (p - d ≡ 0 → ⊥) → d < p
    later zero d h = absurd (h (omega arith))
    later (suc p) zero h = omega arith
    later (suc p) (suc d) h = let x = later p d (λ e. h (omega (arith, e))) in omega (arith, x)
