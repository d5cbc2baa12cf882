-- Where a thread goes on, its mark covers where it comes to.
use Rattle.std.proofs.Common.{◌≡◌, ℕ, Bool, true, false, not, List, ◌++◌, Some, None, refl, sym, ap, subst}
use Rattle.std.specs.Prelude.{Option, option_map}
use Rattle.std.proofs.lemmas.Bool.{false≢true}
use Rattle.std.proofs.lemmas.Option.{same_Some}
use Rattle.run_types.specs.Skeleton.{Point, PointKind, Call, Return}
use Rattle.c_tree.specs.BareExpr.{Bytes}
use Rattle.c_semantics.specs.Skeletons.{is_check_in_kind}
use Rattle.c_semantics.specs.Store.{Body, Mark}
use Rattle.c_semantics.specs.Threads.{Enter}
use Rattle.effects.specs.Sites.{Site, IsCall, IsReturn, IsEntry, Next, Passes, point_in, after_call, stays}
use Rattle.effects.specs.Rows.{Covered}
use Rattle.effects.specs.Rows as rows
use Rattle.admission_laws.specs.Standing.{Behind, Placed, calling, coming, passed, stopped}
use Rattle.admission_laws.proofs.PointFacts.{passes_kind}
use Rattle.admission_laws.proofs.LargerStores.{covered as covered_more, behind as behind_more, at_call as at_call_more, passes as passes_more, is_check_in as is_check_in_more}

check_in_stays : (k : PointKind) → is_check_in_kind k ≡ true → stays k ≡ true
check_in_stays (Call f) h = absurd (false≢true h)
check_in_stays Return h = absurd (false≢true h)
check_in_stays _ h = refl

-- control goes on from a check-in
stays_there : (bodies : List Body) (p : Site) → Passes bodies p (λ at. is_check_in_kind at.kind) → Passes bodies p (λ at. stays at.kind)
stays_there bodies p x = record { passes = by (point_in bodies p) x.passes }
  where
    by : (o : Option Point) → option_map (λ at. is_check_in_kind at.kind) o ≡ Some true → option_map (λ at. stays at.kind) o ≡ Some true
    by None e = cc
    by (Some at) e = ap Some (check_in_stays at.kind (same_Some _ _ e))

-- from where a thread is, before its next stop
pub onward : (bodies : List Body) (mark : Mark) (p n : Site) (v : ℕ) → Placed bodies mark p v None false → Next bodies p n → Behind bodies mark n
onward bodies mark p n v (passed f generation number is_mark at) next = record {
  function = f;
  generation = generation;
  number = number;
  is_mark = is_mark;
  check_in = p;
  is_check_in = at;
  covers = rows.first n (rows.on p n (stays_there bodies p at.is_check_in) next);
}
onward bodies mark p n v (stopped b no_check_in stays) next = record {
  function = b.function;
  generation = b.generation;
  number = b.number;
  is_mark = b.is_mark;
  check_in = b.check_in;
  is_check_in = b.is_check_in;
  covers = rows.then p n b.covers no_check_in (rows.on p n stays next);
}

-- over an edge from a point that is no check-in
pub along : (bodies : List Body) (mark : Mark) (p q : Site) → Behind bodies mark p → Passes bodies p (λ at. not (is_check_in_kind at.kind))
    → rows.Edge bodies p q → Behind bodies mark q
along bodies mark p q b no_check_in edge = record {
  function = b.function;
  generation = b.generation;
  number = b.number;
  is_mark = b.is_mark;
  check_in = b.check_in;
  is_check_in = b.is_check_in;
  covers = rows.then p q b.covers no_check_in edge;
}

pub further : (bodies : List Body) (mark : Mark) (p q : Site) → Behind bodies mark p → Passes bodies p (λ at. not (is_check_in_kind at.kind))
    → Passes bodies p (λ at. stays at.kind) → Next bodies p q → Behind bodies mark q
further bodies mark p q b no_check_in stays next = along bodies mark p q b no_check_in (rows.on p q stays next)

pub into : (bodies : List Body) (mark : Mark) (c e : Site) (f : Bytes) → Behind bodies mark c → IsCall bodies c f → IsEntry bodies e f
    → Behind bodies mark e
into bodies mark c e f b call entry =
    along bodies mark c e b (passes_kind bodies c (Call f) (λ k. not (is_check_in_kind k)) call refl) (rows.call c e f call entry)

pub out_of : (bodies : List Body) (mark : Mark) (r c : Site) (f : Bytes) → Behind bodies mark r → IsReturn bodies r f → IsCall bodies c f
    → Behind bodies mark (after_call c)
out_of bodies mark r c f b ret call =
    along bodies mark r (after_call c) b (passes_kind bodies r Return (λ k. not (is_check_in_kind k)) ret.is_return refl)
    (rows.return r c f ret call)

pub covered_of : (bodies : List Body) (mark : Mark) (p : Site) → Behind bodies mark p → Covered bodies mark p
covered_of bodies mark p b =
    subst (λ m. Covered bodies m p) (sym b.is_mark)
    (rows.passed b.function b.generation b.number b.check_in p b.is_check_in b.covers)

-- wherever a thread is placed, its mark covers it
pub covers_place : (bodies : List Body) (mark : Mark) (p : Site) (v : ℕ) (due : Option Enter) (coming_there : Bool)
    → Placed bodies mark p v due coming_there → Covered bodies mark p
covers_place bodies mark p v _ _ (calling e b call version) = covered_of bodies mark p b
covers_place bodies mark p v _ _ (coming covered check_in) = covered
covers_place bodies mark p v _ _ (passed f generation number is_mark at) =
    subst (λ m. Covered bodies m p) (sym is_mark) (rows.passed f generation number p p at rows.itself)
covers_place bodies mark p v _ _ (stopped b no_check_in stays) = covered_of bodies mark p b

-- a place in a larger store
pub placed_more : (bodies more : List Body) (mark : Mark) (p : Site) (v : ℕ) (due : Option Enter) (coming_there : Bool)
    → Placed bodies mark p v due coming_there → Placed (bodies ++ more) mark p v due coming_there
placed_more bodies more mark p v _ _ (calling e b call version) =
    calling e (behind_more bodies more mark p b) (at_call_more bodies more p e.function call) version
placed_more bodies more mark p v _ _ (coming covered check_in) =
    coming (covered_more bodies more mark p covered) (passes_more bodies more p _ check_in)
placed_more bodies more mark p v _ _ (passed f generation number is_mark at) =
    passed f generation number is_mark (is_check_in_more bodies more p f generation number at)
placed_more bodies more mark p v _ _ (stopped b no_check_in stays) =
    stopped (behind_more bodies more mark p b) (passes_more bodies more p _ no_check_in) (passes_more bodies more p _ stays)
