-- Local evaluation of a tree that is at its place in a skeleton stops at the tree's points, and then at those after it.
use Rattle.std.proofs.Common.{◌≡◌, ◌≢◌, ℕ, zero, suc, ◌+◌, Bool, true, List, [], ◌∷◌, ◌++◌, Some, None, refl, subst, append_assoc, append-nil}
use Rattle.run_types.specs.CheckIns.{CheckInKind}
use Rattle.run_types.specs.CheckIns as check_in
use Rattle.run_types.specs.Skeleton.{PointKind, Point, Skeleton, check_in_after, depth_after}
use Rattle.run_types.specs.Skeleton as kind
use Rattle.c_semantics.specs.Values.{Number, int_of, converted_to}
use Rattle.c_semantics.specs.Resolved.{Expression, Expressions, Place, Constant, Read, Unary, Binary, Convert, And, Or, Choice, Assign, Update, Postfix, Call, Print, New, Free, Create, Join, JoinInto, InitMutex, Lock, Unlock, NoExpressions, ExpressionThen, Local, Global, Element, Field}
use Rattle.c_semantics.specs.Points.{reads, writes, of_expression, of_expressions, of_parts, size, size_all, size_parts, size_read}
use Rattle.c_semantics.specs.Stops.{Stop, kind_of}
use Rattle.c_semantics.specs.Stops as stop
use Rattle.c_semantics.specs.Pieces.{Piece, Compute, Arguments, Parts, Get, Set, Dup, Tuck, Swap, Apply, Combine, ConvertTo, Drop, Push, Truth, Created, AndThen, OrElse, Choose, At}
use Rattle.c_semantics.specs.Evaluation.{Next, Ways, local, ways, stop_at, get, set, dup, tuck, swap_part, give, change, drop, apply, combine, choose, load, store, copy, swap, tuck_under, as_truth, creation, count, one, closing, only, back_edge, stepped, looped, tested, loop_test, repeated, until, loop_of, declared, close_scope}
use Rattle.c_semantics.specs.Evaluation as ev
use Rattle.c_semantics.specs.Skeletons.{Flow, Targets, union, on_to, guarded, loop, do_loop, access, expression_if}
use Rattle.c_semantics.specs.Skeletons as flow
use Rattle.c_semantics.proofs.Segments.{Has, HasKinds, kinds_left, kinds_right}
use Rattle.c_semantics.proofs.Sizes.{rows, rows_all, part_rows, read_rows}
use Rattle.c_semantics.proofs.Landing.{enough, Holds, fits, fewer, give_holds, change_holds, drop_holds, apply_holds, combine_holds, choose_holds, local_read_holds, local_write_holds, copy_holds, swap_holds, tuck_holds, stop_holds, stop_leads}

module _ (s : Skeleton) (tracked : Bool) where
  -- a stop that no check-in follows, and one that a check-in follows
  pub plain : (i t d : ℕ) (to : List ℕ) (at : Stop) (n : ℕ) (rest : List Piece)
      → Has s n (record { kind = kind_of at; depth = d } ∷ []) (to ∷ []) → check_in_after (kind_of at) ≡ None
      → (tracked ≡ true → d ≡ t) → (tracked ≡ true → fits at t ≡ true) → (at ≢ stop.Return → Holds s tracked i (depth_after (kind_of at) t) to (local rest))
      → Holds s tracked i t (n ∷ []) (stop_at at n rest)
  plain zero t d to at n rest has none same fit behind values scopes = enough t (n ∷ []) _
  plain (suc i) t d to at n rest has none same fit behind values scopes =
      stop_holds s tracked i t d to at n rest values scopes has none same fit
      (λ stays more others. fewer s tracked i _ to (local rest more others) (behind stays more others))

  pub leading : (i t d e : ℕ) (to : List ℕ) (at : Stop) (k : CheckInKind) (n : ℕ) (rest : List Piece)
      → Has s n (record { kind = kind_of at; depth = d } ∷ record { kind = kind.CheckIn k; depth = e } ∷ []) ((suc n ∷ []) ∷ to ∷ [])
      → check_in_after (kind_of at) ≡ Some k → (tracked ≡ true → d ≡ t) → (tracked ≡ true → fits at t ≡ true)
      → (at ≢ stop.Return → Holds s tracked i (depth_after (kind_of at) t) to (local rest))
      → Holds s tracked i t (n ∷ []) (stop_at at n rest)
  leading zero t d e to at k n rest has some same fit behind values scopes = enough t (n ∷ []) _
  leading (suc i) t d e to at k n rest has some same fit behind values scopes =
      stop_leads s tracked i t d e to at k n rest values scopes has some same fit
      (λ stays more others. fewer s tracked i _ to (local rest more others) (behind stays more others))

  -- the read and the write of a place
  get_holds : (p : Place) (i t d n : ℕ) (to : List ℕ) (rest : List Piece) → HasKinds s d n (reads p) (access p n to).next
      → (tracked ≡ true → d ≡ t) → Holds s tracked i t to (local rest)
      → Holds s tracked i t (access p n to).first (get p n rest (local rest))
  get_holds (Local name) i t d n to rest has same h = local_read_holds s tracked i t to name (local rest) h
  get_holds (Global name) i t d n to rest has same h = plain i t d to (stop.ReadGlobal name) n rest has refl same (λ _. refl) (λ _. h)
  get_holds (Element name index) i t d n to rest has same h =
      plain i t d to (stop.ReadElement name) n rest has refl same (λ _. refl) (λ _. h)
  get_holds (Field tag handle name) i t d n to rest has same h =
      plain i t d to (stop.ReadField tag name) n rest has refl same (λ _. refl) (λ _. h)

  set_holds : (p : Place) (i t d n : ℕ) (to : List ℕ) (rest : List Piece) → HasKinds s d n (writes p) (access p n to).next
      → (tracked ≡ true → d ≡ t) → Holds s tracked i t to (local rest)
      → Holds s tracked i t (access p n to).first (set p n rest (local rest))
  set_holds (Local name) i t d n to rest has same h = local_write_holds s tracked i t to name (local rest) h
  set_holds (Global name) i t d n to rest has same h = plain i t d to (stop.WriteGlobal name) n rest has refl same (λ _. refl) (λ _. h)
  set_holds (Element name index) i t d n to rest has same h =
      plain i t d to (stop.WriteElement name) n rest has refl same (λ _. refl) (λ _. h)
  set_holds (Field tag handle name) i t d n to rest has same h =
      plain i t d to (stop.WriteField tag name) n rest has refl same (λ _. refl) (λ _. h)

  -- moves of a place's part among the values
  dup_holds : (p : Place) (i t : ℕ) (to : List ℕ) (k : Next) → Holds s tracked i t to k → Holds s tracked i t to (dup p k)
  dup_holds (Local name) i t to k h = h
  dup_holds (Global name) i t to k h = h
  dup_holds (Element name index) i t to k h = copy_holds s tracked i t to k h
  dup_holds (Field tag handle name) i t to k h = copy_holds s tracked i t to k h

  keep_holds : (p : Place) (i t : ℕ) (to : List ℕ) (k : Next) → Holds s tracked i t to k → Holds s tracked i t to (tuck p k)
  keep_holds (Local name) i t to k h = copy_holds s tracked i t to k h
  keep_holds (Global name) i t to k h = copy_holds s tracked i t to k h
  keep_holds (Element name index) i t to k h = tuck_holds s tracked i t to k h
  keep_holds (Field tag handle name) i t to k h = tuck_holds s tracked i t to k h

  swap_part_holds : (p : Place) (i t : ℕ) (to : List ℕ) (k : Next) → Holds s tracked i t to k → Holds s tracked i t to (swap_part p k)
  swap_part_holds (Local name) i t to k h = h
  swap_part_holds (Global name) i t to k h = h
  swap_part_holds (Element name index) i t to k h = swap_holds s tracked i t to k h
  swap_part_holds (Field tag handle name) i t to k h = swap_holds s tracked i t to k h

  -- a tree before others
  first_of : (a : Expression) (d n : ℕ) (to : List ℕ) (ks : List PointKind) (more : List (List ℕ))
      → HasKinds s d n (of_expression a ++ ks) ((flow.expression a n to).next ++ more)
      → HasKinds s d n (of_expression a) (flow.expression a n to).next
  first_of a d n to ks more has = kinds_left s d n (of_expression a) ks (flow.expression a n to).next more has

  then_of : (a : Expression) (d n : ℕ) (to : List ℕ) (ks : List PointKind) (more : List (List ℕ))
      → HasKinds s d n (of_expression a ++ ks) ((flow.expression a n to).next ++ more) → HasKinds s d (n + size a) ks more
  then_of a d n to ks more has =
      kinds_right s d n (size a) (of_expression a) ks (flow.expression a n to).next more refl (rows a n to).alike has

  first_parts : (p : Place) (d n : ℕ) (to : List ℕ) (ks : List PointKind) (more : List (List ℕ))
      → HasKinds s d n (of_parts p ++ ks) ((flow.parts p n to).next ++ more) → HasKinds s d n (of_parts p) (flow.parts p n to).next
  first_parts p d n to ks more has = kinds_left s d n (of_parts p) ks (flow.parts p n to).next more has

  then_parts : (p : Place) (d n : ℕ) (to : List ℕ) (ks : List PointKind) (more : List (List ℕ))
      → HasKinds s d n (of_parts p ++ ks) ((flow.parts p n to).next ++ more) → HasKinds s d (n + size_parts p) ks more
  then_parts p d n to ks more has =
      kinds_right s d n (size_parts p) (of_parts p) ks (flow.parts p n to).next more refl (part_rows p n to).alike has

  first_read : (p : Place) (d n : ℕ) (to : List ℕ) (ks : List PointKind) (more : List (List ℕ))
      → HasKinds s d n (reads p ++ ks) ((access p n to).next ++ more) → HasKinds s d n (reads p) (access p n to).next
  first_read p d n to ks more has = kinds_left s d n (reads p) ks (access p n to).next more has

  then_read : (p : Place) (d n : ℕ) (to : List ℕ) (ks : List PointKind) (more : List (List ℕ))
      → HasKinds s d n (reads p ++ ks) ((access p n to).next ++ more) → HasKinds s d (n + size_read p) ks more
  then_read p d n to ks more has =
      kinds_right s d n (size_read p) (reads p) ks (access p n to).next more refl (read_rows p n to).alike has

  first_all : (es : Expressions) (d n : ℕ) (to : List ℕ) (ks : List PointKind) (more : List (List ℕ))
      → HasKinds s d n (of_expressions es ++ ks) ((flow.expressions es n to).next ++ more)
      → HasKinds s d n (of_expressions es) (flow.expressions es n to).next
  first_all es d n to ks more has = kinds_left s d n (of_expressions es) ks (flow.expressions es n to).next more has

  then_all : (es : Expressions) (d n : ℕ) (to : List ℕ) (ks : List PointKind) (more : List (List ℕ))
      → HasKinds s d n (of_expressions es ++ ks) ((flow.expressions es n to).next ++ more) → HasKinds s d (n + size_all es) ks more
  then_all es d n to ks more has =
      kinds_right s d n (size_all es) (of_expressions es) ks (flow.expressions es n to).next more refl (rows_all es n to).alike has

  -- three parts in a row
  in_a_row : (d n : ℕ) (a b c : List PointKind) (more : List (List ℕ)) → HasKinds s d n (a ++ b ++ c) more
      → HasKinds s d n (a ++ (b ++ c)) more
  in_a_row d n a b c more has = subst (λ ks. HasKinds s d n ks more) (append_assoc a b c) has

  mutual
    pub expression : (e : Expression) (i t d n : ℕ) (to : List ℕ) (rest : List Piece)
        → HasKinds s d n (of_expression e) (flow.expression e n to).next → (tracked ≡ true → d ≡ t)
        → Holds s tracked i t to (local rest)
        → Holds s tracked i t (flow.expression e n to).first (ev.expression e n rest (local rest))
    expression (Constant v) i t d n to rest has same h = give_holds s tracked i t to (Number v) (local rest) h
    expression (Read p) i t d n to rest has same h =
        let m = n + size_parts p in
        let r = access p m to in
        parts p i t d n r.first (Get p m ∷ rest) (first_parts p d n r.first (reads p) r.next has) same
        (get_holds p i t d m to rest (then_parts p d n r.first (reads p) r.next has) same h)
    expression (Unary op a) i t d n to rest has same h =
        expression a i t d n to (Apply op ∷ rest) has same (apply_holds s tracked i t to op (local rest) h)
    expression (Binary op a b) i t d n to rest has same h =
        let m = n + size a in
        let y = flow.expression b m to in
        expression a i t d n y.first (Compute b m ∷ Combine op ∷ rest) (first_of a d n y.first (of_expression b) y.next has) same
        (expression b i t d m to (Combine op ∷ rest) (then_of a d n y.first (of_expression b) y.next has) same
        (combine_holds s tracked i t to op (local rest) h))
    expression (Convert type a) i t d n to rest has same h =
        expression a i t d n to (ConvertTo type ∷ rest) has same (change_holds s tracked i t to (converted_to type) (local rest) h)
    expression (And a b) i t d n to rest has same h =
        let m = n + size a in
        let y = flow.expression b m to in
        let x = union y.first to in
        let given = subst (λ more. HasKinds s d n (of_expression a ++ of_expression b) ((flow.expression a n x).next ++ more)) (append-nil y.next) has in
        expression a i t d n x (AndThen b m ∷ rest) (first_of a d n x (of_expression b) y.next given) same
        (choose_holds s tracked i t y.first to (ev.expression b m (Truth ∷ rest) (change as_truth (local rest))) (give (int_of 0) (local rest))
        (expression b i t d m to (Truth ∷ rest) (then_of a d n x (of_expression b) y.next given) same
        (change_holds s tracked i t to as_truth (local rest) h))
        (give_holds s tracked i t to (int_of 0) (local rest) h))
    expression (Or a b) i t d n to rest has same h =
        let m = n + size a in
        let y = flow.expression b m to in
        let x = union to y.first in
        expression a i t d n x (OrElse b m ∷ rest) (first_of a d n x (of_expression b) y.next has) same
        (choose_holds s tracked i t to y.first (give (int_of 1) (local rest)) (ev.expression b m (Truth ∷ rest) (change as_truth (local rest)))
        (give_holds s tracked i t to (int_of 1) (local rest) h)
        (expression b i t d m to (Truth ∷ rest) (then_of a d n x (of_expression b) y.next has) same
        (change_holds s tracked i t to as_truth (local rest) h)))
    expression (Choice c a b) i t d n to rest has same h =
        let m = n + size c in
        let k = m + size a in
        let x = flow.expression a m to in
        let y = flow.expression b k to in
        let u = union x.first y.first in
        let z = flow.expression c n u in
        let given = in_a_row d n (of_expression c) (of_expression a) (of_expression b) (z.next ++ (x.next ++ y.next)) has in
        let both = then_of c d n u (of_expression a ++ of_expression b) (x.next ++ y.next) given in
        expression c i t d n u (Choose a b m ∷ rest) (first_of c d n u (of_expression a ++ of_expression b) (x.next ++ y.next) given) same
        (choose_holds s tracked i t x.first y.first (ev.expression a m rest (local rest)) (ev.expression b k rest (local rest))
        (expression a i t d m to rest (first_of a d m to (of_expression b) y.next both) same h)
        (expression b i t d k to rest (then_of a d m to (of_expression b) y.next both) same h))
    expression (Assign p e) i t d n to rest has same h =
        let m = n + size_parts p in
        let w = m + size e in
        let z = access p w to in
        let y = flow.expression e m z.first in
        let x = flow.parts p n y.first in
        let given = in_a_row d n (of_parts p) (of_expression e) (writes p) (x.next ++ (y.next ++ z.next)) has in
        let both = then_parts p d n y.first (of_expression e ++ writes p) (y.next ++ z.next) given in
        parts p i t d n y.first (Compute e m ∷ Set p w ∷ rest) (first_parts p d n y.first (of_expression e ++ writes p) (y.next ++ z.next) given) same
        (expression e i t d m z.first (Set p w ∷ rest) (first_of e d m z.first (writes p) z.next both) same
        (set_holds p i t d w to rest (then_of e d m z.first (writes p) z.next both) same h))
    expression (Update type op p e) i t d n to rest has same h =
        let r = n + size_parts p in
        let m = r + size_read p in
        let w = m + size e in
        let kept = ConvertTo type ∷ Set p w ∷ rest in
        let z = access p w to in
        let y = flow.expression e m z.first in
        let v = access p r y.first in
        let x = flow.parts p n v.first in
        let one = in_a_row d n (of_parts p ++ reads p) (of_expression e) (writes p) (x.next ++ (v.next ++ (y.next ++ z.next))) has in
        let given = in_a_row d n (of_parts p) (reads p) (of_expression e ++ writes p) (x.next ++ (v.next ++ (y.next ++ z.next))) one in
        let three = then_parts p d n v.first (reads p ++ (of_expression e ++ writes p)) (v.next ++ (y.next ++ z.next)) given in
        let both = then_read p d r y.first (of_expression e ++ writes p) (y.next ++ z.next) three in
        let finish = set_holds p i t d w to rest (then_of e d m z.first (writes p) z.next both) same h in
        let turned = change_holds s tracked i t z.first (converted_to type) (set p w rest (local rest)) finish in
        let right = expression e i t d m z.first (Combine op ∷ kept) (first_of e d m z.first (writes p) z.next both) same
        (combine_holds s tracked i t z.first op (local kept) turned) in
        let left = get_holds p i t d r y.first (Compute e m ∷ Combine op ∷ kept)
        (first_read p d r y.first (of_expression e ++ writes p) (y.next ++ z.next) three) same right in
        parts p i t d n v.first (Dup p ∷ Get p r ∷ Compute e m ∷ Combine op ∷ kept)
        (first_parts p d n v.first (reads p ++ (of_expression e ++ writes p)) (v.next ++ (y.next ++ z.next)) given) same
        (dup_holds p i t v.first (local (Get p r ∷ Compute e m ∷ Combine op ∷ kept)) left)
    expression (Postfix type op p) i t d n to rest has same h =
        let r = n + size_parts p in
        let w = r + size_read p in
        let kept = Tuck p ∷ Push one ∷ Combine op ∷ ConvertTo type ∷ Set p w ∷ Drop ∷ rest in
        let z = access p w to in
        let v = access p r z.first in
        let x = flow.parts p n v.first in
        let given = in_a_row d n (of_parts p) (reads p) (writes p) (x.next ++ (v.next ++ z.next)) has in
        let both = then_parts p d n v.first (reads p ++ writes p) (v.next ++ z.next) given in
        let finish = set_holds p i t d w to (Drop ∷ rest) (then_read p d r z.first (writes p) z.next both) same
        (drop_holds s tracked i t to (local rest) h) in
        let turned = change_holds s tracked i t z.first (converted_to type) (local (Set p w ∷ Drop ∷ rest)) finish in
        let stepped_on = give_holds s tracked i t z.first one (local (Combine op ∷ ConvertTo type ∷ Set p w ∷ Drop ∷ rest))
        (combine_holds s tracked i t z.first op (local (ConvertTo type ∷ Set p w ∷ Drop ∷ rest)) turned) in
        parts p i t d n v.first (Dup p ∷ Get p r ∷ kept) (first_parts p d n v.first (reads p ++ writes p) (v.next ++ z.next) given) same
        (dup_holds p i t v.first (local (Get p r ∷ kept))
        (get_holds p i t d r z.first kept (first_read p d r z.first (writes p) z.next both) same
        (keep_holds p i t z.first (local (Push one ∷ Combine op ∷ ConvertTo type ∷ Set p w ∷ Drop ∷ rest)) stepped_on)))
    expression (Call name arguments) i t d n to rest has same h =
        let m = n + size_all arguments in
        let c = stop.Call name (count arguments) in
        let ks = kind.Call name ∷ kind.CheckIn check_in.Call ∷ [] in
        let more = (suc m ∷ []) ∷ to ∷ [] in
        expressions arguments i t d n (m ∷ []) (At c m ∷ rest) (first_all arguments d n (m ∷ []) ks more has) same
        (leading i t d d to c check_in.Call m rest (then_all arguments d n (m ∷ []) ks more has) refl same (λ _. refl) (λ _. h))
    expression (Print format arguments) i t d n to rest has same h =
        let m = n + size_all arguments in
        let c = stop.Print format (count arguments) in
        expressions arguments i t d n (m ∷ []) (At c m ∷ rest) (first_all arguments d n (m ∷ []) (kind.Print ∷ []) (to ∷ []) has) same
        (plain i t d to c m rest (then_all arguments d n (m ∷ []) (kind.Print ∷ []) (to ∷ []) has) refl same (λ _. refl) (λ _. h))
    expression (New tag) i t d n to rest has same h = plain i t d to (stop.New tag) n rest has refl same (λ _. refl) (λ _. h)
    expression (Free tag e) i t d n to rest has same h =
        let m = n + size e in
        let c = stop.Free tag in
        expression e i t d n (m ∷ []) (At c m ∷ rest) (first_of e d n (m ∷ []) (kind_of c ∷ []) (to ∷ []) has) same
        (plain i t d to c m rest (then_of e d n (m ∷ []) (kind_of c ∷ []) (to ∷ []) has) refl same (λ _. refl) (λ _. h))
    expression (Create p name e) i t d n to rest has same h =
        let m = n + size_parts p in
        let c = m + size e in
        let z = access p (c + 1) to in
        let y = flow.expression e m (c ∷ []) in
        let x = flow.parts p n y.first in
        let ks = kind.Spawn name ∷ writes p in
        let more = z.first ∷ z.next in
        let kept = Set p (c + 1) ∷ Created ∷ rest in
        let given = in_a_row d n (of_parts p) (of_expression e) ks (x.next ++ (y.next ++ more)) has in
        let both = then_parts p d n y.first (of_expression e ++ ks) (y.next ++ more) given in
        let last = then_of e d m (c ∷ []) ks more both in
        parts p i t d n y.first (Compute e m ∷ At (stop.Spawn name) c ∷ kept)
        (first_parts p d n y.first (of_expression e ++ ks) (y.next ++ more) given) same
        (expression e i t d m (c ∷ []) (At (stop.Spawn name) c ∷ kept) (first_of e d m (c ∷ []) ks more both) same
        (plain i t d z.first (stop.Spawn name) c kept
        (kinds_left s d c (kind.Spawn name ∷ []) (writes p) (z.first ∷ []) z.next last) refl same (λ _. refl)
        (λ _. set_holds p i t d (c + 1) to (Created ∷ rest)
        (kinds_right s d c 1 (kind.Spawn name ∷ []) (writes p) (z.first ∷ []) z.next refl refl last) same
        (change_holds s tracked i t to creation (local rest) h))))
    expression (Join e) i t d n to rest has same h =
        let m = n + size e in
        let kept = Drop ∷ Push (int_of 0) ∷ rest in
        expression e i t d n (m ∷ []) (At stop.Join m ∷ kept) (first_of e d n (m ∷ []) (kind.Join ∷ []) (to ∷ []) has) same
        (plain i t d to stop.Join m kept (then_of e d n (m ∷ []) (kind.Join ∷ []) (to ∷ []) has) refl same (λ _. refl)
        (λ _. drop_holds s tracked i t to (local (Push (int_of 0) ∷ rest)) (give_holds s tracked i t to (int_of 0) (local rest) h)))
    expression (JoinInto e p) i t d n to rest has same h =
        let m = n + size e in
        let j = m + size_parts p in
        let z = access p (j + 1) to in
        let y = flow.parts p m (j ∷ []) in
        let x = flow.expression e n y.first in
        let ks = kind.Join ∷ writes p in
        let more = z.first ∷ z.next in
        let kept = Set p (j + 1) ∷ Drop ∷ Push (int_of 0) ∷ rest in
        let given = in_a_row d n (of_expression e) (of_parts p) ks (x.next ++ (y.next ++ more)) has in
        let both = then_of e d n y.first (of_parts p ++ ks) (y.next ++ more) given in
        let last = then_parts p d m (j ∷ []) ks more both in
        expression e i t d n y.first (Parts p m ∷ Swap p ∷ At stop.Join j ∷ kept)
        (first_of e d n y.first (of_parts p ++ ks) (y.next ++ more) given) same
        (parts p i t d m (j ∷ []) (Swap p ∷ At stop.Join j ∷ kept) (first_parts p d m (j ∷ []) ks more both) same
        (swap_part_holds p i t (j ∷ []) (local (At stop.Join j ∷ kept))
        (plain i t d z.first stop.Join j kept
        (kinds_left s d j (kind.Join ∷ []) (writes p) (z.first ∷ []) z.next last) refl same (λ _. refl)
        (λ _. set_holds p i t d (j + 1) to (Drop ∷ Push (int_of 0) ∷ rest)
        (kinds_right s d j 1 (kind.Join ∷ []) (writes p) (z.first ∷ []) z.next refl refl last) same
        (drop_holds s tracked i t to (local (Push (int_of 0) ∷ rest)) (give_holds s tracked i t to (int_of 0) (local rest) h))))))
    expression (InitMutex name) i t d n to rest has same h = plain i t d to (stop.InitMutex name) n rest has refl same (λ _. refl) (λ _. h)
    expression (Lock name) i t d n to rest has same h = plain i t d to (stop.Lock name) n rest has refl same (λ _. refl) (λ _. h)
    expression (Unlock name) i t d n to rest has same h = plain i t d to (stop.Unlock name) n rest has refl same (λ _. refl) (λ _. h)

    expressions : (es : Expressions) (i t d n : ℕ) (to : List ℕ) (rest : List Piece)
        → HasKinds s d n (of_expressions es) (flow.expressions es n to).next → (tracked ≡ true → d ≡ t)
        → Holds s tracked i t to (local rest)
        → Holds s tracked i t (flow.expressions es n to).first (ev.expressions es n rest (local rest))
    expressions NoExpressions i t d n to rest has same h = h
    expressions (ExpressionThen e es) i t d n to rest has same h =
        let m = n + size e in
        let y = flow.expressions es m to in
        expression e i t d n y.first (Arguments es m ∷ rest) (first_of e d n y.first (of_expressions es) y.next has) same
        (expressions es i t d m to rest (then_of e d n y.first (of_expressions es) y.next has) same h)

    parts : (p : Place) (i t d n : ℕ) (to : List ℕ) (rest : List Piece)
        → HasKinds s d n (of_parts p) (flow.parts p n to).next → (tracked ≡ true → d ≡ t) → Holds s tracked i t to (local rest)
        → Holds s tracked i t (flow.parts p n to).first (ev.parts p n rest (local rest))
    parts (Local name) i t d n to rest has same h = h
    parts (Global name) i t d n to rest has same h = h
    parts (Element name index) i t d n to rest has same h = expression index i t d n to rest has same h
    parts (Field tag handle name) i t d n to rest has same h = expression handle i t d n to rest has same h
