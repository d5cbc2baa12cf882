-- A function's code leads from one point to another exactly where its skeleton does.
use Rattle.std.proofs.Common.{◌≡◌, ℕ, zero, suc, ◌+◌, false, List, [], ◌∷◌, ◌++◌, length, slice_get, Some, refl, subst, ap, sym, ◌∙◌, arith}
use Rattle.std.specs.Prelude.{slice_index_or}
use Rattle.run_types.specs.CheckIns as check_in
use Rattle.run_types.specs.Skeleton as kind
use Rattle.run_types.specs.Skeleton.{Leads, successors}
use Rattle.c_tree.specs.BareExpr.{BareType}
use Rattle.c_tree.specs.BareDef.{BareBinding}
use Rattle.c_semantics.specs.Texts.{Definitions}
use Rattle.c_semantics.specs.Resolved.{Statements}
use Rattle.c_semantics.specs.Points.{size_stmts}
use Rattle.c_semantics.specs.Skeletons.{Targets, skeleton}
use Rattle.c_semantics.specs.Skeletons as part
use Rattle.c_semantics.specs.Stops as stop
use Rattle.typed_trees.specs.StatementTypes.{some_jump}
use Rattle.bytecode.specs.Instructions.{Instruction, Halt, CheckIn}
use Rattle.tree_code.specs.Code.{Code, body_code, statements, zero_code}
use Rattle.tree_code.specs.CodedPieces.{HasAt}
use Rattle.tree_code.proofs.CodePlaces.{Span, halves, next}
use Rattle.code_points.specs.CodePoints.{CodePoint, HasNumber, Numbered, next_number, point_of}
use Rattle.code_points.specs.CodeWays.{CodeLeads, GoesFrom}
use Rattle.code_points.proofs.Sets.{In, contained, contains, nothing_in}
use Rattle.code_points.proofs.Exact.{Rows, at_point, check_row, done, never, none_some, private, rows_behind, same_item, straight}
use Rattle.code_points.proofs.Going.{return_along}
use Rattle.code_points.proofs.GoingStatements.{statements_along}
use Rattle.code_points.proofs.Statements.{body_numbers}

none_on : (p : ℕ) → p + 0 ≡ p
none_on p = omega arith

on_by : (p n : ℕ) → p + suc n ≡ suc p + n
on_by p n = omega arith

module _ (code : Code) where
  -- ---- rows by number

  -- the row of a point with a number has what its point leads to
  record Listed (rows : List (List ℕ)) (n number b : ℕ) : Type 0 where
    row : ℕ
    is_row : number ≡ n + row
    has : In b (slice_index_or rows row [])

  later : {rows : List (List ℕ)} {row : List ℕ} {n number b : ℕ} → Listed rows (suc n) number b → Listed (row ∷ rows) n number b
  later {rows} {row} {n} {number} {b} l = record { row = suc l.row; is_row = l.is_row ∙ sym (on_by n l.row); has = l.has }

  moved : {i : Instruction} {b : ℕ} (p k : ℕ) → GoesFrom code (p + suc k) i b → GoesFrom code (suc p + k) i b
  moved {i} {b} p k g = subst (λ q. GoesFrom code q i b) (on_by p k) g

  back : {i : Instruction} {b : ℕ} (p k : ℕ) → GoesFrom code (suc p + k) i b → GoesFrom code (p + suc k) i b
  back {i} {b} p k g = subst (λ q. GoesFrom code q i b) (sym (on_by p k)) g

  listed : {p : ℕ} {is : Code} {rows : List (List ℕ)} (n : ℕ) → Rows code p is rows → Numbered n is
      → (k b : ℕ) (i : Instruction) (x : CodePoint) → slice_get is k ≡ Some i → point_of i ≡ Some x → GoesFrom code (p + k) i b
      → Listed rows n x.number b
  listed n (done q) h k b i x e f g = absurd (none_some refl e)
  listed n (private q j is rows none r) h zero b i x e f g =
      absurd (none_some none (subst (λ y. point_of y ≡ Some x) (same_item e refl) f))
  listed n (private q j is rows none r) h (suc k) b i x e f g =
      listed n r (subst (λ o. Numbered (next_number n o) is) none h.1) k b i x e f (moved q k g)
  listed n (at_point q j y is row rows there here r) h zero b i x e f g =
      let same = same_item e refl in
      let point = same_item there (subst (λ z. point_of z ≡ Some x) same f) in
      record {
        row = 0;
        is_row = sym (ap (λ z. z.number) point) ∙ subst (λ o. HasNumber n o) there h.0 ∙ sym (none_on n);
        has = here.sound b (subst (λ z. GoesFrom code z j b) (none_on q) (subst (λ z. GoesFrom code (q + 0) z b) same g));
      }
  listed n (at_point q j y is row rows there here r) h (suc k) b i x e f g =
      later (listed (suc n) r (subst (λ o. Numbered (next_number n o) is) there h.1) k b i x e f (moved q k g))

  -- and what is in a row is what a point with its number leads to
  record Found (p : ℕ) (is : Code) (number b : ℕ) : Type 0 where
    place : ℕ
    instruction : Instruction
    point : CodePoint
    there : slice_get is place ≡ Some instruction
    is_point : point_of instruction ≡ Some point
    numbered : point.number ≡ number
    goes : GoesFrom code (p + place) instruction b

  further : {is : Code} {b : ℕ} {number : ℕ} (p : ℕ) (i : Instruction) → Found (suc p) is number b → Found p (i ∷ is) number b
  further {is} {b} {number} p i f = record {
    place = suc f.place;
    instruction = f.instruction;
    point = f.point;
    there = f.there;
    is_point = f.is_point;
    numbered = f.numbered;
    goes = back p f.place f.goes;
  }

  renumbered : {is : Code} {p number other b : ℕ} → number ≡ other → Found p is number b → Found p is other b
  renumbered {is} {p} {number} {other} {b} e f = subst (λ z. Found p is z b) e f

  found : {p : ℕ} {is : Code} {rows : List (List ℕ)} (n : ℕ) → Rows code p is rows → Numbered n is → (row b : ℕ)
      → In b (slice_index_or rows row []) → Found p is (n + row) b
  found n (done q) h row b j = absurd (nothing_in b j)
  found n (private q i is rows none r) h row b j =
      further q i (found n r (subst (λ o. Numbered (next_number n o) is) none h.1) row b j)
  found n (at_point q i x is first rows there here r) h zero b j = record {
    place = 0;
    instruction = i;
    point = x;
    there = refl;
    is_point = there;
    numbered = subst (λ o. HasNumber n o) there h.0 ∙ sym (none_on n);
    goes = subst (λ z. GoesFrom code z i b) (sym (none_on q)) (here.complete b j);
  }
  found n (at_point q i x is first rows there here r) h (suc row) b j =
      renumbered (sym (on_by n row)) (further q i (found (suc n) r (subst (λ o. Numbered (next_number n o) is) there h.1) row b j))

-- ---- functions

shifted : (i : Instruction) (code : Code) (p : ℕ) (is : Code) → HasAt code p is → HasAt (i ∷ code) (suc p) is
shifted i code p [] h = tt
shifted i code p (x ∷ is) h = (h.0, shifted i code (suc p) is h.1)

itself : (code : Code) → HasAt code 0 code
itself [] = tt
itself (i ∷ code) = (refl, shifted i code 0 code (itself code))

module _ (look : Definitions) (parameters : List BareBinding) (result : BareType) (body : Statements) where
  abbrev whole : Code
  whole = body_code look parameters result body

  -- the rows of a function's code are those of its skeleton
  rows_of_body : some_jump body ≡ false → Rows whole 0 whole (skeleton body).next
  rows_of_body stays =
      let last = 1 + size_stmts body in
      let tail = zero_code result ∷ Halt stop.Return last ∷ [] in
      let inside = statements look (parameters ∷ []) body 1 0 0 in
      let entry = CheckIn check_in.Entry 0 in
      let targets : Targets = record { on = last ∷ []; broken = []; continued = [] } in
      let s : Span whole 0 whole (0 + length whole) = record { has = itself whole; ends = refl } in
      let x = next whole 0 entry (inside ++ tail) (0 + length whole) s in
      let y = halves whole 1 inside tail (0 + length whole) x.later in
      let z = next whole y.middle (zero_code result) (Halt stop.Return last ∷ []) (0 + length whole) y.second in
      let v = return_along whole last (suc y.middle) (0 + length whole) [] z.later in
      let end = straight whole (zero_code result) (record { none = refl; near = refl; on = refl }) z.stands v.first in
      let u = statements_along whole look (parameters ∷ []) body 1 0 0 1 y.middle targets y.first end
      (λ t. absurd (never (sym stays ∙ t))) in
      let flow = part.statements body 1 targets in
      at_point 0 entry (record { number = 0; kind = kind.CheckIn check_in.Entry }) (inside ++ tail) flow.first (flow.next ++ [] ∷ []) refl
      (check_row whole check_in.Entry 0 u.first)
      (rows_behind whole y.first.ends u.rows (private y.middle (zero_code result) (Halt stop.Return last ∷ []) ([] ∷ []) refl v.rows))

  none_before : (n : ℕ) → 0 + n ≡ n
  none_before n = omega arith

  leads : (a b : ℕ) → some_jump body ≡ false → CodeLeads whole a b → Leads (skeleton body) a b
  leads a b stays c =
      let l = listed whole 0 (rows_of_body stays) (body_numbers look parameters result body) c.place b c.instruction c.point c.there c.is_point
      (subst (λ q. GoesFrom whole q c.instruction b) (sym (none_before c.place)) c.goes) in
      let row = sym (l.is_row ∙ none_before l.row) ∙ c.numbered in
      record { leads = contains b (successors (skeleton body) a) (subst (λ q. In b (successors (skeleton body) q)) row l.has) }

  leads_back : (a b : ℕ) → some_jump body ≡ false → Leads (skeleton body) a b → CodeLeads whole a b
  leads_back a b stays h =
      let f = found whole 0 (rows_of_body stays) (body_numbers look parameters result body) a b (contained b (successors (skeleton body) a) h.leads) in
      record {
        place = f.place;
        instruction = f.instruction;
        point = f.point;
        there = f.there;
        is_point = f.is_point;
        numbered = f.numbered ∙ none_before a;
        goes = subst (λ q. GoesFrom whole q f.instruction b) (none_before f.place) f.goes;
      }

  pub along_skeleton : (a b : ℕ) → some_jump body ≡ false
      → (CodeLeads whole a b → Leads (skeleton body) a b) × (Leads (skeleton body) a b → CodeLeads whole a b)
  along_skeleton a b stays = (leads a b stays, leads_back a b stays)
