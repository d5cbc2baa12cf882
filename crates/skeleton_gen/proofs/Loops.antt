-- What loops add: the back edge is drawn first, and where it leads is known at the end.
use Rattle.std.proofs.Common.{◌≡◌, ℕ, ◌+◌, ◌<◌, List, [], ◌∷◌, ◌++◌, length, reverse, set, Option, Some, None, refl, sym, ap, ◌∙◌, arith, append_assoc, append-nil, length-append}
use Rattle.std.proofs.lemmas.List.{reverse-append, reverse-reverse}
use Rattle.std.proofs.Math.Seq.{set-append_seam}
use Rattle.run_types.specs.Skeleton.{Point, Back}
use Rattle.c_semantics.specs.Resolved.{Expression, Statement}
use Rattle.c_semantics.specs.Points.{at_depth, evaluated_if, of_statement, size_if, size_stmt}
use Rattle.c_semantics.specs.Skeletons.{Flow, point, goes, guarded, union, statement, expression, expression_if}
use Rattle.skeleton_gen.specs.Adding.{Drawn, AddsFlow, targets}
use Rattle.skeleton_gen.specs.Loops.{loop_points, loop_flow}
use Rattle.skeleton_gen.proofs.Adding.{adds_flow_before, same_flow}
use Rattle.skeleton_gen.proofs.Sizes.{evaluated_if_size, statement_size}

-- an element in the middle, counted from the end
middle : {A : Type 0} (old items before : List A) (row : A) → reverse items ≡ before ++ (row ∷ reverse old)
    → items ≡ old ++ (row ∷ reverse before)
middle old items before row e =
    sym (reverse-reverse items) ∙ ap reverse e ∙ reverse-append before (row ∷ reverse old)
    ∙ ap (λ xs. xs ++ reverse before) (reverse-append (row ∷ []) (reverse old))
    ∙ ap (λ xs. (xs ++ row ∷ []) ++ reverse before) (reverse-reverse old)
    ∙ append_assoc old (row ∷ []) (reverse before)

set_middle : {A : Type 0} (old items before : List A) (row new : A) → reverse items ≡ before ++ (row ∷ reverse old)
    → reverse (set items (length old) new) ≡ before ++ (new ∷ reverse old)
set_middle old items before row new e =
    ap (λ xs. reverse (set xs (length old) new)) (middle old items before row e)
    ∙ ap reverse (set-append_seam old row (reverse before) new)
    ∙ reverse-append old (new ∷ reverse before)
    ∙ ap (λ xs. xs ++ reverse old) (reverse-append (new ∷ []) (reverse before))
    ∙ ap (λ xs. (xs ++ new ∷ []) ++ reverse old) (reverse-reverse before)
    ∙ append_assoc before (new ∷ []) (reverse old)

-- the place of the row is there
pub row_is_there : {A : Type 0} (old items before : List A) (row : A) → reverse items ≡ before ++ (row ∷ reverse old)
    → length old < length items
row_is_there old items before row e =
    let h = ap length (middle old items before row e) in
    let k = length-append old (row ∷ reverse before) in
    omega arith

-- a loop whose back edge leads to its beginning
pub redirected : {ps : List Point} {x : ℕ → Flow} {f : List ℕ} {u v : Drawn} (before : ℕ → List (List ℕ))
    (old items : List (List ℕ)) (w : Drawn) → ((n : ℕ) → (x n).next ≡ before n ++ ([] ∷ []))
    → u.next ≡ reverse old → v.next ≡ reverse items → w.at ≡ v.at → w.points ≡ v.points
    → w.next ≡ reverse (set items (length old) f) → AddsFlow ps x u v f
    → AddsFlow ps (λ n. record { first = (x n).first; next = before n ++ ((x n).first ∷ []) }) u w f
redirected {ps} {x} {f} {u} {v} before old items w last ends rows at points next a =
    let here : reverse items ≡ before v.at ++ ([] ∷ reverse old) =
    sym rows ∙ a.next ∙ ap (λ r. r ++ u.next) (last v.at) ∙ append_assoc (before v.at) ([] ∷ []) u.next
    ∙ ap (λ r. before v.at ++ ([] ∷ r)) ends in
    record {
      at = ap (λ n. n + length ps) at ∙ a.at;
      points = points ∙ a.points;
      next = next ∙ set_middle old items (before v.at) [] f here
          ∙ ap (λ r. before v.at ++ (f ∷ r)) (sym ends)
          ∙ sym (append_assoc (before v.at) (f ∷ []) u.next)
          ∙ ap (λ r. (before v.at ++ (r ∷ [])) ++ u.next) a.first
          ∙ ap (λ n. (before n ++ ((x n).first ∷ [])) ++ u.next) (sym at);
      first = a.first ∙ ap (λ n. (x n).first) (sym at);
    }

-- the test in front of a part, and the part
guarded_first : (test : Option Expression) (n : ℕ) (inside : Flow) (on : List ℕ)
    → (guarded test n (goes inside.first) on).first ≡ (guarded test n inside on).first
guarded_first None n inside on = refl
guarded_first (Some c) n inside on = refl

guarded_next : (test : Option Expression) (n : ℕ) (inside : Flow) (on : List ℕ)
    → (guarded test n (goes inside.first) on).next ++ inside.next ≡ (guarded test n inside on).next
guarded_next None n inside on = refl
guarded_next (Some c) n inside on =
    let f = expression c n (union inside.first on) in
    ap (λ r. r ++ inside.next) (append-nil f.next) ∙ ap (λ r. f.next ++ r) (sym (append-nil inside.next))

-- an equal flow, from equal parts
pub flows_equal : {first other : List ℕ} {next more : List (List ℕ)} → first ≡ other → next ≡ more
    → (let f : Flow = record { first = first; next = next } in f) ≡ record { first = other; next = more }
flows_equal {first} {other} {next} {more} a b =
    let f : List ℕ → List (List ℕ) → Flow = λ x y. record { first = x; next = y } in
    ap (λ x. f x next) a ∙ ap (λ y. f other y) b

turn_points : (d : ℕ) (test step : Option Expression) (body : Statement)
    → evaluated_if d test ++ (of_statement d body ++ (evaluated_if d step ++ (at_depth d Back ∷ []))) ≡ loop_points d test step body
turn_points d test step body =
    sym (append_assoc (evaluated_if d test) (of_statement d body) (evaluated_if d step ++ (at_depth d Back ∷ [])))
    ∙ sym (append_assoc (evaluated_if d test ++ of_statement d body) (evaluated_if d step) (at_depth d Back ∷ []))

-- a loop that begins with its test, from its back edge, its step, its body and its test
pub adds_turns : {d : ℕ} {edge after inside first : List ℕ} {u v w x y z : Drawn} (test step : Option Expression)
    (body : Statement) (on : List ℕ) (old items : List (List ℕ))
    → AddsFlow (at_depth d Back ∷ []) (λ n. point n []) u v edge
    → AddsFlow (evaluated_if d step) (λ n. expression_if step n edge) v w after
    → AddsFlow (of_statement d body) (λ n. statement body n (targets after on after)) w x inside
    → AddsFlow (evaluated_if d test) (λ n. guarded test n (goes inside) on) x y first
    → u.next ≡ reverse old → y.next ≡ reverse items → z.at ≡ y.at → z.points ≡ y.points
    → z.next ≡ reverse (set items (length old) first)
    → AddsFlow (loop_points d test step body) (λ n. loop_flow test step body n on) u z first
adds_turns {d} {edge} {after} {inside} {first} {u} {v} {w} {x} {y} {z} test step body on old items a b c e ends rows at points next =
    let steps = adds_flow_before (λ f n. expression_if step n f) (size_if step) (evaluated_if_size d step) a b in
    let bodies = adds_flow_before (λ f n. statement body n (targets f on f)) (size_stmt body) (statement_size d body) steps c in
    let whole = adds_flow_before (λ f n. guarded test n (goes f) on) (size_if test) (evaluated_if_size d test) bodies e in
    let S : ℕ → Flow = λ n. expression_if step n ((n + size_if step) ∷ []) in
    let B : ℕ → Flow = λ n. let s = (S (n + size_stmt body)).first in statement body n (targets s on s) in
    let G : ℕ → Flow = λ n. guarded test n (goes (B (n + size_if test)).first) on in
    let before : ℕ → List (List ℕ) = λ n. let m = n + size_if test in
    (G n).next ++ ((B m).next ++ (S (m + size_stmt body)).next) in
    let W : ℕ → Flow = λ n. guarded test n (B (n + size_if test)) on in
    let last : (n : ℕ) → (G n).next ++ ((B (n + size_if test)).next ++ ((S (n + size_if test + size_stmt body)).next ++ ([] ∷ []))) ≡ before n ++ ([] ∷ []) =
    λ n. let m = n + size_if test in
    ap (λ r. (G n).next ++ r) (sym (append_assoc (B m).next (S (m + size_stmt body)).next ([] ∷ [])))
    ∙ sym (append_assoc (G n).next ((B m).next ++ (S (m + size_stmt body)).next) ([] ∷ [])) in
    let firsts : (n : ℕ) → (G n).first ≡ (W n).first = λ n. guarded_first test n (B (n + size_if test)) on in
    let rest : (n : ℕ) → before n ≡ (W n).next ++ (S (n + size_if test + size_stmt body)).next = λ n.
    let m = n + size_if test in
    sym (append_assoc (G n).next (B m).next (S (m + size_stmt body)).next)
    ∙ ap (λ r. r ++ (S (m + size_stmt body)).next) (guarded_next test n (B m) on) in
    same_flow (turn_points d test step body)
    (λ n. flows_equal (firsts n)
    (ap (λ r. r ++ ((G n).first ∷ [])) (rest n)
    ∙ ap (λ r. ((W n).next ++ (S (n + size_if test + size_stmt body)).next) ++ (r ∷ [])) (firsts n)))
    (redirected before old items z last ends rows at points next whole)

-- the rows where one has been set, seen from the end
pub row_set : {A : Type 0} {new : List A} {back : ℕ} {f g : A} (old items : List A) → new ≡ set items back g → back ≡ length old → g ≡ f
    → reverse new ≡ reverse (set items (length old) f)
row_set {A} {new} {back} {f} {g} old items is at same =
    ap reverse is ∙ ap (λ n. reverse (set items n g)) at ∙ ap (λ x. reverse (set items (length old) x)) same
