-- What parts of a tree add one in front of the other.
use Rattle.std.proofs.Common.{◌≡◌, ℕ, ◌+◌, List, [], ◌++◌, map, length, refl, sym, ap, ◌∙◌, arith, append_assoc, append-nil, length-append}
use Rattle.std.proofs.lemmas.List.{length-map, map-append}
use Rattle.run_types.specs.Skeleton.{PointKind, Point}
use Rattle.c_semantics.specs.Points.{at_depth}
use Rattle.c_semantics.specs.Skeletons.{Flow, Part, union, either, pass, both, goes}
use Rattle.skeleton_gen.specs.Adding.{Drawn, AddsFlow, AddsPart, in_order}

-- a part without points
pub adds_nothing : (d : ℕ) (to : List ℕ) (w : Drawn) → AddsPart d [] (λ n. pass) to w w to
adds_nothing d to w = record { at = omega arith; points = refl; next = refl; first = refl }

-- one part in front of another
pub adds_in_order : {d : ℕ} {ks ls : List PointKind} {a b : ℕ → Part} {to f g : List ℕ} {u v w : Drawn}
    → AddsPart d ls b to u v f → AddsPart d ks a f v w g → AddsPart d (ks ++ ls) (in_order ks a b) to u w g
adds_in_order {d} {ks} {ls} {a} {b} {to} {f} {g} {u} {v} {w} y x =
    let at : v.at ≡ w.at + length ks = sym x.at in
    let first : f ≡ (b (w.at + length ks) to).first = y.first ∙ ap (λ n. (b n to).first) at in
    record {
      at = let h = x.at in let k = y.at in simp length-append (omega arith);
      points = x.points ∙ ap (λ ps. map (at_depth d) ks ++ ps) y.points
          ∙ sym (append_assoc (map (at_depth d) ks) (map (at_depth d) ls) u.points)
          ∙ ap (λ ps. ps ++ u.points) (sym (map-append (at_depth d) ks ls));
      next = x.next ∙ ap (λ rows. (a w.at f).next ++ rows) y.next
          ∙ ap (λ n. (a w.at f).next ++ ((b n to).next ++ u.next)) at
          ∙ ap (λ t. (a w.at t).next ++ ((b (w.at + length ks) to).next ++ u.next)) first
          ∙ sym (append_assoc (a w.at (b (w.at + length ks) to).first).next (b (w.at + length ks) to).next u.next);
      first = x.first ∙ ap (λ t. (a w.at t).first) first;
    }

-- a part that may be left out, either way round
pub adds_or_passes : {d : ℕ} {ks : List PointKind} {a : ℕ → Part} {to f : List ℕ} {u v : Drawn}
    → AddsPart d ks a to u v f → AddsPart d ks (λ n. either (a n) pass) to u v (union f to)
adds_or_passes {d} {ks} {a} {to} {f} {u} {v} x = record {
  at = x.at;
  points = x.points;
  next = x.next ∙ ap (λ rows. rows ++ u.next) (sym (append-nil (a v.at to).next));
  first = ap (λ t. union t to) x.first;
}

pub passes_or_adds : {d : ℕ} {ks : List PointKind} {a : ℕ → Part} {to f : List ℕ} {u v : Drawn}
    → AddsPart d ks a to u v f → AddsPart d ks (λ n. either pass (a n)) to u v (union to f)
passes_or_adds {d} {ks} {a} {to} {f} {u} {v} x =
    record { at = x.at; points = x.points; next = x.next; first = ap (λ t. union to t) x.first }

-- one of two parts
pub adds_either : {d : ℕ} {ks ls : List PointKind} {a b : ℕ → Part} {to f g : List ℕ} {u v w : Drawn}
    → AddsPart d ls b to u v f → AddsPart d ks a to v w g
    → AddsPart d (ks ++ ls) (λ n. either (a n) (b (n + length ks))) to u w (union g f)
adds_either {d} {ks} {ls} {a} {b} {to} {f} {g} {u} {v} {w} y x =
    let at : v.at ≡ w.at + length ks = sym x.at in
    let first : f ≡ (b (w.at + length ks) to).first = y.first ∙ ap (λ n. (b n to).first) at in
    record {
      at = let h = x.at in let k = y.at in simp length-append (omega arith);
      points = x.points ∙ ap (λ ps. map (at_depth d) ks ++ ps) y.points
          ∙ sym (append_assoc (map (at_depth d) ks) (map (at_depth d) ls) u.points)
          ∙ ap (λ ps. ps ++ u.points) (sym (map-append (at_depth d) ks ls));
      next = x.next ∙ ap (λ rows. (a w.at to).next ++ rows) y.next
          ∙ ap (λ n. (a w.at to).next ++ ((b n to).next ++ u.next)) at
          ∙ sym (append_assoc (a w.at to).next (b (w.at + length ks) to).next u.next);
      first = ap (λ t. union t f) x.first ∙ ap (λ t. union (a w.at to).first t) first;
    }

-- the same part
pub same_part : {d : ℕ} {ks ls : List PointKind} {a b : ℕ → Part} {to f : List ℕ} {u v : Drawn}
    → ks ≡ ls → ((n : ℕ) → a n to ≡ b n to) → AddsPart d ks a to u v f → AddsPart d ls b to u v f
same_part {d} {ks} {ls} {a} {b} {to} {f} {u} {v} kinds flows x = record {
  at = ap (λ r. v.at + length r) (sym kinds) ∙ x.at;
  points = x.points ∙ ap (λ r. map (at_depth d) r ++ u.points) kinds;
  next = x.next ∙ ap (λ r. r.next ++ u.next) (flows v.at);
  first = x.first ∙ ap (λ r. r.first) (flows v.at);
}

-- a part as a flow
pub as_flow : {d : ℕ} {ks : List PointKind} {a : ℕ → Part} {to f : List ℕ} {u v : Drawn}
    → AddsPart d ks a to u v f → AddsFlow (map (at_depth d) ks) (λ n. a n to) u v f
as_flow {d} {ks} {a} {to} {f} {u} {v} x =
    record { at = (let h = x.at in rw length-map h); points = x.points; next = x.next; first = x.first }

-- a flow without points
pub adds_no_flow : (to : List ℕ) (w : Drawn) → AddsFlow [] (λ n. goes to) w w to
adds_no_flow to w = record { at = omega arith; points = refl; next = refl; first = refl }

-- one flow in front of another, from which control goes on to it
pub adds_flow_before : {ps qs : List Point} (x : List ℕ → ℕ → Flow) {y : ℕ → Flow} {f g : List ℕ} {u v w : Drawn} (m : ℕ)
    → m ≡ length ps → AddsFlow qs y u v f → AddsFlow ps (x f) v w g
    → AddsFlow (ps ++ qs)
    (λ n. record { first = (x (y (n + m)).first n).first; next = (x (y (n + m)).first n).next ++ (y (n + m)).next }) u w g
adds_flow_before {ps} {qs} x {y} {f} {g} {u} {v} {w} m many b a =
    let at : v.at ≡ w.at + m = sym a.at ∙ ap (λ k. w.at + k) (sym many) in
    let first : f ≡ (y (w.at + m)).first = b.first ∙ ap (λ n. (y n).first) at in
    record {
      at = let h = a.at in let k = b.at in simp length-append (omega arith);
      points = a.points ∙ ap (λ r. ps ++ r) b.points ∙ sym (append_assoc ps qs u.points);
      next = a.next ∙ ap (λ rows. (x f w.at).next ++ rows) b.next
          ∙ ap (λ n. (x f w.at).next ++ ((y n).next ++ u.next)) at
          ∙ ap (λ t. (x t w.at).next ++ ((y (w.at + m)).next ++ u.next)) first
          ∙ sym (append_assoc (x (y (w.at + m)).first w.at).next (y (w.at + m)).next u.next);
      first = a.first ∙ ap (λ t. (x t w.at).first) first;
    }

-- one of two flows
pub adds_both : {ps qs : List Point} {x y : ℕ → Flow} {f g : List ℕ} {u v w : Drawn} (m : ℕ)
    → m ≡ length ps → AddsFlow qs y u v f → AddsFlow ps x v w g
    → AddsFlow (ps ++ qs) (λ n. both (x n) (y (n + m))) u w (union g f)
adds_both {ps} {qs} {x} {y} {f} {g} {u} {v} {w} m many b a =
    let at : v.at ≡ w.at + m = sym a.at ∙ ap (λ k. w.at + k) (sym many) in
    let first : f ≡ (y (w.at + m)).first = b.first ∙ ap (λ n. (y n).first) at in
    record {
      at = let h = a.at in let k = b.at in simp length-append (omega arith);
      points = a.points ∙ ap (λ r. ps ++ r) b.points ∙ sym (append_assoc ps qs u.points);
      next = a.next ∙ ap (λ rows. (x w.at).next ++ rows) b.next
          ∙ ap (λ n. (x w.at).next ++ ((y n).next ++ u.next)) at
          ∙ sym (append_assoc (x w.at).next (y (w.at + m)).next u.next);
      first = ap (λ t. union t f) a.first ∙ ap (λ t. union (x w.at).first t) first;
    }

-- a flow that may be left out
pub adds_or_goes : {ps : List Point} {x : ℕ → Flow} {f : List ℕ} {u v : Drawn} (to : List ℕ)
    → AddsFlow ps x u v f → AddsFlow ps (λ n. both (x n) (goes to)) u v (union f to)
adds_or_goes {ps} {x} {f} {u} {v} to a = record {
  at = a.at;
  points = a.points;
  next = a.next ∙ ap (λ rows. rows ++ u.next) (sym (append-nil (x v.at).next));
  first = ap (λ t. union t to) a.first;
}

-- the same flow
pub same_flow : {ps qs : List Point} {x y : ℕ → Flow} {f : List ℕ} {u v : Drawn}
    → ps ≡ qs → ((n : ℕ) → x n ≡ y n) → AddsFlow ps x u v f → AddsFlow qs y u v f
same_flow {ps} {qs} {x} {y} {f} {u} {v} points flows a = record {
  at = ap (λ r. v.at + length r) (sym points) ∙ a.at;
  points = a.points ∙ ap (λ r. r ++ u.points) points;
  next = a.next ∙ ap (λ r. r.next ++ u.next) (flows v.at);
  first = a.first ∙ ap (λ r. r.first) (flows v.at);
}
