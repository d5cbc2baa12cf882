-- What a kind of point says of its meaning by a table of names, and back.
use Rattle.std.proofs.Common.{◌≡◌, ℕ, ◌<◌, Bool, true, false, List, Some, None, refl, sym, ap, ◌∙◌, arith}
use Rattle.std.specs.Prelude.{◌==◌, ◌&&◌, nat_lt, option_map}
use Rattle.std.proofs.lemmas.Bool.Decides.{nat_tests}
use Rattle.name_sets.specs.Texts.{text_of}
use Rattle.run_types.specs.Skeleton.{direct_use}
use Rattle.run_types.specs.Skeleton as seen
use Rattle.skeletons.specs.Meaning.{used_at, called_at, use_of, kind_of, point_of}
use Rattle.skeletons.specs.declared.point.Use.{Use}
use Rattle.skeletons.specs.declared.point.Use.TheVariants.{ReadGlobal, WriteGlobal, ReadElement, WriteElement, ReadField, WriteField, New, Free, InitMutex, Lock, Unlock, Spawn, Call}
use Rattle.skeletons.specs.declared.point.PointKind.{PointKind}
use Rattle.skeletons.specs.declared.point.PointKind.TheVariants.{CheckIn, Uses, Print, Join, Return, Back, Begin, End, Update}
use Rattle.skeletons.specs.declared.point.Point.{Point}
use Rattle.c_tree.specs.BareExpr.{Bytes}
use Rattle.effects.specs.Sites.{is_enclosed, is_end, is_outer_end, stays}

-- the name that is used
use_used : (a : Use) (name : Bytes) → direct_use (use_of a name) ≡ Some name
use_used ReadGlobal name = refl
use_used WriteGlobal name = refl
use_used ReadElement name = refl
use_used WriteElement name = refl
use_used ReadField name = refl
use_used WriteField name = refl
use_used New name = refl
use_used Free name = refl
use_used InitMutex name = refl
use_used Lock name = refl
use_used Unlock name = refl
use_used Spawn name = refl
use_used Call name = refl

pub used_name : (names : List Bytes) (k : PointKind) → direct_use (kind_of names k) ≡ option_map (text_of names) (used_at k)
used_name names (Uses action id) = use_used action (text_of names id)
used_name names (CheckIn kind) = refl
used_name names Print = refl
used_name names Join = refl
used_name names Return = refl
used_name names Back = refl
used_name names Begin = refl
used_name names End = refl
used_name names Update = refl

-- the function that is called
pub record Calls (names : List Bytes) (k : PointKind) (f : Bytes) : Type 0 where
  pub id : ℕ
  pub called : called_at k ≡ Some id
  pub text : text_of names id ≡ f

use_called : (names : List Bytes) (a : Use) (id : ℕ) (f : Bytes) → use_of a (text_of names id) ≡ seen.Call f → Calls names (Uses a id) f
use_called names ReadGlobal id f e = cc
use_called names WriteGlobal id f e = cc
use_called names ReadElement id f e = cc
use_called names WriteElement id f e = cc
use_called names ReadField id f e = cc
use_called names WriteField id f e = cc
use_called names New id f e = cc
use_called names Free id f e = cc
use_called names InitMutex id f e = cc
use_called names Lock id f e = cc
use_called names Unlock id f e = cc
use_called names Spawn id f e = cc
use_called names Call id f e = record { id = id; called = refl; text = cc }

pub calls : (names : List Bytes) (k : PointKind) (f : Bytes) → kind_of names k ≡ seen.Call f → Calls names k f
calls names (Uses action id) f e = use_called names action id f e
calls names (CheckIn kind) f e = cc
calls names Print f e = cc
calls names Join f e = cc
calls names Return f e = cc
calls names Back f e = cc
calls names Begin f e = cc
calls names End f e = cc
calls names Update f e = cc

called_use : (names : List Bytes) (a : Use) (id called : ℕ) → called_at (Uses a id) ≡ Some called
    → use_of a (text_of names id) ≡ seen.Call (text_of names called)
called_use names ReadGlobal id called e = cc
called_use names WriteGlobal id called e = cc
called_use names ReadElement id called e = cc
called_use names WriteElement id called e = cc
called_use names ReadField id called e = cc
called_use names WriteField id called e = cc
called_use names New id called e = cc
called_use names Free id called e = cc
called_use names InitMutex id called e = cc
called_use names Lock id called e = cc
called_use names Unlock id called e = cc
called_use names Spawn id called e = cc
called_use names Call id called e = let same : id ≡ called = cc in ap (λ id. seen.Call (text_of names id)) same

pub called_kind : (names : List Bytes) (k : PointKind) (id : ℕ) → called_at k ≡ Some id
    → kind_of names k ≡ seen.Call (text_of names id)
called_kind names (Uses action n) id e = called_use names action n id e
called_kind names (CheckIn kind) id e = cc
called_kind names Print id e = cc
called_kind names Join id e = cc
called_kind names Return id e = cc
called_kind names Back id e = cc
called_kind names Begin id e = cc
called_kind names End id e = cc
called_kind names Update id e = cc

-- what a use is not
use_no_return : (a : Use) (name : Bytes) → use_of a name ≡ seen.Return → ⊥
use_no_return ReadGlobal name e = cc
use_no_return WriteGlobal name e = cc
use_no_return ReadElement name e = cc
use_no_return WriteElement name e = cc
use_no_return ReadField name e = cc
use_no_return WriteField name e = cc
use_no_return New name e = cc
use_no_return Free name e = cc
use_no_return InitMutex name e = cc
use_no_return Lock name e = cc
use_no_return Unlock name e = cc
use_no_return Spawn name e = cc
use_no_return Call name e = cc

use_no_end : (a : Use) (name : Bytes) → is_end (use_of a name) ≡ false
use_no_end ReadGlobal name = refl
use_no_end WriteGlobal name = refl
use_no_end ReadElement name = refl
use_no_end WriteElement name = refl
use_no_end ReadField name = refl
use_no_end WriteField name = refl
use_no_end New name = refl
use_no_end Free name = refl
use_no_end InitMutex name = refl
use_no_end Lock name = refl
use_no_end Unlock name = refl
use_no_end Spawn name = refl
use_no_end Call name = refl

pub returns : (names : List Bytes) (k : PointKind) → kind_of names k ≡ seen.Return → k ≡ Return
returns names (Uses action id) e = absurd (use_no_return action (text_of names id) e)
returns names (CheckIn kind) e = cc
returns names Print e = cc
returns names Join e = cc
returns names Return e = refl
returns names Back e = cc
returns names Begin e = cc
returns names End e = cc
returns names Update e = cc

end_kind : (names : List Bytes) (k : PointKind) → is_end (kind_of names k) ≡ true → k ≡ End
end_kind names (Uses action id) e = absurd (no (sym (use_no_end action (text_of names id)) ∙ e))
  where
    no : false ≡ true → ⊥
    no e = cc
end_kind names (CheckIn kind) e = cc
end_kind names Print e = cc
end_kind names Join e = cc
end_kind names Return e = cc
end_kind names Back e = cc
end_kind names Begin e = cc
end_kind names End e = refl
end_kind names Update e = cc

-- the end of a transaction that no other encloses
abbrev pub outer_end : Point
outer_end = record { kind = End; depth = 1 }

both_true : (a b : Bool) → (a && b) ≡ true → (a ≡ true) × (b ≡ true)
both_true true b e = (refl, e)
both_true false b e = cc

pub ends_outer : (names : List Bytes) (p : Point) → is_outer_end (point_of names p) ≡ true → p ≡ outer_end
ends_outer names p e =
    let parts = both_true (is_end (kind_of names p.kind)) (p.depth == 1) e in
    let k : p.kind ≡ End = end_kind names p.kind parts.0 in
    let d : p.depth ≡ 1 = one p.depth parts.1 in
    let pair : PointKind → ℕ → Point = λ k d. record { kind = k; depth = d } in
    ap (λ k. pair k p.depth) k ∙ ap (pair End) d
  where
    one : (n : ℕ) → (n == 1) ≡ true → n ≡ 1
    one n e = grind (arith, nat_tests)

pub outer_ends : (names : List Bytes) (p : Point) → p ≡ outer_end → is_outer_end (point_of names p) ≡ true
outer_ends names p e = ap (λ p. is_outer_end (point_of names p)) e

-- the points from which control stays in the body: neither calls nor returns
use_stays : (names : List Bytes) (a : Use) (id : ℕ) → stays (use_of a (text_of names id)) ≡ true → called_at (Uses a id) ≡ None
use_stays names ReadGlobal id e = refl
use_stays names WriteGlobal id e = refl
use_stays names ReadElement id e = refl
use_stays names WriteElement id e = refl
use_stays names ReadField id e = refl
use_stays names WriteField id e = refl
use_stays names New id e = refl
use_stays names Free id e = refl
use_stays names InitMutex id e = refl
use_stays names Lock id e = refl
use_stays names Unlock id e = refl
use_stays names Spawn id e = refl
use_stays names Call id e = cc

stays_use : (names : List Bytes) (a : Use) (id : ℕ) → called_at (Uses a id) ≡ None → stays (use_of a (text_of names id)) ≡ true
stays_use names ReadGlobal id e = refl
stays_use names WriteGlobal id e = refl
stays_use names ReadElement id e = refl
stays_use names WriteElement id e = refl
stays_use names ReadField id e = refl
stays_use names WriteField id e = refl
stays_use names New id e = refl
stays_use names Free id e = refl
stays_use names InitMutex id e = refl
stays_use names Lock id e = refl
stays_use names Unlock id e = refl
stays_use names Spawn id e = refl
stays_use names Call id e = cc

pub stays_on : (names : List Bytes) (k : PointKind) → stays (kind_of names k) ≡ true → (called_at k ≡ None) × (k ≡ Return → ⊥)
stays_on names (Uses action id) e = (use_stays names action id e, λ r. cc)
stays_on names (CheckIn kind) e = (refl, λ r. cc)
stays_on names Print e = (refl, λ r. cc)
stays_on names Join e = (refl, λ r. cc)
stays_on names Return e = cc
stays_on names Back e = (refl, λ r. cc)
stays_on names Begin e = (refl, λ r. cc)
stays_on names End e = (refl, λ r. cc)
stays_on names Update e = (refl, λ r. cc)

pub on_stays : (names : List Bytes) (k : PointKind) → called_at k ≡ None → (k ≡ Return → ⊥) → stays (kind_of names k) ≡ true
on_stays names (Uses action id) c r = stays_use names action id c
on_stays names (CheckIn kind) c r = refl
on_stays names Print c r = refl
on_stays names Join c r = refl
on_stays names Return c r = absurd (r refl)
on_stays names Back c r = refl
on_stays names Begin c r = refl
on_stays names End c r = refl
on_stays names Update c r = refl

pub encloses : (names : List Bytes) (p : Point) → is_enclosed (point_of names p) ≡ true → 0 < p.depth
encloses names p e = more p.depth e
  where
    more : (n : ℕ) → nat_lt 0 n ≡ true → 0 < n
    more n e = grind (arith, nat_tests)

pub enclosed_by : (names : List Bytes) (p : Point) → 0 < p.depth → is_enclosed (point_of names p) ≡ true
enclosed_by names p l = more p.depth l
  where
    more : (n : ℕ) → 0 < n → nat_lt 0 n ≡ true
    more n l = grind (arith, nat_tests)
