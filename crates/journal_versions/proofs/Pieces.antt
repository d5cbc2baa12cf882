-- Bytes that calls put one after the other, the last of which may fail.
use Rattle.std.proofs.Common.{ℕ, List, [], ◌++◌, Option, Some, None, Result, Ok, Err, sym, subst, append-nil}
use Rattle.std.specs.Io.KnownBytes.{Appends}
use Rattle.dsu_io.specs.Sinks.{AppendsFront, PutAppends}
use Rattle.dsu_io.proofs.Written.{Appends-then, AppendsFront-then}

-- no bytes
pub Appends-nothing : (old : Option (List ℕ)) → Appends old old []
Appends-nothing None = tt
Appends-nothing (Some bytes) = sym (append-nil bytes)

-- a shorter prefix of bytes that come first
pub AppendsFront-first : (old new : Option (List ℕ)) (xs ys : List ℕ) → AppendsFront old new xs → AppendsFront old new (xs ++ ys)
AppendsFront-first old new xs ys front = AppendsFront-then old old new [] xs ys (Appends-nothing old) front

-- bytes, and then a shorter prefix of those that come last
pub AppendsFront-last : (old mid new : Option (List ℕ)) (xs ys : List ℕ) → Appends old mid xs → AppendsFront mid new ys
    → AppendsFront old new (xs ++ ys)
AppendsFront-last old mid new xs ys first second =
    subst {A = List ℕ} (λ more. AppendsFront old new (xs ++ more)) (append-nil ys) (AppendsFront-then old mid new xs ys [] first second)

-- bytes, and then what a call puts
pub PutAppends-then : {E : Type 0} (old mid new : Option (List ℕ)) (result : Result (Unit {0}) E) (xs ys : List ℕ) → Appends old mid xs
    → PutAppends mid new result ys → PutAppends old new result (xs ++ ys)
PutAppends-then old mid new (Ok done) xs ys first second = Appends-then old mid new xs ys first second
PutAppends-then old mid new (Err e) xs ys first second = AppendsFront-last old mid new xs ys first second
