-- What holds of an answer that is Ok.
use Rattle.std.proofs.Common.{IfOk, Result, Ok, Err}

pub if_ok : {X E : Type 0} (r : Result X E) {P Q : X → Type 0} → ((x : X) → P x → Q x) → IfOk r P → IfOk r Q
if_ok (Ok x) more is = more x is
if_ok (Err e) more is = is
