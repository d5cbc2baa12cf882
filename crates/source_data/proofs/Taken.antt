-- The arguments of a call, taken from the newest values.
use Rattle.std.proofs.Common.{◌≡◌, ℕ, ◌-◌, List, length, map, take, drop, Result, Ok, Err, IfOk, sym, ap, ◌∙◌}
use Rattle.std.specs.Prelude.{Vec, OnOk}
use Rattle.std.specs.declared.alloc.AllocError.{AllocError}
use Rattle.std.specs.declared.alloc.Global.{Global}
use Rattle.source_model.specs.Moves.{arguments_of}
use Rattle.local_evaluation.specs.declared.value.Value.{Value}
use Rattle.local_evaluation.specs.Values.{seen}
use Rattle.local_evaluation.specs.Work.{newest}
use Rattle.source_data.proofs.Newest.{take_last, drop_last}

pub arguments_taken : (r : Result (Vec Value Global) AllocError) (old : List Value) (at n : ℕ) → at ≡ length old - n
    → IfOk r (λ w. w.items ≡ drop at old) → IfOk r (λ w. map seen w.items ≡ arguments_of n (newest old))
arguments_taken (Ok w) old at n e h = ap (map seen) (h ∙ ap (λ k. drop k old) e) ∙ sym (take_last seen old n)
arguments_taken (Err x) old at n e h = h

pub rest_taken : (r : Result (Vec Value Global) AllocError) (old new : List Value) (at n : ℕ) → at ≡ length old - n
    → OnOk r (new ≡ take at old) → OnOk r (newest new ≡ drop n (newest old))
rest_taken (Ok w) old new at n e h = ap newest (h ∙ ap (λ k. take k old) e) ∙ sym (drop_last seen old n)
rest_taken (Err x) old new at n e h = h
