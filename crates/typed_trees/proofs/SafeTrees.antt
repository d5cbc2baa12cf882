-- Local evaluation of a typed tree is safe where what comes after it is.
use Rattle.std.proofs.Common.{◌≡◌, ℕ, suc, ◌+◌, List, [], ◌∷◌, ◌++◌, length, Option, Some, None, reverse, refl, sym, ap, subst, ◌∙◌, inl, inr, append_assoc, append-nil}
use Rattle.std.specs.Prelude.{◌⊎◌}
use Rattle.std.proofs.lemmas.List.{reverse-append}
use Rattle.c_ints.specs.declared.kind.Kind.{Kind}
use Rattle.c_ints.specs.declared.operator.BinOp.{BinOp}
use Rattle.c_ints.specs.Arithmetic.{binary_kind}
use Rattle.c_format.specs.declared.reading.Reading.TheVariants.{Text}
use Rattle.c_format.specs.Formats.{kinds}
use Rattle.c_tree.specs.BareExpr.{Bytes, BareType, Integer, Handle, Thread}
use Rattle.c_semantics.specs.Texts.{Definitions, int, result_type}
use Rattle.c_semantics.specs.Values.{Number, converted_to, int_of}
use Rattle.c_semantics.specs.Resolution.{kind}
use Rattle.c_semantics.specs.Resolved.{Expression, Expressions, Place, Constant, Read, Unary, Binary, Convert, And, Or, Choice, Assign, Update, Postfix, Call, Print, New, Free, Create, Join, JoinInto, InitMutex, Lock, Unlock, NoExpressions, ExpressionThen, Local, Global, Element, Field}
use Rattle.c_semantics.specs.Points.{size, size_all, size_parts, size_read}
use Rattle.c_semantics.specs.Stops.{Stop}
use Rattle.c_semantics.specs.Stops as stop
use Rattle.c_semantics.specs.Pieces.{Piece, Compute, Arguments, Parts, Get, Set, Dup, Tuck, Swap, Apply, Combine, ConvertTo, Drop, Push, Truth, Created, AndThen, OrElse, Choose, At}
use Rattle.c_semantics.specs.Evaluation.{Next, apply, as_truth, change, choose, combine, count, creation, drop, dup, get, give, one, set, stop_at, swap_part, tuck}
use Rattle.c_semantics.specs.Evaluation as ev
use Rattle.typed_trees.specs.ValueTypes.{Environment}
use Rattle.typed_trees.specs.ExpressionTypes.{AreOperands, ArePrinted, AreTyped, Becomes, FitFormat, IsInteger, IsNullFor, IsPlaced, IsTyped, part_types, place_type, type_of, types_of}
use Rattle.typed_trees.specs.PieceTypes.{Pops, PopsFormat, PopsPrinted, Stack, StopTyped, pushed}
use Rattle.typed_trees.proofs.SafeSteps.{Fine, Safe, Typed, apply_fine, choose_safe, combine_fine, convert_fine, created_fine, drop_fine, dup_fine, get_fine, give_fine, give_safe, pops, set_fine, stop_fine, stop_safe, swap_fine, truth_fine, tuck_fine}

-- ---- arguments

turned : {A : Type 0} (x : A) (xs ys : List A) → reverse (x ∷ xs) ++ ys ≡ reverse xs ++ (x ∷ ys)
turned x xs ys = ap (λ zs. zs ++ ys) (reverse-append (x ∷ []) xs) ∙ append_assoc (reverse xs) (x ∷ []) ys

pushed_is : (ts : List BareType) (stack : Stack) → pushed ts stack ≡ reverse ts ++ stack
pushed_is [] stack = refl
pushed_is (t ∷ ts) stack = pushed_is ts (t ∷ stack) ∙ sym (turned t ts stack)

pops_arguments : (ts : List BareType) (stack : Stack) (P : Stack → Type 0) → P stack → Pops (reverse ts) (pushed ts stack) P
pops_arguments ts stack P h = subst (λ xs. Pops (reverse ts) xs P) (sym (pushed_is ts stack)) (pops (reverse ts) stack P h)

count_is : (look : Definitions) (env : Environment) (es : Expressions) → length (types_of look env es) ≡ count es
count_is look env NoExpressions = refl
count_is look env (ExpressionThen e es) = ap suc (count_is look env es)

printed_length : (ks : List Kind) (ts : List BareType) → ArePrinted ks ts → length ks ≡ length ts
printed_length [] [] h = refl
printed_length [] (t ∷ ts) h = absurd h
printed_length (k ∷ ks) [] h = absurd h
printed_length (k ∷ ks) (Integer j ∷ ts) h = ap suc (printed_length ks ts h.1)
printed_length (k ∷ ks) (Handle tag ∷ ts) h = absurd h
printed_length (k ∷ ks) (Thread ∷ ts) h = absurd h

-- popped from the end: what is popped after the last ones
printed_onto : (ks : List Kind) (ts : List BareType) (done : List Kind) (stack : Stack) (P : Stack → Type 0) → ArePrinted ks ts
    → PopsPrinted done stack P → PopsPrinted (reverse ks ++ done) (pushed ts stack) P
printed_onto [] [] done stack P h p = p
printed_onto [] (t ∷ ts) done stack P h p = absurd h
printed_onto (k ∷ ks) [] done stack P h p = absurd h
printed_onto (k ∷ ks) (Integer j ∷ ts) done stack P h p =
    subst (λ xs. PopsPrinted xs (pushed ts (Integer j ∷ stack)) P) (sym (turned k ks done)) (printed_onto ks ts (k ∷ done) (Integer j ∷ stack) P h.1 (h.0, p))
printed_onto (k ∷ ks) (Handle tag ∷ ts) done stack P h p = absurd h
printed_onto (k ∷ ks) (Thread ∷ ts) done stack P h p = absurd h

printed_pops : (ks : List Kind) (ts : List BareType) (stack : Stack) (P : Stack → Type 0) → ArePrinted ks ts → P stack
    → PopsPrinted (reverse ks) (pushed ts stack) P
printed_pops ks ts stack P h p =
    subst (λ xs. PopsPrinted xs (pushed ts stack) P) (append-nil (reverse ks)) (printed_onto ks ts [] stack P h p)

format_pops : (o : Option (List Kind)) (ts : List BareType) (n : ℕ) (stack : Stack) (P : Stack → Type 0) → FitFormat o ts
    → length ts ≡ n → P stack → PopsFormat o n (pushed ts stack) P
format_pops None ts n stack P h e p = absurd h
format_pops (Some ks) ts n stack P h e p = (printed_length ks ts h ∙ e, printed_pops ks ts stack P h p)

-- ---- types

int_operands : (op : BinOp) (t u : BareType) → IsInteger t → IsInteger u → AreOperands op t u
int_operands op (Integer j) (Integer k) a b = tt
int_operands op (Integer j) (Handle tag) a b = absurd b
int_operands op (Integer j) Thread a b = absurd b
int_operands op (Handle tag) u a b = absurd a
int_operands op Thread u a b = absurd a

int_becomes : (t : BareType) (k : Kind) → IsInteger t → Becomes t (Integer k)
int_becomes (Integer j) k a = tt
int_becomes (Handle tag) k a = absurd a
int_becomes Thread k a = absurd a

module _ (look : Definitions) (result : BareType) (tags : List Bytes) where
  abbrev Well : List Piece → Next → Stack → Environment → Type 0
  Well = Fine look result tags

  abbrev Ends : Next → Stack → Environment → Type 0
  Ends = Safe look result tags

  -- the null handle
  null_safe : (type : BareType) (e : Expression) (n : ℕ) (ps : List Piece) (k : Next) (stack : Stack) (env : Environment)
      → IsNullFor type e → Ends k (type ∷ stack) env → Ends (ev.expression (Convert type e) n ps k) stack env
  null_safe (Integer j) e n ps k stack env h s = absurd h
  null_safe Thread e n ps k stack env h s = absurd h
  null_safe (Handle tag) (Constant v) n ps k stack env h s = λ values scopes hv hs. s _ scopes (tt, hv) hs
  null_safe (Handle tag) (Read p) n ps k stack env h s = absurd h
  null_safe (Handle tag) (Unary op a) n ps k stack env h s = absurd h
  null_safe (Handle tag) (Binary op a b) n ps k stack env h s = absurd h
  null_safe (Handle tag) (Convert t a) n ps k stack env h s = absurd h
  null_safe (Handle tag) (And a b) n ps k stack env h s = absurd h
  null_safe (Handle tag) (Or a b) n ps k stack env h s = absurd h
  null_safe (Handle tag) (Choice c a b) n ps k stack env h s = absurd h
  null_safe (Handle tag) (Assign p a) n ps k stack env h s = absurd h
  null_safe (Handle tag) (Update t op p a) n ps k stack env h s = absurd h
  null_safe (Handle tag) (Postfix t op p) n ps k stack env h s = absurd h
  null_safe (Handle tag) (Call name es) n ps k stack env h s = absurd h
  null_safe (Handle tag) (Print format es) n ps k stack env h s = absurd h
  null_safe (Handle tag) (New t) n ps k stack env h s = absurd h
  null_safe (Handle tag) (Free t a) n ps k stack env h s = absurd h
  null_safe (Handle tag) (Create p name a) n ps k stack env h s = absurd h
  null_safe (Handle tag) (Join a) n ps k stack env h s = absurd h
  null_safe (Handle tag) (JoinInto a p) n ps k stack env h s = absurd h
  null_safe (Handle tag) (InitMutex name) n ps k stack env h s = absurd h
  null_safe (Handle tag) (Lock name) n ps k stack env h s = absurd h
  null_safe (Handle tag) (Unlock name) n ps k stack env h s = absurd h

  mutual
    pub expression : (e : Expression) (n : ℕ) (ps : List Piece) (k : Next) (stack : Stack) (env : Environment) → IsTyped look env e
        → Well ps k (type_of look env e ∷ stack) env → Ends (ev.expression e n ps k) stack env
    expression (Constant v) n ps k stack env t f = give_safe look result tags (Number v) (type_of look env (Constant v)) k stack env refl f.safe
    expression (Read p) n ps k stack env t f =
        let m = n + size_parts p in
        parts p n (Get p m ∷ ps) (get p m ps k) stack env t (get_fine look result tags p m ps k stack env t f)
    expression (Unary op a) n ps k stack env t f =
        expression a n (Apply op ∷ ps) (apply op k) stack env t.0 (apply_fine look result tags op (type_of look env a) ps k stack env t.1 f)
    expression (Binary op a b) n ps k stack env t f =
        let m = n + size a in
        let under = type_of look env a ∷ stack in
        let rest = Combine op ∷ ps in
        let last = combine_fine look result tags op (type_of look env a) (type_of look env b) ps k stack env t.2 f in
        expression a n (Compute b m ∷ rest) (ev.expression b m rest (combine op k)) stack env t.0
        (record { typed = (t.1, last.typed); safe = expression b m rest (combine op k) under env t.1 last })
    expression (Convert type a) n ps k stack env t f =
        by t.1 (λ b. expression a n (ConvertTo type ∷ ps) (change (converted_to type) k) stack env t.0
        (convert_fine look result tags type (type_of look env a) ps k stack env b f))
      where
        by : (Becomes type (type_of look env a) ⊎ IsNullFor type a)
            → (Becomes type (type_of look env a) → Ends (ev.expression (Convert type a) n ps k) stack env)
            → Ends (ev.expression (Convert type a) n ps k) stack env
        by (inl b) go = go b
        by (inr z) go = null_safe type a n ps k stack env z f.safe
    expression (And a b) n ps k stack env t f =
        let m = n + size a in
        let last = truth_fine look result tags (type_of look env b) ps k stack env t.3 f in
        expression a n (AndThen b m ∷ ps) _ stack env t.0 (record {
          typed = (t.2, (t.1, t.3), f.typed);
          safe =
              choose_safe look result tags (type_of look env a) (ev.expression b m (Truth ∷ ps) (change as_truth k)) (give (int_of 0) k) stack env
              (expression b m (Truth ∷ ps) (change as_truth k) stack env t.1 last)
              (give_safe look result tags (int_of 0) int k stack env refl f.safe);
        })
    expression (Or a b) n ps k stack env t f =
        let m = n + size a in
        let last = truth_fine look result tags (type_of look env b) ps k stack env t.3 f in
        expression a n (OrElse b m ∷ ps) _ stack env t.0 (record {
          typed = (t.2, (t.1, t.3), f.typed);
          safe =
              choose_safe look result tags (type_of look env a) (give (int_of 1) k) (ev.expression b m (Truth ∷ ps) (change as_truth k)) stack env
              (give_safe look result tags (int_of 1) int k stack env refl f.safe)
              (expression b m (Truth ∷ ps) (change as_truth k) stack env t.1 last);
        })
    expression (Choice c a b) n ps k stack env t f =
        let m = n + size c in
        let other : Well ps k (type_of look env b ∷ stack) env = subst (λ u. Well ps k (u ∷ stack) env) (sym t.4) f in
        expression c n (Choose a b m ∷ ps) _ stack env t.0 (record {
          typed = (t.3, t.1, t.2, t.4, f.typed);
          safe =
              choose_safe look result tags (type_of look env c) (ev.expression a m ps k) (ev.expression b (m + size a) ps k) stack env
              (expression a m ps k stack env t.1 f) (expression b (m + size a) ps k stack env t.2 other);
        })
    expression (Assign p e) n ps k stack env t f =
        let m = n + size_parts p in
        let w = m + size e in
        let under = part_types look env p ++ stack in
        let last = set_fine look result tags p w (type_of look env e) ps k stack env t.0 t.2 f in
        parts p n (Compute e m ∷ Set p w ∷ ps) (ev.expression e m (Set p w ∷ ps) (set p w ps k)) stack env t.0
        (record { typed = (t.1, last.typed); safe = expression e m (Set p w ∷ ps) (set p w ps k) under env t.1 last })
    expression (Update type op p e) n ps k stack env t f =
        let r = n + size_parts p in
        let m = r + size_read p in
        let w = m + size e in
        let under = part_types look env p ++ stack in
        let given = binary_kind op (kind (place_type look env p)) (kind (type_of look env e)) in
        let whole : IsInteger (place_type look env p) = subst IsInteger t.2 t.3 in
        let done : Well ps k (place_type look env p ∷ stack) env = subst (λ u. Well ps k (u ∷ stack) env) t.2 f in
        let written = set_fine look result tags p w type ps k stack env t.0 t.2 done in
        let converted = convert_fine look result tags type (Integer given) (Set p w ∷ ps) (set p w ps k) under env (int_becomes type given t.3) written in
        let combined =
        combine_fine look result tags op (place_type look env p) (type_of look env e) (ConvertTo type ∷ Set p w ∷ ps)
        (change (converted_to type) (set p w ps k)) under env (int_operands op (place_type look env p) (type_of look env e) whole t.4) converted in
        let kept = Combine op ∷ ConvertTo type ∷ Set p w ∷ ps in
        let go = combine op (change (converted_to type) (set p w ps k)) in
        let value : Well (Compute e m ∷ kept) (ev.expression e m kept go) (place_type look env p ∷ under) env =
        record { typed = (t.1, combined.typed); safe = expression e m kept go (place_type look env p ∷ under) env t.1 combined } in
        let read = get_fine look result tags p r (Compute e m ∷ kept) (ev.expression e m kept go) under env t.0 value in
        let doubled = dup_fine look result tags p (Get p r ∷ Compute e m ∷ kept) (get p r (Compute e m ∷ kept) (ev.expression e m kept go)) stack env read in
        parts p n (Dup p ∷ Get p r ∷ Compute e m ∷ kept) (dup p (get p r (Compute e m ∷ kept) (ev.expression e m kept go))) stack env t.0 doubled
    expression (Postfix type op p) n ps k stack env t f =
        let r = n + size_parts p in
        let w = r + size_read p in
        let place = place_type look env p in
        let parted = part_types look env p in
        let under = place ∷ stack in
        let given = binary_kind op (kind place) (kind int) in
        let whole : IsInteger place = subst IsInteger t.1 t.2 in
        let done : Well ps k (place ∷ stack) env = subst (λ u. Well ps k (u ∷ stack) env) t.1 f in
        let dropped = drop_fine look result tags place ps k (place ∷ stack) env done in
        let written = set_fine look result tags p w type (Drop ∷ ps) (drop k) under env t.0 t.1 dropped in
        let writes = set p w (Drop ∷ ps) (drop k) in
        let converted = convert_fine look result tags type (Integer given) (Set p w ∷ Drop ∷ ps) writes (parted ++ under) env (int_becomes type given t.2) written in
        let converts = change (converted_to type) writes in
        let combined =
        combine_fine look result tags op place int (ConvertTo type ∷ Set p w ∷ Drop ∷ ps) converts (parted ++ under) env
        (int_operands op place int whole tt) converted in
        let pushed_one =
        give_fine look result tags one int (Combine op ∷ ConvertTo type ∷ Set p w ∷ Drop ∷ ps) (combine op converts) (place ∷ (parted ++ under)) env
        refl combined in
        let kept = Push one ∷ Combine op ∷ ConvertTo type ∷ Set p w ∷ Drop ∷ ps in
        let tucked = tuck_fine look result tags p place kept (give one (combine op converts)) stack env pushed_one in
        let read = get_fine look result tags p r (Tuck p ∷ kept) (tuck p (give one (combine op converts))) (parted ++ stack) env t.0 tucked in
        let doubled = dup_fine look result tags p (Get p r ∷ Tuck p ∷ kept) (get p r (Tuck p ∷ kept) (tuck p (give one (combine op converts)))) stack env read in
        parts p n (Dup p ∷ Get p r ∷ Tuck p ∷ kept) (dup p (get p r (Tuck p ∷ kept) (tuck p (give one (combine op converts))))) stack env t.0 doubled
    expression (Call name es) n ps k stack env t f =
        let m = n + size_all es in
        let s = stop.Call name (count es) in
        let P : Stack → Type 0 = λ under. Typed look result tags ps (result_type (look name) ∷ under) env in
        let takes : StopTyped look result s (pushed (types_of look env es) stack) (λ under. Typed look result tags ps under env) = (
          t.1,
          ap length (sym t.2) ∙ count_is look env es,
          subst (λ ts. Pops (reverse ts) (pushed (types_of look env es) stack) P) t.2 (pops_arguments (types_of look env es) stack P f.typed),
        ) in
        expressions es n (At s m ∷ ps) (stop_at s m ps) stack env t.0 (stop_fine look result tags s m ps (pushed (types_of look env es) stack) env takes)
    expression (Print format es) n ps k stack env t f =
        let m = n + size_all es in
        let s = stop.Print format (count es) in
        expressions es n (At s m ∷ ps) (stop_at s m ps) stack env t.0
        (stop_fine look result tags s m ps (pushed (types_of look env es) stack) env
        (format_pops (kinds Text format) (types_of look env es) (count es) stack (λ under. Typed look result tags ps (int ∷ under) env) t.1
        (count_is look env es) f.typed))
    expression (New tag) n ps k stack env t f = stop_safe look result tags (stop.New tag) n ps stack env (t, f.typed)
    expression (Free tag e) n ps k stack env t f =
        let m = n + size e in
        expression e n (At (stop.Free tag) m ∷ ps) (stop_at (stop.Free tag) m ps) stack env t.0
        (stop_fine look result tags (stop.Free tag) m ps (type_of look env e ∷ stack) env (t.1, f.typed))
    expression (Create p name e) n ps k stack env t f =
        let m = n + size_parts p in
        let s = m + size e in
        let under = part_types look env p ++ stack in
        let kept = Set p (s + 1) ∷ Created ∷ ps in
        let made = created_fine look result tags (place_type look env p) ps k stack env t.2 f in
        let written = set_fine look result tags p (s + 1) Thread (Created ∷ ps) (change creation k) stack env t.0 (sym t.2) made in
        let spawned = stop_fine look result tags (stop.Spawn name) s kept (type_of look env e ∷ under) env (t.3, written.typed) in
        parts p n (Compute e m ∷ At (stop.Spawn name) s ∷ kept) (ev.expression e m (At (stop.Spawn name) s ∷ kept) (stop_at (stop.Spawn name) s kept)) stack env t.0
        (record { typed = (t.1, spawned.typed); safe = expression e m (At (stop.Spawn name) s ∷ kept) (stop_at (stop.Spawn name) s kept) under env t.1 spawned })
    expression (Join e) n ps k stack env t f =
        let m = n + size e in
        let kept = Drop ∷ Push (int_of 0) ∷ ps in
        let dropped = drop_fine look result tags int (Push (int_of 0) ∷ ps) (give (int_of 0) k) stack env (give_fine look result tags (int_of 0) int ps k stack env refl f) in
        expression e n (At stop.Join m ∷ kept) (stop_at stop.Join m kept) stack env t.0
        (stop_fine look result tags stop.Join m kept (type_of look env e ∷ stack) env (t.1, dropped.typed))
    expression (JoinInto e p) n ps k stack env t f =
        let m = n + size e in
        let j = m + size_parts p in
        let kept = Set p (j + 1) ∷ Drop ∷ Push (int_of 0) ∷ ps in
        let under = part_types look env p ++ stack in
        let dropped =
        drop_fine look result tags (place_type look env p) (Push (int_of 0) ∷ ps) (give (int_of 0) k) stack env
        (give_fine look result tags (int_of 0) int ps k stack env refl f) in
        let written = set_fine look result tags p (j + 1) int (Drop ∷ Push (int_of 0) ∷ ps) (drop (give (int_of 0) k)) stack env t.1 (sym t.3) dropped in
        let joined = stop_fine look result tags stop.Join j kept (type_of look env e ∷ under) env (t.2, written.typed) in
        let swapped = swap_fine look result tags p (type_of look env e) (At stop.Join j ∷ kept) (stop_at stop.Join j kept) stack env joined in
        let rest = Swap p ∷ At stop.Join j ∷ kept in
        let go = swap_part p (stop_at stop.Join j kept) in
        expression e n (Parts p m ∷ rest) (ev.parts p m rest go) stack env t.0
        (record { typed = (t.1, swapped.typed); safe = parts p m rest go (type_of look env e ∷ stack) env t.1 swapped })
    expression (InitMutex name) n ps k stack env t f = stop_safe look result tags (stop.InitMutex name) n ps stack env (t, f.typed)
    expression (Lock name) n ps k stack env t f = stop_safe look result tags (stop.Lock name) n ps stack env (t, f.typed)
    expression (Unlock name) n ps k stack env t f = stop_safe look result tags (stop.Unlock name) n ps stack env (t, f.typed)

    pub expressions : (es : Expressions) (n : ℕ) (ps : List Piece) (k : Next) (stack : Stack) (env : Environment) → AreTyped look env es
        → Well ps k (pushed (types_of look env es) stack) env → Ends (ev.expressions es n ps k) stack env
    expressions NoExpressions n ps k stack env t f = f.safe
    expressions (ExpressionThen e es) n ps k stack env t f =
        let m = n + size e in
        let under = type_of look env e ∷ stack in
        expression e n (Arguments es m ∷ ps) (ev.expressions es m ps k) stack env t.0
        (record { typed = (t.1, f.typed); safe = expressions es m ps k under env t.1 f })

    pub parts : (p : Place) (n : ℕ) (ps : List Piece) (k : Next) (stack : Stack) (env : Environment) → IsPlaced look env p
        → Well ps k (part_types look env p ++ stack) env → Ends (ev.parts p n ps k) stack env
    parts (Local name) n ps k stack env t f = f.safe
    parts (Global name) n ps k stack env t f = f.safe
    parts (Element name index) n ps k stack env t f = expression index n ps k stack env t.0 f
    parts (Field tag handle name) n ps k stack env t f = expression handle n ps k stack env t.0 f
